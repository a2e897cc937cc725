use Rattle.std.proofs.Common.{◌≡◌, map, drop}
use Rattle.proof_text.specs.Checked.{cites_refusal}
use Rattle.proof_lines.specs.Shape.{cite_of}
use Rattle.cert_checker.proofs.reasons.check_cites.Given as goal

abbrev pub invariant-loop-cite : goal.invariant-loop-cite
invariant-loop-cite l =
    let known = l.known.shown in
    cites_refusal known l.position l.claim (map cite_of (drop l.cite-index l.cites)) ≡ cites_refusal known l.position l.claim (map cite_of l.cites)
