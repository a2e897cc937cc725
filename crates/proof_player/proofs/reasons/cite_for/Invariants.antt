use Rattle.std.proofs.Common.{◌≡◌, ◌==◌, drop}
use Rattle.std.specs.List.{find}
use Rattle.proof_book.specs.Cite.{Cite}
use Rattle.proof_player.proofs.reasons.cite_for.Given as goal

abbrev pub invariant-loop-cite : goal.invariant-loop-cite
invariant-loop-cite l = find (λ (cite : Cite). cite.column == l.column) (drop l.cite-index l.cites)
    ≡ find (λ (cite : Cite). cite.column == l.column) l.cites
