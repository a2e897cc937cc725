use Rattle.std.proofs.Common.{sym, ap, ◌∙◌}
use Rattle.run_proof.specs.Whole.{version_named}
use Rattle.run_proof.proofs.Heads.{head_known, head_stops}
use Rattle.run_proof.proofs.head.read_version.Goals as goal

pub returns-in-Some-clause-answer : goal.returns-in-Some-clause-answer
returns-in-Some-clause-answer g c =
    head_known _ _ c.next.result c.next.new.self.text c.next.new.self.fed c.next.ensures.gives c.args.asked c.in_default.not-Failed c.in-Some.version
    (sym (ap (version_named c.args.asked) c.text.ensures) ∙ sym c.in-Some.ensures)

pub returns-in-None-clause-answer : goal.returns-in-None-clause-answer
returns-in-None-clause-answer g c = rw c.bad_line.ensures (
    head_stops _ _ c.next.result c.next.new.self.text c.next.new.self.fed c.next.ensures.gives c.args.asked c.in_default.not-Failed
    (sym (ap (version_named c.args.asked) c.text.ensures) ∙ sym c.in-None.ensures))
