use Rattle.std.proofs.Common.{ap, ◌∙◌}
use Rattle.plan_text.specs.Items.{instance_text, instance_of}
use Rattle.plan_text.proofs.Spaced.{read_apart}
use Rattle.plan_text.proofs.Items.{instance_read}
use Rattle.plan_text.proofs.Instances.{instance_spelled}
use Rattle.plan_text.proofs.laws.an_instance_has_one_spelling.Goals as goal

pub returns-clause-instance : goal.returns-clause-instance
returns-clause-instance c = λ board bytes w. (instance_read board bytes w, λ h. ap (instance_of board) h.1 ∙ instance_spelled board w h.0)

pub returns-clause-apart : goal.returns-clause-apart
returns-clause-apart c = λ board w v named also. read_apart (instance_of board) instance_text w v (instance_spelled board w named)
    (instance_spelled board v also)
