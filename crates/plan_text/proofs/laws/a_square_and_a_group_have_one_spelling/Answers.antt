use Rattle.std.proofs.Common.{ap, ◌∙◌}
use Rattle.plan_text.specs.Items.{square_text, group_text, square_of, group_of}
use Rattle.plan_text.proofs.Spaced.{read_apart}
use Rattle.plan_text.proofs.Items.{square_read, square_spelled, group_read, group_spelled}
use Rattle.plan_text.proofs.laws.a_square_and_a_group_have_one_spelling.Goals as goal

pub returns-clause-square : goal.returns-clause-square
returns-clause-square c = λ board bytes u is. (
  (λ h. let told = square_read board bytes u h in (told.1, told.0)),
  (λ h. ap (square_of board) h.1 ∙ square_spelled board u is h.0),
)

pub returns-clause-group : goal.returns-clause-group
returns-clause-group c = λ board bytes g is. (
  (λ h. let told = group_read board bytes g h in (told.1, told.0)),
  (λ h. ap (group_of board) h.1 ∙ group_spelled board g is h.0),
)

pub returns-clause-squares_apart : goal.returns-clause-squares_apart
returns-clause-squares_apart c = λ board u v is on also. read_apart (square_of board) square_text u v (square_spelled board u is on)
    (square_spelled board v is also)

pub returns-clause-groups_apart : goal.returns-clause-groups_apart
returns-clause-groups_apart c = λ board g h is lies also. read_apart (group_of board) group_text g h (group_spelled board g is lies)
    (group_spelled board h is also)
