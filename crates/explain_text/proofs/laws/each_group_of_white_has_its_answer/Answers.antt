use Rattle.explain_text.proofs.Answers.{white_answered}
use Rattle.explain_text.proofs.laws.each_group_of_white_has_its_answer.Goals as goal

pub returns : goal.returns
returns c = white_answered
