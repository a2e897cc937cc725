use Rattle.tool_text.proofs.Whole.{trimmed_right, text_reached}
use Rattle.tool_text.proofs.laws.a_trimmed_text_is_right.Goals as goal

pub returns-clause-right : goal.returns-clause-right
returns-clause-right c = trimmed_right

pub returns-clause-reached : goal.returns-clause-reached
returns-clause-reached c = text_reached
