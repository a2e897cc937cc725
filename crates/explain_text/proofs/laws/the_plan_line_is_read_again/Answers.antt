use Rattle.explain_text.proofs.Fitting.{chosen_read}
use Rattle.explain_text.proofs.laws.the_plan_line_is_read_again.Goals as goal

pub returns : goal.returns
returns c = chosen_read
