use Rattle.plan_text.proofs.PlanLines.{fitting_named}
use Rattle.plan_text.proofs.laws.what_fits_has_a_spelling.Goals as goal

pub returns : goal.returns
returns c = fitting_named
