use Rattle.game_rules.proofs.Groups.{pairs_from_ordered}
use Rattle.plan_rules.specs.Listing.{Precedes, listed}
use Rattle.plan_rules.proofs.ListOrder.{listed_order}
use Rattle.plan_rules.proofs.lists.lists_stand_in_order.Goals as goal

pub returns : goal.returns
returns c = λ kind p. pairs_from_ordered Precedes (listed kind p) (listed_order kind p)
