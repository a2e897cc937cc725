use Rattle.plan_rules.proofs.Room.{lists_fit}
use Rattle.plan_rules.proofs.lists.lists_have_room.Goals as goal

pub returns : goal.returns
returns c = lists_fit
