-- A plan as code holds it, and the positions at which Black is to answer by it.
use Rattle.std.specs.Prelude.{◌≡◌, ℕ, ◌+◌, true, List, Some}
use Rattle.game_rules.specs.Board.{Square}
use Rattle.game_rules.specs.Position.{Position, height, is_legal, after_move}
use Rattle.plan_rules.specs.Rules.{RuleInstance, Facts, facts_of}
use Rattle.plan_rules.specs.Plan.{is_plan, after_turns}
use Rattle.plan_rules.specs.Zones.{owns_zone, zones_from}
use Rattle.rule_compat.specs.declared.instance.Instance.{Instance}
use Rattle.rule_compat.specs.Written.{written, written_list}

-- a position, and the list of instances that is a plan there
pub record Planned : Type 0 where
  pub at : Position
  pub list : List Instance

-- the list as the definitions see it
abbrev pub members : Planned → List RuleInstance
members plan = written_list plan.list

-- what a plan is kept with: its zones, each with its member's place, and the facts that its standing members rest on
pub record IsKeptWith (plan : Planned) (zones : List (ℕ × Instance)) (facts : Facts) : Type 0 where
  pub is_one : is_plan plan.at (members plan) ≡ true
  pub zones_are : zones ≡ zones_from (λ x. owns_zone (written x)) 1 plan.list
  pub facts_are : facts ≡ facts_of plan.at (members plan)

-- White is to move at this position, which comes from the plan's own by some of White's moves, each legal at its turn,
-- each with the plan's answer. The plan's own position comes so by no moves.
pub record IsReached (plan : Planned) (q : Position) : Type 0 where
  pub columns : List ℕ
  pub leads : after_turns (members plan) plan.at columns ≡ Some q

-- White has just made a legal move to a square, from a position that is reached
pub record HasMoved (plan : Planned) (now : Position) (last : Square) : Type 0 where
  pub earlier : Position
  pub reached : IsReached plan earlier
  pub legal : is_legal earlier last.0 ≡ true
  pub row : last.1 ≡ height earlier last.0 + 1
  pub now_is : now ≡ after_move earlier last.0
