use Rattle.game_rules.specs.Position.{empty_count}
use Rattle.plan_tests.proofs.plans.+games_from.Given as goal

abbrev pub decreases-games_from : goal.decreases-games_from
decreases-games_from l = empty_count l.now.now
