use Rattle.std.proofs.Common.{ap}
use Rattle.game_rules.proofs.BoardLine.{empty_count_within}
use Rattle.run_play.proofs.plan_line.plan_of.Goals as goal

pub returns-in-Ok-check-clause-at : goal.returns-in-Ok-check-clause-at
returns-in-Ok-check-clause-at c = (ap (λ plan. plan.at) c.in-Ok-check.ensures.plan, empty_count_within c.args.root.now c.size.ensures.board)
