use Rattle.std.proofs.Common.{◌≡◌, ◌==◌, ◌&&◌, not, filter}
use Rattle.game_rules.specs.Board.{below}
use Rattle.game_rules.specs.Position.{height}
use Rattle.plan_rules.specs.Squares.{is_odd}
use Rattle.threat_rules.proofs.first.odd_columns.Given as goal

abbrev pub invariant-loop-index : goal.invariant-loop-index
invariant-loop-index l = l.columns.items ≡ filter (λ c. not (c == l.t.0) && is_odd (height l.p c)) (below l.index)
