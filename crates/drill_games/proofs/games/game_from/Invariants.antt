use Rattle.std.proofs.Common.{◌≡◌, ℕ, ◌+◌}
use Rattle.drill_games.specs.Games.{game_from}
use Rattle.drill_games.proofs.games.game_from.Given as goal

abbrev pub invariant-loop-made : goal.invariant-loop-made
invariant-loop-made l = (left : ℕ) → l.made + left ≡ l.moves → game_from left l.so_far.0 l.so_far.1 ≡ game_from l.moves l.fn.start l.fn.state
