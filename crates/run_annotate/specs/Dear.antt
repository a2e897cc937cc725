-- What a search within so many nodes tells of a position, and where it may tell nothing.
use Rattle.std.specs.Prelude.{ℕ, ◌<◌, Bool, true, false, Option, Some, None}
use Rattle.game_rules.specs.Cost.{cost}
use Rattle.game_rules.specs.Position.{Position, other}
use Rattle.game_rules.specs.Value.{win_of}
use Rattle.game_rules.specs.declared.End.{End}
use Rattle.game_rules.specs.declared.End.TheVariants as ends
use Rattle.game_rules.specs.declared.Side.{Side}
use Rattle.proof_text.specs.declared.Verdict.{Verdict}
use Rattle.proof_text.specs.declared.Verdict.TheVariants.{Win, Loss, Draw, Unknown}
use Rattle.run_questions.specs.Found.{HasFound}
use Rattle.run_questions.specs.Planned.{solved_within}

-- With plans from the first so many sets of zones: where a value was found, right lemmas, at most so many, show one; and where it
-- is wanting, so many nodes are below the position's cost.
abbrev pub IsSearched : (nodes reach : ℕ) → Position → (found : Bool) → Type 0
IsSearched nodes reach p true = (v : Verdict) × HasFound nodes reach p v
IsSearched nodes reach p false = nodes < cost (solved_within reach) p

-- the end of the game that a verdict for the side to move tells
abbrev pub told_end : Side → Verdict → Option End
told_end side (Win n) = Some (win_of side)
told_end side (Loss n) = Some (win_of (other side))
told_end side (Draw n m) = Some ends.Draw
told_end side Unknown = None
