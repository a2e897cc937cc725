-- Zones that are linked to the next one with the same first square.
use Rattle.std.specs.Prelude.{◌≡◌, ℕ, ◌+◌, ◌<◌, ◌==◌, if◌then◌else◌, List, [], ◌∷◌, drop, Some, slice_get, slice_index_or}
use Rattle.std.specs.Option.{option_map_or}
use Rattle.game_rules.specs.Squares.{has_square, squares_where}
use Rattle.plan_rules.specs.Rules.{zone_of}
use Rattle.board_squares.specs.Words.{place_of}
use Rattle.rule_compat.specs.declared.instance.Instance.{Instance}
use Rattle.rule_chooser.specs.declared.zones.TheConstants.{PLACES}
use Rattle.rule_compat.specs.Written.{written}

-- the place of an instance's first square
abbrev pub least_place : Instance → ℕ
least_place w = option_map_or place_of (slice_get (squares_where (has_square (zone_of (written w)))) 0) 0

-- the number of the first instance with its first square at a place, where the first has this number; else that of the end
unfoldable pub next_at : ℕ → ℕ → List Instance → ℕ
next_at place n [] = n
next_at place n (w ∷ ws) = if least_place w == place then n else next_at place (n + 1) ws

-- each head is the number of the first one with its first square there, and each link that of the next one
pub record IsLinked (list : List Instance) (heads links : List ℕ) : Type 0 where
  pub heads_are : (place : ℕ) → place < PLACES → slice_index_or heads place 0 ≡ next_at place 0 list
  pub links_are : (i : ℕ) (w : Instance) → slice_get list i ≡ Some w → slice_index_or links i 0 ≡ next_at (least_place w) (i + 1) (drop (i + 1) list)
