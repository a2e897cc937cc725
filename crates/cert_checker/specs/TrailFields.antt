-- The fields of a trail: the moves of its path, and the position after each.
use Rattle.std.specs.Prelude.{◌≡◌, ℕ, ◌≤◌, length, take, slice_get}
use Rattle.game_rules.specs.Position.{played}
use Rattle.cert_checker.specs.Trail.{Trail}
use Rattle.cert_checker.specs.declared.trail.Trail.TheInside.{Inside}

abbrev pub trail_of : Inside → Trail
trail_of a = record { root = a.root; path = take a.moves a.columns }

-- each position kept is the root after so many moves of the path
pub record IsTrail (a : Inside) : Type 0 where
  pub within : a.moves ≤ 100
  pub columns : length a.columns ≡ 100
  pub positions : length a.positions ≡ 101
  pub reached : (i : ℕ) → i ≤ a.moves → slice_get a.positions i ≡ played a.root (take i a.columns)
