-- The three kinds of column of a Lowinverse, said by its squares. The column has an odd number of squares, from an even
-- row up to an even row, and places are counted from its bottom, which is place 0. A part of the profile "after Allis".
use Rattle.std.specs.Prelude.{◌≡◌, ℕ, ◌+◌, ◌*◌, ◌<◌, ◌≤◌, if◌then◌else◌, Option, Some, None}
use Rattle.game_rules.specs.Board.{Square}
use Rattle.game_rules.specs.Position.{Position, man_at}
use Rattle.game_rules.specs.declared.Side.{Side}
use Rattle.game_rules.specs.declared.Side.TheVariants.{White, Black}
use Rattle.plan_rules.specs.Squares.{is_even}

-- what stands at a place of the column
abbrev pub man_up : Position → Square → ℕ → Option Side
man_up p bottom i = man_at p (bottom.0, bottom.1 + i)

-- the man of a pair: White's at an even place, Black's at an odd one
abbrev pub pair_man : ℕ → Side
pair_man i = if is_even i then White else Black

-- zero or more pairs, and nothing above them
pub record IsPairedColumn (p : Position) (bottom : Square) (size : ℕ) : Type 0 where
  pub pairs : ℕ
  pub within : 2 * pairs ≤ size
  pub filled : (i : ℕ) → i < 2 * pairs → man_up p bottom i ≡ Some (pair_man i)
  pub free : (i : ℕ) → 2 * pairs ≤ i → i < size → man_up p bottom i ≡ None

-- pairs below the top, and a top of White's
pub record IsCappedColumn (p : Position) (bottom : Square) (size : ℕ) : Type 0 where
  pub filled : (i : ℕ) → i + 1 < size → man_up p bottom i ≡ Some (pair_man i)
  pub top : (i : ℕ) → i + 1 ≡ size → man_up p bottom i ≡ Some White

-- zero or more pairs, then an even square of Black's, then zero or more pairs of White's odd square and Black's even
-- square, and nothing above them
pub record IsShiftedColumn (p : Position) (bottom : Square) (size : ℕ) : Type 0 where
  pub pairs : ℕ
  pub turned : ℕ
  pub within : 2 * pairs + 1 + 2 * turned ≤ size
  pub filled : (i : ℕ) → i < 2 * pairs → man_up p bottom i ≡ Some (pair_man i)
  pub black : man_up p bottom (2 * pairs) ≡ Some Black
  pub shifted : (i : ℕ) → i < 2 * turned → man_up p bottom (2 * pairs + 1 + i) ≡ Some (pair_man i)
  pub free : (i : ℕ) → 2 * pairs + 1 + 2 * turned ≤ i → i < size → man_up p bottom i ≡ None
