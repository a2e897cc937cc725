-- The odd threat: a line of White's that lacks one square on an odd row, in a position where Black runs out of other
-- moves. It is this project's own rule, after the idea of zugzwang; positions, moves and lines are the game's.
use Rattle.std.specs.Prelude.{◌≡◌, ◌⊎◌, ℕ, ◌+◌, ◌<◌, Bool, true, false, not, ◌&&◌, ◌||◌, ◌==◌, nat_lt, if◌then◌else◌, List, [], ◌∷◌, ◌++◌, length}
use Rattle.std.specs.Prelude.{Option, Some, None, is_none, slice_get}
use Rattle.std.specs.List.{list_all, list_any, find}
use Rattle.std.specs.Option.{option_map_or}
use Rattle.game_rules.specs.Board.{Square, below}
use Rattle.game_rules.specs.Position.{Position, board_of, height, has_man, side_to_move, same_side, end_of}
use Rattle.game_rules.specs.Squares.{same_square, has_square, is_empty}
use Rattle.game_rules.specs.Groups.{Group, squares_of, lies_on}
use Rattle.game_rules.specs.declared.Side.TheVariants.{White, Black}
use Rattle.plan_rules.specs.Squares.{is_even, is_odd}
use Rattle.plan_rules.specs.Rules.{baseinverse, fits}
use Rattle.plan_rules.specs.Plan.{every_line}

-- two squares, as a Baseinverse is written
abbrev pub Pair : Type 0
Pair = Square × Square

-- ---- the square that the line lacks

-- it is empty, on an odd row, above an odd number of men, and each other square of the line is White's
abbrev pub is_target : Position → Group → Square → Bool
is_target p g t =
    is_empty p t && is_odd t.1 && is_odd (height p t.0)
    && list_all (λ u. same_square u t || has_man p White u) (squares_of g)

abbrev pub target : Position → Group → Option Square
target p g = if lies_on (board_of p) g then find (is_target p g) (squares_of g) else None

-- ---- the pairs

abbrev pub is_in_column : ℕ → Pair → Bool
is_in_column c x = (x.0.0 == c) || (x.1.0 == c)

abbrev pub share_column : Pair → Pair → Bool
share_column x y = is_in_column x.0.0 y || is_in_column x.1.0 y

-- both squares are directly playable, in two columns other than the target's, with an odd number of men each
abbrev pub is_pair : Position → Square → Pair → Bool
is_pair p t x = fits (baseinverse x.0 x.1) p && not (is_in_column t.0 x) && is_odd (height p x.0.0) && is_odd (height p x.1.0)

-- The first member, counted from n, that is no such pair or shares a column with an earlier one. The members before the
-- list are given.
abbrev pub bad_pair : Position → Square → List Pair → ℕ → List Pair → Option ℕ
bad_pair p t earlier n [] = None
bad_pair p t earlier n (x ∷ xs) =
    if is_pair p t x && not (list_any (share_column x) earlier) then bad_pair p t (earlier ++ x ∷ []) (n + 1) xs else Some n

-- another column than the target's, with an odd number of men, and in no pair
abbrev pub is_unpaired : Position → Square → List Pair → ℕ → Bool
is_unpaired p t pairs c = not (c == t.0) && is_odd (height p c) && not (list_any (is_in_column c) pairs)

-- ---- the squares that Black never gets

abbrev pub is_of_pair : Square → Pair → Bool
is_of_pair u x = same_square u x.0 || same_square u x.1

-- In the target's column the empty squares of odd rows, up to the target, and all above it; in the other columns the
-- empty squares of even rows that are in no pair.
abbrev pub is_safe : Position → Square → List Pair → Square → Bool
is_safe p t pairs u =
    is_empty p u && (if u.0 == t.0 then is_odd u.1 || nat_lt t.1 u.1 else is_even u.1 && not (list_any (is_of_pair u) pairs))

abbrev pub holds_pair : Group → Pair → Bool
holds_pair g x = has_square (squares_of g) x.0 && has_square (squares_of g) x.1

-- the line has a man of White's, a square that Black never gets, or both squares of a pair
abbrev pub is_answered : Position → Square → List Pair → Group → Bool
is_answered p t pairs g =
    list_any (has_man p White) (squares_of g) || list_any (is_safe p t pairs) (squares_of g) || list_any (holds_pair g) pairs

-- ---- the threat

abbrev pub holds_with : Position → List Pair → Square → Bool
holds_with p pairs t =
    is_none (bad_pair p t [] 1 pairs)
    && not (list_any (is_unpaired p t pairs) (below (length p.columns)))
    && every_line (board_of p) (is_answered p t pairs)

-- Black is to move and the game goes on; the group has a target; the members are pairs, no two of which share a column;
-- each column with an odd number of men, the target's aside, is in one; and each line is answered.
abbrev pub is_threat : Position → Group → List Pair → Bool
is_threat p g pairs = same_side Black (side_to_move p) && is_none (end_of p) && option_map_or (holds_with p pairs) (target p g) false

-- ---- the same in words of squares and lines, with no order of reading

pub record IsTarget (p : Position) (g : Group) (t : Square) : Type 0 where
  pub line : lies_on (board_of p) g ≡ true
  pub in_line : has_square (squares_of g) t ≡ true
  pub empty : is_empty p t ≡ true
  pub odd_row : is_odd t.1 ≡ true
  pub odd_column : is_odd (height p t.0) ≡ true
  pub others : (u : Square) → has_square (squares_of g) u ≡ true → same_square u t ≡ false → has_man p White u ≡ true

-- a pair of a list, by its place
abbrev pub IsPairAt : List Pair → ℕ → Pair → Type 0
IsPairAt pairs i x = slice_get pairs i ≡ Some x

-- some pair has the property
pub record SomePair (pairs : List Pair) (Holds : Pair → Type 0) : Type 0 where
  pub place : ℕ
  pub pair : Pair
  pub is_at : IsPairAt pairs place pair
  pub has_it : Holds pair

-- some square of the line is one that Black never gets
pub record SomeSafe (p : Position) (t : Square) (pairs : List Pair) (g : Group) : Type 0 where
  pub square : Square
  pub in_line : has_square (squares_of g) square ≡ true
  pub safe : is_safe p t pairs square ≡ true

pub record IsThreat (p : Position) (g : Group) (pairs : List Pair) (t : Square) : Type 0 where
  pub black : side_to_move p ≡ Black
  pub going : end_of p ≡ None
  pub lacks : IsTarget p g t
  pub fitting : (i : ℕ) (x : Pair) → IsPairAt pairs i x → is_pair p t x ≡ true
  pub apart : (i j : ℕ) (x y : Pair) → i < j → IsPairAt pairs i x → IsPairAt pairs j y → share_column x y ≡ false
  pub paired : (c : ℕ) → c < length p.columns → c == t.0 ≡ false → is_odd (height p c) ≡ true → SomePair pairs (λ x. is_in_column c x ≡ true)
  pub answered : (h : Group) → lies_on (board_of p) h ≡ true → ((u : Square) → has_square (squares_of h) u ≡ true → has_man p White u ≡ false)
      → SomeSafe p t pairs h ⊎ SomePair pairs (λ x. holds_pair h x ≡ true)
