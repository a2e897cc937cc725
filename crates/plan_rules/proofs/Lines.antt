-- What the three rules with a line of Black's share: the line's squares that are filled at the plan's position are
-- Black's, and an empty one under a man of White's is filled later.
use Rattle.std.proofs.Common.{◌≡◌, ◌<◌, ◌≤◌, Bool, true, false, not, ◌||◌, List, [], Option, Some, None, is_none, refl, ap, inl, inr, arith}
use Rattle.std.proofs.lemmas.Bool.{cases_Bool, both_ways, and_parts, and_from, or_cases, not-true}
use Rattle.game_rules.specs.Board.{Square, on_board}
use Rattle.game_rules.specs.Position.{Position, board_of, height, man_at, is_man, has_man}
use Rattle.game_rules.specs.Squares.{has_square, is_empty}
use Rattle.game_rules.specs.Groups.{Group, squares_of, lies_on}
use Rattle.game_rules.specs.declared.Side.{Side}
use Rattle.game_rules.specs.declared.Side.TheVariants.{White, Black}
use Rattle.game_rules.proofs.Groups.{squares_on}
use Rattle.game_rules.proofs.Lists.{all_gives}
use Rattle.game_rules.proofs.Squares.{has_gives}
use Rattle.plan_rules.specs.Squares.{each_of}
use Rattle.plan_rules.specs.Rules.{is_open_line}
use Rattle.plan_rules.specs.Laws.{Owns, StepLaw}
use Rattle.plan_rules.proofs.Turns.{filled_height, filled_under, man_from}

pub each_of_gives : (chosen test : Square → Bool) (us : List Square) (u : Square) → each_of chosen test us ≡ true → has_square us u ≡ true → chosen u ≡ true
    → test u ≡ true
each_of_gives chosen test us u h owned yes_chosen = elim (or_cases _ _ (all_gives (λ u. not (chosen u) || test u) us u h (has_gives us u owned))) [
  | inl out ↦ absurd (both_ways (chosen u) (not-true _ out) yes_chosen)
  | inr passes ↦ passes
]

pub open_lies : (p : Position) (g : Group) → is_open_line p g ≡ true → lies_on (board_of p) g ≡ true
open_lies p g h = (and_parts (lies_on (board_of p) g) _ (and_parts _ _ h).0).0

pub line_square_on : (p : Position) (g : Group) → is_open_line p g ≡ true → (u : Square) → has_square (squares_of g) u ≡ true → on_board (board_of p) u ≡ true
line_square_on p g h u in_line = all_gives (on_board (board_of p)) (squares_of g) u (squares_on (board_of p) g (open_lies p g h))
    (has_gives (squares_of g) u in_line)

-- a filled square that isn't White's is Black's
black_left : (m : Option Side) → is_none m ≡ false → is_man White m ≡ false → is_man Black m ≡ true
black_left None some no_white = absurd (cc some)
black_left (Some White) some no_white = absurd (cc no_white)
black_left (Some Black) some no_white = refl

-- the line is Black's where each of its empty squares has become so
pub line_black : (p q : Position) (g : Group) → is_open_line p g ≡ true → Owns Black q (has_man p Black)
    → ((u : Square) → has_square (squares_of g) u ≡ true → is_empty p u ≡ true → has_man q Black u ≡ true) → Owns Black q (has_square (squares_of g))
line_black p q g h stay filled u in_line = elim (cases_Bool (is_none (man_at p u))) [
  | inl none ↦ filled u in_line (and_from _ _ (line_square_on p g h u in_line) none)
  | inr some ↦ stay u (black_left (man_at p u) some
      (not-true _ (all_gives (λ u. not (has_man p White u)) (squares_of g) u (and_parts (lies_on (board_of p) g) _ (and_parts _ _ h).0).1
      (has_gives (squares_of g) u in_line))))
]

-- below a man there is a man, and if it isn't White's it is Black's
pub black_under : (q : Position) (u v : Square) → 1 ≤ u.1 → v.0 ≡ u.0 → u.1 < v.1 → has_man q White v ≡ true → has_man q White u ≡ false
    → has_man q Black u ≡ true
black_under q u v low same over white no_white = black_left (man_at q u) (ap is_none some.1) no_white
  where
    some : (m : Side) × (man_at q u ≡ Some m)
    some = let top = filled_height q v White (man_from q White v white) in filled_under q u low (omega (arith, top.1, ap (height q) same))

-- a rule that owns no square is never asked
pub no_step : (fitted calm : Position → Bool) (reply : Position → Square → Option Square) → StepLaw [] fitted calm reply
no_step fitted calm reply p q last h board is_calm white playable owned founded = absurd (cc owned)
