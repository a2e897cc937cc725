-- Playable squares and filled columns, and what a move of White's and a reply of Black's change.
use Rattle.std.proofs.Common.{◌≡◌, ◌≢◌, ◌⊎◌, ℕ, ◌+◌, ◌<◌, ◌≤◌, Bool, true, false, length, Option, Some, None, is_none, refl, sym, ap, ◌∙◌, subst, inl, inr}
use Rattle.std.proofs.Common.{arith}
use Rattle.std.proofs.lemmas.Bool.{cases_eq, cases_lt, both_ways, and_parts, and_from, eqb-true, eq-eqb}
use Rattle.game_rules.specs.Board.{Square, on_board}
use Rattle.game_rules.specs.Position.{Position, board_of, men_in, height, man_at, has_man, is_man, other, side_to_move, has_room, after_move}
use Rattle.game_rules.specs.Squares.{same_square, is_empty, is_playable}
use Rattle.game_rules.specs.declared.Side.{Side}
use Rattle.game_rules.specs.declared.Side.TheVariants.{White, Black}
use Rattle.game_rules.proofs.Moves as moves
use Rattle.game_rules.proofs.Moves.{man_past, man_within, men_moved, men_beside, board_moved, height_moved, side_moved, room_from}
use Rattle.game_rules.proofs.Ends.{on_board_parts}
use Rattle.game_rules.proofs.Squares.{same_square_is}
use Rattle.plan_rules.specs.Squares.{above}

-- ---- men and heights

pub filled_height : (q : Position) (u : Square) (m : Side) → man_at q u ≡ Some m → (1 ≤ u.1) × (u.1 ≤ height q u.0)
filled_height q u m h = low (cases_lt (height q u.0) u.1) (cases_eq u.1 0)
  where
    low : (height q u.0 < u.1) ⊎ (u.1 ≤ height q u.0) → (u.1 ≡ 0) ⊎ (u.1 ≢ 0) → (1 ≤ u.1) × (u.1 ≤ height q u.0)
    low (inl past) row = absurd (cc (man_past (men_in q u.0) u.1 past, h))
    low (inr within) (inl none) = let bottom : man_at q (u.0, 0) ≡ Some m = subst (λ r. man_at q (u.0, r) ≡ Some m) none h in absurd (cc bottom)
    low (inr within) (inr some) = (omega arith, within)

pub empty_height : (q : Position) (u : Square) → man_at q u ≡ None → 1 ≤ u.1 → height q u.0 < u.1
empty_height q u h low = elim (cases_lt (height q u.0) u.1) [
  | inl past ↦ past
  | inr within ↦ let some = man_within (men_in q u.0) u.1 low within in absurd (cc (some.1, h))
]

-- every square up to the height is filled
pub filled_under : (q : Position) (u : Square) → 1 ≤ u.1 → u.1 ≤ height q u.0 → (m : Side) × (man_at q u ≡ Some m)
filled_under q u low high = man_within (men_in q u.0) u.1 low high

-- men that stay keep the heights
pub height_stays : (p q : Position) → ((u : Square) (m : Side) → man_at p u ≡ Some m → man_at q u ≡ Some m) → (c : ℕ) → height p c ≤ height q c
height_stays p q stay c = elim (cases_eq (height p c) 0) [
  | inl none ↦ omega arith
  | inr some ↦
      let top = filled_under p (c, height p c) (omega arith) (omega arith) in
      (filled_height q (c, height p c) top.0 (stay (c, height p c) top.0 top.1)).1
]

-- a side's man, as a test and as what stands there
is_man_some : (side : Side) (m : Option Side) → is_man side m ≡ true → m ≡ Some side
is_man_some side None h = cc
is_man_some White (Some White) h = refl
is_man_some White (Some Black) h = cc
is_man_some Black (Some White) h = cc
is_man_some Black (Some Black) h = refl

pub man_from : (q : Position) (side : Side) (u : Square) → has_man q side u ≡ true → man_at q u ≡ Some side
man_from q side u h = is_man_some side (man_at q u) h

pub has_man_from : (q : Position) (side : Side) (u : Square) → man_at q u ≡ Some side → has_man q side u ≡ true
has_man_from q side u h = ap (is_man side) h ∙ own side
  where
    own : (side : Side) → is_man side (Some side) ≡ true
    own White = refl
    own Black = refl

-- ---- playable squares

pub playable_parts : (q : Position) (u : Square) → is_playable q u ≡ true → (u.0 < length q.columns) × (u.1 ≡ height q u.0 + 1) × (u.1 ≤ q.rows)
playable_parts q u h =
    let both = and_parts _ _ h in let on = on_board_parts (board_of q) u.0 u.1 both.0 in
    (on.0, eqb-true u.1 (height q u.0 + 1) both.1, on.2)

pub playable_on_board : (q : Position) (u : Square) → is_playable q u ≡ true → on_board (board_of q) u ≡ true
playable_on_board q u h = (and_parts (on_board (board_of q) u) _ h).0

pub playable_man : (q : Position) (u : Square) → is_playable q u ≡ true → man_at q u ≡ None
playable_man q u h = let parts = playable_parts q u h in man_past (men_in q u.0) u.1 (omega (arith, parts.1))

pub playable_empty : (q : Position) (u : Square) → is_playable q u ≡ true → is_empty q u ≡ true
playable_empty q u h = and_from _ _ (playable_on_board q u h) (ap is_none (playable_man q u h))

pub playable_from : (q : Position) (u : Square) → on_board (board_of q) u ≡ true → man_at q u ≡ None → u.1 ≤ height q u.0 + 1 → is_playable q u ≡ true
playable_from q u on none low =
    let parts = on_board_parts (board_of q) u.0 u.1 on in
    let high : height q u.0 < u.1 = empty_height q u none parts.1 in
    and_from _ _ on (eq-eqb u.1 (height q u.0 + 1) (omega arith))

pub playable_room : (q : Position) (u : Square) → is_playable q u ≡ true → has_room q u.0 ≡ true
playable_room q u h = let parts = playable_parts q u h in room_from q u.0 parts.0 (omega (arith, parts.1, parts.2))

pub empty_parts : (q : Position) (u : Square) → is_empty q u ≡ true → (on_board (board_of q) u ≡ true) × (man_at q u ≡ None)
empty_parts q u h = let both = and_parts (on_board (board_of q) u) (is_none (man_at q u)) h in (both.0, none (man_at q u) both.1)
  where
    none : (m : Option Side) → is_none m ≡ true → m ≡ None
    none None h = refl
    none (Some m) h = cc

-- ---- one man more

pub placed : (q : Position) (u : Square) → is_playable q u ≡ true → man_at (after_move q u.0) u ≡ Some (side_to_move q)
placed q u h =
    let parts = playable_parts q u h in
    subst (λ r. man_at (after_move q u.0) (u.0, r) ≡ Some (side_to_move q)) (sym parts.1) (moves.placed q u.0 parts.0)

pub beside : (q : Position) (u v : Square) → is_playable q u ≡ true → same_square v u ≡ false → man_at (after_move q u.0) v ≡ man_at q v
beside q u v h apart =
    let parts = playable_parts q u h in
    moves.unchanged q u.0 v.0 v.1 parts.0 (λ column row. both_ways (same_square v u) apart (same column (row ∙ sym parts.1)))
  where
    same : v.0 ≡ u.0 → v.1 ≡ u.1 → same_square v u ≡ true
    same column row = and_from _ _ (eq-eqb v.0 u.0 column) (eq-eqb v.1 u.1 row)

-- a man that stands on a square stays
pub stays : (q : Position) (u v : Square) (m : Side) → is_playable q u ≡ true → man_at q v ≡ Some m → man_at (after_move q u.0) v ≡ Some m
stays q u v m h man = elim (cases (same_square v u)) [
  | inl here ↦ absurd (cc (playable_man q u h, ap (man_at q) (sym (same_square_is v u here)), man))
  | inr apart ↦ beside q u v h apart ∙ man
]
  where
    cases : (b : Bool) → (b ≡ true) ⊎ (b ≡ false)
    cases true = inl refl
    cases false = inr refl

pub height_here : (q : Position) (u : Square) → is_playable q u ≡ true → height (after_move q u.0) u.0 ≡ height q u.0 + 1
height_here q u h = height_moved q u.0 (playable_parts q u h).0

pub height_beside : (q : Position) (u : Square) (c : ℕ) → c ≢ u.0 → height (after_move q u.0) c ≡ height q c
height_beside q u c apart = ap length (men_beside q u.0 c apart)

pub height_grows : (q : Position) (u : Square) (c : ℕ) → is_playable q u ≡ true → height q c ≤ height (after_move q u.0) c
height_grows q u c h = height_stays q (after_move q u.0) (λ v m man. stays q u v m h man) c

pub side_after : (q : Position) (u : Square) → is_playable q u ≡ true → side_to_move (after_move q u.0) ≡ other (side_to_move q)
side_after q u h = side_moved q u.0 (playable_parts q u h).0

-- ---- two men more

-- White's man at s and Black's at t, and everything else as before
pub record Turned (q : Position) (s t : Square) (r : Position) : Type 0 where
  pub white : man_at r s ≡ Some White
  pub black : man_at r t ≡ Some Black
  pub rest : (u : Square) → same_square u s ≡ false → same_square u t ≡ false → man_at r u ≡ man_at q u

pub turn : (q : Position) (s t : Square) → side_to_move q ≡ White → is_playable q s ≡ true → is_playable (after_move q s.0) t ≡ true
    → Turned q s t (after_move (after_move q s.0) t.0)
turn q s t white first second =
    record {
      white = stays (after_move q s.0) t s White second (placed q s first ∙ ap (λ side. Some side) white);
      black = placed (after_move q s.0) t second ∙ ap (λ side. Some side) (side_after q s first ∙ ap other white);
      rest = λ u from_s from_t. beside (after_move q s.0) t u second from_t ∙ beside q s u first from_s;
    }

-- an empty square of the board, other than White's, is playable after White's move where its column is filled below it
pub answer_at : (q : Position) (s t : Square) → is_playable q s ≡ true → on_board (board_of q) t ≡ true → same_square t s ≡ false → man_at q t ≡ None
    → t.1 ≤ height (after_move q s.0) t.0 + 1 → is_playable (after_move q s.0) t ≡ true
answer_at q s t first on apart none low =
    playable_from (after_move q s.0) t (ap (λ b. on_board b t) (board_moved q s.0) ∙ on) (beside q s t first apart ∙ none) low

-- the square directly above White's
pub low_above : (q : Position) (s : Square) → is_playable q s ≡ true → (above s).1 ≤ height (after_move q s.0) s.0 + 1
low_above q s first = omega (arith, height_here q s first, (playable_parts q s first).1)

-- a square whose column was filled below it
pub low_kept : (q : Position) (s t : Square) → is_playable q s ≡ true → t.1 ≤ height q t.0 + 1 → t.1 ≤ height (after_move q s.0) t.0 + 1
low_kept q s t first low = omega (arith, height_grows q s t.0 first)

-- the square directly above a filled one
pub low_over : (q : Position) (s u : Square) (m : Side) → is_playable q s ≡ true → man_at q u ≡ Some m → (above u).1 ≤ height (after_move q s.0) u.0 + 1
low_over q s u m first man = let low = filled_height q u m man in omega (arith, height_grows q s u.0 first, low.1)
