-- Play from an odd threat: Black moves, and White answers in the pair of Black's square or directly above it. What the
-- threat keeps while it goes on is said here too. The answers are this project's own rule; the play is the game's.
use Rattle.std.specs.Prelude.{◌≡◌, ◌≢◌, ◌⊎◌, ℕ, ◌+◌, ◌*◌, Bool, true, false, ◌&&◌, if◌then◌else◌, List, [], ◌∷◌, Option, Some, None, is_none}
use Rattle.std.specs.Prelude.{option_and_then, unwrap_or, slice_get}
use Rattle.std.specs.Option.{option_map_or}
use Rattle.game_rules.specs.Board.{Square}
use Rattle.game_rules.specs.Position.{Position, board_of, height, man_at, has_man, side_to_move, has_line, end_of, is_legal, after_move}
use Rattle.game_rules.specs.Squares.{same_square, is_playable}
use Rattle.game_rules.specs.Laws.{HasLine}
use Rattle.game_rules.specs.declared.Side.{Side}
use Rattle.game_rules.specs.declared.Side.TheVariants.{White, Black}
use Rattle.game_rules.specs.declared.End.TheVariants as ends
use Rattle.plan_rules.specs.Squares.{above, is_even, is_odd}
use Rattle.plan_rules.specs.Plan.{is_nil}
use Rattle.odd_rules.specs.Threat.{Pair, is_safe, IsPairAt}

-- the other square of the first pair that has this one
abbrev pub partner : List Pair → Square → Option Square
partner [] u = None
partner (x ∷ xs) u = if same_square u x.0 then Some x.1 else (if same_square u x.1 then Some x.0 else partner xs u)

-- White's answer to Black's move to a square
abbrev pub answer_of : List Pair → Square → Square
answer_of pairs u = unwrap_or (partner pairs u) (above u)

-- the square to which a man in the column falls
abbrev pub top_of : Position → ℕ → Square
top_of q column = (column, height q column + 1)

-- the position after Black's move into a column and White's answer
abbrev pub answered_move : List Pair → Position → ℕ → Position
answered_move pairs q column = after_move (after_move q column) (answer_of pairs (top_of q column)).0

-- that position; none where Black's move ended the game
abbrev pub after_turn : List Pair → Position → ℕ → Option Position
after_turn pairs q column = if is_none (end_of (after_move q column)) then Some (answered_move pairs q column) else None

-- The duel: the position, that after Black's first move, that after White's answer, and so on, up to the end of Black's
-- columns or of the game. A column that isn't legal ends it too.
abbrev pub threat_duel : List Pair → Position → List ℕ → List Position
threat_duel pairs q [] = q ∷ []
threat_duel pairs q (column ∷ columns) =
    if is_legal q column then q ∷ after_move q column ∷ option_map_or (λ next. threat_duel pairs next columns) (after_turn pairs q column) [] else q ∷ []

-- each of Black's columns is legal at its turn
abbrev pub is_playable_list : List Pair → Position → List ℕ → Bool
is_playable_list pairs q [] = true
is_playable_list pairs q (column ∷ columns) =
    is_legal q column && option_map_or (λ next. is_playable_list pairs next columns) (after_turn pairs q column) (is_nil columns)

-- the position after Black's moves into some columns, each legal at its turn, and White's answers
abbrev pub after_turns : List Pair → Position → List ℕ → Option Position
after_turns pairs q [] = Some q
after_turns pairs q (column ∷ columns) =
    if is_legal q column then option_and_then (λ next. after_turns pairs next columns) (after_turn pairs q column) else None

-- ---- what a threat keeps

-- The men of a pair's columns: none came since the threat's position; or each column has an even number of men, and one
-- of the two squares is White's.
abbrev pub IsPairKept : Position → Position → Pair → Type 0
IsPairKept p q x =
    ((height q x.0.0 ≡ height p x.0.0) × (height q x.1.0 ≡ height p x.1.0))
    ⊎ ((is_even (height q x.0.0) ≡ true) × (is_even (height q x.1.0) ≡ true)
    × ((has_man q White x.0 ≡ true) ⊎ (has_man q White x.1 ≡ true)))

-- At each position of the duel with Black to move, while the game goes on; the threat is at p, and its target is t.
pub record IsKept (p : Position) (t : Square) (pairs : List Pair) (q : Position) : Type 0 where
  pub board : board_of p ≡ board_of q
  pub black : side_to_move q ≡ Black
  pub going : end_of q ≡ None
  -- the men of the threat's position are still there
  pub stay : (u : Square) (side : Side) → man_at p u ≡ Some side → man_at q u ≡ Some side
  -- nobody has the target, and its column has an odd number of men
  pub free : man_at q t ≡ None
  pub odd : is_odd (height q t.0) ≡ true
  -- each other column has an even number of men, or is as it was
  pub columns : (c : ℕ) → c ≢ t.0 → (is_even (height q c) ≡ true) ⊎ (height q c ≡ height p c)
  pub pairs_kept : (i : ℕ) (x : Pair) → IsPairAt pairs i x → IsPairKept p q x
  -- Black has none of the safe squares
  pub safe : (u : Square) → is_safe p t pairs u ≡ true → has_man q Black u ≡ false

-- White has a line, and Black has none
pub record IsWon (q : Position) : Type 0 where
  pub no_line : has_line q Black ≡ false
  pub ended : end_of q ≡ Some ends.White

-- The threat keeps everything, or has been carried out.
abbrev pub Stands : Position → Square → List Pair → Position → Type 0
Stands p t pairs q = IsWon q ⊎ IsKept p t pairs q

-- Black's move into a column makes no line and doesn't end the game; White's answer is playable, and after it White has
-- a line, or the threat keeps everything.
pub record IsAnswered (p : Position) (t : Square) (pairs : List Pair) (q : Position) (column : ℕ) : Type 0 where
  pub no_line : has_line (after_move q column) Black ≡ false
  pub going : end_of (after_move q column) ≡ None
  pub playable : is_playable (after_move q column) (answer_of pairs (top_of q column)) ≡ true
  pub after : Stands p t pairs (answered_move pairs q column)

-- one turn of a duel: the positions before it, after Black's move and after White's answer stand next to one another
pub record IsTurn (p : Position) (t : Square) (pairs : List Pair) (positions : List Position) (i column : ℕ) : Type 0 where
  pub now : Position
  pub is_now : slice_get positions (2 * i) ≡ Some now
  pub kept : IsKept p t pairs now
  pub legal : is_legal now column ≡ true
  pub answered : IsAnswered p t pairs now column
  pub after_black : slice_get positions (2 * i + 1) ≡ Some (after_move now column)
  pub after_white : slice_get positions (2 * i + 2) ≡ Some (answered_move pairs now column)

-- Black has no line, and where the game has ended White has one
pub record IsHeld (q : Position) : Type 0 where
  pub no_line : HasLine q Black → ⊥
  pub ends_won : (end_of q ≡ None) ⊎ (end_of q ≡ Some ends.White)
