-- A plan of Black's at a position, and the play that follows it. A plan is this project's own profile "after Allis";
-- the play is the game's, with Black's moves by the plan.
use Rattle.std.specs.Prelude.{◌≡◌, ◌⊎◌, ℕ, ◌+◌, ◌*◌, ◌<◌, ◌≤◌, Bool, true, false, not, ◌&&◌, ◌||◌, if◌then◌else◌, List, [], ◌∷◌, length, Option, Some, None, is_none, option_and_then, slice_get}
use Rattle.std.specs.List.{list_all, list_any, find}
use Rattle.std.specs.Option.{option_map, option_map_or}
use Rattle.game_rules.specs.Board.{Board, Square, below, is_line, ways}
use Rattle.game_rules.specs.Position.{Position, board_of, height, man_at, has_man, side_to_move, same_side, has_line, end_of, is_legal, after_move}
use Rattle.game_rules.specs.Squares.{has_square, is_empty, is_playable}
use Rattle.game_rules.specs.Groups.{Group, squares_of, lies_on, group_on}
use Rattle.game_rules.specs.declared.Side.{Side}
use Rattle.game_rules.specs.declared.Side.TheVariants.{White, Black}
use Rattle.plan_rules.specs.Squares.{is_even, men_on}
use Rattle.plan_rules.specs.Rules.{RuleInstance, lowinverse, highinverse, zone_of, fits, reply_to, facts_of, barred, is_supported, together}
use Rattle.plan_rules.specs.Calm.{is_calm}
use Rattle.plan_rules.specs.Laws.{AreTrue}

-- ---- a plan

-- each two members pass the test
abbrev pub each_two : (RuleInstance → RuleInstance → Bool) → List RuleInstance → Bool
each_two test [] = true
each_two test (w ∷ ws) = list_all (test w) ws && each_two test ws

-- each square of the board passes the test
abbrev pub every_square : Board → (Square → Bool) → Bool
every_square board test = list_all (λ c. list_all (λ r. test (c, r + 1)) (below board.rows)) (below board.cols)

-- each line of the board passes the test
abbrev pub every_line : Board → (Group → Bool) → Bool
every_line board test = list_all (λ way. every_square board (λ anchor. not (is_line board way anchor) || test (group_on board way anchor))) ways

-- the square stands in the zone of some member
abbrev pub has_owner : List RuleInstance → Square → Bool
has_owner ws u = list_any (λ w. has_square (zone_of w) u) ws

-- the squares of a line that are empty at the position
abbrev pub empty_part : Position → Group → Square → Bool
empty_part p g u = is_empty p u && has_square (squares_of g) u

-- a member bars the line's empty squares
abbrev pub is_barred : Position → List RuleInstance → Group → Bool
is_barred p ws g = list_any (λ w. barred w (facts_of p ws) (empty_part p g)) ws

-- White is to move and the game goes on; each member fits, and each two may stand together, so that no two zones share
-- a square; each empty square has a zone; each standing member is supported; and of each line without a Black man the
-- empty squares are barred.
abbrev pub is_plan : Position → List RuleInstance → Bool
is_plan p ws =
    same_side White (side_to_move p)
    && is_none (end_of p)
    && list_all (λ w. fits w p) ws
    && each_two together ws
    && every_square (board_of p) (λ u. not (is_empty p u) || has_owner ws u)
    && list_all (λ w. is_supported w (facts_of p ws)) ws
    && every_line (board_of p) (λ g. list_any (has_man p Black) (squares_of g) || is_barred p ws g)

-- a member of a list, by its place
abbrev pub IsMember : List RuleInstance → ℕ → RuleInstance → Type 0
IsMember ws i w = slice_get ws i ≡ Some w

-- some member has the property
pub record SomeMember (ws : List RuleInstance) (Holds : RuleInstance → Type 0) : Type 0 where
  pub place : ℕ
  pub member : RuleInstance
  pub is_member : IsMember ws place member
  pub has_it : Holds member

-- The same in words of squares and lines, with no order of reading.
pub record IsPlan (p : Position) (ws : List RuleInstance) : Type 0 where
  pub white : side_to_move p ≡ White
  pub going : end_of p ≡ None
  pub fitting : (i : ℕ) (w : RuleInstance) → IsMember ws i w → fits w p ≡ true
  pub compatible : (i j : ℕ) (v w : RuleInstance) → i < j → IsMember ws i v → IsMember ws j w → together v w ≡ true
  pub covered : (u : Square) → is_empty p u ≡ true → SomeMember ws (λ w. has_square (zone_of w) u ≡ true)
  pub supported : (i : ℕ) (w : RuleInstance) → IsMember ws i w → is_supported w (facts_of p ws) ≡ true
  pub answered : (g : Group) → lies_on (board_of p) g ≡ true → ((u : Square) → has_square (squares_of g) u ≡ true → has_man p Black u ≡ false)
      → SomeMember ws (λ w. barred w (facts_of p ws) (empty_part p g) ≡ true)

-- ---- play by a plan

-- Black's answer to White's move to a square, at the position after it: the reply of the zone that owns the square
abbrev pub plan_reply : List RuleInstance → Position → Square → Option Square
plan_reply ws now last = option_and_then (λ w. reply_to w now last) (find (λ w. has_square (zone_of w) last) ws)

-- the position after White's move into a column and Black's answer; none where White's move ended the game
abbrev pub after_turn : List RuleInstance → Position → ℕ → Option Position
after_turn ws q column =
    if is_none (end_of (after_move q column))
    then option_map (λ (to : Square). after_move (after_move q column) to.0) (plan_reply ws (after_move q column) (column, height q column + 1))
    else None

-- The duel: the position, that after White's first move, that after Black's answer, and so on, up to the end of White's
-- columns or of the game. A column that isn't legal ends it too.
abbrev pub duel : List RuleInstance → Position → List ℕ → List Position
duel ws q [] = q ∷ []
duel ws q (column ∷ columns) =
    if is_legal q column then q ∷ after_move q column ∷ option_map_or (λ next. duel ws next columns) (after_turn ws q column) [] else q ∷ []

-- no column is left
abbrev pub is_nil : List ℕ → Bool
is_nil [] = true
is_nil (column ∷ columns) = false

-- each of White's columns is legal at its turn
abbrev pub is_playable_list : List RuleInstance → Position → List ℕ → Bool
is_playable_list ws q [] = true
is_playable_list ws q (column ∷ columns) = is_legal q column && option_map_or (λ next. is_playable_list ws next columns) (after_turn ws q column) (is_nil columns)

-- the position, with White to move, after White's moves into some columns, each legal at its turn, and Black's answers
abbrev pub after_turns : List RuleInstance → Position → List ℕ → Option Position
after_turns ws q [] = Some q
after_turns ws q (column ∷ columns) = if is_legal q column then option_and_then (λ next. after_turns ws next columns) (after_turn ws q column) else None

-- ---- what a plan keeps

-- the bottoms of an inverse
abbrev pub bottoms_of : RuleInstance → Option (Square × Square)
bottoms_of (lowinverse x x_top y y_top) = Some (x, y)
bottoms_of (highinverse x y) = Some (x, y)
bottoms_of w = None

-- both columns are filled up to the bottoms of the zone, or neither is, and the zone has no man
abbrev pub HasFloors : Position → List Square → Square × Square → Type 0
HasFloors q zone (x, y) =
    ((x.1 ≤ height q x.0 + 1) × (y.1 ≤ height q y.0 + 1)) ⊎ ((height q x.0 + 1 < x.1) × (height q y.0 + 1 < y.1) × (men_on q zone ≡ []))

-- at each position of the duel with White to move
pub record IsKept (p : Position) (ws : List RuleInstance) (q : Position) : Type 0 where
  pub board : board_of p ≡ board_of q
  pub white : side_to_move q ≡ White
  -- the men of the plan's position are still there
  pub stay : (u : Square) (side : Side) → man_at p u ≡ Some side → man_at q u ≡ Some side
  -- the men of each zone are calm, and their number is even
  pub calms : (i : ℕ) (w : RuleInstance) → IsMember ws i w → is_calm w q ≡ true
  pub even : (i : ℕ) (w : RuleInstance) → IsMember ws i w → is_even (length (men_on q (zone_of w))) ≡ true
  -- each inverse has both floors, or neither
  pub floors : (i : ℕ) (w : RuleInstance) (bottoms : Square × Square) → IsMember ws i w → bottoms_of w ≡ Some bottoms → HasFloors q (zone_of w) bottoms
  -- what standing members rest on is true
  pub facts : AreTrue (facts_of p ws).upper (facts_of p ws).pair (facts_of p ws).twin q
  pub no_line : has_line q White ≡ false

-- White's move into a column neither makes a line nor ends the game, and Black has a playable reply
pub record IsAnswered (ws : List RuleInstance) (q : Position) (column : ℕ) : Type 0 where
  pub no_line : has_line (after_move q column) White ≡ false
  pub going : end_of (after_move q column) ≡ None
  pub reply : Square
  pub is_reply : plan_reply ws (after_move q column) (column, height q column + 1) ≡ Some reply
  pub playable : is_playable (after_move q column) reply ≡ true

-- one turn of a duel: the positions before it, after White's move and after Black's reply stand next to one another
pub record IsTurn (p : Position) (ws : List RuleInstance) (positions : List Position) (i column : ℕ) : Type 0 where
  pub now : Position
  pub is_now : slice_get positions (2 * i) ≡ Some now
  pub kept : IsKept p ws now
  pub legal : is_legal now column ≡ true
  pub answered : IsAnswered ws now column
  pub after_white : slice_get positions (2 * i + 1) ≡ Some (after_move now column)
  pub after_black : slice_get positions (2 * i + 2) ≡ Some (after_move (after_move now column) answered.reply.0)
