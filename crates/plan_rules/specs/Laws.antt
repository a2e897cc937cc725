-- What the laws of a rule say: how a fitting instance begins, what each move of White's in its zone is answered by,
-- what White never owns, and that men elsewhere change nothing of this. Each law is over the rule's own parts, so that
-- whatever has such parts can promise it.
use Rattle.std.specs.Prelude.{◌≡◌, ℕ, ◌+◌, ◌<◌, ◌≤◌, Bool, true, false, List, Option, Some, None, slice_get}
use Rattle.game_rules.specs.Board.{Square}
use Rattle.game_rules.specs.Position.{Position, board_of, height, man_at, has_man, side_to_move, after_move}
use Rattle.game_rules.specs.Squares.{has_square, is_empty, is_playable}
use Rattle.game_rules.specs.Groups.{Group, squares_of, lies_on}
use Rattle.game_rules.specs.declared.Side.{Side}
use Rattle.game_rules.specs.declared.Side.TheVariants.{White, Black}
use Rattle.plan_rules.specs.Squares.{above}
use Rattle.plan_rules.specs.Rules.{Facts, as_list}

-- where there is a line, it is a line of the position's board
abbrev pub IsLineOf : Option Group → Position → Type 0
IsLineOf None p = Unit {0}
IsLineOf (Some g) p = lies_on (board_of p) g ≡ true

pub record Starts (calm : Position → Bool) (line : Option Group) (p : Position) : Type 0 where
  pub calm_now : calm p ≡ true
  pub line_on_board : IsLineOf line p

-- an instance that fits is calm, and the line that it rests on lies on the board
abbrev pub StartLaw : (Position → Bool) → (Position → Bool) → Option Group → Type 0
StartLaw fitted calm line = (p : Position) → fitted p ≡ true → Starts calm line p

-- whether it is calm depends on the squares of its zone alone
abbrev pub LocalLaw : List Square → (Position → Bool) → Type 0
LocalLaw zone calm = (p q : Position) → ((u : Square) → has_square zone u ≡ true → man_at p u ≡ man_at q u) → calm p ≡ true → calm q ≡ true

-- every column of the zone is filled below its lowest zone square
abbrev pub IsFounded : List Square → Position → Type 0
IsFounded zone q = (u : Square) → has_square zone u ≡ true → ((r : ℕ) → r < u.1 → has_square zone (u.0, r) ≡ false) → u.1 ≤ height q u.0 + 1

-- White moves to a square; the reply is a playable square of the zone, and after both men the instance is calm
pub record Answers (zone : List Square) (calm : Position → Bool) (reply : Position → Square → Option Square) (q : Position) (last : Square) : Type 0 where
  pub to : Square
  pub is_reply : reply (after_move q last.0) last ≡ Some to
  pub in_zone : has_square zone to ≡ true
  pub playable : is_playable (after_move q last.0) to ≡ true
  pub calm_after : calm (after_move (after_move q last.0) to.0) ≡ true

-- the instance fitted at a position of the same board and is calm, and White plays a square of its zone
abbrev pub StepLaw : List Square → (Position → Bool) → (Position → Bool) → (Position → Square → Option Square) → Type 0
StepLaw zone fitted calm reply = (p q : Position) (last : Square) → fitted p ≡ true → board_of p ≡ board_of q → calm q ≡ true → side_to_move q ≡ White
    → is_playable q last ≡ true → has_square zone last ≡ true → IsFounded zone q → Answers zone calm reply q last

-- the facts that standing rules rest on are true of the men
pub record AreTrue (upper pair : Square → Bool) (twin : List (Square × Square)) (q : Position) : Type 0 where
  pub uppers : (u : Square) → upper u ≡ true → has_man q White u ≡ false
  pub pairs : (u : Square) → pair u ≡ true → has_man q White u ≡ true → has_man q White (above u) ≡ false
  pub twins : (i : ℕ) (u v : Square) → slice_get twin i ≡ Some (u, v) → has_man q White u ≡ true → has_man q White v ≡ false

-- an instance that fitted and is calm makes its own facts true
abbrev pub FactLaw : (Position → Bool) → (Position → Bool) → List Square → List Square → Option (Square × Square) → Type 0
FactLaw fitted calm upper pair twin = (p q : Position) → fitted p ≡ true → calm q ≡ true → AreTrue (has_square upper) (has_square pair) (as_list twin) q

-- the side owns every square of the set
abbrev pub Owns : Side → Position → (Square → Bool) → Type 0
Owns side q set = (u : Square) → set u ≡ true → has_man q side u ≡ true

-- what a barred set of White's means: never without a line, and with a line, that it is all Black's
abbrev pub IsHeld : Option Group → Position → Type 0
IsHeld None q = ⊥
IsHeld (Some g) q = Owns Black q (has_square (squares_of g))

-- The instance fitted where the empty squares were those of the facts; it is supported by the facts, and calm; the
-- facts are true of the men; and Black's men are still there. Then White owns no barred set whole, or the line is all
-- Black's.
abbrev pub BarLaw : (Position → Bool) → (Facts → Bool) → (Position → Bool) → (Facts → (Square → Bool) → Bool) → Option Group → Type 0
BarLaw fitted supported calm barring line = (p q : Position) (facts : Facts) (set : Square → Bool) → fitted p ≡ true
    → ((u : Square) → facts.empty u ≡ is_empty p u) → supported facts ≡ true → calm q ≡ true → AreTrue facts.upper facts.pair facts.twin q
    → Owns Black q (has_man p Black) → barring facts set ≡ true → Owns White q set → IsHeld line q
