-- How squares, groups and instances of rules are written, each in one spelling, and how such a text is read. The
-- spellings are this project's own.
use Rattle.std.specs.Prelude.{ℕ, ◌-◌, Bool, true, ◌&&◌, ◌==◌, if◌then◌else◌, List, [], ◌∷◌, ◌++◌, length, take, Option, Some, None, option_map, slice_index, find, codes, decimal, bytes_eq}
use Rattle.std.specs.Option.{option_map_or}
use Rattle.game_rules.specs.Board.{Board, Square, is_board, is_line, ways}
use Rattle.game_rules.specs.Groups.{Group, group_on, lies_on}
use Rattle.game_rules.specs.Grammar.{letter_of}
use Rattle.game_rules.specs.Letters.{is_letter, column_of}
use Rattle.game_rules.specs.Number.{number_between}
use Rattle.game_rules.specs.declared.Way.{Way}
use Rattle.game_rules.specs.declared.Way.TheVariants.{H, V, U, D}
use Rattle.plan_rules.specs.Rules.{RuleInstance, claimeven, baseinverse, lowinverse, highinverse, baseclaim, vertical, aftereven, before, specialbefore, kind_of, is_shaped, black_group_of}
use Rattle.plan_rules.specs.declared.Kind.{Kind}
use Rattle.plan_rules.specs.declared.Kind.TheVariants as kinds
use Rattle.plan_text.specs.Words.{◌>>=◌, split_once}

-- ---- texts

-- a square by its column's letter and its row: `a1`
abbrev pub square_text : Square → List ℕ
square_text u = letter_of u.0 ∷ decimal u.1

-- the letter of a direction
abbrev pub way_letter : Way → ℕ
way_letter H = 104
way_letter V = 118
way_letter U = 117
way_letter D = 100

-- a group by its anchor and its direction: `a1h`
abbrev pub group_text : Group → List ℕ
group_text g = square_text g.anchor ++ way_letter g.way ∷ []

-- two texts with a mark between them
abbrev pub marked : List ℕ → List ℕ → List ℕ → List ℕ
marked left mark right = left ++ (mark ++ right)

-- a column from its bottom up to its top: `c2-c4`
abbrev pub column_text : Square → Square → List ℕ
column_text bottom top = marked (square_text bottom) (codes "-") (square_text top)

-- the two letters of a rule
abbrev pub rule_letters : Kind → List ℕ
rule_letters kinds.Claimeven = codes "CE"
rule_letters kinds.Baseinverse = codes "BI"
rule_letters kinds.Lowinverse = codes "LI"
rule_letters kinds.Highinverse = codes "HI"
rule_letters kinds.Baseclaim = codes "BC"
rule_letters kinds.Vertical = codes "VE"
rule_letters kinds.Aftereven = codes "AE"
rule_letters kinds.Before = codes "BE"
rule_letters kinds.Specialbefore = codes "SB"

-- what an instance is made of
abbrev pub parts_text : RuleInstance → List ℕ
parts_text (claimeven x) = square_text x
parts_text (baseinverse s t) = marked (square_text s) (codes ",") (square_text t)
parts_text (lowinverse x x_top y y_top) = marked (column_text x x_top) (codes ",") (column_text y y_top)
parts_text (highinverse x y) = marked (square_text x) (codes ",") (square_text y)
parts_text (baseclaim a b e) = marked (square_text a) (codes ",") (marked (square_text b) (codes ",") (square_text e))
parts_text (vertical e) = square_text e
parts_text (aftereven g) = group_text g
parts_text (before g) = group_text g
parts_text (specialbefore g f e0) = marked (group_text g) (codes ",") (marked (square_text f) (codes ",") (square_text e0))

-- an instance by the letters of its rule, a colon, and what it is made of: `BI:c1,d1`
abbrev pub instance_text : RuleInstance → List ℕ
instance_text w = marked (rule_letters (kind_of w)) (codes ":") (parts_text w)

-- The instance is one of the board: its squares and its line stand there, and it has the shape that its rule asks for.
abbrev pub is_named : Board → RuleInstance → Bool
is_named board w = is_board board && is_shaped w board && option_map_or (lies_on board) (black_group_of w) true

-- ---- reading

abbrev pub square_of : Board → List ℕ → Option Square
square_of board [] = None
square_of board (letter ∷ digits) = if is_letter board.cols letter then option_map (λ row. (column_of letter, row)) (number_between 1 board.rows digits) else None

-- the direction with this letter
abbrev pub way_of : ℕ → Option Way
way_of byte = find (λ way. byte == way_letter way) ways

abbrev pub group_at : Board → Square → Way → Option Group
group_at board anchor way = if is_line board way anchor then Some (group_on board way anchor) else None

-- an anchor, and the letter of a direction at the end
abbrev pub group_of : Board → List ℕ → Option Group
group_of board word = do
  anchor ← square_of board (take (length word - 1) word)
  way ← way_of (slice_index word (length word - 1))
  group_at board anchor way

-- two parts with a mark between them, each by its own reader; a comma is 44, a hyphen 45, and a colon 58
abbrev pub both_of : {X Y : Type 0} → (List ℕ → Option X) → ℕ → (List ℕ → Option Y) → List ℕ → Option (X × Y)
both_of left mark right bytes = do
  parts ← split_once mark bytes
  x ← left parts.0
  y ← right parts.1
  Some (x, y)

abbrev pub column_of_squares : Board → List ℕ → Option (Square × Square)
column_of_squares board = both_of (square_of board) 45 (square_of board)

abbrev pub two_columns : Board → List ℕ → Option ((Square × Square) × (Square × Square))
two_columns board = both_of (column_of_squares board) 44 (column_of_squares board)

abbrev pub two_squares : Board → List ℕ → Option (Square × Square)
two_squares board = both_of (square_of board) 44 (square_of board)

abbrev pub three_squares : Board → List ℕ → Option (Square × (Square × Square))
three_squares board = both_of (square_of board) 44 (two_squares board)

abbrev pub group_and_squares : Board → List ℕ → Option (Group × (Square × Square))
group_and_squares board = both_of (group_of board) 44 (two_squares board)

abbrev pub all_rules : List Kind
all_rules = kinds.Claimeven ∷ kinds.Baseinverse ∷ kinds.Lowinverse ∷ kinds.Highinverse ∷ kinds.Baseclaim ∷ kinds.Vertical ∷ kinds.Aftereven ∷ kinds.Before ∷ kinds.Specialbefore ∷ []

-- the rule with these letters
abbrev pub rule_of : List ℕ → Option Kind
rule_of letters = find (λ rule. bytes_eq letters (rule_letters rule)) all_rules

-- the instance of a rule from what stands behind the colon
abbrev pub of_rule : Board → Kind → List ℕ → Option RuleInstance
of_rule board kinds.Claimeven bytes = option_map claimeven (square_of board bytes)
of_rule board kinds.Baseinverse bytes = option_map (λ us. baseinverse us.0 us.1) (two_squares board bytes)
of_rule board kinds.Lowinverse bytes = option_map (λ us. lowinverse us.0.0 us.0.1 us.1.0 us.1.1) (two_columns board bytes)
of_rule board kinds.Highinverse bytes = option_map (λ us. highinverse us.0 us.1) (two_squares board bytes)
of_rule board kinds.Baseclaim bytes = option_map (λ us. baseclaim us.0 us.1.0 us.1.1) (three_squares board bytes)
of_rule board kinds.Vertical bytes = option_map vertical (square_of board bytes)
of_rule board kinds.Aftereven bytes = option_map aftereven (group_of board bytes)
of_rule board kinds.Before bytes = option_map before (group_of board bytes)
of_rule board kinds.Specialbefore bytes = option_map (λ us. specialbefore us.0 us.1.0 us.1.1) (group_and_squares board bytes)

abbrev pub if_named : Board → RuleInstance → Option RuleInstance
if_named board w = if is_named board w then Some w else None

-- the instance of the board that the bytes spell
abbrev pub instance_of : Board → List ℕ → Option RuleInstance
instance_of board bytes = do
  parts ← split_once 58 bytes
  rule ← rule_of parts.0
  w ← of_rule board rule parts.1
  if_named board w
