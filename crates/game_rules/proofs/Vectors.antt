-- The definitions, computed at positions whose answers are known from outside.
use Rattle.std.proofs.Common.{◌≡◌, ℕ, List, [], ◌∷◌, ◌++◌, Some, None, Ok, Err, Result, Option, codes, length, refl}
use Rattle.std.specs.Option.{option_map}
use Rattle.game_rules.specs.Position.{Position, empty_position, played, end_of}
use Rattle.game_rules.specs.Squares.{squares_of_board}
use Rattle.game_rules.specs.Mirror.{mirror}
use Rattle.game_rules.specs.Groups.{groups_of}
use Rattle.game_rules.specs.Value.{value, value_within}
use Rattle.game_rules.specs.Cost.{cost, count, count_within, none_closed, centre_out}
use Rattle.game_rules.specs.Text.{game_at, read_game, board_at}
use Rattle.game_rules.specs.declared.Length.TheVariants.{Four, Five}
use Rattle.game_rules.specs.declared.End.{End}
use Rattle.game_rules.specs.declared.End.TheVariants as ends
use Rattle.game_rules.specs.declared.InputKind.{InputKind}
use Rattle.game_rules.specs.declared.InputKind.TheVariants.{BadHeader, BadSize, BadColumn, ColumnFull, GameOver, Trailing}
use Rattle.game_rules.specs.declared.InputFault.{InputFault}

-- how the game has ended, and its value
abbrev played_out : Result Position InputFault → Option (Option End × End)
played_out (Ok p) = Some (end_of p, value p)
played_out (Err fault) = None

abbrev costs : Result Position InputFault → Option ℕ
costs (Ok p) = Some (cost none_closed p)
costs (Err fault) = None

abbrev faults : Result Position InputFault → Option (InputKind × ℕ)
faults (Ok p) = None
faults (Err fault) = Some (fault.kind, fault.at)

-- the text of a game on the 4 by 4 board
abbrev four : List ℕ → List ℕ
four moves = codes "board 4 4" ++ (10 ∷ (codes "moves " ++ moves))

full_board_draw : played_out (game_at (four (codes "cdccddcdaaaabbbb"))) ≡ Some (Some ends.Draw, ends.Draw)
unfolding game_at read_game board_at value value_within
full_board_draw = refl

four_at_root : played_out (game_at (four (codes "abababa"))) ≡ Some (Some ends.White, ends.White)
unfolding game_at read_game board_at value value_within
four_at_root = refl

two_squares_left : played_out (game_at (four (codes "cdccddcdaaaabb"))) ≡ Some (None, ends.Draw)
unfolding game_at read_game board_at value value_within
two_squares_left = refl

two_squares_cost : costs (game_at (four (codes "cdccddcdaaaabb"))) ≡ Some 6
unfolding game_at read_game board_at value value_within cost count count_within
two_squares_cost = refl

forced_win : played_out (game_at (four (codes "dccbbdbbddcc"))) ≡ Some (None, ends.White)
unfolding game_at read_game board_at value value_within
forced_win = refl

middle_first : (centre_out 4 ≡ 1 ∷ 2 ∷ 0 ∷ 3 ∷ []) × (centre_out 7 ≡ 3 ∷ 2 ∷ 4 ∷ 1 ∷ 5 ∷ 0 ∷ 6 ∷ [])
middle_first = (refl, refl)

move_after_end : faults (game_at (four (codes "abababab"))) ≡ Some (GameOver, 23)
unfolding game_at read_game board_at
move_after_end = refl

full_column : faults (game_at (four (codes "aaaaa"))) ≡ Some (ColumnFull, 20)
unfolding game_at read_game board_at
full_column = refl

full_column_ten : faults (game_at (codes "board 10 10" ++ (10 ∷ codes "moves aaaaaaaaaaa"))) ≡ Some (ColumnFull, 28)
unfolding game_at read_game board_at
full_column_ten = refl

bad_rows : faults (game_at (codes "board 5 5")) ≡ Some (BadSize, 8)
unfolding game_at read_game board_at
bad_rows = refl

bad_cols : faults (game_at (codes "board 11 6")) ≡ Some (BadSize, 6)
unfolding game_at read_game board_at
bad_cols = refl

nothing : faults (game_at []) ≡ Some (BadHeader, 0)
unfolding game_at read_game board_at
nothing = refl

large_letter : faults (game_at (four (codes "A"))) ≡ Some (BadColumn, 16)
unfolding game_at read_game board_at
large_letter = refl

second_feed : faults (game_at (four (codes "a" ++ (10 ∷ 10 ∷ [])))) ≡ Some (Trailing, 18)
unfolding game_at read_game board_at
second_feed = refl

empty_list : faults (game_at (four (codes "-"))) ≡ None
unfolding game_at read_game board_at
empty_list = refl

no_list : faults (game_at (four [])) ≡ Some (BadColumn, 16)
unfolding game_at read_game board_at
no_list = refl

-- ---- how many groups boards have

-- how many groups of four, and how many of five
abbrev group_counts : ℕ → ℕ → ℕ × ℕ
group_counts cols rows = (
  length (groups_of (record { cols = cols; rows = rows; len = Four })),
  length (groups_of (record { cols = cols; rows = rows; len = Five })),
)

smallest_board : group_counts 4 4 ≡ (10, 0)
unfolding groups_of squares_of_board
smallest_board = refl

usual_board : group_counts 7 6 ≡ (69, 44)
unfolding groups_of squares_of_board
usual_board = refl

widest_board : group_counts 10 10 ≡ (238, 192)
unfolding groups_of squares_of_board
widest_board = refl

-- ---- lines of five

-- how a game on a board of five columns, four rows and lines of five has ended
abbrev ended_by_five : List ℕ → Option (Option End)
ended_by_five moves = option_map end_of (played (empty_position (record { cols = 5; rows = 4; len = Five })) moves)

-- White has a1 to d1, and the game goes on; e1 then ends it
four_of_five : ended_by_five (0 ∷ 0 ∷ 1 ∷ 1 ∷ 2 ∷ 2 ∷ 3 ∷ []) ≡ Some None
four_of_five = refl

five_in_a_line : ended_by_five (0 ∷ 0 ∷ 1 ∷ 1 ∷ 2 ∷ 2 ∷ 3 ∷ 3 ∷ 4 ∷ []) ≡ Some (Some ends.White)
five_in_a_line = refl

-- what the line of a board may say behind its rows
no_length_four : faults (game_at (codes "board 4 4 4")) ≡ Some (BadSize, 10)
unfolding game_at read_game board_at
no_length_four = refl

no_length : faults (game_at (codes "board 4 4 " ++ (10 ∷ codes "moves -"))) ≡ Some (BadSize, 10)
unfolding game_at read_game board_at
no_length = refl

two_digits : faults (game_at (codes "board 10 10 55" ++ (10 ∷ codes "moves -"))) ≡ Some (BadSize, 12)
unfolding game_at read_game board_at
two_digits = refl

letter_behind_the_rows : faults (game_at (codes "board 4 4x" ++ (10 ∷ codes "moves -"))) ≡ Some (BadHeader, 9)
unfolding game_at read_game board_at
letter_behind_the_rows = refl

space_behind_the_length : faults (game_at (codes "board 4 4 5 " ++ (10 ∷ codes "moves -"))) ≡ Some (BadHeader, 11)
unfolding game_at read_game board_at
space_behind_the_length = refl

-- the same moves with lines of five, and of four
five_by_text : played_out (game_at (codes "board 5 4 5" ++ (10 ∷ codes "moves aabbccdde"))) ≡ Some (Some ends.White, ends.White)
unfolding game_at read_game board_at value value_within
five_by_text = refl

four_by_text : faults (game_at (codes "board 5 4" ++ (10 ∷ codes "moves aabbccdde"))) ≡ Some (GameOver, 23)
unfolding game_at read_game board_at
four_by_text = refl

full_board_of_five : played_out (game_at (codes "board 4 4 5" ++ (10 ∷ codes "moves ababababcdcdcdcd"))) ≡ Some (Some ends.Draw, ends.Draw)
unfolding game_at read_game board_at value value_within
full_board_of_five = refl

-- ---- mirror images

-- the game that each move answers from the other side
seen_from_the_other_side : option_map mirror (played (empty_position (record { cols = 5; rows = 4; len = Five })) (0 ∷ 1 ∷ 1 ∷ 4 ∷ 2 ∷ []))
    ≡ played (empty_position (record { cols = 5; rows = 4; len = Five })) (4 ∷ 3 ∷ 3 ∷ 0 ∷ 2 ∷ [])
seen_from_the_other_side = refl
