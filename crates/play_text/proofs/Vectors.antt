-- What is played by whole inputs, computed where it is known from outside.
use Rattle.std.proofs.Common.{◌≡◌, ℕ, List, [], ◌∷◌, codes, refl}
use Rattle.std.specs.List.{flat_map}
use Rattle.std.specs.Fmt.{digits}
use Rattle.game_rules.specs.Groups.{group_on, groups_of}
use Rattle.game_rules.specs.Squares.{squares_of_board}
use Rattle.game_rules.specs.Text.{game_at, read_game, board_at}
use Rattle.game_rules.specs.declared.InputKind.TheVariants.{BadColumn}
use Rattle.game_rules.specs.declared.Length.TheVariants.{Four}
use Rattle.game_rules.specs.declared.Way.TheVariants.{H}
use Rattle.plan_rules.specs.Refusal.{not_white_to_move, unanswered}
use Rattle.proof_text.specs.Spelling.{as_line}
use Rattle.play_text.specs.Play.{PlayEnd, NoGame, NoPlanLine, NoPlan, NoMove, AllPlayed, Played, play_of}
use Rattle.play_text.specs.declared.PlayKind.TheVariants.{BadMove, GameOver, ColumnFull}

abbrev input : List (List ℕ) → List ℕ
input lines = flat_map as_line lines

abbrev gives : List (List ℕ) → PlayEnd → Played
gives lines end = record { lines = lines; end = end }

-- ---- plans, and the lines of moves behind them

abbrev six_zones : List (List ℕ) → List ℕ
six_zones moves = input (codes "board 4 4" ∷ codes "moves -" ∷ codes "plan CE:a1 CE:a3 CE:b1 CE:b3 BI:c1,d1 LI:c2-c4,d2-d4" ∷ moves)

abbrev with_baseclaim : List (List ℕ) → List ℕ
with_baseclaim moves = input (codes "board 4 4" ∷ codes "moves daddcd" ∷ codes "plan BC:a2,b1,c2 CE:a3 CE:b3 CE:c3" ∷ moves)

abbrev with_aftereven : List (List ℕ) → List ℕ
with_aftereven moves = input (codes "board 4 4" ∷ codes "moves cccdcd" ∷ codes "plan CE:a1 CE:a3 CE:b1 CE:b3 CE:d3 AE:a2h" ∷ moves)

abbrev with_specialbefore : List (List ℕ) → List ℕ
with_specialbefore moves = input (codes "board 5 4" ∷ codes "moves abbaabbaddceedee" ∷ codes "plan BI:c2,d4 CE:c3 SB:b1u,d4,c2" ∷ moves)

-- ---- duels

-- a top is answered by the other column's playable square
lowinverse : play_of (six_zones (codes "c" ∷ codes "c" ∷ codes "d" ∷ codes "c" ∷ codes "a" ∷ codes "a" ∷ codes "b" ∷ codes "b" ∷ []))
    ≡ gives (as_line (codes "c1 d1") ∷ as_line (codes "c2 c3") ∷ as_line (codes "d2 d3") ∷ as_line (codes "c4 d4") ∷ as_line (codes "a1 a2")
    ∷ as_line (codes "a3 a4") ∷ as_line (codes "b1 b2") ∷ as_line (codes "b3 b4 full") ∷ []) AllPlayed
unfolding play_of game_at read_game board_at digits groups_of squares_of_board
lowinverse = refl

-- a column that an answer has shifted
shifted : play_of (six_zones (codes "c" ∷ codes "c" ∷ codes "c"
    ∷ codes "d" ∷ [])) ≡ gives (as_line (codes "c1 d1") ∷ as_line (codes "c2 c3") ∷ as_line (codes "c4 d2") ∷ as_line (codes "d3 d4") ∷ []) AllPlayed
unfolding play_of game_at read_game board_at digits groups_of squares_of_board
shifted = refl

column_full : play_of (six_zones (codes "c" ∷ codes "c" ∷ codes "c" ∷ codes "d" ∷ codes "c" ∷ []))
    ≡ gives (as_line (codes "c1 d1") ∷ as_line (codes "c2 c3") ∷ as_line (codes "c4 d2") ∷ as_line (codes "d3 d4") ∷ [])
    (NoMove (record { kind = ColumnFull; at = 8 }))
unfolding play_of game_at read_game board_at digits groups_of squares_of_board
column_full = refl

highinverse : play_of (input (codes "board 4 4" ∷ codes "moves -" ∷ codes "plan CE:a1 CE:a3 CE:b1 CE:b3 BI:c1,d1 HI:c2,d2" ∷ codes "c" ∷ codes "c" ∷ codes "d"
    ∷ codes "d" ∷ [])) ≡ gives (as_line (codes "c1 d1") ∷ as_line (codes "c2 c3") ∷ as_line (codes "d2 c4") ∷ as_line (codes "d3 d4") ∷ []) AllPlayed
unfolding play_of game_at read_game board_at digits groups_of squares_of_board
highinverse = refl

baseclaim : play_of (with_baseclaim (codes "b" ∷ codes "a" ∷ []))
    ≡ gives (as_line (codes "b1 c2") ∷ as_line (codes "a2 b2") ∷ []) AllPlayed
unfolding play_of game_at read_game board_at digits groups_of squares_of_board
baseclaim = refl

baseclaim_from_its_end : play_of (with_baseclaim (codes "c" ∷ codes "b" ∷ []))
    ≡ gives (as_line (codes "c2 b1") ∷ as_line (codes "b2 a2") ∷ []) AllPlayed
unfolding play_of game_at read_game board_at digits groups_of squares_of_board
baseclaim_from_its_end = refl

specialbefore : play_of (with_specialbefore (codes "d" ∷ []))
    ≡ gives (as_line (codes "d4 c2 won") ∷ []) AllPlayed
unfolding play_of game_at read_game board_at digits groups_of squares_of_board
specialbefore = refl

specialbefore_to_a_full_board : play_of
    (with_specialbefore (codes "c" ∷ codes "c" ∷ []))
    ≡ gives (as_line (codes "c2 d4") ∷ as_line (codes "c3 c4 full") ∷ []) AllPlayed
unfolding play_of game_at read_game board_at digits groups_of squares_of_board
specialbefore_to_a_full_board = refl

-- a move after the end of the game
aftereven : play_of (with_aftereven (codes "a" ∷ codes "b" ∷ codes "a"
    ∷ [])) ≡ gives (as_line (codes "a1 a2") ∷ as_line (codes "b1 b2 won") ∷ []) (NoMove (record { kind = GameOver; at = 6 }))
unfolding play_of game_at read_game board_at digits groups_of squares_of_board
aftereven = refl

-- what isn't a letter of the board is no move, after the end of the game too
no_letter : play_of (with_aftereven (codes "a" ∷ codes "b" ∷ codes "e"
    ∷ [])) ≡ gives (as_line (codes "a1 a2") ∷ as_line (codes "b1 b2 won") ∷ []) (NoMove (record { kind = BadMove; at = 6 }))
unfolding play_of game_at read_game board_at digits groups_of squares_of_board
no_letter = refl

empty_line : play_of (with_aftereven (codes "a" ∷ codes "" ∷ []))
    ≡ gives (as_line (codes "a1 a2") ∷ []) (NoMove (record { kind = BadMove; at = 5 }))
unfolding play_of game_at read_game board_at digits groups_of squares_of_board
empty_line = refl

two_letters : play_of (with_aftereven (codes "ab" ∷ [])) ≡ gives ([]) (NoMove (record { kind = BadMove; at = 4 }))
unfolding play_of game_at read_game board_at digits groups_of squares_of_board
two_letters = refl

-- lists that are no plan
no_plan : play_of (input (codes "board 4 4" ∷ codes "moves cccdcd" ∷ codes "plan CE:a1 CE:a3 CE:b1 CE:b3 CE:d3" ∷ codes "a" ∷ []))
    ≡ gives ([]) (NoPlan (unanswered (group_on (record { cols = 4; rows = 4; len = Four }) H (0, 3))))
unfolding play_of game_at read_game board_at digits groups_of squares_of_board
no_plan = refl

no_plan_for_black : play_of (input (codes "board 4 4" ∷ codes "moves a" ∷ codes "plan CE:a1 CE:a3 CE:b1 CE:b3 BI:c1,d1 LI:c2-c4,d2-d4" ∷ codes "a" ∷ []))
    ≡ gives ([]) (NoPlan not_white_to_move)
unfolding play_of game_at read_game board_at digits groups_of squares_of_board
no_plan_for_black = refl

-- no line of a plan
no_plan_line : play_of (input (codes "board 4 4" ∷ codes "moves -" ∷ codes "plan" ∷ codes "a" ∷ [])) ≡ gives ([]) NoPlanLine
unfolding play_of game_at read_game board_at digits groups_of squares_of_board
no_plan_line = refl

no_square_of_the_board : play_of (input (codes "board 4 4" ∷ codes "moves -" ∷ codes "plan CE:e1" ∷ codes "a" ∷ [])) ≡ gives ([]) NoPlanLine
unfolding play_of game_at read_game board_at digits groups_of squares_of_board
no_square_of_the_board = refl

columns_turned : play_of (input (codes "board 4 4" ∷ codes "moves -" ∷ codes "plan BI:d1,c1" ∷ codes "a" ∷ [])) ≡ gives ([]) NoPlanLine
unfolding play_of game_at read_game board_at digits groups_of squares_of_board
columns_turned = refl

no_third_line : play_of (input (codes "board 4 4" ∷ codes "moves -" ∷ [])) ≡ gives ([]) NoPlanLine
unfolding play_of game_at read_game board_at digits groups_of squares_of_board
no_third_line = refl

no_game : play_of (input (codes "board 4 4" ∷ codes "moves x" ∷ codes "plan CE:a1 CE:a3 CE:b1 CE:b3 BI:c1,d1 LI:c2-c4,d2-d4" ∷ codes "a" ∷ []))
    ≡ gives ([]) (NoGame (record { kind = BadColumn; at = 16 }))
unfolding play_of game_at read_game board_at digits groups_of squares_of_board
no_game = refl
