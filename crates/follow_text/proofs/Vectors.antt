-- What comes of whole inputs, computed where it is known from outside.
use Rattle.std.proofs.Common.{◌≡◌, ℕ, List, [], ◌∷◌, codes, refl}
use Rattle.std.specs.List.{flat_map}
use Rattle.std.specs.Fmt.{digits}
use Rattle.game_rules.specs.Groups.{groups_of}
use Rattle.game_rules.specs.Squares.{squares_of_board}
use Rattle.game_rules.specs.Text.{game_at, read_game, board_at}
use Rattle.game_rules.specs.declared.Side.TheVariants.{White, Black}
use Rattle.proof_text.specs.Spelling.{as_line}
use Rattle.proof_text.specs.declared.Why.TheVariants.{EndedEarly}
use Rattle.play_text.specs.Play.{PlayEnd, Refused, NoClaim, NoMove, AllPlayed, Played, ended}
use Rattle.play_text.specs.declared.PlayKind.TheVariants.{BadMove, GameOver, ColumnFull}
use Rattle.follow_text.specs.Follow.{follow_of}

abbrev input : List (List ℕ) → List ℕ
input lines = flat_map as_line lines

abbrev gives : List (List ℕ) → PlayEnd → Played
gives lines end = record { lines = lines; end = end }

-- ---- a draw: each side has its lemma

-- two squares are left, and White is to move
abbrev two_left : List (List ℕ) → List ℕ
two_left moves =
    input (codes "victor 1" ∷ codes "board 4 4" ∷ codes "moves cdccddcdaaaabb" ∷ codes "1 bb W- end" ∷ codes "2 b W- one b 1" ∷ codes "3 - W- all b:2"
    ∷ codes "4 bb B- end" ∷ codes "5 b B- all b:4" ∷ codes "6 - B- one b 5" ∷ codes "value draw 3 6" ∷ moves)

draw_for_black : follow_of Black (two_left (codes "b" ∷ [])) ≡ gives (as_line (codes "b3 b4 full") ∷ []) AllPlayed
unfolding follow_of game_at read_game board_at digits
draw_for_black = refl

draw_for_white : follow_of White (two_left (codes "b" ∷ [])) ≡ gives (as_line (codes "- b3") ∷ as_line (codes "b4 - full") ∷ []) AllPlayed
unfolding follow_of game_at read_game board_at digits
draw_for_white = refl

-- the same with White kept from a line by a plan
abbrev two_left_by_plan : List (List ℕ) → List ℕ
two_left_by_plan moves =
    input (codes "victor 1" ∷ codes "board 4 4" ∷ codes "moves cdccddcdaaaabb" ∷ codes "1 - W- plan CE:b3" ∷ codes "2 bb B- end" ∷ codes "3 b B- all b:2"
    ∷ codes "4 - B- one b 3" ∷ codes "value draw 1 4" ∷ moves)

draw_for_black_by_plan : follow_of Black (two_left_by_plan (codes "b" ∷ [])) ≡ gives (as_line (codes "b3 b4 full") ∷ []) AllPlayed
unfolding follow_of game_at read_game board_at digits groups_of squares_of_board
draw_for_black_by_plan = refl

draw_for_white_by_plan : follow_of White (two_left_by_plan (codes "b" ∷ [])) ≡ gives (as_line (codes "- b3") ∷ as_line (codes "b4 - full") ∷ []) AllPlayed
unfolding follow_of game_at read_game board_at digits groups_of squares_of_board
draw_for_white_by_plan = refl

-- a column that is full, a move after the end, and what is no move
full_column : follow_of Black (two_left (codes "a" ∷ [])) ≡ gives [] (NoMove (record { kind = ColumnFull; at = 11 }))
unfolding follow_of game_at read_game board_at digits
full_column = refl

after_the_end : follow_of White (two_left (codes "b" ∷ codes "b" ∷ []))
    ≡ gives (as_line (codes "- b3") ∷ as_line (codes "b4 - full") ∷ []) (NoMove (record { kind = GameOver; at = 12 }))
unfolding follow_of game_at read_game board_at digits
after_the_end = refl

-- a line of a proof behind the verdict is read as a move
no_move : follow_of White (two_left (codes "7 bb B- end" ∷ [])) ≡ gives (as_line (codes "- b3") ∷ []) (NoMove (record { kind = BadMove; at = 11 }))
unfolding follow_of game_at read_game board_at digits
no_move = refl

-- ---- a win: the other side has no lemma

abbrev forced_win : List (List ℕ) → List ℕ
forced_win moves =
    input (codes "victor 1" ∷ codes "board 4 4" ∷ codes "moves dccbbdbbddcc" ∷ codes "1 aaa W+ end" ∷ codes "2 aa W+ one a 1" ∷ codes "3 a W+ all a:2"
    ∷ codes "4 - W+ one a 3" ∷ codes "value win 4" ∷ moves)

won_by_white : follow_of White (forced_win (codes "a" ∷ [])) ≡ gives (as_line (codes "- a1") ∷ as_line (codes "a2 a3 won") ∷ []) AllPlayed
unfolding follow_of game_at read_game board_at digits
won_by_white = refl

no_claim_for_black : follow_of Black (forced_win (codes "a" ∷ [])) ≡ ended (NoClaim 8)
unfolding follow_of game_at read_game board_at digits
no_claim_for_black = refl

won_at_once : follow_of White (input (codes "victor 1" ∷ codes "board 7 6" ∷ codes "moves dcdcdc" ∷ codes "1 d W+ end" ∷ codes "2 - W+ one d 1"
    ∷ codes "value win 2" ∷ [])) ≡ gives (as_line (codes "- d4 won") ∷ []) AllPlayed
unfolding follow_of game_at read_game board_at digits
won_at_once = refl

-- ---- no proof

no_verdict : follow_of White (input (codes "victor 1" ∷ codes "board 4 4" ∷ codes "moves -" ∷ codes "# nothing is said" ∷ [])) ≡ ended (Refused 5 EndedEarly)
unfolding follow_of game_at read_game board_at digits
no_verdict = refl

nothing_known : follow_of White (input (codes "victor 1" ∷ codes "board 4 4" ∷ codes "moves -" ∷ codes "value unknown" ∷ codes "a" ∷ [])) ≡ ended (NoClaim 4)
unfolding follow_of game_at read_game board_at digits
nothing_known = refl

-- ---- a mirror image

-- the first two rows are filled, and the board is its own image
abbrev images : List (List ℕ) → List ℕ
images moves =
    input (codes "victor 2" ∷ codes "board 4 4" ∷ codes "moves abdcbacdabdc" ∷ codes "1 bcad W- end" ∷ codes "2 bca W- one d 1" ∷ codes "3 bcda W- end"
    ∷ codes "4 bcd W- one a 3" ∷ codes "5 bc W- all a:2 d:4" ∷ codes "6 b W- one c 5" ∷ codes "7 c W- mirror 6" ∷ codes "8 abc W- mirror 4"
    ∷ codes "9 abdc W- end" ∷ codes "10 abd W- one c 9" ∷ codes "11 ab W- all c:8 d:10" ∷ codes "12 a W- one b 11" ∷ codes "13 d W- mirror 12"
    ∷ codes "14 - W- all a:12 b:6 c:7 d:13" ∷ codes "15 bcad B- end" ∷ codes "16 bca B- all d:15" ∷ codes "17 bc B- one a 16" ∷ codes "18 bacd B- end"
    ∷ codes "19 bac B- all d:18" ∷ codes "20 ba B- one c 19" ∷ codes "21 bdc B- mirror 19" ∷ codes "22 bd B- one c 21" ∷ codes "23 b B- all a:20 c:17 d:22"
    ∷ codes "24 - B- one b 23" ∷ codes "value draw 14 24" ∷ moves)

turned_round : follow_of Black (images (codes "c" ∷ codes "a" ∷ []))
    ≡ gives (as_line (codes "c4 b4") ∷ as_line (codes "a4 d4 full") ∷ []) AllPlayed
unfolding follow_of game_at read_game board_at digits
turned_round = refl
