-- The definitions, computed at positions whose answers are known from outside.
use Rattle.std.proofs.Common.{◌≡◌, ℕ, Bool, true, false, List, [], ◌∷◌, Option, Some, None, map, refl}
use Rattle.game_rules.specs.Position.{end_of}
use Rattle.game_rules.specs.Groups.{Group, groups_of}
use Rattle.game_rules.specs.Squares.{squares_of_board}
use Rattle.game_rules.specs.declared.End.{End}
use Rattle.game_rules.specs.declared.End.TheVariants as ends
use Rattle.game_rules.specs.declared.Way.TheVariants.{H}
use Rattle.game_rules.proofs.Samples.{after_moves}
use Rattle.plan_rules.proofs.Samples.{group_of_four}
use Rattle.odd_rules.specs.Threat.{Pair, is_threat}
use Rattle.odd_rules.specs.Duel.{answer_of, threat_duel, is_playable_list}
use Rattle.odd_rules.specs.Refusal.{ThreatFault, not_black_to_move, bad_group, bad_member, unpaired, threat_refusal, pairings, first_threat}

-- the third row: White has all of it but the square of the first column
abbrev third : Group
third = group_of_four (0, 3) H

-- moves after which the first column alone has room
abbrev one_column : List ℕ
one_column = 3 ∷ 2 ∷ 2 ∷ 1 ∷ 1 ∷ 3 ∷ 1 ∷ 1 ∷ 3 ∷ 3 ∷ 2 ∷ 2 ∷ 0 ∷ []

-- moves after which two more columns have one empty square each
abbrev three_columns : List ℕ
three_columns = 3 ∷ 2 ∷ 2 ∷ 1 ∷ 1 ∷ 3 ∷ 1 ∷ 0 ∷ 3 ∷ 3 ∷ 2 ∷ []

abbrev top_pair : Pair
top_pair = ((1, 4), (2, 4))

-- whether the third row is a threat with some pairs, why it isn't one, and the first threat
abbrev threatened : List ℕ → List Pair → Option Bool
threatened moves pairs = after_moves (λ p. is_threat p third pairs) 4 4 moves

abbrev refused : List ℕ → List Pair → Option (Option ThreatFault)
refused moves pairs = after_moves (λ p. threat_refusal p third pairs) 4 4 moves

abbrev first_found : List ℕ → Option (Option (Group × List Pair))
first_found moves = after_moves first_threat 4 4 moves

-- how each position of a duel ends the game, if it does
abbrev duel_ends : List ℕ → List Pair → List ℕ → Option (List (Option End))
duel_ends moves pairs columns = after_moves (λ p. map end_of (threat_duel pairs p columns)) 4 4 moves

one_column_threat : threatened one_column [] ≡ Some true
one_column_threat = refl

one_column_first : first_found one_column ≡ Some (Some (third, []))
unfolding first_threat pairings groups_of squares_of_board
one_column_first = refl

one_column_duel : duel_ends one_column [] (0 ∷ []) ≡ Some (None ∷ None ∷ Some ends.White ∷ [])
one_column_duel = refl

-- a further column of Black's isn't legal, and the duel has ended
after_the_end : duel_ends one_column [] (0 ∷ 0 ∷ []) ≡ Some (None ∷ None ∷ Some ends.White ∷ [])
after_the_end = refl

after_the_end_illegal : after_moves (λ p. is_playable_list [] p (0 ∷ 0 ∷ [])) 4 4 one_column ≡ Some false
after_the_end_illegal = refl

with_pair_threat : threatened three_columns (top_pair ∷ []) ≡ Some true
with_pair_threat = refl

with_pair_first : first_found three_columns ≡ Some (Some (third, top_pair ∷ []))
unfolding first_threat pairings groups_of squares_of_board
with_pair_first = refl

with_pair_duel : duel_ends three_columns (top_pair ∷ []) (2 ∷ 0 ∷ []) ≡ Some (None ∷ None ∷ None ∷ None ∷ Some ends.White ∷ [])
with_pair_duel = refl

with_pair_answers : (answer_of (top_pair ∷ []) (2, 4) ≡ (1, 4)) × (answer_of (top_pair ∷ []) (1, 4) ≡ (2, 4)) × (answer_of (top_pair ∷ []) (0, 2) ≡ (0, 3))
with_pair_answers = (refl, refl, refl)

without_pairs : refused three_columns [] ≡ Some (Some (unpaired 1))
without_pairs = refl

pair_twice : refused three_columns (top_pair ∷ top_pair ∷ []) ≡ Some (Some (bad_member 2))
pair_twice = refl

pair_turned : refused three_columns (((2, 4), (1, 4)) ∷ []) ≡ Some (Some (bad_member 1))
pair_turned = refl

no_target : after_moves (λ p. threat_refusal p (group_of_four (0, 4) H) []) 4 4 one_column ≡ Some (Some bad_group)
no_target = refl

white_to_move : refused [] [] ≡ Some (Some not_black_to_move)
white_to_move = refl

empty_board : first_found [] ≡ Some None
unfolding first_threat pairings groups_of squares_of_board
empty_board = refl

after_one_move : first_found (0 ∷ []) ≡ Some None
unfolding first_threat pairings groups_of squares_of_board
after_one_move = refl
