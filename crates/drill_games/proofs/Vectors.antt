-- The games, computed for the first number.
use Rattle.std.proofs.Common.{◌≡◌, ℕ, zero, suc, ◌%◌, List, [], ◌∷◌, length, Some, refl}
use Rattle.game_rules.specs.Board.{Board}
use Rattle.game_rules.specs.Position.{Position, empty_position, played, open_columns, after_move}
use Rattle.game_rules.specs.declared.Length.TheVariants.{Four}
use Rattle.drill_games.specs.Games.{next_state, chosen_column, game_from}

-- the next states
states : ℕ → ℕ → List ℕ
states zero x = []
states (suc n) x = next_state x ∷ states n (next_state x)

twelve_states : states 12 1 ≡ 48271 ∷ 182605794 ∷ 1291394886 ∷ 1914720637 ∷ 2078669041 ∷ 407355683 ∷ 1105902161 ∷ 854716505 ∷ 564586691 ∷ 1596680831 ∷ 192302371
    ∷ 1203428207 ∷ []
unfolding states
twelve_states = refl

four_by_four : Board
four_by_four = record { cols = 4; rows = 4; len = Four }

-- of each move: the place that the state chooses, how many columns are open, and the column
choices : ℕ → Position → ℕ → List (ℕ × ℕ × ℕ)
choices zero p x = []
choices (suc n) p x = (next_state x % length (open_columns p), length (open_columns p), chosen_column p (next_state x))
    ∷ choices n (after_move p (chosen_column p (next_state x))) (next_state x)

twelve_choices : choices 12 (empty_position four_by_four) 1 ≡
    (3, 4, 3) ∷ (2, 4, 2) ∷ (2, 4, 2) ∷ (1, 4, 1) ∷ (1, 4, 1) ∷ (3, 4, 3) ∷ (1, 4, 1) ∷ (1, 4, 1) ∷ (2, 3, 3) ∷ (2, 3, 3) ∷ (1, 2, 2) ∷ (1, 2, 2) ∷ []
unfolding choices four_by_four
twelve_choices = refl

twelve_moves : played (empty_position four_by_four) (3 ∷ 2 ∷ 2 ∷ 1 ∷ 1 ∷ 3 ∷ 1 ∷ 1 ∷ 3 ∷ 3 ∷ 2 ∷ 2 ∷ []) ≡ Some (game_from 12 (empty_position four_by_four) 1).0
unfolding four_by_four game_from
twelve_moves = refl

-- the game ends after fifteen moves, at the fifteenth state
ends_after_fifteen : (played (empty_position four_by_four) (3 ∷ 2 ∷ 2 ∷ 1 ∷ 1 ∷ 3 ∷ 1 ∷ 1 ∷ 3 ∷ 3 ∷ 2 ∷ 2 ∷ 0 ∷ 0 ∷ 0 ∷ [])
    ≡ Some (game_from 16 (empty_position four_by_four) 1).0)
    × ((game_from 16 (empty_position four_by_four) 1).1 ≡ 1271135913)
unfolding four_by_four game_from
ends_after_fifteen = (refl, refl)
