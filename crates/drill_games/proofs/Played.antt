-- A game as a loop plays it: the game from here on, with the moves that are left.
use Rattle.std.proofs.Common.{◌≡◌, ℕ, zero, suc, is_some, Some, None, refl, ap, inl, inr}
use Rattle.game_rules.proofs.Lists.{chosen as chosen_way}
use Rattle.game_rules.specs.Position.{Position, end_of, after_move}
use Rattle.drill_games.specs.Games.{next_state, chosen_column, next_move, game_from}

pub none_left : (p : Position) (x : ℕ) → game_from 0 p x ≡ (p, x)
unfolding game_from
none_left p x = refl

-- a move more, or none
pub one_move : (n : ℕ) (p : Position) (x : ℕ) (game : Position × ℕ) → next_move p x ≡ Some game → game_from (suc n) p x ≡ game_from n game.0 game.1
unfolding game_from
one_move n p x game h = elim (chosen_way (is_some (end_of p)) None (Some (after_move p (chosen_column p (next_state x)), next_state x)) (Some game) h) [
  | inl ended ↦ cc
  | inr going ↦ let same : (after_move p (chosen_column p (next_state x)), next_state x) ≡ game = cc (going.1) in
      rw going.0 (ap (λ (game : Position × ℕ). game_from n game.0 game.1) same)
]

pub game_ended : (n : ℕ) (p : Position) (x : ℕ) → next_move p x ≡ None → game_from n p x ≡ (p, x)
unfolding game_from
game_ended zero p x h = refl
game_ended (suc n) p x h = elim (chosen_way (is_some (end_of p)) None (Some (after_move p (chosen_column p (next_state x)), next_state x)) None h) [
  | inl ended ↦ rw ended.0 refl
  | inr going ↦ cc
]
