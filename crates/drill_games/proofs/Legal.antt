-- Each game comes by legal moves from the empty board.
use Rattle.std.proofs.Common.{◌≡◌, ℕ, zero, suc, [], ◌∷◌, length, Option, Some, None, refl, ap, arith}
use Rattle.std.specs.List.{AllByRecursion}
use Rattle.game_rules.specs.Board.{Board}
use Rattle.game_rules.specs.Position.{Position, end_of, after_move, empty_position}
use Rattle.game_rules.specs.declared.End.{End}
use Rattle.drill_games.specs.Games.{next_state, chosen_column, game_from, games_from, Leads}
use Rattle.drill_games.proofs.Columns.{chosen_room}

leads : (n : ℕ) (p : Position) (x : ℕ) → Leads n p (game_from n p x).0
unfolding game_from
leads zero p x = record { columns = []; along = refl; few = omega arith; ended = λ never. absurd (omega (arith, never)) }
leads (suc n) p x = by_end (end_of p) refl (leads n (after_move p (chosen_column p (next_state x))) (next_state x))
  where
    by_end : (end : Option End) → end_of p ≡ end
        → Leads n (after_move p (chosen_column p (next_state x))) (game_from n (after_move p (chosen_column p (next_state x))) (next_state x)).0
        → Leads (suc n) p (game_from (suc n) p x).0
    by_end (Some end) ended later = rw ended (record { columns = []; along = refl; few = omega arith; ended = λ fewer none. cc (ended, none) })
    by_end None going later = rw going (record {
      columns = chosen_column p (next_state x) ∷ later.columns;
      along = rw (going, chosen_room p (next_state x) going) later.along;
      few = omega (arith, later.few);
      ended = λ fewer. later.ended (omega (arith, fewer));
    })

pub many : (games : ℕ) (board : Board) (moves x : ℕ) → length (games_from games board moves x) ≡ games
unfolding games_from
many zero board moves x = refl
many (suc games) board moves x = ap suc (many games board moves (game_from moves (empty_position board) x).1)

pub all_legal : (games : ℕ) (board : Board) (moves x : ℕ) → AllByRecursion (Leads moves (empty_position board)) (games_from games board moves x)
unfolding games_from
all_legal zero board moves x = tt
all_legal (suc games) board moves x =
    (leads moves (empty_position board) x, all_legal games board moves (game_from moves (empty_position board) x).1)
