-- What a move into a column says where it was made.
use Rattle.std.proofs.Common.{◌≡◌, ℕ, Bool, true, false, ◌&&◌, cond, Option, Some, None, is_some, is_none, Ok, Err, refl}
use Rattle.game_rules.specs.Position.{Position, after_move, end_of, has_room, is_legal}
use Rattle.game_rules.specs.declared.End.{End}
use Rattle.board_bits.specs.Move.{moved_into}
use Rattle.board_bits.specs.declared.position.MoveFault.TheVariants.{GameOver, ColumnFull}

pub move_made : (q r : Position) (column : ℕ) → moved_into q column ≡ Ok r → (is_legal q column ≡ true) × (r ≡ after_move q column)
move_made q r column made = of_parts (end_of q) (has_room q column) made
  where
    of_parts : (end : Option End) (room : Bool) → cond (is_some end) (Err GameOver) (cond room (Ok (after_move q column)) (Err ColumnFull)) ≡ Ok r
        → ((is_none end && room) ≡ true) × (r ≡ after_move q column)
    of_parts None true h = (refl, cc)
    of_parts None false h = cc
    of_parts (Some end) room h = cc
