-- What a move into a column gives: the position after it, or why there is none.
use Rattle.std.specs.Prelude.{ℕ, if◌then◌else◌, is_some, Result, Ok, Err}
use Rattle.game_rules.specs.Position.{Position, end_of, has_room, after_move}
use Rattle.board_bits.specs.declared.position.MoveFault.{MoveFault}
use Rattle.board_bits.specs.declared.position.MoveFault.TheVariants.{GameOver, ColumnFull}

abbrev pub moved_into : Position → ℕ → Result Position MoveFault
moved_into p column = if is_some (end_of p) then Err GameOver else (if has_room p column then Ok (after_move p column) else Err ColumnFull)
