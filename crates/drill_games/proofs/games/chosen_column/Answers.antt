use Rattle.std.proofs.Common.{◌≡◌, ◌%◌, length, get_or, true, sym, ap, ◌∙◌, subst, arith}
use Rattle.game_rules.specs.Position.{has_room}
use Rattle.drill_games.proofs.Columns.{open_some, chosen_room}
use Rattle.drill_games.proofs.games.chosen_column.Goals as goal

pub column_at-requires : goal.column_at-requires
column_at-requires c = omega (arith, open_some c.args.position.now c.requires, ap length c.open_columns-columns.ensures, ap length c.as_slice.ensures.value)

pub returns-clause-room : goal.returns-clause-room
returns-clause-room c =
    subst (λ column. has_room c.args.position.now column ≡ true)
    (ap (λ xs. get_or xs (c.args.state % length xs) 0) (sym c.open_columns-columns.ensures ∙ sym c.as_slice.ensures.value) ∙ sym c.column_at.ensures)
    (chosen_room c.args.position.now c.args.state c.requires)
