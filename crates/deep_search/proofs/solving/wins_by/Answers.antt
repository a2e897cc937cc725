use Rattle.std.proofs.Common.{is_none, sym, ap, ◌∙◌}
use Rattle.std.proofs.lemmas.Bool.{and_from}
use Rattle.game_rules.specs.Position.{after_move, end_of, side_to_move}
use Rattle.game_rules.specs.Value.{win_of, same_end}
use Rattle.game_rules.proofs.Ends.{none_behind}
use Rattle.game_rules.proofs.Values.{value_at_end}
use Rattle.deep_search.proofs.Moves.{end_told}
use Rattle.deep_search.proofs.solving.wins_by.Goals as goal

pub ended_by-requires : goal.ended_by-requires
ended_by-requires c =
    none_behind c.args.position.now c.args.column c.after.ensures c.to_move-mover.ensures (and_from _ _ (ap is_none c.requires.going) c.requires.room)

pub returns-in-Some : goal.returns-in-Some
returns-in-Some c = λ told.
    let p = c.args.position.now in let mover = side_to_move p in let end = c.in-Some.end in
    ap (same_end (win_of mover)) (value_at_end (after_move p c.args.column) end (ap end_of (sym c.after.ensures) ∙ sym c.ended_by.ensures ∙ c.in-Some.is))
    ∙ sym (end_told c.eq.result c.to_move-mover.result mover c.win.result end c.eq.ensures c.win.ensures c.to_move-mover.ensures) ∙ told
