use Rattle.std.proofs.Common.{◌≡◌, true, not, is_none, sym, ap, ◌∙◌}
use Rattle.std.proofs.lemmas.Bool.{and_from}
use Rattle.game_rules.specs.Position.{end_of, is_legal}
use Rattle.game_rules.proofs.Ends.{none_behind}
use Rattle.cert_checker.proofs.trail.Reached.after.Goals as goal

pub ended_by-ended-requires : goal.ended_by-ended-requires
ended_by-ended-requires c =
    let p = c.self.inside.position in
    let going : is_none (end_of p) ≡ true = ap is_none (sym c.self.invariant) ∙ ap not (c.is_none.ensures ∙ ap not c.if-is_none.true) in
    let legal : is_legal p c.args.column ≡ true = and_from _ _ going (sym c.has_room.ensures ∙ c.if-has_room.true) in
    none_behind p c.args.column c.after-position.ensures c.to_move.ensures legal
