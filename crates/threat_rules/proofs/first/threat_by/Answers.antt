use Rattle.std.proofs.Common.{sym, ap, ◌∙◌}
use Rattle.threat_rules.specs.Ascending.{ascends}
use Rattle.threat_rules.proofs.Pairings.{odd_ascends, by_group}
use Rattle.threat_rules.proofs.first.threat_by.Goals as goal

pub first_pairing-requires-clause-order : goal.first_pairing-requires-clause-order
first_pairing-requires-clause-order c =
    ap (ascends c.args.p.now) (c.as_slice.ensures.value ∙ c.odd_columns-columns.ensures)
    ∙ odd_ascends c.args.p.now c.in_ok-t.t c.has_a_board.ensures.board c.has_a_board.ensures.stacked

pub returns : goal.returns
returns c = by_group c.args.p.now c.args.group c.in_ok-t.t c.as_slice.result.now c.first_pairing.result (sym c.target.ensures ∙ c.in_ok-t.was)
    (c.as_slice.ensures.value ∙ c.odd_columns-columns.ensures) c.first_pairing.ensures
