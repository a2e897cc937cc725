use Rattle.std.proofs.Common.{sym, ap, ◌∙◌}
use Rattle.std.specs.List.{slice_get}
use Rattle.rule_compat.proofs.Checked.{no_first, is_first, first_bare}
use Rattle.rule_compat.proofs.check.first_uncovered.Goals as goal

pub returns-in-empty : goal.returns-in-empty
returns-in-empty c =
    sym (no_first c.as_slice.result.now c.in-empty.len_below)
    ∙ ap (λ us. slice_get us 0) (c.as_slice.ensures.value ∙ c.squares.ensures)
    ∙ first_bare c.args.p.now c.args.zones.now c.empties.result c.owned_squares.result c.without-uncovered.result c.has_a_board.ensures.board c.empties.ensures
    c.owned_squares.ensures c.without-uncovered.ensures

pub returns-in-len1-up : goal.returns-in-len1-up
returns-in-len1-up c =
    sym (is_first c.as_slice.result.now c.first-item.result c.in-len1-up.len_at_least c.first-item.is)
    ∙ ap (λ us. slice_get us 0) (c.as_slice.ensures.value ∙ c.squares.ensures)
    ∙ first_bare c.args.p.now c.args.zones.now c.empties.result c.owned_squares.result c.without-uncovered.result c.has_a_board.ensures.board c.empties.ensures
    c.owned_squares.ensures c.without-uncovered.ensures
