use Rattle.std.proofs.Common.{sym, ◌∙◌}
use Rattle.rule_chooser.proofs.StandingFirst.{vertical_found, vertical_new}
use Rattle.rule_chooser.proofs.standing.first_vertical.Goals as goal

pub returns-in_err-first : goal.returns-in_err-first
returns-in_err-first c =
    rw c.from_residual.ensures
    (sym c.in_err-first.was ∙ c.first.ensures
    ∙ vertical_found c.args.p.now c.args.kept.now c.args.empty c.size-size.ensures.board c.requires c.lowered.result c.intersection-both.result
    c.intersection.result c.odd_rows.result c.without-squares.result
    c.lowered.ensures c.intersection-both.ensures c.intersection.ensures c.odd_rows.ensures c.without-squares.ensures)

pub returns : goal.returns
returns c =
    c.new.ensures.value
    ∙ vertical_new c.args.p.now c.args.kept.now c.args.empty c.size-size.result c.in_ok-first.field-0 c.size-size.ensures.value
    (sym (vertical_found c.args.p.now c.args.kept.now c.args.empty c.size-size.ensures.board c.requires c.lowered.result c.intersection-both.result
    c.intersection.result c.odd_rows.result c.without-squares.result
    c.lowered.ensures c.intersection-both.ensures c.intersection.ensures c.odd_rows.ensures c.without-squares.ensures) ∙ sym c.first.ensures
    ∙ c.in_ok-first.was)
