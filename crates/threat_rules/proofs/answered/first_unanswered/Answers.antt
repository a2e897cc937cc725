use Rattle.std.proofs.Common.{not, sym, ap, ◌∙◌, refl, length}
use Rattle.std.specs.List.{find}
use Rattle.std.proofs.lemmas.Option.{slice_get_read}
use Rattle.std.proofs.Math.ListN.{drop_of_length-le}
use Rattle.plan_rules.proofs.Places.{find_here, find_next}
use Rattle.threat_rules.proofs.SafeSets.{is_bare, bare_is, first_open}
use Rattle.threat_rules.proofs.answered.first_unanswered.Goals as goal

pub returns-then-not-is_covered : goal.returns-then-not-is_covered
returns-then-not-is_covered c =
    let p = c.args.p.now in let t = c.args.t in let xs = c.args.pairs.now in let gs = c.as_slice-g-items.result.now in
    let at = slice_get_read gs (length gs) c.loop-g.g-index c.g-item.result refl c.loop-g-test.true c.g-item.is in
    sym (find_here (is_bare p t xs) gs c.loop-g.g-index c.g-item.result at
    (sym (bare_is p t xs c.g-item.result c.safe_squares-safe.result c.safe_squares-safe.ensures)
    ∙ ap not (sym c.is_covered.ensures ∙ c.if-not-is_covered.true)))
    ∙ c.loop-g.invariant
    ∙ first_open p t xs gs (c.as_slice-g-items.ensures.value ∙ c.groups-groups.ensures ∙ c.free_for.ensures.in_order)

pub loop-g-preserved : goal.loop-g-preserved
loop-g-preserved c =
    let p = c.args.p.now in let t = c.args.t in let xs = c.args.pairs.now in let gs = c.as_slice-g-items.result.now in
    let at = slice_get_read gs (length gs) c.loop-g.g-index c.g-item.result refl c.loop-g-test.true c.g-item.is in
    sym (find_next (is_bare p t xs) gs c.loop-g.g-index c.g-item.result at
    (sym (bare_is p t xs c.g-item.result c.safe_squares-safe.result c.safe_squares-safe.ensures)
    ∙ ap not (sym c.is_covered.ensures ∙ c.if-not-is_covered.false)))
    ∙ c.loop-g.invariant

pub returns : goal.returns
returns c =
    let p = c.args.p.now in let t = c.args.t in let xs = c.args.pairs.now in let gs = c.as_slice-g-items.result.now in
    ap (find (is_bare p t xs)) (sym (drop_of_length-le gs c.loop-g-test.false))
    ∙ c.loop-g.invariant
    ∙ first_open p t xs gs (c.as_slice-g-items.ensures.value ∙ c.groups-groups.ensures ∙ c.free_for.ensures.in_order)
