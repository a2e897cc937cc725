use Rattle.std.proofs.Common.{◌+◌, not, sym, ap, ◌∙◌}
use Rattle.plan_rules.specs.Rules.{fits}
use Rattle.plan_rules.proofs.Places.{place_here, place_next}
use Rattle.rule_compat.specs.Written.{written, written_list}
use Rattle.rule_compat.proofs.WrittenLists.{member_at}
use Rattle.rule_compat.proofs.members.first_misfit.Goals as goal

pub returns-then-not-fits : goal.returns-then-not-fits
returns-then-not-fits c =
    let x = c.index-list-index.result in
    let i = c.loop-index.index in
    let at = member_at c.args.list.now i x c.loop-index-test.true c.index-list-index.is in
    let misfit = ap not (sym c.fits.ensures ∙ c.if-not-fits.true) in
    sym (place_here (λ w. not (fits w c.args.p.now)) (i + 1) (written_list c.args.list.now) i (written x) at misfit) ∙ c.loop-index.invariant

pub loop-index-preserved : goal.loop-index-preserved
loop-index-preserved c =
    let x = c.index-list-index.result in
    let i = c.loop-index.index in
    let at = member_at c.args.list.now i x c.loop-index-test.true c.index-list-index.is in
    let fitting = ap not (sym c.fits.ensures ∙ c.if-not-fits.false) in
    sym (place_next (λ w. not (fits w c.args.p.now)) (i + 1) (written_list c.args.list.now) i (written x) at fitting) ∙ c.loop-index.invariant
