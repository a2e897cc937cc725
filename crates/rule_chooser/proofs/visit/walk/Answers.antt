use Rattle.std.proofs.Common.{[], ◌++◌, sym, ap, ◌∙◌, arith, subst}
use Rattle.rule_compat.specs.Written.{written_list}
use Rattle.walk_rules.specs.Walk.{walk_from, choice_among}
use Rattle.rule_chooser.specs.Walked.{LeavesOpen}
use Rattle.rule_chooser.proofs.Visits.{none_left, goes_end, walk_going, opens_all}
use Rattle.rule_chooser.proofs.visit.walk.Goals as goal

pub returns-then-left-eq0-clause-found : goal.returns-then-left-eq0-clause-found
returns-then-left-eq0-clause-found c =
    walk_going c.args.p.now c.args.reach (sym c.is_plan_position.ensures ∙ c.if-not-is_plan_position.false)
    ∙ none_left c.args.p.now [] (omega (arith, c.if-left-eq0.true)) []

pub visit-requires-clause-set : goal.visit-requires-clause-set
visit-requires-clause-set c =
    subst (λ zs. LeavesOpen c.args.p.now (written_list zs) c.empties.result) (sym c.clear.ensures)
    (opens_all (sym c.is_plan_position.ensures ∙ c.if-not-is_plan_position.false) c.empties.ensures)

pub returns-clause-found : goal.returns-clause-found
returns-clause-found c =
    let p = c.args.p.now in
    walk_going p c.args.reach (sym c.is_plan_position.ensures ∙ c.if-not-is_plan_position.false)
    ∙ ap (λ zs. choice_among p c.args.reach (walk_from p (written_list zs) ++ [])) (sym c.clear.ensures)
    ∙ c.visit.ensures.found []
    ∙ goes_end p c.visit.new.left (written_list c.visit.new.list.items) c.visit.result
