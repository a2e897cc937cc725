use Rattle.std.proofs.Common.{sym, ◌∙◌, arith, ap, lit<}
use Rattle.rule_chooser.proofs.Visits.{none_left, gives, gives_none, goes_next}
use Rattle.rule_chooser.proofs.NextSets.{begins, ends, tries, follows, further, passes_by, opens_at, has_room, smaller, opens_next, decided, tried}
use Rattle.rule_chooser.proofs.visit.+sets.Goals as goal
use Rattle.rule_chooser.proofs.visit.+sets.Goals.{visit_next-then-may_follow+in-NoPlan, visit_next-else-may_follow}

pub visit-returns-in_default-clause-found : goal.visit-returns-in_default-clause-found
visit-returns-in_default-clause-found t c rest = none_left c.args.p.now _ (omega (arith, c.in_default.ensures)) rest

pub visit-returns-then-is_answered-clause-found : goal.visit-returns-then-is_answered-clause-found
visit-returns-then-is_answered-clause-found t c rest = gives _ c.requires.set c.has_a_board.ensures.board c.in-Some.less
    (omega (arith, c.in-Some.ensures)) rest (sym c.first.ensures ∙ c.in_default-first.is) c.as_slice.ensures.value c.is_answered.ensures.answered
    c.if-is_answered.true c.is_answered.ensures.list

pub visit-returns-else-is_answered-clause-found : goal.visit-returns-else-is_answered-clause-found
visit-returns-else-is_answered-clause-found t c rest = gives_none _ c.requires.set c.has_a_board.ensures.board c.in-Some.less
    (omega (arith, c.in-Some.ensures)) rest (sym c.first.ensures ∙ c.in_default-first.is) c.as_slice.ensures.value c.is_answered.ensures.answered
    c.if-is_answered.false

pub visit-visit_next-requires : goal.visit-visit_next-requires
visit-visit_next-requires t c = (omega (arith, c.decreases), (c.requires.ground, opens_at c.requires.set c.first.ensures c.in-Some-first.is))

pub visit-returns-clause-found : goal.visit-returns-clause-found
visit-returns-clause-found t c rest = goes_next _ c.requires.set c.has_a_board.ensures.board c.in-Some.less (omega (arith, c.in-Some.ensures)) rest
    (sym c.first.ensures ∙ c.in-Some-first.is) ∙ c.visit_next.ensures.found rest

pub visit_next-zones-init : goal.visit_next-zones-init
visit_next-zones-init t c = begins _ c.requires.ground c.requires.set c.has_a_board.ensures.board c.as_slice-zones.ensures.value c.first_with-index.ensures

pub visit_next-returns-clause-found : goal.visit_next-returns-clause-found
visit_next-returns-clause-found t c rest = ends rest c.zones.invariant (omega (arith, c.zones-test.false))

pub visit_next-push-requires : goal.visit_next-push-requires
visit_next-push-requires t c =
    let f = follows c.zones.invariant c.zones-test.true c.index-zones-index.is c.as_slice.ensures.value c.may_follow.ensures c.if-may_follow.true in
    (lit< tt, has_room f)

pub visit_next-visit-requires : goal.visit_next-visit-requires
visit_next-visit-requires t c =
    let f = follows c.zones.invariant c.zones-test.true c.index-zones-index.is c.as_slice.ensures.value c.may_follow.ensures c.if-may_follow.true in
    let low = smaller f c.push.ensures.items in let leaves = opens_next f c.push.ensures.items c.squares.ensures c.without-still.ensures in
    (omega (arith, low, c.decreases), (c.requires.ground, leaves))

pub visit_next-zones-smaller : goal.visit_next-zones-smaller
visit_next-zones-smaller t c = further (tries c.zones.invariant c.zones-test.true c.index-zones-index.is) c.next-index.ensures

pub visit_next-returns-in_default-clause-found : goal.visit_next-returns-in_default-clause-found
visit_next-returns-in_default-clause-found t c rest =
    decided (follows c.zones.invariant c.zones-test.true c.index-zones-index.is c.as_slice.ensures.value c.may_follow.ensures c.if-may_follow.true)
    c.push.ensures.items _ _ _ c.visit.ensures.found rest c.in_default.not-NoPlan

pub visit_next-zones-preserved : goal.visit_next-zones-preserved
visit_next-zones-preserved t c = elim c.if-may_follow.branch [
  | visit_next-then-may_follow+in-NoPlan w ↦
      tried (follows c.zones.invariant c.zones-test.true c.index-zones-index.is c.as_slice.ensures.value c.may_follow.ensures w.if-may_follow.true)
      w.push.ensures.items _ _ _ w.visit.ensures.found c.next-index.ensures w.in-NoPlan.is w.left-is w.visit.ensures.set w.pop.ensures.rest
      (ap (λ v. v.items) w.set-is)
  | visit_next-else-may_follow w ↦ passes_by c.zones.invariant c.zones-test.true c.index-zones-index.is c.as_slice.ensures.value c.may_follow.ensures
      w.if-may_follow.false c.next-index.ensures w.left-is (ap (λ v. v.items) w.set-is)
]
