use Rattle.std.proofs.Common.{◌≡◌, not, is_none, sym, ap, ◌∙◌, subst, refl, arith}
use Rattle.std.proofs.lemmas.Bool.{and_from}
use Rattle.game_rules.specs.Position.{played}
use Rattle.game_rules.specs.Questions.{side_asked}
use Rattle.game_rules.proofs.Costs.{count_positive}
use Rattle.game_rules.proofs.Ends.{none_behind}
use Rattle.proof_text.specs.Lemma.{claim_for, ByAll}
use Rattle.proof_text.specs.Right.{HasReason}
use Rattle.deep_search.specs.Search.{version_for}
use Rattle.deep_search.specs.Planned.{solved_within}
use Rattle.deep_search.specs.Tables.{OnlyBelow}
use Rattle.deep_search.proofs.Tables.{fits_same}
use Rattle.deep_search.proofs.Plans.{plan_none}
use Rattle.deep_search.proofs.Moves.{spent_below, own_wins, left_decided, other_wins, left_tried, same_from_beq}
use Rattle.deep_search.proofs.Proving.{on_ok, solves_entered, solves_spent}
use Rattle.deep_search.proofs.Searching.{empty_after, order_after, deep_after, played_after, stop_is, starts, next_move, goes_past, goes_on, stops, decided}
use Rattle.deep_search.proofs.Searching.{closed}
use Rattle.deep_search.proofs.solving.+solve.Goals as goal
use Rattle.deep_search.proofs.solving.+solve.Goals.{solve_by_moves-then-has_room+in_ok-found+else-found-own, solve_by_moves-else-has_room}

-- ---- solve

pub solve-returns-in_default-clause-spent : goal.solve-returns-in_default-clause-spent
solve-returns-in_default-clause-spent g t c _ =
    omega (arith, c.in_default.ensures, count_positive (solved_within c.args.aim.now.reach) (side_asked c.args.aim.now.question) c.args.position.now)

pub solve-returns-in_default-clause-wrote : goal.solve-returns-in_default-clause-wrote
solve-returns-in_default-clause-wrote g t c root known along many fits = solves_spent c.args.position.now many fits

pub solve-returns-in-Some-closed_here-clause-left : goal.solve-returns-in-Some-closed_here-clause-left
solve-returns-in-Some-closed_here-clause-left g t c =
    on_ok c.in-Some-closed_here.found _
    (omega (arith, c.in-Some.ensures, count_positive (solved_within c.args.aim.now.reach) (side_asked c.args.aim.now.question) c.args.position.now))

pub solve-returns-clause-wrote : goal.solve-returns-clause-wrote
solve-returns-clause-wrote g t c root known along many fits =
    let open' = c.closed_here.ensures.open c.in_default-closed_here.is in let none = c.closed_here.ensures.none c.in_default-closed_here.is in
    solves_entered root c.args.position.now c.args.aim.now.question c.args.aim.now.reach
    (version_for c.args.aim.now.mirror) known _ _ _ _ c.solve_by_moves.result open'.same
    (ap g.O.Sink.written none.1)
    (c.solve_by_moves.ensures.wrote root known along (many ∙ sym (ap g.L.LemmaWriter.count none.0)) (fits_same c.args.table.now c.closed_here.new.table open'.same known fits))

-- ---- solve_after

pub solve_after-ended_by-ended-requires : goal.solve_after-ended_by-ended-requires
solve_after-ended_by-ended-requires g t c =
    none_behind c.args.position.now c.args.column c.after-next.ensures c.to_move.ensures (and_from _ _ (ap is_none c.requires.going) c.requires.open)

pub solve_after-solve-found-requires : goal.solve_after-solve-found-requires
solve_after-solve-found-requires g t c κs outlives =
    let p = c.args.position.now in let fewer = empty_after p c.args.column c.after-next.ensures c.requires.open in
    let in_order = order_after p c.args.column c.requires.order c.after-next.ensures in
    let deep = deep_after p c.args.column c.args.path.now.items c.after-next.ensures c.requires.open c.push.ensures.items c.requires.deep in
    (omega (arith, fewer), (outlives.0, (outlives.1, (c.ended_by-ended.ensures, (in_order, (deep, (c.requires.room, c.requires.entries)))))))

pub solve_after-returns-clause-below : goal.solve_after-returns-clause-below
solve_after-returns-clause-below g t c = subst (λ n. OnlyBelow n c.args.table.now c.solve-found.new.table) (empty_after c.args.position.now c.args.column
    c.after-next.ensures c.requires.open) c.solve-found.ensures.below

pub solve_after-returns-clause-wrote : goal.solve_after-returns-clause-wrote
solve_after-returns-clause-wrote g t c root known along many fits = rw (← c.after-next.ensures) (c.solve-found.ensures.wrote root known
    (played_after root c.args.position.now c.args.column c.args.path.now.items c.push.ensures.items c.after-next.ensures along c.requires.going
    c.requires.open) many fits)

-- ---- solve_by_moves

pub solve_by_moves-loop-column-init : goal.solve_by_moves-loop-column-init
solve_by_moves-loop-column-init g t c = starts c.requires.going c.requires.unsolved c.eq-own.ensures c.side.ensures c.to_move.ensures
    (c.as_slice-order.ensures.value ∙ c.requires.order) c.requires.entries refl

pub solve_by_moves-put_lemma-requires-clause-planned : goal.solve_by_moves-put_lemma-requires-clause-planned
solve_by_moves-put_lemma-requires-clause-planned g t c =
    sym (plan_none c.args.aim.now.reach (side_asked c.args.aim.now.question) c.args.position.now c.requires.unsolved)

pub solve_by_moves-put_lemma-requires-2-clause-planned : goal.solve_by_moves-put_lemma-requires-2-clause-planned
solve_by_moves-put_lemma-requires-2-clause-planned g t c =
    sym (plan_none c.args.aim.now.reach (side_asked c.args.aim.now.question) c.args.position.now c.requires.unsolved)

pub solve_by_moves-returns-in_err-found-clause-spent : goal.solve_by_moves-returns-in_err-found-clause-spent
solve_by_moves-returns-in_err-found-clause-spent g t c spent =
    let s = c.loop-column.invariant in
    let next = next_move c.loop-column-test.true c.column-item.is c.has_room.ensures c.if-has_room.true in
    spent_below s.asked s.tried next (c.solve_after.ensures.spent (c.in_err-found.was ∙ sym (stop_is c.from_residual.ensures.1) ∙ spent))

pub solve_by_moves-returns-in_err-found-clause-wrote : goal.solve_by_moves-returns-in_err-found-clause-wrote
solve_by_moves-returns-in_err-found-clause-wrote g t c root known along many fits =
    let next = next_move c.loop-column-test.true c.column-item.is c.has_room.ensures c.if-has_room.true in
    stops c.loop-column.invariant next c.solve_after.ensures.wrote c.in_err-found.was (stop_is c.from_residual.ensures.1) along many fits

pub solve_by_moves-put_lemma-requires-clause-true_now : goal.solve_by_moves-put_lemma-requires-clause-true_now
solve_by_moves-put_lemma-requires-clause-true_now g t c =
    let s = c.loop-column.invariant in
    let next = next_move c.loop-column-test.true c.column-item.is c.has_room.ensures c.if-has_room.true in
    own_wins s.asked s.tried next c.in_ok-found.ensures.answer (same_from_beq _ _ c.if-found-own.true)

pub solve_by_moves-returns-then-found-own-clause-left : goal.solve_by_moves-returns-then-found-own-clause-left
solve_by_moves-returns-then-found-own-clause-left g t c =
    let s = c.loop-column.invariant in
    let next = next_move c.loop-column-test.true c.column-item.is c.has_room.ensures c.if-has_room.true in
    on_ok c.put_lemma.result _
    (left_decided s.asked s.tried next c.in_ok-found.ensures.answer _ (same_from_beq _ _ c.if-found-own.true) c.in_ok-found.ensures.left)

pub solve_by_moves-returns-then-found-own-clause-wrote : goal.solve_by_moves-returns-then-found-own-clause-wrote
solve_by_moves-returns-then-found-own-clause-wrote g t c root known along many fits =
    let s = c.loop-column.invariant in
    let next = next_move c.loop-column-test.true c.column-item.is c.has_room.ensures c.if-has_room.true in
    let back : c.deref.result.now ≡ c.args.path.now.items = c.deref.ensures.0 ∙ c.solve_after.ensures.path ∙ s.same_path in
    decided s next c.solve_after.ensures.wrote c.in_ok-found.was c.if-found-own.true along many fits
    (λ also counted fits reason. c.put_lemma.ensures.wrote root also (ap (played root) back ∙ along) counted fits reason)

pub solve_by_moves-put_lemma-requires-2-clause-true_now : goal.solve_by_moves-put_lemma-requires-2-clause-true_now
solve_by_moves-put_lemma-requires-2-clause-true_now g t c = let s = c.loop-column.invariant in other_wins s.asked s.tried c.loop-column-test.false

pub solve_by_moves-returns-clause-left : goal.solve_by_moves-returns-clause-left
solve_by_moves-returns-clause-left g t c =
    let s = c.loop-column.invariant in on_ok c.put_lemma-2.result _ (left_tried s.asked s.tried c.loop-column-test.false)

pub solve_by_moves-returns-clause-wrote : goal.solve_by_moves-returns-clause-wrote
solve_by_moves-returns-clause-wrote g t c root known along many fits =
    let s = c.loop-column.invariant in
    let back : c.deref-2.result.now ≡ c.args.path.now.items = c.deref-2.ensures.0 ∙ s.same_path in
    closed s c.loop-column-test.false along many fits (λ also counted fits reason. c.put_lemma-2.ensures.wrote root also (ap (played root) back
    ∙ along) counted fits
    (subst (λ cites. HasReason also c.args.position.now (claim_for (side_asked c.args.aim.now.question) (not c.eq-own.result)) (ByAll cites))
    (sym c.cites_from-cites.ensures) reason))

pub solve_by_moves-loop-column-preserved : goal.solve_by_moves-loop-column-preserved
solve_by_moves-loop-column-preserved g t c = elim c.if-has_room.branch [
  | solve_by_moves-then-has_room+in_ok-found+else-found-own w ↦
      let next = next_move c.loop-column-test.true c.column-item.is c.has_room.ensures w.if-has_room.true in
      rw (w.path-is, w.budget-is, w.table-is, w.lemmas-is, w.out-is, w.numbers-is) (goes_on c.loop-column.invariant next w.solve_after.ensures.wrote
      w.in_ok-found.was w.in_ok-found.ensures.answer w.if-found-own.false w.in_ok-found.ensures.fell w.in_ok-found.ensures.left w.in_ok-found.ensures.searched
      w.solve_after.ensures.path w.solve_after.ensures.below w.solve_after.ensures.entries w.index.ensures.value w.index.ensures.within)
  | solve_by_moves-else-has_room w ↦ rw (w.path-is, w.budget-is, w.table-is, w.lemmas-is, w.out-is, w.numbers-is)
      (goes_past c.loop-column.invariant c.loop-column-test.true c.column-item.is c.has_room.ensures w.if-has_room.false)
]
