use Rattle.std.proofs.Common.{◌+◌, ◌≤◌, ◌++◌, List, length, sym, ap, ◌∙◌, arith}
use Rattle.std.specs.List.{flat_map}
use Rattle.std.proofs.lemmas.List.{take_all}
use Rattle.plan_rules.specs.Rules.{RuleInstance}
use Rattle.plan_rules.specs.Listing.{playable_squares, each_with, fitting}
use Rattle.plan_rules.proofs.Fitting.{one_more, room_for_one, fitting_pairs}
use Rattle.plan_rules.proofs.SpecialSites.{special_of, special_groups}
use Rattle.group_rules.proofs.specialbefore.push_specialbefores.Goals as goal

pub push_of_group-requires-clause-room : goal.push_of_group-requires-clause-room
push_of_group-requires-clause-room g c =
    let p = c.args.p.now in let pairs = each_with (playable_squares p) (playable_squares p) in let gs = c.as_slice-g-items.result.now in
    let adds : _ → List RuleInstance = λ line. fitting (special_of line) p pairs in
    let whole = special_groups p gs (c.as_slice-g-items.ensures.value ∙ c.groups-groups.ensures ∙ c.free_for.ensures.in_order) in
    let room : length (g.T.Taker.taken c.args.taker.now) + length (flat_map adds gs) ≤ g.T.Taker.room c.loop-g.taker
    = omega (arith, c.requires, ap length (fitting_pairs (λ three. special_of three.0 three.1) p gs pairs), ap length whole, c.loop-g.invariant.1) in
    room_for_one adds (g.T.Taker.taken c.args.taker.now) (g.T.Taker.taken c.loop-g.taker) gs c.loop-g.g-index c.g-item.result (g.T.Taker.room c.loop-g.taker)
    c.loop-g-test.true c.g-item.is c.loop-g.invariant.0 room

pub loop-g-preserved : goal.loop-g-preserved
loop-g-preserved g c =
    let p = c.args.p.now in let pairs = each_with (playable_squares p) (playable_squares p) in
    let adds : _ → List RuleInstance = λ line. fitting (special_of line) p pairs in (
      c.push_of_group.ensures.taken
          ∙ one_more adds (g.T.Taker.taken c.args.taker.now) (g.T.Taker.taken c.loop-g.taker) c.as_slice-g-items.result.now c.loop-g.g-index c.g-item.result
          c.loop-g-test.true c.g-item.is c.loop-g.invariant.0,
      c.push_of_group.ensures.room ∙ c.loop-g.invariant.1,
    )

pub returns-clause-taken : goal.returns-clause-taken
returns-clause-taken g c =
    let p = c.args.p.now in let pairs = each_with (playable_squares p) (playable_squares p) in let gs = c.as_slice-g-items.result.now in
    let whole = special_groups p gs (c.as_slice-g-items.ensures.value ∙ c.groups-groups.ensures ∙ c.free_for.ensures.in_order) in
    c.loop-g.invariant.0
    ∙ ap (λ xs. g.T.Taker.taken c.args.taker.now ++ flat_map (λ line. fitting (special_of line) p pairs) xs) (take_all c.loop-g.g-index gs c.loop-g-test.false)
    ∙ ap (λ ws. g.T.Taker.taken c.args.taker.now ++ ws) (sym (fitting_pairs (λ three. special_of three.0 three.1) p gs pairs) ∙ whole)
