use Rattle.std.proofs.Common.{◌+◌, ◌++◌, [], ◌∷◌, cond, length, take, sym, ap, ◌∙◌, arith, lit<}
use Rattle.std.specs.Option.{option_map}
use Rattle.std.proofs.lemmas.List.{append-nil}
use Rattle.plan_rules.specs.Zones.{zones_from}
use Rattle.plan_rules.proofs.Places.{two_within}
use Rattle.rule_compat.proofs.Gathered.{stand, owns, clash_step, zones_step, standing_step, room_for_one}
use Rattle.rule_compat.proofs.members.gather.Goals as goal
use Rattle.rule_compat.proofs.members.gather.Goals.{then-owns_zone+in_default, else-owns_zone}

pub least_two-requires-clause-two : goal.least_two-requires-clause-two
least_two-requires-clause-two c =
    let l = c.loop-index.invariant in
    clash_step c.args.list.now c.loop-index.index c.index-list-index.result c.loop-index-test.true c.index-list-index.is l.none c.first_clash.ensures
    c.of-zone.ensures c.as_slice.ensures.value l.kept ∙ ap (option_map (λ k. (k, c.loop-index.index + 1))) c.in-Some.is

pub least_two-requires-clause-order : goal.least_two-requires-clause-order
least_two-requires-clause-order c =
    (two_within stand 1 (take (c.loop-index.index + 1) c.args.list.now) (c.in-Some.first, c.loop-index.index + 1) (least_two-requires-clause-two c)).1

pub push-requires : goal.push-requires
push-requires c =
    let l = c.loop-index.invariant in let i = c.loop-index.index in let x = c.index-list-index.result in
    let none = clash_step c.args.list.now i x c.loop-index-test.true c.index-list-index.is l.none c.first_clash.ensures c.of-zone.ensures
    c.as_slice.ensures.value l.kept ∙ ap (option_map (λ k. (k, i + 1))) c.in_default.is in
    let room = room_for_one c.args.p.now c.args.list.now i x c.has_a_board.ensures.board c.requires.fitting c.loop-index-test.true c.index-list-index.is none
    (sym c.owns_zone.ensures ∙ c.if-owns_zone.true) in
    (lit< tt, omega (arith, room, ap length l.kept))

pub loop-index-preserved : goal.loop-index-preserved
loop-index-preserved c =
    let l = c.loop-index.invariant in let i = c.loop-index.index in let x = c.index-list-index.result in let list = c.args.list.now in
    let before = zones_from owns 1 (take i list) in
    let more = zones_step list i x c.loop-index-test.true c.index-list-index.is in
    elim c.if-owns_zone.branch [
      | then-owns_zone+in_default w ↦ record {
        none = clash_step list i x c.loop-index-test.true c.index-list-index.is l.none w.first_clash.ensures w.of-zone.ensures w.as_slice.ensures.value l.kept
            ∙ ap (option_map (λ k. (k, i + 1))) w.in_default.is;
        kept =
            ap (λ zones. zones.items) w.zones-is
            ∙ w.push.ensures.items
            ∙ ap (λ zone. c.loop-index.zones.items ++ zone ∷ []) w.of-zone.ensures
            ∙ ap (λ zones. zones ++ (i + 1, x) ∷ []) l.kept
            ∙ sym (more ∙ ap (λ b. before ++ cond b ((i + 1, x) ∷ []) []) (sym c.owns_zone.ensures ∙ w.if-owns_zone.true));
      }
      | else-owns_zone w ↦ record {
        none = standing_step list i x c.loop-index-test.true c.index-list-index.is l.none (sym c.owns_zone.ensures ∙ w.if-owns_zone.false);
        kept =
            ap (λ zones. zones.items) w.zones-is
            ∙ l.kept
            ∙ sym (more ∙ ap (λ b. before ++ cond b ((i + 1, x) ∷ []) []) (sym c.owns_zone.ensures ∙ w.if-owns_zone.false) ∙ append-nil before);
      }
    ]
