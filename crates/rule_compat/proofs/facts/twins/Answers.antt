use Rattle.std.proofs.Common.{◌++◌, [], ◌∷◌, length, take, sym, ap, ◌∙◌, arith, lit<}
use Rattle.std.proofs.lemmas.List.{append-nil}
use Rattle.plan_rules.specs.Rules.{twin_of, as_list}
use Rattle.rule_compat.proofs.KeptLists.{more, twins_in, room_for_twin}
use Rattle.rule_compat.proofs.facts.twins.Goals as goal
use Rattle.rule_compat.proofs.facts.twins.Goals.{in-Some, in_default}

pub push-requires : goal.push-requires
push-requires c =
    let room = room_for_twin c.args.p.now c.args.list.now c.loop-instance.instance-index c.instance-item.result c.in-Some.twin c.has_a_board.ensures.board
    c.requires c.loop-instance-test.true c.instance-item.is
    (ap as_list (sym c.twin.ensures.value ∙ c.in-Some.is)) in
    (lit< tt, omega (arith, room, ap length c.loop-instance.invariant))

pub loop-instance-preserved : goal.loop-instance-preserved
loop-instance-preserved c =
    let before = twins_in (take c.loop-instance.instance-index c.args.list.now) in
    let gives = more (λ w. as_list (twin_of w)) c.args.list.now c.loop-instance.instance-index c.instance-item.result c.loop-instance-test.true
    c.instance-item.is in
    elim c.match-twin.branch [
      | in-Some w ↦
          ap (λ twins. twins.items) w.twins-is
          ∙ w.push.ensures.items
          ∙ ap (λ twins. twins ++ w.in-Some.twin ∷ []) c.loop-instance.invariant
          ∙ sym (gives ∙ ap (λ twin. before ++ as_list twin) (sym c.twin.ensures.value ∙ w.in-Some.is))
      | in_default w ↦
          ap (λ twins. twins.items) w.twins-is
          ∙ c.loop-instance.invariant
          ∙ sym (gives ∙ ap (λ twin. before ++ as_list twin) (sym c.twin.ensures.value ∙ w.in_default.is) ∙ append-nil before)
    ]
