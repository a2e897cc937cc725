use Rattle.std.proofs.Common.{◌≡◌, ◌≤◌, length, None, refl, ap, ◌∙◌, arith}
use Rattle.std.proofs.lemmas.List.{length-replicate}
use Rattle.front_rules.specs.Front.{front}
use Rattle.proof_front.proofs.Root.{none_owned, same_slots, front_begins, tree_begins}
use Rattle.proof_front.proofs.front.Front.new.Goals as goal

pub invariant_of-result : goal.invariant_of-result
invariant_of-result c =
    let owned = none_owned c.args.slots c.in_ok-pool.ensures.empty c.in_ok-pool.ensures.none in
    let long : length c.in_ok-pool.pool ≡ c.args.slots = ap length c.in_ok-pool.ensures.empty ∙ length-replicate c.args.slots None in
    let few : length c.in_ok-pool.pool ≤ 1000000 = omega (arith, long, c.requires.few) in
    front_begins c.side.result c.args.reach c.args.root.now c.in_ok-pool.pool c.place.new.self c.place.result c.unwrap-root.result c.leaf.result owned few
    c.unwrap-root.ensures c.leaf.ensures c.place.ensures.within c.place.ensures.free c.place.ensures.placed c.place.ensures.count

pub returns : goal.returns
returns c =
    let owned = none_owned c.args.slots c.in_ok-pool.ensures.empty c.in_ok-pool.ensures.none in
    let long : length c.in_ok-pool.pool ≡ c.args.slots = ap length c.in_ok-pool.ensures.empty ∙ length-replicate c.args.slots None in
    let few : length c.in_ok-pool.pool ≤ 1000000 = omega (arith, long, c.requires.few) in
    record {
      tree = tree_begins c.side.result c.args.reach c.args.root.now c.in_ok-pool.pool c.place.new.self c.place.result c.unwrap-root.result c.leaf.result owned
          few c.unwrap-root.ensures c.leaf.ensures c.place.ensures.within c.place.ensures.free c.place.ensures.placed c.place.ensures.count
          ∙ ap (λ side. front c.args.root.now side c.args.reach 0) c.side.ensures;
      same_side = c.side.ensures;
      same_reach = refl;
      same_slots = same_slots c.side.result c.args.reach c.args.root.now c.in_ok-pool.pool c.place.new.self c.place.result c.unwrap-root.result c.leaf.result
          owned few c.unwrap-root.ensures c.leaf.ensures c.place.ensures.within c.place.ensures.free c.place.ensures.placed c.place.ensures.count ∙ long;
    }
