use Rattle.std.proofs.Common.{◌≤◌, [], length, ap, ◌∙◌, arith}
use Rattle.front_rules.specs.Front.{front}
use Rattle.game_rules.specs.Questions.{side_asked}
use Rattle.proof_front.specs.Fronts.{slot_count}
use Rattle.proof_front.proofs.Root.{same_slots, front_begins, tree_begins}
use Rattle.proof_front.proofs.front.Front.restart.Goals as goal

pub invariant_of-self : goal.invariant_of-self
invariant_of-self c =
    let owned = c.free_row.ensures.freed c.self.inside.asked.side c.self.invariant.tree [] c.self.invariant.lies in
    let few : length c.free_row.new.pool ≤ 1000000 = omega (arith, c.free_row.ensures.same, c.self.invariant.few) in
    front_begins c.side-self-inside.result c.self.inside.asked.reach c.args.root.now c.free_row.new.pool c.place.new.self c.place.result
    c.unwrap-self-inside.result c.leaf.result owned few c.unwrap-self-inside.ensures c.leaf.ensures c.place.ensures.within c.place.ensures.free
    c.place.ensures.placed c.place.ensures.count

pub returns : goal.returns
returns c =
    let owned = c.free_row.ensures.freed c.self.inside.asked.side c.self.invariant.tree [] c.self.invariant.lies in
    let few : length c.free_row.new.pool ≤ 1000000 = omega (arith, c.free_row.ensures.same, c.self.invariant.few) in
    record {
      tree = tree_begins c.side-self-inside.result c.self.inside.asked.reach c.args.root.now c.free_row.new.pool c.place.new.self c.place.result
          c.unwrap-self-inside.result c.leaf.result owned few c.unwrap-self-inside.ensures c.leaf.ensures c.place.ensures.within c.place.ensures.free
          c.place.ensures.placed c.place.ensures.count ∙ (ap (λ side. front c.args.root.now side c.self.inside.asked.reach 0) c.side-self-inside.ensures
          ∙ ap (λ f. front c.args.root.now (side_asked c.args.question) f.reach 0) c.self.view_is);
      same_side = c.side-self-inside.ensures;
      same_reach = ap (λ f. f.reach) c.self.view_is;
      same_slots = same_slots c.side-self-inside.result c.self.inside.asked.reach c.args.root.now c.free_row.new.pool c.place.new.self c.place.result
          c.unwrap-self-inside.result c.leaf.result owned few c.unwrap-self-inside.ensures c.leaf.ensures c.place.ensures.within c.place.ensures.free
          c.place.ensures.placed c.place.ensures.count ∙ (c.free_row.ensures.same ∙ ap slot_count c.self.view_is);
    }
