use Rattle.std.proofs.Common.{◌≡◌, true, false, [], refl, sym, ap, subst, ◌∙◌, inl, inr}
use Rattle.front_rules.specs.Front.{planned, grown}
use Rattle.front_rules.specs.declared.LeafVerdict.TheVariants.{Unsettled, Yes, No}
use Rattle.proof_front.specs.Fronts.{tree_of, slot_count, IsAnswer}
use Rattle.proof_front.specs.declared.front.Grown.TheVariants as grows
use Rattle.proof_front.specs.declared.growing.Step.TheVariants as steps
use Rattle.proof_front.proofs.Root.{answer_of, says, asked_root, front_kept, expanded_not_full, grown_after, front_more}
use Rattle.proof_front.proofs.front.Front.grow.Goals as goal
use Rattle.proof_front.proofs.front.Front.grow.Goals.{in-Full, in-Same}

answers : (c : goal.Joined-grow_in) → c.match-grow_in.result ≡ answer_of Unsettled c.grow_in.result
answers c =
    elim c.match-grow_in.branch [
      | in-Full w ↦ w.result-is ∙ ap (answer_of Unsettled) (sym w.in-Full.is)
      | in-Same w ↦ w.result-is ∙ elim w.in-Same.is [ inl same ↦ ap (answer_of Unsettled) (sym same) | inr other ↦ ap (answer_of Unsettled) (sym other) ]
    ]

pub grow_in-requires-clause-row : goal.grow_in-requires-clause-row
grow_in-requires-clause-row c = asked_root c.self.invariant c.get.result.now c.get.ensures (sym c.verdict.ensures ∙ c.in-Unsettled.is)

pub invariant_of-self : goal.invariant_of-self
invariant_of-self c =
    let f = c.self.invariant in
    front_kept f c.get.result.now c.get.ensures (planned c.self.inside.asked.reach) c.grow_in.ensures.same c.grow_in.result c.grow_in.ensures.kept
    (c.grow_in.ensures.row f.tree [] f.lies).grown

pub returns-in-Yes-clause-answer : goal.returns-in-Yes-clause-answer
returns-in-Yes-clause-answer c =
    subst (λ f. IsAnswer f (grows.Settled true)) c.self.view_is
    (says c.self.invariant c.get.result.now c.get.ensures Yes (sym c.in-Yes.is ∙ c.verdict.ensures) steps.Same _ refl (λ same. cc))

pub returns-in-No-clause-answer : goal.returns-in-No-clause-answer
returns-in-No-clause-answer c =
    subst (λ f. IsAnswer f (grows.Settled false)) c.self.view_is
    (says c.self.invariant c.get.result.now c.get.ensures No (sym c.in-No.is ∙ c.verdict.ensures) steps.Same _ refl (λ same. cc))

pub returns-after-grow_in-clause-answer : goal.returns-after-grow_in-clause-answer
returns-after-grow_in-clause-answer c =
    let f = c.self.invariant in
    subst (λ state. IsAnswer state c.match-grow_in.result) c.self.view_is
    (says f c.get.result.now c.get.ensures Unsettled (sym c.in-Unsettled.is ∙ c.verdict.ensures) c.grow_in.result c.match-grow_in.result (answers c)
    (λ same. (c.grow_in.ensures.row f.tree [] f.lies).full))

pub returns-after-grow_in-clause-expanded : goal.returns-after-grow_in-clause-expanded
returns-after-grow_in-clause-expanded c expanded =
    let f = c.self.invariant in
    let grew = (c.grow_in.ensures.row f.tree [] f.lies).grown (expanded_not_full c.grow_in.result (sym (answers c) ∙ expanded)) in
    grown_after f c.get.result.now c.get.ensures (planned c.self.inside.asked.reach) grew
    ∙ ap (λ state. grown state.side (planned state.reach) (tree_of state)) c.self.view_is

pub returns-after-grow_in-clause-front : goal.returns-after-grow_in-clause-front
returns-after-grow_in-clause-front c expanded p n is =
    let here = c.args.self.now in
    record {
      tree = returns-after-grow_in-clause-expanded c expanded ∙ (ap (grown here.side (planned here.reach)) is.tree ∙ sym (front_more p here.side here.reach n));
      same_side = ap (λ state. state.side) c.self.view_is;
      same_reach = ap (λ state. state.reach) c.self.view_is;
      same_slots = c.grow_in.ensures.same ∙ ap slot_count c.self.view_is;
    }
