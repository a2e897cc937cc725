use Rattle.std.proofs.Common.{◌≡◌, true, false, refl, subst}
use Rattle.front_rules.specs.Front.{root_number}
use Rattle.proof_front.specs.Fronts.{tree_of}
use Rattle.proof_front.proofs.Root.{number_is}
use Rattle.proof_front.proofs.front.Front.numbers.Goals as goal

pub returns : goal.returns
returns c =
    let n = c.get.result.now in
    subst (λ f. (n.numbers.proof, n.numbers.disproof) ≡ (root_number f.side true (tree_of f), root_number f.side false (tree_of f))) c.self.view_is
    (rw (number_is c.self.invariant n c.get.ensures true, number_is c.self.invariant n c.get.ensures false) refl)
