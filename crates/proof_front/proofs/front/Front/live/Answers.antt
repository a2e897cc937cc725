use Rattle.std.proofs.Common.{◌≡◌, subst, ◌∙◌}
use Rattle.front_rules.specs.Front.{node_count}
use Rattle.proof_front.specs.Fronts.{tree_of}
use Rattle.proof_front.proofs.Root.{live_is}
use Rattle.proof_front.proofs.front.Front.live.Goals as goal

pub returns-clause-value : goal.returns-clause-value
returns-clause-value c = subst (λ f. c.live.result ≡ node_count (tree_of f)) c.self.view_is (c.live.ensures.value ∙ live_is c.self.invariant)
