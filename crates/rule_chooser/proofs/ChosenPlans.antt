-- A list that is chosen passes the check of a plan.
use Rattle.std.proofs.Common.{◌≡◌, ℕ, true, is_none, List, Result, Ok, Err, IsOk, refl, ap, ◌∙◌}
use Rattle.game_rules.specs.Position.{Position}
use Rattle.plan_rules.specs.Refusal.{plan_refusal}
use Rattle.plan_rules.proofs.Refusals.{refusal_is}
use Rattle.plan_rules.specs.Rules.{RuleInstance}
use Rattle.rule_compat.specs.declared.fault.PlanFault.{PlanFault}
use Rattle.rule_compat.specs.Faults.{refusal_of}
use Rattle.walk_rules.specs.Walk.{gave, choice_of}
use Rattle.walk_rules.proofs.Choices.{choice_words}

pub is_accepted : {X : Type 0} (p : Position) (k : ℕ) (ws : List RuleInstance) (result : Result X PlanFault) → refusal_of result ≡ plan_refusal p ws
    → choice_of p k ≡ gave ws → IsOk result
is_accepted p k ws result told chosen = passes result (ap is_none told ∙ refusal_is p ws ∙ ((choice_words p k (gave ws)).0 chosen).is_plan_now)
  where
    passes : {X : Type 0} (result : Result X PlanFault) → is_none (refusal_of result) ≡ true → IsOk result
    passes (Ok x) h = refl
    passes (Err fault) h = absurd (cc h)
