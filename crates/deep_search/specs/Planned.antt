-- Where a search answers without a move, and which lemmas rest on a plan.
use Rattle.std.specs.Prelude.{◌≡◌, ℕ, Bool, false, List, Option, Some, None, IfSome}
use Rattle.std.specs.List.{AllByRecursion}
use Rattle.game_rules.specs.Position.{Position, played}
use Rattle.game_rules.specs.declared.Side.{Side}
use Rattle.game_rules.specs.declared.Side.TheVariants.{White, Black}
use Rattle.plan_rules.specs.Rules.{RuleInstance}
use Rattle.proof_text.specs.Lemma.{claim_side, Reason, ByEnd, ByOne, ByAll, ByPlan, ByMirror, Lemma}
use Rattle.walk_rules.specs.Walk.{solved, Chosen, gave, no_plan, spent, choice_of}

-- Where White is asked about, a position at which a plan is chosen among the first k sets answers the question; where
-- Black is, none does.
abbrev pub solved_within : ℕ → Side → Position → Bool
solved_within k White p = solved p k
solved_within k Black p = false

-- the plan that is chosen, if any
abbrev pub chosen_plan : Chosen → Option (List RuleInstance)
chosen_plan (gave ws) = Some ws
chosen_plan no_plan = None
chosen_plan spent = None

abbrev pub plan_for : ℕ → Side → Position → Option (List RuleInstance)
plan_for k White p = chosen_plan (choice_of p k)
plan_for k Black p = None

-- the plan that a lemma rests on, if any
abbrev pub plan_in : Reason → Option (List RuleInstance)
plan_in ByEnd = None
plan_in (ByOne cite) = None
plan_in (ByAll cites) = None
plan_in (ByPlan ws) = Some ws
plan_in (ByMirror n) = None

-- The lemma rests on the plan that is chosen at its position for the side that it speaks of, and on none where none is.
abbrev pub IsPlanned : ℕ → Position → Lemma → Type 0
IsPlanned k root l = IfSome (played root l.path) (λ p. plan_in l.reason ≡ plan_for k (claim_side l.claim) p)

abbrev pub ArePlanned : ℕ → Position → List Lemma → Type 0
ArePlanned k root ls = AllByRecursion (IsPlanned k root) ls
