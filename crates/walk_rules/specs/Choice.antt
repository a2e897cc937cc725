-- What is chosen among the first sets of the walk, in words: by places in the list of sets, with no order of trying.
use Rattle.std.specs.Prelude.{◌≡◌, ℕ, ◌<◌, ◌≤◌, true, false, List, length, Some, slice_get}
use Rattle.game_rules.specs.Position.{Position}
use Rattle.plan_rules.specs.Rules.{RuleInstance}
use Rattle.plan_rules.specs.Plan.{is_plan}
use Rattle.walk_rules.specs.Walk.{given, gives_plan, Chosen, gave, no_plan, spent}

-- none of the first k sets gives a plan
abbrev pub NoneOf : Position → ℕ → List (List RuleInstance) → Type 0
NoneOf p k sets = (i : ℕ) (set : List RuleInstance) → i < k → slice_get sets i ≡ Some set → gives_plan p set ≡ false

-- a set among the first k gives a plan, none before it does, and the list that it gives is chosen
pub record IsFirst (p : Position) (k : ℕ) (sets : List (List RuleInstance)) (chosen : List RuleInstance) : Type 0 where
  pub place : ℕ
  pub within : place < k
  pub set : List RuleInstance
  pub is_set : slice_get sets place ≡ Some set
  pub is_first : NoneOf p place sets
  pub gives : gives_plan p set ≡ true
  pub is_given : chosen ≡ given p set
  pub is_plan_now : is_plan p chosen ≡ true

-- There is no plan where none of all sets gives one and there are no more than k; the first k are spent where there are
-- more, and none of the first k gives a plan.
abbrev pub IsChoice : Position → ℕ → List (List RuleInstance) → Chosen → Type 0
IsChoice p k sets (gave chosen) = IsFirst p k sets chosen
IsChoice p k sets no_plan = (length sets ≤ k) × NoneOf p k sets
IsChoice p k sets spent = (k < length sets) × NoneOf p k sets
