-- The sets of a walk, what is chosen among them, and that where a plan is chosen White doesn't win.
use Rattle.std.proofs.Common.{◌≡◌, ◌↔◌, ℕ, zero, suc, ◌≤◌, true, false, ◌||◌, if◌then◌else◌, List, [], ◌∷◌, ◌++◌, length, filter, take, Some, refl, sym, ap}
use Rattle.std.proofs.Common.{◌∙◌, subst, inl, inr, arith}
use Rattle.std.specs.List.{slice_get, list_all, list_any}
use Rattle.std.proofs.lemmas.Bool.{cases_Bool, cases_lt, both_ways, and_parts}
use Rattle.game_rules.specs.Position.{Position}
use Rattle.game_rules.specs.Value.{wins}
use Rattle.game_rules.specs.declared.Side.TheVariants.{White}
use Rattle.game_rules.proofs.Lists.{Among, any_gives, Among-filter_gives, Among-flat_map_gives}
use Rattle.plan_rules.specs.Rules.{RuleInstance, together}
use Rattle.plan_rules.specs.Plan.{is_plan}
use Rattle.plan_rules.proofs.Theorems.{plan_wins}
use Rattle.walk_rules.specs.Walk.{fitting_zones, open_squares, owns_first, may_follow, walk_within, walk_from, is_plan_position, walk, with_all, given}
use Rattle.walk_rules.specs.Walk.{gives_plan, solved, Chosen, gave, no_plan, spent, choice_among, choice_of, is_given}
use Rattle.walk_rules.specs.Steps.{is_zone_set}
use Rattle.walk_rules.specs.Choice.{NoneOf, IsFirst, IsChoice}
use Rattle.walk_rules.proofs.Fitting.{zone_fits}
use Rattle.walk_rules.proofs.Steps.{set_start, set_push}
use Rattle.walk_rules.proofs.Given.{given_is, choice_step}

-- ---- the sets of a walk

within_sets : (p : Position) (n : ℕ) (set later : List RuleInstance) → is_zone_set p set ≡ true → Among later (walk_within p (fitting_zones p) n set)
    → is_zone_set p later ≡ true
unfolding walk_within
within_sets p zero set later is (inl same) = ap (is_zone_set p) (sym same) ∙ is
within_sets p zero set later is (inr none) = absurd none
within_sets p (suc n) set later is (inl same) = ap (is_zone_set p) (sym same) ∙ is
within_sets p (suc n) set later is (inr among) =
    let found = Among-flat_map_gives (λ w. walk_within p (fitting_zones p) n (set ++ w ∷ [])) (filter (may_follow p set) (fitting_zones p)) later among in
    let follows = Among-filter_gives (may_follow p set) (fitting_zones p) found.0 found.1 in
    let zone = zone_fits p found.0 follows.0 in
    let standing = (and_parts (owns_first found.0 (open_squares p set)) (list_all (λ v. together v found.0) set) follows.1).1 in
    within_sets p n (set ++ found.0 ∷ []) later (set_push p set found.0 is zone.0 zone.1 standing) found.2

-- each set of the walk is a set of zones
pub walk_sets : (p : Position) (set : List RuleInstance) → Among set (walk p) → is_zone_set p set ≡ true
unfolding walk_from
walk_sets p set among = elim (cases_Bool (is_plan_position p)) [
  | inl going ↦ within_sets p (length (open_squares p [])) [] set (set_start p) (rw going at among)
  | inr over ↦ absurd (rw over at among)
]

-- ---- the choice in words

module _ (p : Position) where
  none_earlier : (k : ℕ) (set : List RuleInstance) (sets : List (List RuleInstance)) → gives_plan p set ≡ false → NoneOf p k sets
      → NoneOf p (suc k) (set ∷ sets)
  none_earlier k set sets fails none zero other within at = let same : set ≡ other = cc at in subst (λ set. gives_plan p set ≡ false) same fails
  none_earlier k set sets fails none (suc i) other within at = none i other (omega arith) at

  -- a set that gives no plan before the others
  choice_later : (k : ℕ) (set : List RuleInstance) (sets : List (List RuleInstance)) (choice : Chosen) → gives_plan p set ≡ false → IsChoice p k sets choice
      → IsChoice p (suc k) (set ∷ sets) choice
  choice_later k set sets (gave chosen) fails is = record {
    place = suc is.place;
    within = let within = is.within in omega arith;
    set = is.set;
    is_set = is.is_set;
    is_first = none_earlier is.place set sets fails is.is_first;
    gives = is.gives;
    is_given = is.is_given;
    is_plan_now = is.is_plan_now;
  }
  choice_later k set sets no_plan fails is = let few = is.0 in (omega arith, none_earlier k set sets fails is.1)
  choice_later k set sets spent fails is = let more = is.0 in (omega arith, none_earlier k set sets fails is.1)

  pub choice_is : (k : ℕ) (sets : List (List RuleInstance)) → IsChoice p k sets (choice_among p k sets)
  choice_is k [] = (omega arith, λ i set within at. absurd (cc at))
  choice_is zero (set ∷ sets) = (omega arith, λ i other within at. absurd (omega arith))
  choice_is (suc k) (set ∷ sets) = elim (cases_Bool (gives_plan p set)) [
    | inl gives ↦ subst (IsChoice p (suc k) (set ∷ sets))
        (sym (choice_step p set k sets ∙ ap (λ b. if b then gave (given p set) else choice_among p k sets) gives)) (record {
          place = 0;
          within = omega arith;
          set = set;
          is_set = refl;
          is_first = λ i other within at. absurd (omega arith);
          gives = gives;
          is_given = refl;
          is_plan_now = given_is p set ∙ gives;
        })
    | inr fails ↦ subst (IsChoice p (suc k) (set ∷ sets))
        (sym (choice_step p set k sets ∙ ap (λ b. if b then gave (given p set) else choice_among p k sets) fails))
        (choice_later k set sets (choice_among p k sets) fails (choice_is k sets))
  ]

  -- of two choices neither begins earlier
  first_past : (k n : ℕ) (sets : List (List RuleInstance)) (chosen : List RuleInstance) (is : IsFirst p k sets chosen) → NoneOf p n sets → n ≤ is.place
  first_past k n sets chosen is none = elim (cases_lt is.place n) [
    | inr past ↦ past
    | inl early ↦ absurd (both_ways (gives_plan p is.set) (none is.place is.set early is.is_set) is.gives)
  ]

  one_first : (k : ℕ) (sets : List (List RuleInstance)) (a b : List RuleInstance) → IsFirst p k sets a → IsFirst p k sets b → a ≡ b
  one_first k sets a b left right =
      let place : left.place ≡ right.place =
      omega (arith, first_past k right.place sets a left right.is_first, first_past k left.place sets b right left.is_first) in
      let set : Some left.set ≡ Some right.set = sym left.is_set ∙ ap (slice_get sets) place ∙ right.is_set in
      let same : left.set ≡ right.set = cc set in
      left.is_given ∙ ap (given p) same ∙ sym right.is_given

  one_choice : (k : ℕ) (sets : List (List RuleInstance)) (a b : Chosen) → IsChoice p k sets a → IsChoice p k sets b → a ≡ b
  one_choice k sets (gave a) (gave b) left right = ap gave (one_first k sets a b left right)
  one_choice k sets (gave a) no_plan left right = absurd (let within = left.within in omega (arith, first_past k k sets a left right.1))
  one_choice k sets (gave a) spent left right = absurd (let within = left.within in omega (arith, first_past k k sets a left right.1))
  one_choice k sets no_plan (gave b) left right = absurd (let within = right.within in omega (arith, first_past k k sets b right left.1))
  one_choice k sets no_plan no_plan left right = refl
  one_choice k sets no_plan spent left right = absurd (let few = left.0 in let more = right.0 in omega arith)
  one_choice k sets spent (gave b) left right = absurd (let within = right.within in omega (arith, first_past k k sets b right left.1))
  one_choice k sets spent no_plan left right = absurd (let more = left.0 in let few = right.0 in omega arith)
  one_choice k sets spent spent left right = refl

  pub choice_words : (k : ℕ) (chosen : Chosen) → (choice_of p k ≡ chosen) ↔ IsChoice p k (walk p) chosen
  choice_words k chosen =
      ((λ same. subst (IsChoice p k (walk p)) same (choice_is k (walk p))), (λ is. one_choice k (walk p) (choice_of p k) chosen (choice_is k (walk p)) is))

  -- ---- solved positions

  solved_among : (k : ℕ) (sets : List (List RuleInstance)) → list_any (gives_plan p) (take k sets) ≡ is_given (choice_among p k sets)
  solved_among zero [] = refl
  solved_among (suc k) [] = refl
  solved_among zero (set ∷ sets) = refl
  solved_among (suc k) (set ∷ sets) = elim (cases_Bool (gives_plan p set)) [
    | inl gives ↦ ap (λ b. b || list_any (gives_plan p) (take k sets)) gives
        ∙ sym (ap is_given (choice_step p set k sets ∙ ap (λ b. if b then gave (given p set) else choice_among p k sets) gives))
    | inr fails ↦
        ap (λ b. b || list_any (gives_plan p) (take k sets)) fails ∙ solved_among k sets
        ∙ sym (ap is_given (choice_step p set k sets ∙ ap (λ b. if b then gave (given p set) else choice_among p k sets) fails))
  ]

  pub solved_is : (k : ℕ) → solved p k ≡ is_given (choice_of p k)
  solved_is k = solved_among k (walk p)

  -- the set of a solved position that gives a plan
  solved_set : (k : ℕ) → solved p k ≡ true → (set : List RuleInstance) × (gives_plan p set ≡ true)
  solved_set k h = let found = any_gives (gives_plan p) (take k (walk p)) h in (found.0, found.2)

  pub solved_not_won : (k : ℕ) → solved p k ≡ true → wins White p ≡ false
  solved_not_won k h = let found = solved_set k h in plan_wins p (with_all p found.0) found.1

  -- the first that the test of a plan asks
  plan_going : (ws : List RuleInstance) → is_plan p ws ≡ true → is_plan_position p ≡ true
  plan_going ws h =
      let answered = and_parts _ _ h in let supported = and_parts _ _ answered.0 in let covered = and_parts _ _ supported.0 in
      let standing = and_parts _ _ covered.0 in (and_parts _ _ standing.0).0

  pub solved_going : (k : ℕ) → solved p k ≡ true → is_plan_position p ≡ true
  solved_going k h = let found = solved_set k h in plan_going (with_all p found.0) found.1
