-- The first line that no member bars, looked for among those without a Black man alone.
use Rattle.std.proofs.Common.{◌≡◌, ℕ, ◌+◌, ◌&&◌, Bool, true, false, not, List, [], ◌∷◌, filter, Option, Some, None, is_none, is_some, inl, inr, refl, sym, ap}
use Rattle.std.proofs.Common.{◌∙◌}
use Rattle.std.specs.List.{list_any, find, position_from}
use Rattle.game_rules.specs.Position.{Position, board_of}
use Rattle.game_rules.specs.Groups.{Group, lies_on, groups_of, groups_where, is_free_for}
use Rattle.game_rules.specs.declared.Side.TheVariants.{White}
use Rattle.game_rules.proofs.Groups.{Among-groups_gives}
use Rattle.plan_rules.specs.Rules.{RuleInstance, facts_of, barred}
use Rattle.plan_rules.specs.Plan.{is_barred, empty_part}
use Rattle.plan_rules.specs.Refusal.{first_barring, is_unanswered}
use Rattle.std.proofs.lemmas.Bool.{cases_Bool}
use Rattle.game_rules.proofs.Lists.{Among}

-- what passes a test that all elements pass need not be asked for it
pub found_among : {X : Type 0} (all keep test : X → Bool) (xs : List X) → ((x : X) → Among x xs → all x ≡ true)
    → find test (filter (λ x. all x && keep x) xs) ≡ find (λ x. keep x && test x) xs
found_among all keep test [] h = refl
found_among all keep test (x ∷ xs) h = elim (cases_Bool (keep x)) [
  | inl kept ↦ elim (cases_Bool (test x)) [
    | inl passes ↦ rw (h x (inl refl), kept, passes) refl
    | inr fails ↦ rw (h x (inl refl), kept, fails) (found_among all keep test xs (λ y among. h y (inr among)))
  ]
  | inr left ↦ rw (h x (inl refl), left) (found_among all keep test xs (λ y among. h y (inr among)))
]

-- there is no place of one that passes exactly where none does
no_place : {X : Type 0} (test : X → Bool) (n : ℕ) (xs : List X) → is_none (position_from test n xs) ≡ not (list_any test xs)
no_place test n [] = refl
no_place test n (x ∷ xs) = elim (cases_Bool (test x)) [ inl passes ↦ rw passes refl | inr fails ↦ rw fails (no_place test (n + 1) xs) ]

-- what code tells by its own test of an option
none_from : {X : Type 0} (o : Option X) (b : Bool) → is_some o ≡ not b → is_none o ≡ b
none_from None true h = refl
none_from None false h = absurd (cc h)
none_from (Some x) true h = absurd (cc h)
none_from (Some x) false h = refl

pub none_bars : (p : Position) (ws : List RuleInstance) (g : Group) (found : Option ℕ) (none : Bool) → found ≡ first_barring p ws g → is_some found ≡ not none
    → not (is_barred p ws g) ≡ none
none_bars p ws g found none same is = sym (no_place (λ w. barred w (facts_of p ws) (empty_part p g)) 1 ws) ∙ ap is_none (sym same) ∙ none_from found none is

pub first_open_line : (p : Position) (ws : List RuleInstance) (gs : List Group)
    → gs ≡ groups_where (board_of p) (λ g. lies_on (board_of p) g && is_free_for White p g)
    → find (λ g. not (is_barred p ws g)) gs ≡ find (is_unanswered p ws) (groups_of (board_of p))
unfolding groups_where
first_open_line p ws gs free =
    ap (find (λ g. not (is_barred p ws g))) free
    ∙ found_among (lies_on (board_of p)) (is_free_for White p) (λ g. not (is_barred p ws g)) (groups_of (board_of p)) (Among-groups_gives (board_of p))
