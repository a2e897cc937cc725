-- What is given to options: their numbers, both ways, and that no more is given than there are options.
use Rattle.std.proofs.Common.{◌≡◌, ℕ, ◌<◌, ◌≤◌, ◌^◌, Bool, true, false, ◌&&◌, ◌||◌, not, nat_lt, nat_le, List, [], ◌∷◌, length, filter, Option, Some}
use Rattle.std.proofs.Common.{None, IfSome}
use Rattle.std.proofs.Common.{refl, sym, ap, ◌∙◌, subst, inl, inr, arith}
use Rattle.std.specs.List.{list_all}
use Rattle.std.specs.Option.{option_map}
use Rattle.std.specs.Str.{bytes_eq}
use Rattle.std.specs.Fmt.{decimal}
use Rattle.std.proofs.lemmas.Bool.{and_parts, leb-true, ltb-true}
use Rattle.std.proofs.lemmas.List.{length-map}
use Rattle.std.proofs.lemmas.List.Filters.{length-filter_both}
use Rattle.game_rules.proofs.Lists.{Among, Among-filter_gives, any_gives, all_gives, all_from}
use Rattle.game_rules.proofs.Numbers.{number_gives, number_spelled}
use Rattle.game_rules.specs.Number.{number_between}
use Rattle.plan_text.specs.Words.{◌>>=◌}
use Rattle.plan_text.proofs.Spaced.{map_some, is_text}
use Rattle.victor_words.specs.Words.{OptionRow, Given, IsNumberOf, IsGiven, values, is_among, has_only}
use Rattle.victor_words.specs.Reading.{asked, only_from, number_from}
use Rattle.victor_words.proofs.Saying.{is_option}

-- ---- the rows

abbrev pub has_usual : OptionRow → Option ℕ → Bool
has_usual option None = true
has_usual option (Some n) = nat_le option.least n && nat_le n option.most

-- a row is as it has to be: it has a name, its usual number is in its range, and all its numbers are numbers of the program
abbrev pub is_right : OptionRow → Bool
is_right option = is_option option.word && (nat_lt option.most (2 ^ 64) && has_usual option option.usual)

right_gives : (option : OptionRow) → is_right option ≡ true → (is_option option.word ≡ true) × (option.most < 2 ^ 64) × IfSome option.usual (IsNumberOf option)
right_gives option right =
    let first = and_parts _ _ right in
    let second = and_parts _ _ first.1 in
    (first.0, ltb-true _ _ second.0, usual option.usual second.1)
  where
    usual : (number : Option ℕ) → has_usual option number ≡ true → IfSome number (IsNumberOf option)
    usual None h = tt
    usual (Some n) h =
        let tests = and_parts (nat_le option.least n) (nat_le n option.most) h in
        (leb-true option.least n tests.0, leb-true n option.most tests.1)

-- what is given to right options has their names
pub names_right : (options : List OptionRow) (given : List Given) → list_all is_right options ≡ true → has_only options given ≡ true
    → list_all (λ (one : Given). is_option one.0) given ≡ true
names_right options given right only = all_from (λ (one : Given). is_option one.0) given each
  where
    each : (one : Given) → Among one given → is_option one.0 ≡ true
    each one among =
        let known = all_gives (λ (one : Given). is_among options one.0) given one only among in
        let option = any_gives (λ (option : OptionRow). bytes_eq one.0 option.word) options known in
        let named = (right_gives option.0 (all_gives is_right options option.0 right option.1)).0 in
        subst (λ word. is_option word ≡ true) (sym (is_text one.0 option.0.word option.2)) named

-- ---- numbers

pub asked_gives : (option : OptionRow) (given : List Given) (number : Option ℕ) → is_right option ≡ true → asked option given ≡ Some number
    → IsGiven given (option, number) × IfSome number (IsNumberOf option)
asked_gives option given number right h = at (values option.word given) refl h
  where
    at : (all : List (List ℕ)) → values option.word given ≡ all → (only_from None all >>= number_from option) ≡ Some number
        → IsGiven given (option, number) × IfSome number (IsNumberOf option)
    at [] are h =
        let same : option.usual ≡ number = cc (h) in
        (inr (are, sym same), subst (λ number. IfSome number (IsNumberOf option)) same (right_gives option right).2)
    at (value ∷ []) are h =
        let n = map_some Some (number_between option.least option.most value) number h in
        let gives = number_gives option.least option.most value n.0 n.1 in (
          inl (n.0, sym n.2, are ∙ ap (λ value. value ∷ []) gives.2),
          subst (λ number. IfSome number (IsNumberOf option)) n.2 (gives.0, gives.1),
        )
    at (value ∷ another ∷ more) are h = cc

pub asked_found : (option : OptionRow) (given : List Given) (number : Option ℕ) → is_right option ≡ true → IsGiven given (option, number)
    → IfSome number (IsNumberOf option) → asked option given ≡ Some number
asked_found option given number right (inl (n, same, are)) range =
    let within : IsNumberOf option n = subst (λ number. IfSome number (IsNumberOf option)) same range in
    let small = (right_gives option right).1 in
    ap (λ all. only_from None all >>= number_from option) are
    ∙ ap (option_map Some) (number_spelled option.least option.most n (decimal n) within.0 within.1 (omega (arith, within.1, small)) refl)
    ∙ ap Some (sym same)
asked_found option given number right (inr (none, same)) range = ap (λ all. only_from None all >>= number_from option) none ∙ ap Some (sym same)

-- ---- how many are given

fewer : {X : Type 0} (p q : X → Bool) (xs : List X) → length (filter p (filter q xs)) ≤ length (filter p xs)
fewer p q [] = omega arith
fewer p q (x ∷ xs) = let rest = fewer p q xs in at (p x) (q x) refl refl rest
  where
    at : (b c : Bool) → p x ≡ b → q x ≡ c → length (filter p (filter q xs)) ≤ length (filter p xs)
        → length (filter p (filter q (x ∷ xs))) ≤ length (filter p (x ∷ xs))
    at true true e f rest = rw (f, e) (omega (arith, rest))
    at true false e f rest = rw (f, e) (omega (arith, rest))
    at false true e f rest = rw (f, e) rest
    at false false e f rest = rw (f, e) rest

-- each option is given at most once, and no other is
pub few_given : (options : List OptionRow) (given : List Given) → ((option : OptionRow) → Among option options → length (values option.word given) ≤ 1)
    → has_only options given ≡ true → length given ≤ length options
few_given [] [] each only = omega arith
few_given [] (one ∷ given) each only = cc
few_given (option ∷ options) given each only =
    let others = filter (λ (one : Given). not (bytes_eq one.0 option.word)) given in
    let both = length-filter_both (λ (one : Given). bytes_eq one.0 option.word) (λ (one : Given). not (bytes_eq one.0 option.word)) (λ one. refl) given in
    let first = each option (inl refl) in
    let only = all_from (λ (one : Given). is_among options one.0) others known in
    let rest = few_given options others (λ another among. few another (each another (inr among))) only in
    omega (arith, both, first, rest, length-map (filter (λ (one : Given). bytes_eq one.0 option.word) given) (λ (one : Given). one.1))
  where
    others : List Given
    others = filter (λ (one : Given). not (bytes_eq one.0 option.word)) given

    few : (another : OptionRow) → length (values another.word given) ≤ 1 → length (values another.word others) ≤ 1
    few another h = omega (
      arith,
      h,
      fewer (λ (one : Given). bytes_eq one.0 another.word) (λ (one : Given). not (bytes_eq one.0 option.word)) given,
      length-map (filter (λ (one : Given). bytes_eq one.0 another.word) given) (λ (one : Given). one.1),
      length-map (filter (λ (one : Given). bytes_eq one.0 another.word) others) (λ (one : Given). one.1),
    )

    known : (one : Given) → Among one others → is_among options one.0 ≡ true
    known one among =
        let told = Among-filter_gives (λ (one : Given). not (bytes_eq one.0 option.word)) given one among in
        at (bytes_eq one.0 option.word) told.1 (all_gives (λ (one : Given). is_among (option ∷ options) one.0) given one only told.0)
      where
        at : (b : Bool) → not b ≡ true → (b || is_among options one.0) ≡ true → is_among options one.0 ≡ true
        at true none h = cc
        at false none h = h
