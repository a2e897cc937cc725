-- A number is read exactly where its one spelling stands.
use Rattle.std.proofs.Common.{◌≡◌, ℕ, ◌^◌, ◌<◌, ◌≤◌, ◌&&◌, Bool, true, cond, nat_le, List, [], ◌∷◌, Option, Some, None, refl, sym, ap, ◌∙◌, arith}
use Rattle.std.proofs.lemmas.Bool.{and_parts, and_from, leb-true, le-leb, eq-eqb}
use Rattle.std.proofs.lemmas.Option.{cond_some}
use Rattle.std.proofs.lemmas.Fmt.{decimal_is_IsNumeral}
use Rattle.std.specs.Str.{bytes_eq}
use Rattle.std.specs.Cmp.Lexicographic.{same_text}
use Rattle.std.specs.Str.Parse.{digits_value}
use Rattle.std.specs.Fmt.{decimal}
use Rattle.game_rules.specs.Number.{number_between}

pub same_bytes : (xs : List ℕ) → bytes_eq xs xs ≡ true
same_bytes [] = refl
same_bytes (x ∷ xs) = and_from _ _ (eq-eqb x x refl) (same_bytes xs)

pub number_gives : (low high : ℕ) (bytes : List ℕ) (n : ℕ) → number_between low high bytes ≡ Some n → (low ≤ n) × (n ≤ high) × (bytes ≡ decimal n)
number_gives low high bytes n h =
    let told = cond_some _ (digits_value 10 bytes) n h in
    let tests = and_parts _ _ told.0 in
    let range = and_parts _ _ tests.0 in
    let is_value : digits_value 10 bytes ≡ n = told.1 in
    let least : low ≤ digits_value 10 bytes = leb-true _ _ range.0 in
    let most : digits_value 10 bytes ≤ high = leb-true _ _ range.1 in
    (omega arith, omega arith, same_text bytes (decimal (digits_value 10 bytes)) (sym tests.1) ∙ ap decimal is_value)

pub number_spelled : (low high n : ℕ) (bytes : List ℕ) → low ≤ n → n ≤ high → n < 2 ^ 64 → bytes ≡ decimal n → number_between low high bytes ≡ Some n
number_spelled low high n bytes least most small h =
    let value : digits_value 10 bytes ≡ n = ap (digits_value 10) h ∙ (decimal_is_IsNumeral n small).1 in
    ap (λ m. cond ((nat_le low m && nat_le m high) && bytes_eq bytes (decimal m)) (Some m) None) value
    ∙ chosen_true _ n (and_from _ _ (and_from _ _ (le-leb low n least) (le-leb n high most)) (ap (λ xs. bytes_eq xs (decimal n)) h ∙ same_bytes (decimal n)))
  where
    chosen_true : (b : Bool) (m : ℕ) → b ≡ true → cond b (Some m) None ≡ Some m
    chosen_true b m e = rw e refl

-- a number whose spelling isn't there isn't read
pub number_none : (low high : ℕ) (bytes : List ℕ) → ((n : ℕ) → low ≤ n → n ≤ high → bytes ≡ decimal n → ⊥) → number_between low high bytes ≡ None
number_none low high bytes never = at (number_between low high bytes) refl
  where
    at : (o : Option ℕ) → number_between low high bytes ≡ o → number_between low high bytes ≡ None
    at None h = h
    at (Some n) h = let told = number_gives low high bytes n h in absurd (never n told.0 told.1 told.2)
