-- The digits of a number, read from the left.
use Rattle.std.proofs.Common.{◌≡◌, ℕ, ◌+◌, ◌-◌, ◌*◌, ◌^◌, ◌<◌, ◌≤◌, List, [], ◌∷◌, take, drop, get_or, length, decimal, None, sym, ap, ◌∙◌, subst, add-one, inl, inr, arith}
use Rattle.std.specs.Int.{IsInRange}
use Rattle.std.specs.Str.Parse.{digits_value, AllDigits}
use Rattle.std.proofs.lemmas.Str.{digit_value_digit}
use Rattle.std.proofs.lemmas.List.{get_or-take, length-take-le}
use Rattle.std.proofs.lemmas.Str.Parse.{numerals_by_value, tells_digits, tells_by_index, digits_value_short, digit_at}
use Rattle.std.proofs.lemmas.Int.Digits.{digits_value_more}
use Rattle.std.proofs.lemmas.Fmt.{decimal_is_IsNumeral, decimal_nonempty, decimal_digit, first_decimal, length-decimal-le, decimal-digits_value}
use Rattle.std.proofs.Math.Nat.{pow-suc}
use Rattle.std.proofs.lemmas.Bool.{cases_eq, cases_lt, ne_eqb}
use borrow.Author.Count.{below_more}
use Rattle.game_rules.specs.Number.{number_between}
use Rattle.text_words.specs.Words.{AreNoSpaces, AreDigits, EndsDigits, HasNoNumber}
use Rattle.plan_text.specs.Words.{words_of}
use Rattle.text_words.proofs.Words.{first_word_past, no_spaces_more, no_space, space_there, cut_at, uncut}
use Rattle.game_rules.proofs.Numbers.{number_none}

-- the number that one digit more makes
pub digit_read : (bytes : List ℕ) (i : ℕ) → i < length bytes → IsInRange 48 57 (get_or bytes i 0)
    → digits_value 10 (take (i + 1) bytes) ≡ digits_value 10 (take i bytes) * 10 + (get_or bytes i 0 - 48)
digit_read bytes i within range = omega (arith, digits_value_more 10 bytes i within, digit_value_digit (get_or bytes i 0) range)

-- bytes that are digits one by one
pub all_digits : (bytes : List ℕ) → ((i : ℕ) → i < length bytes → IsInRange 48 57 (get_or bytes i 0)) → AllDigits 10 bytes
all_digits bytes each = (numerals_by_value _ tells_by_index).to bytes each

-- one power more
pub power_more : (i : ℕ) → 10 ^ (i + 1) ≡ 10 ^ i * 10
power_more i = rw add-one (pow-suc 10 i)

-- one digit more among those below a place
pub digits_more : (bytes : List ℕ) (i : ℕ) → ((k : ℕ) → k < i → IsInRange 48 57 (get_or bytes k 0)) → IsInRange 48 57 (get_or bytes i 0) → (k : ℕ) → k < i + 1
    → IsInRange 48 57 (get_or bytes k 0)
digits_more bytes i below here = below_more (λ k. IsInRange 48 57 (get_or bytes k 0)) i below here

-- digits are no spaces
pub digits_no_spaces : (bytes : List ℕ) (at : ℕ) → AreDigits bytes at → AreNoSpaces bytes at
digits_no_spaces bytes at digits k below = let range = digits k below in ne_eqb _ _ (λ space. omega (arith, range, space))

-- the first bytes, where they are digits, make a number
pub front_digits : (bytes : List ℕ) (at : ℕ) → AreDigits bytes at → at ≤ length bytes → AllDigits 10 (take at bytes)
front_digits bytes at digits within = all_digits (take at bytes) (λ k below.
    let low : k < at = omega (arith, length-take-le at bytes within) in
    subst (IsInRange 48 57) (sym (get_or-take at bytes k 0 low)) (digits k low))

-- digits to the end of the bytes are one word
pub digits_alone : (bytes : List ℕ) (end : ℕ) → AreDigits bytes end → length bytes ≤ end → words_of bytes ≡ bytes ∷ []
digits_alone bytes end digits past = uncut bytes (sym (no_space bytes end (digits_no_spaces bytes end digits) past))

-- digits with a space behind them are the first word
pub digits_first : (bytes : List ℕ) (end : ℕ) → AreDigits bytes end → get_or bytes end 0 ≡ 32 → end < length bytes
    → words_of bytes ≡ take end bytes ∷ words_of (take (length bytes - (end + 1)) (drop (end + 1) bytes))
digits_first bytes end digits space inside = cut_at bytes end (sym (space_there bytes end (digits_no_spaces bytes end digits) space inside))

-- the first word spells no number
pub none_first : (low high : ℕ) (bytes first : List ℕ) (rest : List (List ℕ)) → words_of bytes ≡ first ∷ rest → number_between low high first ≡ None
    → HasNoNumber low high bytes
none_first low high bytes first rest is none word more cut =
    let same : word ∷ more ≡ first ∷ rest = sym cut ∙ is in let here : word ≡ first = cc same in ap (number_between low high) here ∙ none

-- what the spelling of a number looks like
pub record HasShape (bytes : List ℕ) : Type 0 where
  pub some : 0 < length bytes
  pub few : length bytes ≤ 10
  pub leads : get_or bytes 0 0 ≡ 48 → length bytes ≡ 1

decimal_shape : (n : ℕ) → n < 2 ^ 32 → HasShape (decimal n)
decimal_shape n small =
    let wide : n < 2 ^ 64 = omega arith in
    record {
      some = decimal_nonempty n wide;
      few = length-decimal-le 10 n (omega arith) (omega arith) wide;
      leads = λ zero_leads. elim (cases_eq n 0) [
        | inl zero ↦ ap (λ m. length (decimal m)) zero ∙ ap length (decimal_digit 0 (omega arith))
        | inr more ↦ absurd (omega (arith, first_decimal n (omega arith) wide))
      ];
    }

-- digits of that look spell their number
pub digits_spell : (bytes : List ℕ) → HasShape bytes → AllDigits 10 bytes → (digits_value 10 bytes < 2 ^ 64) × (bytes ≡ decimal (digits_value 10 bytes))
digits_spell bytes shape digits =
    let small : digits_value 10 bytes < 2 ^ 64 = omega (arith, digits_value_short (numerals_by_value _ tells_digits) bytes 10 digits shape.few) in
    (small, sym (decimal-digits_value (numerals_by_value _ tells_digits) bytes digits shape.some shape.leads small))

-- and bytes that look otherwise, or aren't digits, spell none
pub spells_none : (low high : ℕ) (bytes : List ℕ) → high < 2 ^ 32 → (HasShape bytes → AllDigits 10 bytes → ⊥) → number_between low high bytes ≡ None
spells_none low high bytes small never = number_none low high bytes (λ n least most spelled.
    never (subst HasShape (sym spelled) (decimal_shape n (omega arith))) (subst (AllDigits 10) (sym spelled) (decimal_is_IsNumeral n (omega arith)).0.1))

-- nor does a word that goes on behind its digits, or behind ten of them
pub none_cut : (low high : ℕ) (bytes : List ℕ) (end : ℕ) → high < 2 ^ 32 → end < length bytes → end ≤ 10 → AreDigits bytes end → EndsDigits bytes end
    → (get_or bytes end 0 ≡ 32 → ⊥) → HasNoNumber low high bytes
none_cut low high bytes end small inside few digits ends other word more cut =
    let reach = first_word_past bytes word more (end + 1) cut (no_spaces_more bytes end (digits_no_spaces bytes end digits) other) (omega arith) in
    let long : length word ≡ reach.0 = ap length reach.3 ∙ length-take-le reach.0 bytes reach.2 in
    let same : get_or word end 0 ≡ get_or bytes end 0 = ap (λ word. get_or word end 0) reach.3 ∙ get_or-take reach.0 bytes end 0 (omega (arith, reach.1)) in
    spells_none low high word small (λ shape all. elim (cases_lt end 10) [
      | inl fewer ↦ ends fewer inside (subst (IsInRange 48 57) same (digit_at word end all (omega (arith, long, reach.1))))
      | inr ten ↦ absurd (omega (arith, shape.few, long, reach.1, ten))
    ])
