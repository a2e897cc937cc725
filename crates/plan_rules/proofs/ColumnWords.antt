-- The lists of men of a Lowinverse's column say what its squares say.
use Rattle.std.proofs.Common.{◌≡◌, ◌≢◌, ◌⊎◌, ◌↔◌, ℕ, zero, suc, ◌+◌, ◌-◌, ◌*◌, ◌%◌, ◌<◌, ◌≤◌, ◌==◌, true, cond, List, [], ◌∷◌, length, Some, None, refl, sym}
use Rattle.std.proofs.Common.{ap, ◌∙◌, inl, inr, arith}
use Rattle.std.specs.List.{slice_get}
use Rattle.std.proofs.lemmas.Bool.{cases_lt, cases_eq, eqb-true, eq-eqb, and_parts, and_from}
use Rattle.game_rules.specs.Board.{Square}
use Rattle.game_rules.specs.Position.{Position}
use Rattle.game_rules.specs.declared.Side.{Side}
use Rattle.game_rules.specs.declared.Side.TheVariants.{White, Black}
use Rattle.plan_rules.specs.Squares.{column_up, men_on}
use Rattle.plan_rules.specs.Calm.{is_paired, is_topped, is_capped, is_shifted}
use Rattle.plan_rules.specs.Columns.{man_up, pair_man, IsPairedColumn, IsCappedColumn, IsShiftedColumn}
use Rattle.plan_rules.proofs.Columns.{man_on, length_within}

-- ---- places of a list

get_low : (men : List Side) (i : ℕ) (m : Side) → slice_get men i ≡ Some m → i < length men
get_low [] i m h = absurd (cc h)
get_low (x ∷ men) zero m h = omega arith
get_low (x ∷ men) (suc i) m h = omega (arith, get_low men i m h)

get_high : (men : List Side) (i : ℕ) → slice_get men i ≡ None → length men ≤ i
get_high [] i h = omega arith
get_high (x ∷ men) zero h = absurd (cc h)
get_high (x ∷ men) (suc i) h = omega (arith, get_high men i h)

get_past : (men : List Side) (i : ℕ) → length men ≤ i → slice_get men i ≡ None
get_past [] i h = refl
get_past (x ∷ men) zero h = absurd (omega arith)
get_past (x ∷ men) (suc i) h = get_past men i (omega arith)

-- how many men there are where just the first so many places have one
length_known : (men : List Side) (size n : ℕ) → length men ≤ size → n ≤ size → ((i : ℕ) → i < n → (m : Side) × (slice_get men i ≡ Some m))
    → ((i : ℕ) → n ≤ i → i < size → slice_get men i ≡ None) → length men ≡ n
length_known men size n short low some none = omega (arith, at_least (cases_eq n 0), at_most (cases_eq n size))
  where
    at_least : (n ≡ 0) ⊎ (n ≢ 0) → n ≤ length men
    at_least (inl nothing) = omega arith
    at_least (inr more) = last (n - 1) (omega arith)
      where
        last : (i : ℕ) → i + 1 ≡ n → n ≤ length men
        last i at = let found = some i (omega arith) in omega (arith, get_low men i found.0 found.1)

    at_most : (n ≡ size) ⊎ (n ≢ size) → length men ≤ n
    at_most (inl full) = omega arith
    at_most (inr less) = get_high men n (none n (omega arith) (omega arith))

-- ---- pairs in a list

pair_again : (i : ℕ) → pair_man (suc (suc i)) ≡ pair_man i
pair_again i = ap (λ n. cond (n == 0) White Black) (omega arith)

even_white : (i : ℕ) → i % 2 ≡ 0 → pair_man i ≡ White
even_white i even = ap (λ b. cond b White Black) (eq-eqb (i % 2) 0 even)

pub paired_reads : (men : List Side) → is_paired men ≡ true → (k : ℕ) × (length men ≡ 2 * k) × ((i : ℕ) → i < 2 * k → slice_get men i ≡ Some (pair_man i))
paired_reads [] h = (0, refl, λ i low. absurd (omega arith))
paired_reads (White ∷ []) h = absurd (cc h)
paired_reads (White ∷ White ∷ men) h = absurd (cc h)
paired_reads (White ∷ Black ∷ men) h = let rest = paired_reads men h in (rest.0 + 1, omega (arith, rest.1), at rest.0 rest.2)
  where
    at : (k : ℕ) → ((i : ℕ) → i < 2 * k → slice_get men i ≡ Some (pair_man i)) → (i : ℕ) → i < 2 * (k + 1)
        → slice_get (White ∷ Black ∷ men) i ≡ Some (pair_man i)
    at k rest zero low = refl
    at k rest (suc zero) low = refl
    at k rest (suc (suc i)) low = rest i (omega arith) ∙ ap (λ m. Some m) (sym (pair_again i))
paired_reads (Black ∷ men) h = absurd (cc h)

pub reads_paired : (men : List Side) (k : ℕ) → length men ≡ 2 * k → ((i : ℕ) → i < 2 * k → slice_get men i ≡ Some (pair_man i)) → is_paired men ≡ true
reads_paired [] k size at = refl
reads_paired (a ∷ []) k size at = absurd (omega arith)
reads_paired (a ∷ b ∷ men) zero size at = absurd (omega arith)
reads_paired (a ∷ b ∷ men) (suc k) size at = by_case a b (at 0 (omega arith)) (at 1 (omega arith))
    (reads_paired men k (omega arith) (λ i low. at (suc (suc i)) (omega arith) ∙ ap (λ m. Some m) (pair_again i)))
  where
    by_case : (a b : Side) → Some a ≡ Some White → Some b ≡ Some Black → is_paired men ≡ true → is_paired (a ∷ b ∷ men) ≡ true
    by_case White Black first second rest = rest
    by_case White White first second rest = absurd (cc second)
    by_case Black b first second rest = absurd (cc first)

pub topped_reads : (men : List Side) → is_topped men ≡ true → (i : ℕ) → i < length men → slice_get men i ≡ Some (pair_man i)
topped_reads [] h i low = absurd (cc h)
topped_reads (White ∷ []) h zero low = refl
topped_reads (White ∷ []) h (suc i) low = absurd (omega arith)
topped_reads (White ∷ White ∷ men) h i low = absurd (cc h)
topped_reads (White ∷ Black ∷ men) h zero low = refl
topped_reads (White ∷ Black ∷ men) h (suc zero) low = refl
topped_reads (White ∷ Black ∷ men) h (suc (suc i)) low = topped_reads men h i (omega arith) ∙ ap (λ m. Some m) (sym (pair_again i))
topped_reads (Black ∷ men) h i low = absurd (cc h)

pub reads_topped : (men : List Side) → length men % 2 ≡ 1 → ((i : ℕ) → i < length men → slice_get men i ≡ Some (pair_man i)) → is_topped men ≡ true
reads_topped [] odd at = absurd (omega arith)
reads_topped (a ∷ []) odd at = one a (at 0 (omega arith))
  where
    one : (a : Side) → Some a ≡ Some White → is_topped (a ∷ []) ≡ true
    one White h = refl
    one Black h = absurd (cc h)
reads_topped (a ∷ b ∷ men) odd at = by_case a b (at 0 (omega arith)) (at 1 (omega arith))
    (reads_topped men (omega arith) (λ i low. at (suc (suc i)) (omega arith) ∙ ap (λ m. Some m) (pair_again i)))
  where
    by_case : (a b : Side) → Some a ≡ Some White → Some b ≡ Some Black → is_topped men ≡ true → is_topped (a ∷ b ∷ men) ≡ true
    by_case White Black first second rest = rest
    by_case White White first second rest = absurd (cc second)
    by_case Black b first second rest = absurd (cc first)

-- pairs, a man of Black's, and turned pairs
pub record Shifted (men : List Side) (pairs turned : ℕ) : Type 0 where
  pub size : length men ≡ 2 * pairs + 1 + 2 * turned
  pub filled : (i : ℕ) → i < 2 * pairs → slice_get men i ≡ Some (pair_man i)
  pub black : slice_get men (2 * pairs) ≡ Some Black
  pub shifted : (i : ℕ) → i < 2 * turned → slice_get men (2 * pairs + 1 + i) ≡ Some (pair_man i)

pub shifted_reads : (men : List Side) → is_shifted men ≡ true → (pairs : ℕ) × (turned : ℕ) × Shifted men pairs turned
shifted_reads [] h = absurd (cc h)
shifted_reads (White ∷ []) h = absurd (cc h)
shifted_reads (White ∷ White ∷ men) h = absurd (cc h)
shifted_reads (White ∷ Black ∷ men) h = let rest = shifted_reads men h in (rest.0 + 1, rest.1, more rest.0 rest.1 rest.2)
  where
    more : (pairs turned : ℕ) → Shifted men pairs turned → Shifted (White ∷ Black ∷ men) (pairs + 1) turned
    more pairs turned rest = record {
      size = omega (arith, rest.size);
      filled = at;
      black = ap (slice_get (White ∷ Black ∷ men)) two ∙ rest.black;
      shifted = λ i low. ap (slice_get (White ∷ Black ∷ men)) (past i) ∙ rest.shifted i low;
    }
      where
        two : 2 * (pairs + 1) ≡ suc (suc (2 * pairs))
        two = omega arith

        past : (i : ℕ) → 2 * (pairs + 1) + 1 + i ≡ suc (suc (2 * pairs + 1 + i))
        past i = omega arith

        at : (i : ℕ) → i < 2 * (pairs + 1) → slice_get (White ∷ Black ∷ men) i ≡ Some (pair_man i)
        at zero low = refl
        at (suc zero) low = refl
        at (suc (suc i)) low = rest.filled i (omega arith) ∙ ap (λ m. Some m) (sym (pair_again i))
shifted_reads (Black ∷ men) h = let rest = paired_reads men h in (
  0,
  rest.0,
  record {
    size = omega (arith, rest.1);
    filled = λ i low. absurd (omega arith);
    black = refl;
    shifted = λ i low. ap (slice_get (Black ∷ men)) (place i) ∙ rest.2 i low;
  },
)
  where
    place : (i : ℕ) → 0 + 1 + i ≡ suc i
    place i = omega arith

pub reads_shifted : (men : List Side) (pairs turned : ℕ) → Shifted men pairs turned → is_shifted men ≡ true
reads_shifted [] pairs turned h = absurd (omega (arith, h.size))
reads_shifted (a ∷ men) zero turned h =
    by_case a h.black (reads_paired men turned (omega (arith, h.size)) (λ i low. ap (slice_get (a ∷ men)) (place i) ∙ h.shifted i low))
  where
    place : (i : ℕ) → suc i ≡ 2 * 0 + 1 + i
    place i = omega arith

    by_case : (a : Side) → slice_get (a ∷ men) (2 * 0) ≡ Some Black → is_paired men ≡ true → is_shifted (a ∷ men) ≡ true
    by_case Black black rest = rest
    by_case White black rest = absurd (cc black)
reads_shifted (a ∷ []) (suc pairs) turned h = absurd (omega (arith, h.size))
reads_shifted (a ∷ b ∷ men) (suc pairs) turned h = by_case a b (h.filled 0 (omega arith)) (h.filled 1 (omega arith)) (reads_shifted men pairs turned (record {
  size = omega (arith, h.size);
  filled = λ i low. h.filled (suc (suc i)) (omega arith) ∙ ap (λ m. Some m) (pair_again i);
  black = ap (slice_get (a ∷ b ∷ men)) two ∙ h.black;
  shifted = λ i low. ap (slice_get (a ∷ b ∷ men)) (past i) ∙ h.shifted i low;
}))
  where
    two : suc (suc (2 * pairs)) ≡ 2 * suc pairs
    two = omega arith

    past : (i : ℕ) → suc (suc (2 * pairs + 1 + i)) ≡ 2 * suc pairs + 1 + i
    past i = omega arith

    by_case : (a b : Side) → Some a ≡ Some White → Some b ≡ Some Black → is_shifted men ≡ true → is_shifted (a ∷ b ∷ men) ≡ true
    by_case White Black first second rest = rest
    by_case White White first second rest = absurd (cc second)
    by_case Black b first second rest = absurd (cc first)

-- ---- squares

module _ (p : Position) (bottom : Square) (size : ℕ) (low : 1 ≤ bottom.1) where
  abbrev column : List Side
  column = men_on p (column_up bottom size)

  at : (i : ℕ) → i < size → slice_get column i ≡ man_up p bottom i
  at i within = man_on p size bottom i low within

  pub paired_column : (is_paired (men_on p (column_up bottom size)) ≡ true) ↔ IsPairedColumn p bottom size
  paired_column = (to, from)
    where
      to : is_paired (men_on p (column_up bottom size)) ≡ true → IsPairedColumn p bottom size
      to h =
          let reads = paired_reads (men_on p (column_up bottom size)) h in
          let short = length_within p size bottom in
          record {
            pairs = reads.0;
            within = omega (arith, reads.1);
            filled = λ i less. sym (at i (omega (arith, reads.1))) ∙ reads.2 i less;
            free = λ i more within. sym (at i within) ∙ get_past (men_on p (column_up bottom size)) i (omega (arith, reads.1));
          }

      from : IsPairedColumn p bottom size → is_paired (men_on p (column_up bottom size)) ≡ true
      from h =
          let upto = h.within in
          reads_paired (men_on p (column_up bottom size)) h.pairs
          (length_known (men_on p (column_up bottom size)) size (2 * h.pairs) (length_within p size bottom) h.within
          (λ i less. (pair_man i, at i (omega arith) ∙ h.filled i less)) (λ i more within. at i within ∙ h.free i more within))
          (λ i less. at i (omega arith) ∙ h.filled i less)

  pub capped_column : size % 2 ≡ 1 → (is_capped size (men_on p (column_up bottom size)) ≡ true) ↔ IsCappedColumn p bottom size
  capped_column odd = (to, from)
    where
      to : is_capped size (men_on p (column_up bottom size)) ≡ true → IsCappedColumn p bottom size
      to h =
          let both = and_parts (length (men_on p (column_up bottom size)) == size) (is_topped (men_on p (column_up bottom size))) h in
          let full = eqb-true (length (men_on p (column_up bottom size))) size both.0 in
          record {
            filled = λ i less. sym (at i (omega arith)) ∙ topped_reads (men_on p (column_up bottom size)) both.1 i (omega (arith, full));
            top = λ i last. sym (at i (omega arith)) ∙ topped_reads (men_on p (column_up bottom size)) both.1 i (omega (arith, full))
                ∙ ap (λ m. Some m) (even_white i (omega arith));
          }

      from : IsCappedColumn p bottom size → is_capped size (men_on p (column_up bottom size)) ≡ true
      from h =
          let full : length (men_on p (column_up bottom size)) ≡ size = length_known (men_on p (column_up bottom size)) size size (length_within p size bottom)
          (omega arith)
          (λ i less. (pair_man i, each i less)) (λ i more within. absurd (omega arith)) in
          and_from _ _ (eq-eqb (length (men_on p (column_up bottom size))) size full)
          (reads_topped (men_on p (column_up bottom size)) (ap (λ n. n % 2) full ∙ odd) (λ i less. each i (omega (arith, full))))
        where
          each : (i : ℕ) → i < size → slice_get (men_on p (column_up bottom size)) i ≡ Some (pair_man i)
          each i less = at i less ∙ elim (cases_lt (i + 1) size) [
            | inl below ↦ h.filled i below
            | inr last ↦ h.top i (omega arith) ∙ ap (λ m. Some m) (sym (even_white i (omega arith)))
          ]

  pub shifted_column : (is_shifted (men_on p (column_up bottom size)) ≡ true) ↔ IsShiftedColumn p bottom size
  shifted_column = (to, from)
    where
      to : is_shifted (men_on p (column_up bottom size)) ≡ true → IsShiftedColumn p bottom size
      to h = by_case (shifted_reads (men_on p (column_up bottom size)) h) (length_within p size bottom)
        where
          by_case : (pairs : ℕ) × (turned : ℕ) × Shifted (men_on p (column_up bottom size)) pairs turned → length (men_on p (column_up bottom size)) ≤ size
              → IsShiftedColumn p bottom size
          by_case (pairs, turned, reads) short = record {
            pairs = pairs;
            turned = turned;
            within = omega (arith, reads.size);
            filled = λ i less. sym (at i (omega (arith, reads.size))) ∙ reads.filled i less;
            black = sym (at (2 * pairs) (omega (arith, reads.size))) ∙ reads.black;
            shifted = λ i less. sym (at (2 * pairs + 1 + i) (omega (arith, reads.size))) ∙ reads.shifted i less;
            free = λ i more within. sym (at i within) ∙ get_past (men_on p (column_up bottom size)) i (omega (arith, reads.size));
          }

      from : IsShiftedColumn p bottom size → is_shifted (men_on p (column_up bottom size)) ≡ true
      from h =
          let upto = h.within in
          reads_shifted (men_on p (column_up bottom size)) h.pairs h.turned (record {
            size = length_known (men_on p (column_up bottom size)) size (2 * h.pairs + 1 + 2 * h.turned) (length_within p size bottom) h.within each
                (λ i more within. at i within ∙ h.free i more within);
            filled = λ i less. at i (omega arith) ∙ h.filled i less;
            black = at (2 * h.pairs) (omega arith) ∙ h.black;
            shifted = λ i less. at (2 * h.pairs + 1 + i) (omega arith) ∙ h.shifted i less;
          })
        where
          each : (i : ℕ) → i < 2 * h.pairs + 1 + 2 * h.turned → (m : Side) × (slice_get (men_on p (column_up bottom size)) i ≡ Some m)
          each i less = elim (cases_lt i (2 * h.pairs)) [
            | inl below ↦ (pair_man i, at i (omega (arith, h.within)) ∙ h.filled i below)
            | inr over ↦ elim (cases_eq i (2 * h.pairs)) [
              | inl same ↦ (Black, at i (omega (arith, h.within)) ∙ ap (man_up p bottom) same ∙ h.black)
              | inr past ↦ later (i - (2 * h.pairs + 1)) (omega arith)
            ]
          ]
            where
              later : (j : ℕ) → i ≡ 2 * h.pairs + 1 + j → (m : Side) × (slice_get (men_on p (column_up bottom size)) i ≡ Some m)
              later j same = (pair_man j, at i (omega (arith, h.within)) ∙ ap (man_up p bottom) same ∙ h.shifted j (omega arith))
