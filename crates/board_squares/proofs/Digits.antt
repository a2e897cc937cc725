-- Numbers by their digits to a base that is a power of two.
use Rattle.std.proofs.Common.{◌≡◌, ℕ, zero, suc, ◌+◌, ◌*◌, ◌/◌, ◌%◌, ◌^◌, ◌<◌, sum_by, refl, sym, ap, ◌∙◌, subst, arith, add-one}
use Rattle.std.specs.List.{range_with_len}
use Rattle.std.proofs.Math.Nat.{mul-zero, mul-suc, mul-add, add-mul, mul_assoc}
use Rattle.std.proofs.lemmas.Nat.{pow-add, pow_pos, shr-shr, mul-add-lt, div-mul-add, mod-mul-add, ones_cat}
use Rattle.std.specs.Int.RustNames.{count_ones}
use Rattle.std.proofs.lemmas.List.Sums.{sum_by-cons}

pub ones_of_zero : count_ones 0 ≡ 0
unfolding count_ones
ones_of_zero = refl

-- so many digits of k bits from the given one on, the first of them the lowest
unfoldable pub number : (k : ℕ) → (ℕ → ℕ) → ℕ → ℕ → ℕ
number k d a zero = 0
number k d a (suc m) = number k d (a + 1) m * 2 ^ k + d a

pub number_none : (k : ℕ) (d : ℕ → ℕ) (a : ℕ) → number k d a 0 ≡ 0
unfolding number
number_none k d a = refl

pub number_more : (k : ℕ) (d : ℕ → ℕ) (a m : ℕ) → number k d a (m + 1) ≡ number k d (a + 1) m * 2 ^ k + d a
unfolding number
number_more k d a m = rw (add-one m) refl

-- where the digits are the same from two places on, so are the numbers
pub number_same : (k : ℕ) (d e : ℕ → ℕ) (m a b : ℕ) → ((i : ℕ) → i < m → d (a + i) ≡ e (b + i)) → number k d a m ≡ number k e b m
unfolding number
number_same k d e zero a b same = refl
number_same k d e (suc m) a b same =
    let first : d a ≡ e b = ap d (let f : a ≡ a + 0 = omega arith in f) ∙ same 0 (omega arith) ∙ ap e (let f : b + 0 ≡ b = omega arith in f) in
    ap (λ n. n * 2 ^ k + d a) (number_same k d e m (a + 1) (b + 1) (λ i low.
    ap d (let f : a + 1 + i ≡ a + suc i = omega arith in f) ∙ same (suc i) (omega arith) ∙ ap e (let f : b + suc i ≡ b + 1 + i = omega arith in f)))
    ∙ ap (λ n. number k e (b + 1) m * 2 ^ k + n) first

pub sum_number : (k : ℕ) (d : ℕ → ℕ) (m a : ℕ) → sum_by (λ i. d i * 2 ^ (k * i)) (range_with_len a m) ≡ number k d a m * 2 ^ (k * a)
unfolding number
sum_number k d zero a = omega arith
sum_number k d (suc m) a =
    let rest : number k d (a + 1) m * 2 ^ (k * (a + 1)) ≡ number k d (a + 1) m * 2 ^ k * 2 ^ (k * a) =
    ap (λ e. number k d (a + 1) m * 2 ^ e) (let e : k * (a + 1) ≡ k + k * a = omega (arith, mul-add k a 1) in e)
    ∙ ap (λ n. number k d (a + 1) m * n) (pow-add 2 k (k * a)) ∙ sym (mul_assoc (number k d (a + 1) m) (2 ^ k) (2 ^ (k * a))) in
    sum_by-cons (λ i. d i * 2 ^ (k * i)) a (range_with_len (a + 1) m)
    ∙ ap (λ n. d a * 2 ^ (k * a) + n) (sum_number k d m (a + 1) ∙ rest)
    ∙ omega (arith, add-mul (number k d (a + 1) m * 2 ^ k) (d a) (2 ^ (k * a)))

module _ (k : ℕ) (d : ℕ → ℕ) (small : (i : ℕ) → d i < 2 ^ k) where
  pub number_below : (a m : ℕ) → number k d a m < 2 ^ (k * m)
  unfolding number
  number_below a zero = pow_pos (k * 0)
  number_below a (suc m) =
      subst (λ n. number k d (a + 1) m * 2 ^ k + d a < n)
      (sym (pow-add 2 k (k * m)) ∙ ap (λ n. 2 ^ n) (let e : k + k * m ≡ k * suc m = omega (arith, mul-suc k m) in e))
      (mul-add-lt (number k d (a + 1) m) (2 ^ k) (d a) (2 ^ (k * m)) (number_below (a + 1) m) (small a))

  pub digit : (m a j : ℕ) → j < m → number k d a m / 2 ^ (k * j) % 2 ^ k ≡ d (a + j)
  unfolding number
  digit zero a j low = absurd (omega arith)
  digit (suc m) a zero low =
      ap (λ e. number k d a (suc m) / 2 ^ e % 2 ^ k) (mul-zero k)
      ∙ ap (λ n. n % 2 ^ k) (let e : number k d a (suc m) / 1 ≡ number k d a (suc m) = omega arith in e)
      ∙ mod-mul-add (number k d (a + 1) m) (2 ^ k) (d a) (small a)
      ∙ ap d (let e : a ≡ a + 0 = omega arith in e)
  digit (suc m) a (suc j) low =
      ap (λ n. n % 2 ^ k) (ap (λ e. number k d a (suc m) / 2 ^ e) (let e : k * suc j ≡ k + k * j = omega (arith, mul-suc k j) in e)
      ∙ sym (shr-shr (number k d a (suc m)) k (k * j))
      ∙ ap (λ n. n / 2 ^ (k * j)) (div-mul-add (number k d (a + 1) m) (2 ^ k) (d a) (small a)))
      ∙ digit m (a + 1) j (omega arith)
      ∙ ap d (let e : a + 1 + j ≡ a + suc j = omega arith in e)

  -- the ones of a number are those of its digits
  pub ones_number : (m a : ℕ) → count_ones (number k d a m) ≡ sum_by (λ i. count_ones (d i)) (range_with_len a m)
  unfolding number
  ones_number zero a = ones_of_zero
  ones_number (suc m) a =
      ones_cat k (number k d (a + 1) m) (d a) (small a)
      ∙ ap (λ n. n + count_ones (d a)) (ones_number m (a + 1))
      ∙ (let step = sum_by-cons (λ i. count_ones (d i)) a (range_with_len (a + 1) m) in omega (arith, step))
