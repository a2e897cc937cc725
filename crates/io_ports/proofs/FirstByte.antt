-- A search for a byte, and the place at which it first stands.
use Rattle.std.proofs.Common.{◌≡◌, ℕ, Bool, true, false, eqb, List, length, get_or, Some, None, refl, arith}
use Rattle.std.specs.List.{position_or_len}
use Rattle.std.proofs.lemmas.List.Sums.{position_or_len_is}
use Rattle.bstr.specs.Find.{IsFirstByte, is_byte}

fails : (b : Bool) → (b ≡ true → ⊥) → b ≡ false
fails true never = absurd (never refl)
fails false never = refl

module _ (b : ℕ) (xs : List ℕ) where
  pub first_none : IsFirstByte (is_byte b) xs None → position_or_len (λ x. eqb x b) xs ≡ length xs
  first_none nowhere =
      position_or_len_is (λ x. eqb x b) xs (length xs) 0 (omega arith)
      (λ k below. fails (eqb (get_or xs k 0) b) (nowhere k (omega arith) below))
      (λ past. absurd (omega arith))

  pub first_found : (at : ℕ) → IsFirstByte (is_byte b) xs (Some at) → position_or_len (λ x. eqb x b) xs ≡ at
  first_found at found =
      position_or_len_is (λ x. eqb x b) xs at 0 (omega (arith, found.0.high))
      (λ k below. fails (eqb (get_or xs k 0) b) (found.0.before k (omega arith) below))
      (λ _. found.1)
