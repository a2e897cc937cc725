-- The men of a Lowinverse's column as lists: paired, topped and shifted, where White stands in them, and what two men
-- more make of them.
use Rattle.std.proofs.Common.{◌≡◌, ℕ, zero, suc, ◌%◌, ◌<◌, true, List, [], ◌∷◌, ◌++◌, length, Some, refl, arith}
use Rattle.std.specs.List.{slice_get}
use Rattle.game_rules.specs.declared.Side.{Side}
use Rattle.game_rules.specs.declared.Side.TheVariants.{White, Black}
use Rattle.plan_rules.specs.Calm.{is_paired, is_topped, is_shifted}

-- ---- how many

pub paired_even : (men : List Side) → is_paired men ≡ true → length men % 2 ≡ 0
paired_even [] h = refl
paired_even (White ∷ []) h = absurd (cc h)
paired_even (White ∷ White ∷ men) h = absurd (cc h)
paired_even (White ∷ Black ∷ men) h = omega (arith, paired_even men h)
paired_even (Black ∷ men) h = absurd (cc h)

pub shifted_odd : (men : List Side) → is_shifted men ≡ true → length men % 2 ≡ 1
shifted_odd [] h = absurd (cc h)
shifted_odd (White ∷ []) h = absurd (cc h)
shifted_odd (White ∷ White ∷ men) h = absurd (cc h)
shifted_odd (White ∷ Black ∷ men) h = omega (arith, shifted_odd men h)
shifted_odd (Black ∷ men) h = omega (arith, paired_even men h)

pub topped_length : (men : List Side) → is_topped men ≡ true → length men % 2 ≡ 1
topped_length [] h = absurd (cc h)
topped_length (White ∷ []) h = refl
topped_length (White ∷ White ∷ men) h = absurd (cc h)
topped_length (White ∷ Black ∷ men) h = omega (arith, topped_length men h)
topped_length (Black ∷ men) h = absurd (cc h)

-- ---- men more

pub paired_more : (men : List Side) → is_paired men ≡ true → is_paired ((men ++ White ∷ []) ++ Black ∷ []) ≡ true
paired_more [] h = refl
paired_more (White ∷ []) h = absurd (cc h)
paired_more (White ∷ White ∷ men) h = absurd (cc h)
paired_more (White ∷ Black ∷ men) h = paired_more men h
paired_more (Black ∷ men) h = absurd (cc h)

pub paired_topped : (men : List Side) → is_paired men ≡ true → is_topped (men ++ White ∷ []) ≡ true
paired_topped [] h = refl
paired_topped (White ∷ []) h = absurd (cc h)
paired_topped (White ∷ White ∷ men) h = absurd (cc h)
paired_topped (White ∷ Black ∷ men) h = topped_pair (men ++ White ∷ []) (paired_topped men h)
  where
    topped_pair : (men : List Side) → is_topped men ≡ true → is_topped (White ∷ Black ∷ men) ≡ true
    topped_pair men h = h
paired_topped (Black ∷ men) h = absurd (cc h)

pub paired_shifted : (men : List Side) → is_paired men ≡ true → is_shifted (men ++ Black ∷ []) ≡ true
paired_shifted [] h = refl
paired_shifted (White ∷ []) h = absurd (cc h)
paired_shifted (White ∷ White ∷ men) h = absurd (cc h)
paired_shifted (White ∷ Black ∷ men) h = paired_shifted men h
paired_shifted (Black ∷ men) h = absurd (cc h)

pub shifted_more : (men : List Side) → is_shifted men ≡ true → is_shifted ((men ++ White ∷ []) ++ Black ∷ []) ≡ true
shifted_more [] h = absurd (cc h)
shifted_more (White ∷ []) h = absurd (cc h)
shifted_more (White ∷ White ∷ men) h = absurd (cc h)
shifted_more (White ∷ Black ∷ men) h = shifted_more men h
shifted_more (Black ∷ men) h = paired_more men h

-- ---- where White stands

-- in a paired or topped column never at an odd place
pub paired_odd : (men : List Side) (i : ℕ) → is_paired men ≡ true → i % 2 ≡ 1 → slice_get men i ≡ Some White → ⊥
paired_odd [] i h odd white = cc
paired_odd (White ∷ []) i h odd white = cc
paired_odd (White ∷ White ∷ men) i h odd white = cc
paired_odd (White ∷ Black ∷ men) zero h odd white = omega arith
paired_odd (White ∷ Black ∷ men) (suc zero) h odd white = cc
paired_odd (White ∷ Black ∷ men) (suc (suc i)) h odd white = paired_odd men i h (omega arith) white
paired_odd (Black ∷ men) i h odd white = cc

pub topped_odd : (men : List Side) (i : ℕ) → is_topped men ≡ true → i % 2 ≡ 1 → slice_get men i ≡ Some White → ⊥
topped_odd [] i h odd white = cc
topped_odd (White ∷ []) zero h odd white = omega arith
topped_odd (White ∷ []) (suc i) h odd white = cc
topped_odd (White ∷ White ∷ men) i h odd white = cc
topped_odd (White ∷ Black ∷ men) zero h odd white = omega arith
topped_odd (White ∷ Black ∷ men) (suc zero) h odd white = cc
topped_odd (White ∷ Black ∷ men) (suc (suc i)) h odd white = topped_odd men i h (omega arith) white
topped_odd (Black ∷ men) i h odd white = cc

-- never at two neighbouring places
pub paired_no_two : (men : List Side) (i : ℕ) → is_paired men ≡ true → slice_get men i ≡ Some White → slice_get men (suc i) ≡ Some White → ⊥
paired_no_two [] i h white over = cc
paired_no_two (White ∷ []) i h white over = cc
paired_no_two (White ∷ White ∷ men) i h white over = cc
paired_no_two (White ∷ Black ∷ men) zero h white over = cc
paired_no_two (White ∷ Black ∷ men) (suc zero) h white over = cc
paired_no_two (White ∷ Black ∷ men) (suc (suc i)) h white over = paired_no_two men i h white over
paired_no_two (Black ∷ men) i h white over = cc

pub topped_no_two : (men : List Side) (i : ℕ) → is_topped men ≡ true → slice_get men i ≡ Some White → slice_get men (suc i) ≡ Some White → ⊥
topped_no_two [] i h white over = cc
topped_no_two (White ∷ []) i h white over = cc
topped_no_two (White ∷ White ∷ men) i h white over = cc
topped_no_two (White ∷ Black ∷ men) zero h white over = cc
topped_no_two (White ∷ Black ∷ men) (suc zero) h white over = cc
topped_no_two (White ∷ Black ∷ men) (suc (suc i)) h white over = topped_no_two men i h white over
topped_no_two (Black ∷ men) i h white over = cc

pub shifted_no_two : (men : List Side) (i : ℕ) → is_shifted men ≡ true → slice_get men i ≡ Some White → slice_get men (suc i) ≡ Some White → ⊥
shifted_no_two [] i h white over = cc
shifted_no_two (White ∷ []) i h white over = cc
shifted_no_two (White ∷ White ∷ men) i h white over = cc
shifted_no_two (White ∷ Black ∷ men) zero h white over = cc
shifted_no_two (White ∷ Black ∷ men) (suc zero) h white over = cc
shifted_no_two (White ∷ Black ∷ men) (suc (suc i)) h white over = shifted_no_two men i h white over
shifted_no_two (Black ∷ men) zero h white over = cc
shifted_no_two (Black ∷ men) (suc i) h white over = paired_no_two men i h white over

-- in a paired or shifted column never last
pub paired_not_last : (men : List Side) (i : ℕ) → is_paired men ≡ true → slice_get men i ≡ Some White → suc i < length men
paired_not_last [] i h white = absurd (cc white)
paired_not_last (White ∷ []) i h white = absurd (cc h)
paired_not_last (White ∷ White ∷ men) i h white = absurd (cc h)
paired_not_last (White ∷ Black ∷ men) zero h white = omega arith
paired_not_last (White ∷ Black ∷ men) (suc zero) h white = absurd (cc white)
paired_not_last (White ∷ Black ∷ men) (suc (suc i)) h white = omega (arith, paired_not_last men i h white)
paired_not_last (Black ∷ men) i h white = absurd (cc h)

pub shifted_not_last : (men : List Side) (i : ℕ) → is_shifted men ≡ true → slice_get men i ≡ Some White → suc i < length men
shifted_not_last [] i h white = absurd (cc white)
shifted_not_last (White ∷ []) i h white = absurd (cc h)
shifted_not_last (White ∷ White ∷ men) i h white = absurd (cc h)
shifted_not_last (White ∷ Black ∷ men) zero h white = omega arith
shifted_not_last (White ∷ Black ∷ men) (suc zero) h white = absurd (cc white)
shifted_not_last (White ∷ Black ∷ men) (suc (suc i)) h white = omega (arith, shifted_not_last men i h white)
shifted_not_last (Black ∷ men) zero h white = absurd (cc white)
shifted_not_last (Black ∷ men) (suc i) h white = omega (arith, paired_not_last men i h white)
