-- Going through a list and keeping the elements that pass a test, where a test of two elements says whether they are
-- the same.
use Rattle.std.proofs.Common.{◌≡◌, ◌⊎◌, ℕ, ◌+◌, ◌<◌, Bool, true, false, ◌&&◌, ◌||◌, List, [], ◌∷◌, ◌++◌, length, take, get_or, refl, sym, ap, ◌∙◌, inl, inr}
use Rattle.std.specs.List.{list_any}
use Rattle.std.proofs.Math.Bool.{or_comm, or-false, and-false}
use Rattle.std.proofs.lemmas.Bool.{cases_Bool}
use Rattle.std.proofs.lemmas.List.{take_more}
use Rattle.std.proofs.lemmas.List.Folds.{list_any-append}

module _ {X : Type 0} (same : X → X → Bool) (same_is : (x y : X) → same x y ≡ true → x ≡ y) (xs : List X) (i : ℕ) (x : X) (within : i < length xs)
    (here : x ≡ get_or xs i x) where
  -- one more element
  pub one_more : (y : X) → (same y x || list_any (same y) (take i xs)) ≡ list_any (same y) (take (i + 1) xs)
  one_more y =
      or_comm (same y x) (list_any (same y) (take i xs))
      ∙ ap (λ b. list_any (same y) (take i xs) || b) (sym (or-false (same y x)))
      ∙ sym (list_any-append (same y) (take i xs) (x ∷ []))
      ∙ ap (λ ys. list_any (same y) ys) (ap (λ t. take i xs ++ t ∷ []) here ∙ sym (take_more xs i x within))

  module _ (test : X → Bool) where
    -- one more element that passes
    pub one_passes : test x ≡ true → (y : X) → (same y x || (list_any (same y) (take i xs) && test y)) ≡ (list_any (same y) (take (i + 1) xs) && test y)
    one_passes passes y = at (cases_Bool (same y x)) ∙ ap (λ b. b && test y) (one_more y)
      where
        at : (same y x ≡ true) ⊎ (same y x ≡ false)
            → (same y x || (list_any (same y) (take i xs) && test y)) ≡ ((same y x || list_any (same y) (take i xs)) && test y)
        at (inl is) = rw is (sym (ap test (same_is y x is) ∙ passes))
        at (inr apart) = rw apart refl

    -- one more element that doesn't
    pub one_fails : test x ≡ false → (y : X) → (list_any (same y) (take i xs) && test y) ≡ (list_any (same y) (take (i + 1) xs) && test y)
    one_fails fails y = at (cases_Bool (same y x)) ∙ ap (λ b. b && test y) (one_more y)
      where
        at : (same y x ≡ true) ⊎ (same y x ≡ false) → (list_any (same y) (take i xs) && test y) ≡ ((same y x || list_any (same y) (take i xs)) && test y)
        at (inl is) = rw (ap test (same_is y x is) ∙ fails)
            (and-false (list_any (same y) (take i xs)) ∙ sym (and-false (same y x || list_any (same y) (take i xs))))
        at (inr apart) = rw apart refl
