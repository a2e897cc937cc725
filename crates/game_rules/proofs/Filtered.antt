-- What the elements that pass a test stand for, one element of the list after the other, from the first on.
use Rattle.std.proofs.Common.{◌≡◌, ℕ, ◌+◌, ◌<◌, ◌≤◌, Bool, true, cond, List, [], ◌∷◌, ◌++◌, length, map, filter, take, drop, get_or, Option, Some, None, inl}
use Rattle.std.proofs.Common.{inr, refl, sym, ap, ◌∙◌, arith, length-append, append-nil}
use Rattle.std.proofs.lemmas.Bool.{cases_Bool}
use Rattle.std.proofs.lemmas.List.{map-append, take-append-drop}
use Rattle.std.proofs.lemmas.List.Elements.{filter-append, filter_more}
use Rattle.std.proofs.lemmas.Option.{cond_some}

-- a test that all pass drops none
pub filter_all : {X : Type 0} (xs : List X) → filter (λ x. true) xs ≡ xs
filter_all [] = refl
filter_all (x ∷ xs) = ap (λ ys. x ∷ ys) (filter_all xs)

module _ {X Y : Type 0} (passes : X → Bool) (f : X → Y) (xs : List X) (i : ℕ) (x : X) (within : i < length xs) (here : x ≡ get_or xs i x) where
  -- what those of some elements that pass stand for
  abbrev kept : List X → List Y
  kept us = map f (filter passes us)

  kept-append : (us vs : List X) → kept (us ++ vs) ≡ kept us ++ kept vs
  kept-append us vs = ap (map f) (filter-append passes us vs) ∙ map-append f (filter passes us) (filter passes vs)

  further : kept (take (i + 1) xs) ≡ kept (take i xs) ++ map f (cond (passes x) (x ∷ []) [])
  further =
      ap (map f) (filter_more passes xs i x within ∙ ap (λ u. filter passes (take i xs) ++ cond (passes u) (u ∷ []) []) (sym here))
      ∙ map-append f (filter passes (take i xs)) (cond (passes x) (x ∷ []) [])

  -- the element passes
  pub filtered_more : (y : Y) → Some y ≡ cond {A = Option Y} (passes x) (Some (f x)) None → kept (take (i + 1) xs) ≡ kept (take i xs) ++ y ∷ []
  filtered_more y h =
      let got = cond_some (passes x) (f x) y (sym h) in
      further ∙ ap (λ b. kept (take i xs) ++ map f (cond b (x ∷ []) [])) got.0 ∙ ap (λ z. kept (take i xs) ++ z ∷ []) got.1

  -- it doesn't
  pub filtered_none : None ≡ cond {A = Option Y} (passes x) (Some (f x)) None → kept (take (i + 1) xs) ≡ kept (take i xs)
  filtered_none h = elim (cases_Bool (passes x)) [
    | inl good ↦ absurd (cc (rw good at h))
    | inr bad ↦ further ∙ ap (λ b. kept (take i xs) ++ map f (cond b (x ∷ []) [])) bad ∙ append-nil (kept (take i xs))
  ]

  -- one more has a place among all that pass
  pub filtered_fits : (y : Y) → Some y ≡ cond {A = Option Y} (passes x) (Some (f x)) None → length (kept (take i xs)) + 1 ≤ length (kept xs)
  filtered_fits y h =
      omega (
        arith,
        ap length (filtered_more y h),
        length-append (kept (take i xs)) (y ∷ []),
        ap (λ us. length (kept us)) (take-append-drop (i + 1) xs),
        ap length (kept-append (take (i + 1) xs) (drop (i + 1) xs)),
        length-append (kept (take (i + 1) xs)) (kept (drop (i + 1) xs)),
      )
