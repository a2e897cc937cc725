-- What a pool's calls do to what it holds, and that the order of cells doesn't matter.
use Rattle.std.specs.Prelude.{◌≡◌, ◌≢◌, ℕ, ◌+◌, ◌<◌, ◌==◌, true, false, List, [], ◌∷◌, ◌++◌, length, set, Option, Some, None}
use Rattle.std.proofs.Common.{refl, sym, ap, subst, ◌∙◌, arith, inl, inr}
use Rattle.std.proofs.lemmas.Bool.{cases_Bool, cases_lt}
use Rattle.std.proofs.lemmas.List.{append_assoc, length-append, get_or-set_same, get_or-set_other, get_or_past}
use Rattle.std.proofs.lemmas.Option.{none-some}
use Rattle.node_pool.specs.Slots.{held, live_slots}
use Rattle.proof_front.specs.Cells.{Cell, values_at, listed, Owns}

same_number : (i : ℕ) → (i == i) ≡ true
same_number i = grind arith

module _ {T : Type 0} where
  -- ---- the order of cells

  values_append : (i : ℕ) (a b : List (Cell T)) → values_at i (a ++ b) ≡ values_at i a ++ values_at i b
  values_append i [] b = refl
  values_append i (c ∷ a) b =
      elim (cases_Bool (c.0 == i)) [
        | inl here ↦ rw (here, values_append i a b) refl
        | inr past ↦ rw past (values_append i a b)
      ]

  turned : (x y z : List T) (o : Option T) → x ++ (y ++ z) ≡ listed o → y ++ (x ++ z) ≡ listed o
  turned [] y z o h = h
  turned (a ∷ x) y z None h = cc
  turned (a ∷ []) [] z (Some v) h = h
  turned (a ∷ []) (b ∷ y) z (Some v) h = cc
  turned (a ∷ b ∷ x) y z (Some v) h = cc

  -- two parts change places
  pub exchanged : {slots : List (Option T)} (x y z : List (Cell T)) → Owns slots (x ++ (y ++ z)) → Owns slots (y ++ (x ++ z))
  exchanged {slots} x y z owns =
      record {
        holds = λ i. three i y x z ∙ turned (values_at i x) (values_at i y) (values_at i z) (held slots i) (sym (three i x y z) ∙ owns.holds i);
        live = omega (arith, owns.live, lengths x y z, lengths y x z);
      }
    where
      three : (i : ℕ) (x y z : List (Cell T)) → values_at i (x ++ (y ++ z)) ≡ values_at i x ++ (values_at i y ++ values_at i z)
      three i x y z = values_append i x (y ++ z) ∙ ap (λ w. values_at i x ++ w) (values_append i y z)

      lengths : (x y z : List (Cell T)) → length (x ++ (y ++ z)) ≡ length x + (length y + length z)
      lengths x y z = length-append x (y ++ z) ∙ ap (λ n. length x + n) (length-append y z)

  -- ---- a cell and two parts behind it

  -- the first part comes to the front
  pub first_to_front : {slots : List (Option T)} (c : Cell T) (k r others : List (Cell T)) → Owns slots (c ∷ ((k ++ r) ++ others))
      → Owns slots (k ++ (c ∷ (r ++ others)))
  first_to_front {slots} c k r others owns = exchanged (c ∷ []) k (r ++ others) (subst (λ w. Owns slots (c ∷ w)) (append_assoc k r others) owns)

  pub first_from_front : {slots : List (Option T)} (c : Cell T) (k r others : List (Cell T)) → Owns slots (k ++ (c ∷ (r ++ others)))
      → Owns slots (c ∷ ((k ++ r) ++ others))
  first_from_front {slots} c k r others owns = subst (λ w. Owns slots (c ∷ w)) (sym (append_assoc k r others)) (exchanged k (c ∷ []) (r ++ others) owns)

  -- the second part comes to the front
  pub second_to_front : {slots : List (Option T)} (c : Cell T) (k r others : List (Cell T)) → Owns slots (c ∷ ((k ++ r) ++ others))
      → Owns slots (r ++ (c ∷ (k ++ others)))
  second_to_front {slots} c k r others owns = exchanged (c ∷ k) r others (subst (λ w. Owns slots (c ∷ w)) (append_assoc k r others) owns)

  pub second_from_front : {slots : List (Option T)} (c : Cell T) (k r others : List (Cell T)) → Owns slots (r ++ (c ∷ (k ++ others)))
      → Owns slots (c ∷ ((k ++ r) ++ others))
  second_from_front {slots} c k r others owns = subst (λ w. Owns slots (c ∷ w)) (sym (append_assoc k r others)) (exchanged r (c ∷ k) others owns)

  -- ---- what a pool's calls do

  head_is : (x : T) (xs : List T) (o : Option T) → x ∷ xs ≡ listed o → o ≡ Some x
  head_is x xs None h = cc
  head_is x xs (Some y) h = cc

  tail_is : (x : T) (xs : List T) (o : Option T) → x ∷ xs ≡ listed o → xs ≡ []
  tail_is x xs None h = cc
  tail_is x xs (Some y) h = cc

  at_own : (i : ℕ) (v : T) (cells : List (Cell T)) → values_at i ((i, v) ∷ cells) ≡ v ∷ values_at i cells
  at_own i v cells = rw (same_number i) refl

  pub mine : {slots : List (Option T)} (i : ℕ) (v : T) (others : List (Cell T)) → Owns slots ((i, v) ∷ others) → held slots i ≡ Some v
  mine {slots} i v others owns = head_is v (values_at i others) (held slots i) (sym (at_own i v others) ∙ owns.holds i)

  no_other : {slots : List (Option T)} (i : ℕ) (v : T) (others : List (Cell T)) → Owns slots ((i, v) ∷ others) → values_at i others ≡ []
  no_other {slots} i v others owns = tail_is v (values_at i others) (held slots i) (sym (at_own i v others) ∙ owns.holds i)

  other_values : (i j : ℕ) (v w : T) (others : List (Cell T)) → (i == j) ≡ false → values_at j ((i, v) ∷ others) ≡ values_at j ((i, w) ∷ others)
  other_values i j v w others apart = rw apart refl

  within : (slots : List (Option T)) (i : ℕ) (v : T) → held slots i ≡ Some v → i < length slots
  within slots i v here =
      elim (cases_lt i (length slots)) [
        | inl inside ↦ inside
        | inr past ↦ absurd (none-some v (sym (get_or_past slots i None past) ∙ here))
      ]

  -- a value is put into a slot in place of another
  pub changed_to : {slots : List (Option T)} (i : ℕ) (v w : T) (others : List (Cell T)) → Owns slots ((i, v) ∷ others)
      → live_slots (set slots i (Some w)) ≡ live_slots slots → Owns (set slots i (Some w)) ((i, w) ∷ others)
  changed_to {slots} i v w others owns same =
      record {
        holds = λ j. elim (cases_Bool (i == j)) [
          | inl here ↦ put j here
          | inr past ↦ other_values i j w v others past ∙ (owns.holds j ∙ ap listed (sym (get_or-set_other slots i j (Some w) None (apart j past))))
        ];
        live = same ∙ owns.live;
      }
    where
      put : (j : ℕ) → (i == j) ≡ true → values_at j ((i, w) ∷ others) ≡ listed (held (set slots i (Some w)) j)
      put j here =
          let e : i ≡ j = grind arith in
          subst (λ j. values_at j ((i, w) ∷ others) ≡ listed (held (set slots i (Some w)) j)) e
          (at_own i w others ∙ (ap (λ xs. w ∷ xs) (no_other i v others owns)
          ∙ ap listed (sym (get_or-set_same slots i (Some w) None (within slots i v (mine i v others owns))))))

      apart : (j : ℕ) → (i == j) ≡ false → j ≢ i
      apart j past e = grind arith

  -- a value is put into a slot that held nothing
  pub placed_to : {slots : List (Option T)} (i : ℕ) (w : T) (others : List (Cell T)) → i < length slots → held slots i ≡ None → Owns slots others
      → live_slots (set slots i (Some w)) ≡ live_slots slots + 1
      → Owns (set slots i (Some w)) ((i, w) ∷ others)
  placed_to {slots} i w others inside none owns more =
      record {
        holds = λ j. elim (cases_Bool (i == j)) [
          | inl here ↦ put j here
          | inr past ↦ skip j past ∙ (owns.holds j ∙ ap listed (sym (get_or-set_other slots i j (Some w) None (apart j past))))
        ];
        live = omega (arith, more, owns.live);
      }
    where
      empty : values_at i others ≡ []
      empty = owns.holds i ∙ ap listed none

      put : (j : ℕ) → (i == j) ≡ true → values_at j ((i, w) ∷ others) ≡ listed (held (set slots i (Some w)) j)
      put j here =
          let e : i ≡ j = grind arith in
          subst (λ j. values_at j ((i, w) ∷ others) ≡ listed (held (set slots i (Some w)) j)) e
          (at_own i w others ∙ (ap (λ xs. w ∷ xs) empty ∙ ap listed (sym (get_or-set_same slots i (Some w) None inside))))

      skip : (j : ℕ) → (i == j) ≡ false → values_at j ((i, w) ∷ others) ≡ values_at j others
      skip j past = rw past refl

      apart : (j : ℕ) → (i == j) ≡ false → j ≢ i
      apart j past e = grind arith

  -- a value is taken out
  pub given_to : {slots : List (Option T)} (i : ℕ) (v : T) (others : List (Cell T)) → Owns slots ((i, v) ∷ others)
      → live_slots (set slots i None) + 1 ≡ live_slots slots → Owns (set slots i None) others
  given_to {slots} i v others owns fewer =
      record {
        holds = λ j. elim (cases_Bool (i == j)) [
          | inl here ↦ taken j here
          | inr past ↦ sym (skip j past) ∙ (owns.holds j ∙ ap listed (sym (get_or-set_other slots i j None None (apart j past))))
        ];
        live = omega (arith, fewer, owns.live);
      }
    where
      taken : (j : ℕ) → (i == j) ≡ true → values_at j others ≡ listed (held (set slots i None) j)
      taken j here =
          let e : i ≡ j = grind arith in
          subst (λ j. values_at j others ≡ listed (held (set slots i None) j)) e
          (no_other i v others owns ∙ ap listed (sym (get_or-set_same slots i None None (within slots i v (mine i v others owns)))))

      skip : (j : ℕ) → (i == j) ≡ false → values_at j ((i, v) ∷ others) ≡ values_at j others
      skip j past = rw past refl

      apart : (j : ℕ) → (i == j) ≡ false → j ≢ i
      apart j past e = grind arith
