-- What the cache says of an entry that is put, in the table's words.
use Rattle.std.proofs.Common.{◌≡◌, ℕ, zero, suc, ◌-◌, ◌<◌, ◌≤◌, Bool, true, false, ◌&&◌, cond, List, [], ◌∷◌, length, Option, Some, None, option_map, nat_lt}
use Rattle.std.proofs.Common.{slice_get, refl, sym, ap, ◌∙◌, subst, arith}
use Rattle.std.proofs.Math.Bool.{and-true}
use Rattle.std.proofs.lemmas.Bool.{lt-ltb, ltb-true}
use Rattle.std.specs.Option.{option_map_or}
use Rattle.std.specs.Map.{lookup, lookup_entry}
use Rattle.game_rules.specs.Position.{Position}
use Rattle.game_rules.specs.declared.Question.{Question}
use Rattle.lru.specs.LruCache.{lru_cache, put_entries, displaced}
use Rattle.lru.proofs.CallerLemmas.{Contains-lookup_entry}
use Rattle.position_table.specs.declared.table.Found.{Found}
use Rattle.position_key.specs.Keys.{Key, same_key, same_key_Decides, same_key_equiv, is_for}
use Rattle.position_table.specs.Table.{entries_kept, whole_kept}
use Rattle.std.proofs.lemmas.Option.{same_Some, none-some}

module _ {K X : Type 0} (test : K → Bool) where
  pub lookup_of_entry : (es : List (K × X)) → lookup test es ≡ option_map (λ e. e.1) (lookup_entry test es)
  lookup_of_entry [] = refl
  lookup_of_entry (e ∷ es) = elim (test e.0) as (λ b. cond b (Some e.1) (lookup test es) ≡ option_map (λ e. e.1) (cond b (Some e) (lookup_entry test es))) [
    | true ↦ refl
    | false ↦ lookup_of_entry es
  ]

  -- where no key passes, none at a place does
  pub absent_at : (es : List (K × X)) (i : ℕ) (e : K × X) → lookup test es ≡ None → slice_get es i ≡ Some e → test e.0 ≡ false
  absent_at [] i e none at = cc
  absent_at (d ∷ es) zero e none at = (elim (test d.0) as (λ b. test d.0 ≡ b → test e.0 ≡ false) [
    | true ↦ λ t. let h = rw t at none in cc
    | false ↦ λ t. let same : d ≡ e = cc in subst (λ e. test e.0 ≡ false) same t
  ]) refl
  absent_at (d ∷ es) (suc i) e none at = (elim (test d.0) as (λ b. test d.0 ≡ b → test e.0 ≡ false) [
    | true ↦ λ t. let h = rw t at none in cc
    | false ↦ λ t. absent_at es i e (rw t at none) at
  ]) refl

  pub within_if_some : (es : List (K × X)) (i : ℕ) (e : K × X) → slice_get es i ≡ Some e → i < length es
  within_if_some [] i e at = cc
  within_if_some (d ∷ es) zero e at = omega arith
  within_if_some (d ∷ es) (suc i) e at = omega (arith, within_if_some es i e at)

  pub past_if_none : (es : List (K × X)) (i : ℕ) → slice_get es i ≡ None → length es ≤ i
  past_if_none [] i at = omega arith
  past_if_none (d ∷ es) zero at = cc
  past_if_none (d ∷ es) (suc i) at = omega (arith, past_if_none es i at)

not_below : (a b : ℕ) → b ≤ a → nat_lt a b ≡ false
not_below a b h = by (nat_lt a b) refl
  where
    by : (t : Bool) → nat_lt a b ≡ t → t ≡ false
    by true told = absurd (omega (arith, h, ltb-true a b told))
    by false told = refl

module _ (p : Position) (q : Question) (f : Found) (es : List (Key × Found)) (n : ℕ) (w : Bool) where
  abbrev key : Key
  key = record { position = p; question = q }

  -- what is put into the cache is what the table keeps
  pub put_is : put_entries same_key (lru_cache es n) key f ≡ entries_kept p q f (record { entries = es; room = n; whole = w })
  put_is = by (lookup_entry (is_for p q) es) refl
    where
      by : (o : Option (Key × Found)) → lookup_entry (is_for p q) es ≡ o
          → put_entries same_key (lru_cache es n) key f ≡ entries_kept p q f (record { entries = es; room = n; whole = w })
      by None h = rw (lookup_of_entry (is_for p q) es, h) refl
      by (Some e) h =
          let same : key ≡ e.0 = (same_key_Decides key e.0).0 (Contains-lookup_entry (is_for p q) es e h).1 in
          rw (lookup_of_entry (is_for p q) es, h, ← same) refl

  module _ (some : 0 < n) where
    -- nothing was pushed out
    pub whole_if_none : displaced same_key (lru_cache es n) key f ≡ None → w ≡ whole_kept p q (record { entries = es; room = n; whole = w }) true
    whole_if_none h = by (lookup (is_for p q) es) refl
      where
        by : (o : Option Found) → lookup (is_for p q) es ≡ o → w ≡ whole_kept p q (record { entries = es; room = n; whole = w }) true
        by None none =
            let past : length es ≤ n - 1 = past_if_none (is_for p q) es (n - 1)
            (sym (ap (λ o. option_map_or (λ old. Some (key, old)) o (slice_get es (n - 1))) none) ∙ h) in
            rw (none, lt-ltb (length es) n (omega (arith, past, some))) (sym (and-true w))
        by (Some old) there = absurd (none-some _ (sym h ∙ ap (λ o. option_map_or (λ old. Some (key, old)) o (slice_get es (n - 1))) there))

    -- the pair that came out is the old one for this key, or the last
    pub whole_if_some : (gone : Key × Found) → displaced same_key (lru_cache es n) key f ≡ Some gone
        → (w && same_key gone.0 key) ≡ whole_kept p q (record { entries = es; room = n; whole = w }) true
    whole_if_some gone h = by (lookup (is_for p q) es) refl
      where
        by : (o : Option Found) → lookup (is_for p q) es ≡ o → (w && same_key gone.0 key) ≡ whole_kept p q (record { entries = es; room = n; whole = w }) true
        by None none =
            let at : slice_get es (n - 1) ≡ Some gone = sym (ap (λ o. option_map_or (λ old. Some (key, old)) o (slice_get es (n - 1))) none) ∙ h in
            rw (
              none,
              not_below (length es) n (omega (arith, within_if_some (is_for p q) es (n - 1) gone at)),
              same_key_equiv.symm gone.0 key,
              absent_at (is_for p q) es (n - 1) gone none at,
            ) refl
        by (Some old) there =
            let at : (key, old) ≡ gone = same_Some _ _ (sym (ap (λ o. option_map_or (λ old. Some (key, old)) o (slice_get es (n - 1))) there) ∙ h) in
            rw (there, ← at, same_key_equiv.refl key) refl
