-- What the look-ups find after an entry was used or kept.
use Rattle.std.proofs.Common.{◌≡◌, ℕ, zero, suc, ◌-◌, ◌<◌, ◌≤◌, Bool, true, false, ◌⊎◌, cond, List, [], ◌∷◌, length, take, Option, Some, None, option_map, refl}
use Rattle.std.proofs.Common.{sym, ap, ◌∙◌, inl, inr, arith}
use Rattle.std.specs.Option.{option_map_or}
use Rattle.std.specs.Map.{lookup, lookup_entry, remove_entry}
use Rattle.std.proofs.lemmas.Bool.{cases_Bool}
use Rattle.game_rules.specs.Position.{Position}
use Rattle.game_rules.specs.declared.Question.{Question}
use Rattle.lru.proofs.CallerLemmas.{Contains-lookup_entry}
use Rattle.position_table.specs.declared.table.Found.{Found}
use Rattle.position_key.specs.Keys.{Key, same_key, same_key_Decides, same_key_equiv}
use Rattle.position_table.specs.Table.{Entries, used, entries_kept}
use Rattle.position_table.proofs.Kept.{lookup_of_entry}
use Rattle.std.proofs.lemmas.Option.{same_Some, none-some}

module _ {K X : Type 0} where
  -- an entry that goes takes no other key's
  lookup_without : (gone test : K → Bool) (es : List (K × X)) (e : K × X) → lookup_entry gone es ≡ Some e → test e.0 ≡ false
      → lookup test (remove_entry gone es) ≡ lookup test es
  lookup_without gone test [] e there other = cc
  lookup_without gone test (d ∷ es) e there other =
      (elim (gone d.0) as (λ b. gone d.0 ≡ b → lookup test (cond b es (d ∷ remove_entry gone es)) ≡ lookup test (d ∷ es)) [
        | true ↦ λ t. let h = rw t at there in let same : d ≡ e = cc in sym (rw (ap (λ (e : K × X). test e.0) same ∙ other) refl)
        | false ↦ λ t. ap (cond (test d.0) (Some d.1)) (lookup_without gone test es e (rw t at there) other)
      ]) refl

  lookup_take : (test : K → Bool) (n : ℕ) (es : List (K × X)) (x : X) → lookup test (take n es) ≡ Some x → lookup test es ≡ Some x
  lookup_take test zero es x h = cc
  lookup_take test (suc n) [] x h = cc
  lookup_take test (suc n) (e ∷ es) x h =
      (elim (test e.0) as (λ b. cond b (Some e.1) (lookup test (take n es)) ≡ Some x → cond b (Some e.1) (lookup test es) ≡ Some x) [
        | true ↦ λ h. h
        | false ↦ λ h. lookup_take test n es x h
      ]) h

  pub take_whole : (n : ℕ) (es : List (K × X)) → length es ≤ n → take n es ≡ es
  take_whole zero [] h = refl
  take_whole zero (e ∷ es) h = absurd (omega arith)
  take_whole (suc n) [] h = refl
  take_whole (suc n) (e ∷ es) h = ap (λ es. e ∷ es) (take_whole n es (omega arith))

-- a use changes no look-up
pub lookup_used : (k other : Key) (es : List (Key × Found)) → lookup (same_key other) (used k.position k.question es) ≡ lookup (same_key other) es
unfolding used
lookup_used k other es = by (lookup_entry (same_key k) es) refl
  where
    by : (o : Option (Key × Found)) → lookup_entry (same_key k) es ≡ o → lookup (same_key other) (option_map_or (λ e. e ∷ remove_entry (same_key k) es) o es)
        ≡ lookup (same_key other) es
    by None none = refl
    by (Some e) there = elim (cases_Bool (same_key other e.0)) [
      | inl same ↦
          let one : other ≡ k = (same_key_Decides other e.0).0 same ∙ sym ((same_key_Decides k e.0).0 (Contains-lookup_entry (same_key k) es e there).1) in
          rw same (sym (ap (λ k. lookup (same_key k) es) one ∙ lookup_of_entry (same_key k) es ∙ ap (option_map (λ e. e.1)) there))
      | inr apart ↦ rw apart (lookup_without (same_key k) (same_key other) es e there apart)
    ]

module _ (p : Position) (q : Question) (f : Found) (t : Entries) (absent : lookup (same_key (record { position = p; question = q })) t.entries ≡ None) where
  abbrev own : Key
  own = record { position = p; question = q }

  in_front : entries_kept p q f t ≡ (own, f) ∷ take (t.room - 1) t.entries
  in_front = rw absent refl

  -- what is kept is found
  pub lookup_kept : lookup (same_key own) (entries_kept p q f t) ≡ Some f
  lookup_kept = ap (lookup (same_key own)) in_front ∙ ap (λ b. cond b (Some f) (lookup (same_key own) (take (t.room - 1) t.entries))) (same_key_equiv.refl own)

  -- what is found is what was kept, or was there
  pub lookup_kept_from : (other : Key) (g : Found) → lookup (same_key other) (entries_kept p q f t) ≡ Some g → (lookup (same_key other) t.entries ≡ Some g)
      ⊎ ((other ≡ own) × (g ≡ f))
  lookup_kept_from other g h = elim (cases_Bool (same_key other own)) [
    | inl same ↦ inr (
      (same_key_Decides other own).0 same,
      sym (same_Some _ _ (sym (ap (λ b. cond b (Some f) (lookup (same_key other) (take (t.room - 1) t.entries))) same) ∙ front)),
    )
    | inr apart ↦ inl (lookup_take (same_key other) (t.room - 1) t.entries g
        (sym (ap (λ b. cond b (Some f) (lookup (same_key other) (take (t.room - 1) t.entries))) apart) ∙ front))
  ]
    where
      front : lookup (same_key other) ((own, f) ∷ take (t.room - 1) t.entries) ≡ Some g
      front = sym (ap (lookup (same_key other)) in_front) ∙ h

  -- where there was room, all others are still there
  pub lookup_kept_stays : length t.entries < t.room → (other : Key) → lookup (same_key other) (entries_kept p q f t) ≡ None
      → lookup (same_key other) t.entries ≡ None
  lookup_kept_stays room other h = elim (cases_Bool (same_key other own)) [
    | inl same ↦ absurd (none-some f (sym front ∙ ap (λ b. cond b (Some f) (lookup (same_key other) (take (t.room - 1) t.entries))) same))
    | inr apart ↦ ap (lookup (same_key other)) (sym (take_whole (t.room - 1) t.entries (omega (arith, room))))
        ∙ sym (ap (λ b. cond b (Some f) (lookup (same_key other) (take (t.room - 1) t.entries))) apart) ∙ front
  ]
    where
      front : lookup (same_key other) ((own, f) ∷ take (t.room - 1) t.entries) ≡ None
      front = sym (ap (lookup (same_key other)) in_front) ∙ h
