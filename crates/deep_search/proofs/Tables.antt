-- What the table has after a look-up and after an answer was kept, and what a search may rest on in it.
use Rattle.std.proofs.Common.{◌≡◌, ℕ, ◌+◌, ◌<◌, ◌≤◌, Bool, true, false, ◌&&◌, ◌||◌, List, [], ◌∷◌, ◌++◌, length, Option, Some, None, Result, Ok, Err, OnOk}
use Rattle.std.proofs.Common.{OnErr, is_ok, is_some, nat_lt, refl, sym, ap, ◌∙◌, subst, inl, inr, arith}
use Rattle.std.proofs.lemmas.Bool.{and_parts, ltb-true}
use Rattle.std.specs.Map.{lookup}
use Rattle.game_rules.specs.Position.{Position, empty_count}
use Rattle.game_rules.specs.Value.{wins}
use Rattle.game_rules.specs.Questions.{side_asked}
use Rattle.game_rules.specs.declared.Question.{Question}
use Rattle.position_table.specs.declared.table.Found.{Found}
use Rattle.position_key.specs.Keys.{is_for}
use Rattle.position_table.specs.Table.{Entries, used, entries_kept, whole_kept}
use Rattle.position_table.proofs.Held.{lookup_used, lookup_kept, lookup_kept_from, lookup_kept_stays}
use Rattle.proof_text.specs.Lemma.{claim_for}
use Rattle.proof_text.specs.Right.{Shown, Shows}
use Rattle.proof_text.proofs.Append.{Shows_more, Shows_last}
use Rattle.deep_search.specs.Tables.{held, IsTrueEntry, IsTrueTable, FitsTable, OnlyBelow, HasSame, StaysWhole, KeepsEntry}
use Rattle.std.proofs.lemmas.Option.{none-some}

-- ---- look-ups

-- a use changes none
pub held_used : (t after : Entries) (p : Position) (q : Question) → after ≡ record t { entries = used p q t.entries } → HasSame t after
unfolding held
held_used t after p q is = record {
  entries = λ r s. ap (λ t. lookup (is_for r s) t.entries) is ∙ lookup_used (record { position = p; question = q }) (record { position = r; question = s })
      t.entries;
  whole = ap (λ t. t.whole) is;
}

pub found_held : (t : Entries) (p : Position) (question : Question) (found : Option Found) → found ≡ lookup (is_for p question) t.entries
    → found ≡ held t p question
unfolding held
found_held t p question found is = is

-- ---- an answer that is kept

both_true : (a b : Bool) → (a && b) ≡ true → (a ≡ true) × (b ≡ true)
both_true a b h = and_parts a b h

kept_here : (p : Position) (question : Question) (f : Found) (before after : Entries) → held before p question ≡ None
    → after.entries ≡ entries_kept p question f before
    → after.whole ≡ whole_kept p question before true → KeepsEntry p question f before after
unfolding held
kept_here p question f before after absent entries whole = record {
  nothing_else = λ q s g there. elim
      (lookup_kept_from p question f before absent (record { position = q; question = s }) g (sym (ap (lookup (is_for q s)) entries) ∙ there)) [
        | inl was ↦ inl was
        | inr own ↦ inr (ap (λ k. k.position) own.0, ap (λ k. k.question) own.0, own.1)
      ];
  stays = record {
    was = λ now. (both_true before.whole _ (sym whole ∙ now)).0;
    there = λ now q s gone. lookup_kept_stays p question f before absent (room now) (record { position = q; question = s })
        (sym (ap (lookup (is_for q s)) entries) ∙ gone);
  };
  there = λ now. ap (lookup (is_for p question)) entries ∙ lookup_kept p question f before absent;
}
  where
    room : after.whole ≡ true → length before.entries < before.room
    room now =
        let both = both_true before.whole (true && (is_some (lookup (is_for p question) before.entries) || nat_lt (length before.entries) before.room))
        (sym whole ∙ now) in
        ltb-true (length before.entries) before.room (sym (ap (λ o. is_some o || nat_lt (length before.entries) before.room) absent) ∙ both.1)

kept_not : (p : Position) (question : Question) (f : Found) (before after : Entries) → after.entries ≡ before.entries
    → after.whole ≡ whole_kept p question before false → KeepsEntry p question f before after
unfolding held
kept_not p question f before after entries whole = record {
  nothing_else = λ q s g there. inl (sym (ap (lookup (is_for q s)) entries) ∙ there);
  stays = record {
    was = λ now. (both_true before.whole false (sym whole ∙ now)).0;
    there = λ now q s gone. absurd (never now);
  };
  there = λ now. absurd (never now);
}
  where
    never : after.whole ≡ true → ⊥
    never now = apart (both_true before.whole false (sym whole ∙ now)).1
      where
        apart : false ≡ true → ⊥
        apart e = cc

-- the entry was kept, or there was no memory for it
pub kept_or_not : {A E : Type 0} (p : Position) (question : Question) (f : Found) (before after : Entries) (result : Result A E) → held before p question ≡ None
    → OnOk result (after.entries ≡ entries_kept p question f before)
    → OnErr result (after.entries ≡ before.entries) → after.whole ≡ whole_kept p question before (is_ok result) → KeepsEntry p question f before after
kept_or_not p question f before after (Ok x) absent kept same whole = kept_here p question f before after absent kept whole
kept_or_not p question f before after (Err e) absent kept same whole = kept_not p question f before after same whole

-- ---- what a search may rest on

-- a table without entries may be rested on
pub true_if_empty : (t : Entries) (count : ℕ) → t.entries ≡ [] → IsTrueTable t count
unfolding held
true_if_empty t count empty p question f there = absurd (none-some f (sym (ap (lookup (is_for p question)) empty) ∙ there))

pub fits_if_empty : (t : Entries) (known : List Shown) → t.entries ≡ [] → FitsTable t known
unfolding held
fits_if_empty t known empty p question f there = absurd (none-some f (sym (ap (lookup (is_for p question)) empty) ∙ there))

module _ (before after : Entries) (same : HasSame before after) where
  pub true_same : (count : ℕ) → IsTrueTable before count → IsTrueTable after count
  true_same count entries p question f there = entries p question f (sym (same.entries p question) ∙ there)

  pub fits_same : (known : List Shown) → FitsTable before known → FitsTable after known
  fits_same known fits p question f there = fits p question f (sym (same.entries p question) ∙ there)

  pub below_same : (n : ℕ) → OnlyBelow n before after
  below_same n p question f there = inl (sym (same.entries p question) ∙ there)

  pub stays_same : StaysWhole before after
  stays_same = record {
    was = λ now. sym same.whole ∙ now;
    there = λ now p question gone. sym (same.entries p question) ∙ gone;
  }

-- one look-up after another
pub same_then : (before mid after : Entries) → HasSame before mid → HasSame mid after → HasSame before after
same_then before mid after first rest = record {
  entries = λ p question. rest.entries p question ∙ first.entries p question;
  whole = rest.whole ∙ first.whole;
}

pub true_more : (t : Entries) (count more : ℕ) → count ≤ more → IsTrueTable t count → IsTrueTable t more
true_more t count more low entries p question f there = let is = entries p question f there in
    record { answer = is.answer; first = is.first; last = omega (arith, is.last, low) }

pub true_kept : (p : Position) (question : Question) (f : Found) (before after : Entries) (count : ℕ) → KeepsEntry p question f before after
    → IsTrueTable before count → f.answer ≡ wins (side_asked question) p → f.lemma ≡ count + 1 → IsTrueTable after (count + 1)
true_kept p question f before after count kept entries answer number q s g there = elim (kept.nothing_else q s g there) [
  | inl was ↦ true_more before count (count + 1) (omega arith) entries q s g was
  | inr own ↦ subst (λ g. IsTrueEntry (count + 1) q s g) (sym own.2)
      (subst (λ s. IsTrueEntry (count + 1) q s f) (sym own.1)
      (subst (λ q. IsTrueEntry (count + 1) q question f) (sym own.0) (record { answer = answer; first = omega (arith, number); last = omega (arith, number) })))
]

pub fits_kept : (p : Position) (question : Question) (f : Found) (before after : Entries) (known : List Shown) → KeepsEntry p question f before after
    → FitsTable before known → f.lemma ≡ length known + 1
    → FitsTable after (known ++ (p, claim_for (side_asked question) f.answer) ∷ [])
fits_kept p question f before after known kept fits number q s g there = elim (kept.nothing_else q s g there) [
  | inl was ↦ Shows_more known ((p, claim_for (side_asked question) f.answer) ∷ []) g.lemma q (claim_for (side_asked s) g.answer) (fits q s g was)
  | inr own ↦ subst (λ g. Shows all g.lemma q (claim_for (side_asked s) g.answer)) (sym own.2)
      (subst (λ s. Shows all f.lemma q (claim_for (side_asked s) f.answer)) (sym own.1)
      (subst (λ q. Shows all f.lemma q (claim_for (side_asked question) f.answer)) (sym own.0)
      (subst (λ n. Shows all n p (claim_for (side_asked question) f.answer)) (sym number) (Shows_last known p (claim_for (side_asked question) f.answer)))))
]
  where
    all : List Shown
    all = known ++ (p, claim_for (side_asked question) f.answer) ∷ []

pub fits_more : (t : Entries) (known more : List Shown) → FitsTable t known → FitsTable t (known ++ more)
fits_more t known more fits p question f there = Shows_more known more f.lemma p (claim_for (side_asked question) f.answer) (fits p question f there)

pub below_kept : (p : Position) (question : Question) (f : Found) (before after : Entries) → KeepsEntry p question f before after
    → OnlyBelow (empty_count p + 1) before after
below_kept p question f before after kept q s g there = elim (kept.nothing_else q s g there) [
  | inl was ↦ inl was
  | inr own ↦ inr (omega (arith, ap empty_count own.0))
]

pub below_then : (n m most : ℕ) (before mid after : Entries) → OnlyBelow n before mid → OnlyBelow m mid after → n ≤ most → m ≤ most
    → OnlyBelow most before after
below_then n m most before mid after first rest low high p question f there = elim (rest p question f there) [
  | inl was ↦ elim (first p question f was) [
    | inl before' ↦ inl before'
    | inr new ↦ inr (omega (arith, new, low))
  ]
  | inr new ↦ inr (omega (arith, new, high))
]

-- a position that wasn't there is still absent after a search below it
pub still_absent : (p : Position) (question : Question) (before after : Entries) → OnlyBelow (empty_count p) before after → held before p question ≡ None
    → held after p question ≡ None
still_absent p question before after below absent = by (held after p question) refl
  where
    by : (o : Option Found) → held after p question ≡ o → o ≡ None
    by None h = refl
    by (Some f) h = elim (below p question f h) [
      | inl was ↦ absurd (none-some f (sym absent ∙ was))
      | inr low ↦ absurd (omega (arith, low))
    ]

pub stays_then : (before mid after : Entries) → StaysWhole before mid → StaysWhole mid after → StaysWhole before after
stays_then before mid after first rest = record {
  was = λ now. first.was (rest.was now);
  there = λ now p question gone. first.there (rest.was now) p question (rest.there now p question gone);
}
