-- Lemmas that are new to a table, one list behind another.
use Rattle.std.proofs.Common.{◌≡◌, Bool, true, List, [], ◌∷◌, ◌++◌, None, refl, sym, subst}
use Rattle.std.specs.List.{AllByRecursion}
use Rattle.game_rules.specs.Position.{Position}
use Rattle.game_rules.specs.declared.Question.{Question}
use Rattle.proof_text.proofs.Spaced.{all_append, all_each}
use Rattle.position_table.specs.Table.{Entries}
use Rattle.proof_text.specs.Right.{Shown}
use Rattle.deep_search.specs.Tables.{held, StaysWhole}
use Rattle.deep_search.specs.Search.{AreApart, IsNew}

-- what has a property stands apart from what has not
apart_append : (P : Position → Type 0) (xs ys : List Shown) → AreApart xs → AreApart ys → AllByRecursion (λ s. P s.0 → ⊥) xs → AllByRecursion (λ s. P s.0) ys
    → AreApart (xs ++ ys)
apart_append P [] ys once after without with' = after
apart_append P (x ∷ xs) ys once after without with' = (
  all_append (λ t. x.0 ≡ t.0 → ⊥) xs ys once.0 (all_each (λ t. P t.0) (λ t. x.0 ≡ t.0 → ⊥) ys (λ t has same. without.0 (subst P (sym same) has)) with'),
  apart_append P xs ys once.1 after without.1 with',
)

pub new_nothing : (done : Bool) (question : Question) (before after : Entries) → IsNew done question [] before after
new_nothing done question before after = record { fresh = λ now. tt; once = λ now. tt; kept = λ whole now. tt }

pub new_then : (done : Bool) (question : Question) (first rest : List Shown) (before mid after : Entries) → StaysWhole before mid → StaysWhole mid after
    → IsNew true question first before mid → IsNew done question rest mid after
    → IsNew done question (first ++ rest) before after
new_then done question first rest before mid after stays more one two = record {
  fresh = λ now. all_append (λ s. held before s.0 question ≡ None) first rest (one.fresh (more.was now))
      (all_each (λ s. held mid s.0 question ≡ None) (λ s. held before s.0 question ≡ None) rest (λ s gone. stays.there (more.was now) s.0 question gone)
      (two.fresh now));
  once = λ now. apart_append (λ p. held mid p question ≡ None) first rest (one.once (more.was now)) (two.once now) (one.kept refl (more.was now))
      (two.fresh now);
  kept = λ whole now. all_append (λ s. held after s.0 question ≡ None → ⊥) first rest
      (all_each (λ s. held mid s.0 question ≡ None → ⊥) (λ s. held after s.0 question ≡ None
      → ⊥) first (λ s there gone. there (more.there now s.0 question gone)) (one.kept refl (more.was now)))
      (two.kept whole now);
}
