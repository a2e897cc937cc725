-- An expansion that changes one path alone leaves the tree that an expansion with all numbers from scratch leaves.
use Rattle.std.proofs.Common.{◌≡◌, ℕ, zero, suc, Bool, true, false, List, [], ◌∷◌, refl, sym, ap, subst, ◌∙◌, inl, inr}
use Rattle.std.proofs.lemmas.Bool.{cases_Bool}
use Rattle.game_rules.specs.Position.{Position}
use Rattle.game_rules.specs.declared.Side.{Side}
use Rattle.front_rules.specs.Counts.{same_count}
use Rattle.front_rules.specs.Front.{Row, nothing, leaf, inner, moves_out, leaf_number, is_own, takes_least, row_number, node_number, root_number}
use Rattle.front_rules.specs.Front.{verdict_by_numbers}
use Rattle.front_rules.specs.Front.{verdict_on, node_as, collapsed, leaves, expanded, grown, front_within}
use Rattle.front_rules.specs.Path.{IsClean, updated}
use Rattle.front_rules.proofs.Numbers.{collapsed_number}
use Rattle.front_rules.specs.declared.Count.{Count}
use Rattle.front_rules.specs.declared.LeafVerdict.{LeafVerdict}
use Rattle.front_rules.specs.declared.LeafVerdict.TheVariants.{Unsettled, Yes, No}

module _ (side : Side) where
  -- a tree without a settled inner node stays
  pub clean_stays : (row : Row) → IsClean side row → collapsed side row ≡ row
  clean_stays nothing h = refl
  clean_stays (leaf p v rest) h = ap (leaf p v) (clean_stays rest h)
  clean_stays (inner p kids rest) h = rw (h.0, clean_stays kids h.1, clean_stays rest h.2) refl

  pub clean_as : (v : LeafVerdict) (p : Position) (kids rest : Row) → verdict_on side p kids ≡ v → IsClean side kids → IsClean side rest
      → IsClean side (node_as v p kids rest)
  clean_as Unsettled p kids rest e k r = (e, k, r)
  clean_as Yes p kids rest e k r = r
  clean_as No p kids rest e k r = r

  module _ (closed : Side → Position → Bool) where
    pub clean_leaves : (ps : List Position) → IsClean side (leaves side closed ps)
    clean_leaves [] = tt
    clean_leaves (p ∷ ps) = clean_leaves ps

    pub updated_is : (proof : Bool) (n : Count) (row : Row) → IsClean side row
        → collapsed side (expanded side closed proof n row) ≡ updated side closed proof n row
    updated_is proof n nothing h = refl
    updated_is proof n (leaf p v rest) h =
        elim (cases_Bool (same_count (leaf_number proof v) n)) [
          | inl found ↦ rw (found, clean_stays (leaves side closed (moves_out p)) (clean_leaves (moves_out p)), clean_stays rest h) refl
          | inr past ↦ rw past (ap (leaf p v) (updated_is proof n rest h))
        ]
    updated_is proof n (inner p kids rest) h =
        let below = updated_is (is_own side p) (row_number side (is_own side p) true kids) kids h.1 in
        let new = expanded side closed (is_own side p) (row_number side (is_own side p) true kids) kids in
        elim (cases_Bool (same_count (node_number side proof p kids) n)) [
          | inl found ↦ rw (found, clean_stays rest h.2) (ap (λ v. node_as v p (collapsed side new) rest) (verdict_collapsed p new)
              ∙ ap (λ k. node_as (verdict_on side p k) p k rest) below)
          | inr past ↦ rw (past, h.0, clean_stays kids h.1) (ap (inner p kids) (updated_is proof n rest h.2))
        ]
      where
        verdict_collapsed : (p : Position) (kids : Row) → verdict_on side p kids ≡ verdict_on side p (collapsed side kids)
        verdict_collapsed p kids =
            ap (λ n. verdict_by_numbers n (node_number side false p kids)) (sym (collapsed_number side kids true (takes_least side true p)))
            ∙ ap (verdict_by_numbers (node_number side true p (collapsed side kids))) (sym (collapsed_number side kids false (takes_least side false p)))

    pub updated_clean : (proof : Bool) (n : Count) (row : Row) → IsClean side row → IsClean side (updated side closed proof n row)
    updated_clean proof n nothing h = tt
    updated_clean proof n (leaf p v rest) h =
        elim (cases_Bool (same_count (leaf_number proof v) n)) [
          | inl found ↦ rw found (clean_as _ p (leaves side closed (moves_out p)) rest refl (clean_leaves (moves_out p)) h)
          | inr past ↦ rw past (updated_clean proof n rest h)
        ]
    updated_clean proof n (inner p kids rest) h =
        elim (cases_Bool (same_count (node_number side proof p kids) n)) [
          | inl found ↦ rw found (clean_as _ p _ rest refl (updated_clean (is_own side p) (row_number side (is_own side p) true kids) kids h.1) h.2)
          | inr past ↦ rw past (h.0, h.1, updated_clean proof n rest h.2)
        ]

    pub grown_is : (tree : Row) → IsClean side tree → grown side closed tree ≡ updated side closed true (root_number side true tree) tree
    grown_is tree h = updated_is true (root_number side true tree) tree h

    pub grown_clean : (tree : Row) → IsClean side tree → IsClean side (grown side closed tree)
    grown_clean tree h = subst (IsClean side) (sym (grown_is tree h)) (updated_clean true (root_number side true tree) tree h)

    pub front_clean : (p : Position) (n : ℕ) → IsClean side (front_within side closed p n)
    unfolding front_within
    front_clean p zero = tt
    front_clean p (suc n) = grown_clean (front_within side closed p n) (front_clean p n)
