-- No leaf that isn't settled has ended, and none that an expansion makes.
use Rattle.std.proofs.Common.{◌≡◌, if◌then◌else◌, Bool, true, List, [], ◌∷◌, Option, Some, None, refl, sym, ap, ◌∙◌, inl, inr}
use Rattle.std.proofs.lemmas.Bool.{cases_Bool}
use Rattle.game_rules.specs.Position.{Position, end_of}
use Rattle.game_rules.specs.Value.{win_of, same_end}
use Rattle.game_rules.specs.declared.End.{End}
use Rattle.game_rules.specs.declared.Side.{Side}
use Rattle.front_rules.specs.Counts.{same_count}
use Rattle.front_rules.specs.Front.{Row, nothing, leaf, inner, moves_out, leaf_number, is_own, row_number, node_number, node_as, end_verdict, leaves}
use Rattle.front_rules.specs.Path.{updated}
use Rattle.front_rules.specs.declared.Count.{Count}
use Rattle.front_rules.specs.declared.LeafVerdict.{LeafVerdict}
use Rattle.front_rules.specs.declared.LeafVerdict.TheVariants.{Unsettled, Yes, No}
use Rattle.proof_front.specs.Rows.{AreGoing}

module _ (side : Side) where
  pub going_as : (v : LeafVerdict) (p : Position) (kids rest : Row) → AreGoing kids → AreGoing rest → AreGoing (node_as v p kids rest)
  going_as Unsettled p kids rest k r = (k, r)
  going_as Yes p kids rest k r = (λ e. cc, r)
  going_as No p kids rest k r = (λ e. cc, r)

  module _ (closed : Side → Position → Bool) where
    ended_settled : (end : Option End) (known : Bool) → end_verdict side closed end known ≡ Unsettled → end ≡ None
    ended_settled None known h = refl
    ended_settled (Some end) known h = elim (cases_Bool (same_end (win_of side) end)) [
      | inl won ↦ absurd (yes (sym (ap (λ b. if b then Yes else No) won) ∙ h))
      | inr other ↦ absurd (no (sym (ap (λ b. if b then Yes else No) other) ∙ h))
    ]
      where
        yes : Yes ≡ Unsettled → ⊥
        yes e = cc

        no : No ≡ Unsettled → ⊥
        no e = cc

    pub going_leaves : (ps : List Position) → AreGoing (leaves side closed ps)
    going_leaves [] = tt
    going_leaves (p ∷ ps) = (ended_settled (end_of p) (closed side p), going_leaves ps)

    pub going_updated : (proof : Bool) (n : Count) (row : Row) → AreGoing row → AreGoing (updated side closed proof n row)
    going_updated proof n nothing h = tt
    going_updated proof n (leaf p v rest) h =
        elim (cases_Bool (same_count (leaf_number proof v) n)) [
          | inl found ↦ rw found (going_as _ p (leaves side closed (moves_out p)) rest (going_leaves (moves_out p)) h.1)
          | inr past ↦ rw past (h.0, going_updated proof n rest h.1)
        ]
    going_updated proof n (inner p kids rest) h =
        elim (cases_Bool (same_count (node_number side proof p kids) n)) [
          | inl found ↦ rw found (going_as _ p _ rest (going_updated (is_own side p) (row_number side (is_own side p) true kids) kids h.0) h.1)
          | inr past ↦ rw past (h.0, going_updated proof n rest h.1)
        ]
