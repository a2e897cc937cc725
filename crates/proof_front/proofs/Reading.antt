-- A row that lies in a pool is the one that is read there, and has as many nodes as it has slots.
use Rattle.std.specs.Prelude.{◌≡◌, ℕ, zero, suc, ◌+◌, ◌≤◌, Bool, true, false, not, List, [], ◌∷◌, ◌++◌, length, Option, None, is_some}
use Rattle.std.proofs.Common.{refl, subst, arith, inl, inr}
use Rattle.std.proofs.lemmas.Bool.{cases_Bool}
use Rattle.std.proofs.lemmas.List.{length-append}
use Rattle.std.proofs.lemmas.List.Sums.{count_by-le-length}
use Rattle.game_rules.specs.Position.{Position}
use Rattle.game_rules.specs.declared.Side.{Side}
use Rattle.front_rules.specs.Front.{Row, nothing, inner, node_count, leaf_number, is_own, of_none, verdict_by_numbers, verdict_on}
use Rattle.front_rules.specs.Path.{IsClean}
use Rattle.front_rules.specs.declared.Count.{Count}
use Rattle.front_rules.specs.declared.LeafVerdict.{LeafVerdict}
use Rattle.front_rules.specs.declared.LeafVerdict.TheVariants.{Unsettled, Yes, No}
use Rattle.proof_front.specs.Cells.{Cell, Owns}
use Rattle.proof_front.specs.Numbers.{leaf_numbers, node_numbers}
use Rattle.proof_front.specs.Rows.{Placed, end, leaf_at, inner_at, row_of, first_of, cells_of, Lies, row_beside, row_within, row_at}
use Rattle.proof_front.specs.declared.node.Node.{Node}
use Rattle.proof_front.proofs.Cells.{first_to_front, second_to_front, mine}

leaf_verdict : (v : LeafVerdict) → verdict_by_numbers (leaf_number true v) (leaf_number false v) ≡ v
leaf_verdict Unsettled = refl
leaf_verdict Yes = refl
leaf_verdict No = refl

module _ (side : Side) where
  -- a node without children is settled
  pub childless : (p : Position) → verdict_on side p nothing ≡ Unsettled → ⊥
  childless p h =
      elim (cases_Bool (is_own side p)) [
        | inl own ↦ settled_no (subst (λ b. verdict_by_numbers (of b) (of (not b)) ≡ Unsettled) own h)
        | inr other ↦ settled_yes (subst (λ b. verdict_by_numbers (of b) (of (not b)) ≡ Unsettled) other h)
      ]
    where
      of : Bool → Count
      of b = of_none b

      settled_no : No ≡ Unsettled → ⊥
      settled_no e = cc

      settled_yes : Yes ≡ Unsettled → ⊥
      settled_yes e = cc

  beside_kids : (node : Node) (p : Position) (kids : Placed) (below beside : Row) → verdict_on side p (row_of kids) ≡ Unsettled
      → row_beside node (first_of kids) below beside ≡ inner node.position below beside
  beside_kids node p end below beside h = absurd (childless p h)
  beside_kids node p (leaf_at i q v rest) below beside h = refl
  beside_kids node p (inner_at i q kids rest) below beside h = refl

  pub length_cells : (row : Placed) → length (cells_of side row) ≡ node_count (row_of row)
  length_cells end = refl
  length_cells (leaf_at i p v rest) = omega (arith, length_cells rest)
  length_cells (inner_at i p kids rest) = omega (arith, length-append (cells_of side kids) (cells_of side rest), length_cells kids, length_cells rest)

  module _ {slots : List (Option Node)} where
    reads : (row : Placed) (others : List (Cell Node)) (n : ℕ) → Owns slots (cells_of side row ++ others) → IsClean side (row_of row)
        → node_count (row_of row) ≤ n → row_within n slots (first_of row) ≡ row_of row
    unfolding row_within
    reads end others zero owns clean few = refl
    reads end others (suc n) owns clean few = refl
    reads (leaf_at i p v rest) others zero owns clean few = absurd (omega (arith, few))
    reads (leaf_at i p v rest) others (suc n) owns clean few =
        let here = mine i (record { position = p; first = None; next = first_of rest; numbers = leaf_numbers v }) (cells_of side rest ++ others) owns in
        let beside = reads rest (_ ∷ others) n (second_to_front _ [] (cells_of side rest) others owns) clean (omega (arith, few)) in
        rw (here, leaf_verdict v, beside) refl
    reads (inner_at i p kids rest) others zero owns clean few = absurd (omega (arith, few))
    reads (inner_at i p kids rest) others (suc n) owns clean few =
        let node : Node = record { position = p; first = first_of kids; next = first_of rest; numbers = node_numbers side p (row_of kids) } in
        let here = mine i node ((cells_of side kids ++ cells_of side rest) ++ others) owns in
        let below = reads kids (_ ∷ _) n (first_to_front _ (cells_of side kids) (cells_of side rest) others owns) clean.1 (omega (arith, few)) in
        let beside = reads rest (_ ∷ _) n (second_to_front _ (cells_of side kids) (cells_of side rest) others owns) clean.2 (omega (arith, few)) in
        rw (here, below, beside) (beside_kids node p kids (row_of kids) (row_of rest) clean.0)

    -- a row has no more nodes than there are slots
    pub few_nodes : (row : Placed) (others : List (Cell Node)) → Owns slots (cells_of side row ++ others)
        → node_count (row_of row) + length others ≤ length slots
    few_nodes row others owns = omega (
      arith,
      length_cells row,
      length-append (cells_of side row) others,
      owns.live,
      count_by-le-length {X = Option Node}
          is_some slots,
    )

    -- what is read from a row's first slot on is the row
    pub reads_at : (at : Option ℕ) (row : Placed) (others : List (Cell Node)) → Lies side slots at row others → row_at slots at ≡ row_of row
    reads_at at row others lies = subst (λ a. row_at slots a ≡ row_of row) lies.first
        (reads row others (length slots) lies.owns lies.clean (omega (arith, few_nodes row others lies.owns)))
