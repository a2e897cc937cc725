-- The first node of a row has the number that is looked for: a leaf gets children, and an inner node is looked at again.
use Rattle.std.proofs.Common.{◌≡◌, ℕ, Bool, true, false, if◌then◌else◌, List, ◌∷◌, ◌++◌, Option, None, Some, refl, sym, ap, subst, ◌∙◌, inl, inr}
use Rattle.std.proofs.lemmas.Bool.{cases_Bool}
use Rattle.std.proofs.lemmas.List.{append_assoc}
use Rattle.std.proofs.lemmas.Option.{none-some}
use Rattle.game_rules.specs.Position.{Position, end_of}
use Rattle.game_rules.specs.declared.Side.{Side}
use Rattle.front_rules.specs.Counts.{is_zero}
use Rattle.front_rules.specs.Front.{Row, leaf, inner, node_number, verdict_by_numbers, verdict_on, node_as}
use Rattle.front_rules.specs.Path.{IsClean}
use Rattle.front_rules.proofs.Numbers.{settled_yes, settled_no}
use Rattle.front_rules.proofs.Updated.{clean_as}
use Rattle.front_rules.specs.declared.Count.{Count}
use Rattle.front_rules.specs.declared.LeafVerdict.{LeafVerdict}
use Rattle.front_rules.specs.declared.LeafVerdict.TheVariants.{Unsettled, Yes, No}
use Rattle.node_pool.specs.Slots.{held}
use Rattle.proof_front.specs.Cells.{Cell, Owns}
use Rattle.proof_front.specs.Numbers.{leaf_numbers, node_numbers}
use Rattle.proof_front.specs.Rows.{Placed, end, leaf_at, inner_at, row_of, first_of, cells_of, AreGoing, Lies}
use Rattle.proof_front.specs.Steps.{renewed, kept_below}
use Rattle.proof_front.specs.declared.node.Node.{Node}
use Rattle.proof_front.specs.declared.node.Numbers.{Numbers}
use Rattle.proof_front.proofs.Going.{going_as}
use Rattle.proof_front.proofs.Opening.{same_some}
use Rattle.proof_front.proofs.Reading.{childless}
use Rattle.proof_front.proofs.Skipping.{leaf_cell, inner_cell}

-- ---- what two numbers settle

pub yes_zero : (a b : Count) → verdict_by_numbers a b ≡ Yes → is_zero a ≡ true
yes_zero a b h =
    elim (cases_Bool (is_zero a)) [
      | inl zero ↦ zero
      | inr more ↦ absurd (other (is_zero b) (sym (ap (λ t. if t then Yes else (if is_zero b then No else Unsettled)) more) ∙ h))
    ]
  where
    other : (t : Bool) → (if t then No else Unsettled) ≡ Yes → ⊥
    other true e = cc
    other false e = cc

pub no_zero : (a b : Count) → verdict_by_numbers a b ≡ No → is_zero b ≡ true
no_zero a b h =
    elim (cases_Bool (is_zero a)) [
      | inl zero ↦ absurd (other (sym (ap (λ t. if t then Yes else (if is_zero b then No else Unsettled)) zero) ∙ h))
      | inr more ↦ elim (cases_Bool (is_zero b)) [
        | inl zero ↦ zero
        | inr second ↦ absurd (neither (sym (ap (λ t. if t then No else Unsettled) second)
            ∙ (sym (ap (λ t. if t then Yes else (if is_zero b then No else Unsettled)) more) ∙ h)))
      ]
    ]
  where
    other : Yes ≡ No → ⊥
    other e = cc

    neither : Unsettled ≡ No → ⊥
    neither e = cc

pub neither_zero : (a b : Count) → verdict_by_numbers a b ≡ Unsettled → (is_zero a ≡ false) × (is_zero b ≡ false)
neither_zero a b h = (first (is_zero a) h, second (is_zero a) (is_zero b) h)
  where
    first : (t : Bool) → (if t then Yes else (if is_zero b then No else Unsettled)) ≡ Unsettled → t ≡ false
    first true e = cc
    first false e = refl

    second : (t u : Bool) → (if t then Yes else (if u then No else Unsettled)) ≡ Unsettled → u ≡ false
    second true u e = cc
    second false true e = cc
    second false false e = refl

module _ (side : Side) where
  settled_numbers_yes : (p : Position) (kids : Row) → verdict_on side p kids ≡ Yes → node_numbers side p kids ≡ leaf_numbers Yes
  settled_numbers_yes p kids h =
      let zero = yes_zero (node_number side true p kids) (node_number side false p kids) h in
      rw (← settled_yes side p kids true zero, ← settled_yes side p kids false zero) refl

  settled_numbers_no : (p : Position) (kids : Row) → verdict_on side p kids ≡ No → node_numbers side p kids ≡ leaf_numbers No
  settled_numbers_no p kids h =
      let zero = no_zero (node_number side true p kids) (node_number side false p kids) h in
      rw (← settled_no side p kids true zero, ← settled_no side p kids false zero) refl

  -- ---- a node with new children, as a leaf where it is settled

  abbrev pub as_placed : LeafVerdict → ℕ → Position → Placed → Placed → Placed
  as_placed Unsettled at p kids rest = inner_at at p kids rest
  as_placed Yes at p kids rest = leaf_at at p Yes rest
  as_placed No at p kids rest = leaf_at at p No rest

  pub as_row : (v : LeafVerdict) (at : ℕ) (p : Position) (kids rest : Placed) → row_of (as_placed v at p kids rest) ≡ node_as v p (row_of kids) (row_of rest)
  as_row Unsettled at p kids rest = refl
  as_row Yes at p kids rest = refl
  as_row No at p kids rest = refl

  as_first : (v : LeafVerdict) (at : ℕ) (p : Position) (kids rest : Placed) → first_of (as_placed v at p kids rest) ≡ Some at
  as_first Unsettled at p kids rest = refl
  as_first Yes at p kids rest = refl
  as_first No at p kids rest = refl

  module _ (at : ℕ) (p : Position) (kids rest : Placed) (others : List (Cell Node)) (f : Option ℕ) (nums : Numbers) where
    -- the node before its numbers were looked at again
    abbrev before : Node
    before = record { position = p; first = f; next = first_of rest; numbers = nums }

    abbrev again : Node
    again = record { position = p; first = f; next = first_of rest; numbers = node_numbers side p (row_of kids) }

    as_cells : {new : List (Option Node)} (v : LeafVerdict) → verdict_on side p (row_of kids) ≡ v
        → Owns new (kept_below v at again (first_of kids) (cells_of side kids) ++ (cells_of side rest ++ others))
        → Owns new (cells_of side (as_placed v at p kids rest) ++ others)
    as_cells {new} Unsettled h owns =
        subst (λ w. Owns new ((at, record { position = p; first = first_of kids; next = first_of rest; numbers = node_numbers side p (row_of kids) }) ∷ w))
        (sym (append_assoc (cells_of side kids) (cells_of side rest) others)) owns
    as_cells {new} Yes h owns = subst
        (λ n. Owns new ((at, record { position = p; first = None; next = first_of rest; numbers = n }) ∷ (cells_of side rest ++ others)))
        (settled_numbers_yes p (row_of kids) h) owns
    as_cells {new} No h owns = subst
        (λ n. Owns new ((at, record { position = p; first = None; next = first_of rest; numbers = n }) ∷ (cells_of side rest ++ others)))
        (settled_numbers_no p (row_of kids) h) owns

    pub as_lies : {new : List (Option Node)} → Owns new (renewed side at before kids ++ (cells_of side rest ++ others)) → IsClean side (row_of kids)
        → IsClean side (row_of rest) → AreGoing (row_of kids) → AreGoing (row_of rest)
        → Lies side new (Some at) (as_placed (verdict_on side p (row_of kids)) at p kids rest) others
    as_lies owns clean_kids clean_rest going_kids going_rest =
        let v = verdict_on side p (row_of kids) in
        let row = as_row v at p kids rest in
        record {
          owns = as_cells v refl owns;
          first = as_first v at p kids rest;
          clean = subst (IsClean side) (sym row) (clean_as side v p (row_of kids) (row_of rest) refl clean_kids clean_rest);
          going = subst AreGoing (sym row) (going_as side v p (row_of kids) (row_of rest) going_kids going_rest);
        }

  -- ---- what begins the row

  -- a leaf
  pub record LeafFirst (slots : List (Option Node)) (at : ℕ) (node : Node) (row : Placed) (others : List (Cell Node)) : Type 0 where
    pub verdict : LeafVerdict
    pub rest : Placed
    pub row_is : row_of row ≡ leaf node.position verdict (row_of rest)
    pub node_is : node ≡ record { position = node.position; first = None; next = first_of rest; numbers = leaf_numbers verdict }
    pub owns : Owns slots ((at, node) ∷ (cells_of side rest ++ others))
    pub clean : IsClean side (row_of rest)
    pub going : (verdict ≡ Unsettled → end_of node.position ≡ None) × AreGoing (row_of rest)

  -- an inner node
  pub record InnerFirst (slots : List (Option Node)) (at : ℕ) (node : Node) (row : Placed) (others : List (Cell Node)) : Type 0 where
    pub kids : Placed
    pub rest : Placed
    pub row_is : row_of row ≡ inner node.position (row_of kids) (row_of rest)
    pub node_is : node ≡ record {
      position = node.position;
      first = first_of kids;
      next = first_of rest;
      numbers = node_numbers side node.position (row_of kids);
    }
    pub owns : Owns slots ((at, node) ∷ ((cells_of side kids ++ cells_of side rest) ++ others))
    pub clean : (verdict_on side node.position (row_of kids) ≡ Unsettled) × IsClean side (row_of kids) × IsClean side (row_of rest)
    pub going : AreGoing (row_of kids) × AreGoing (row_of rest)

  -- a node whose first child has no slot has no child
  no_kids : (p : Position) (kids : Placed) → first_of kids ≡ None → verdict_on side p (row_of kids) ≡ Unsettled → ⊥
  no_kids p end none h = childless side p h
  no_kids p (leaf_at i q v rest) none h = cc
  no_kids p (inner_at i q kids rest) none h = cc

  module _ {slots : List (Option Node)} {at : ℕ} {node : Node} (here : held slots at ≡ Some node) where
    pub leaf_first : (row : Placed) (others : List (Cell Node)) → Lies side slots (Some at) row others → node.first ≡ None → LeafFirst slots at node row others
    leaf_first end others lies none = absurd (none-some at lies.first)
    leaf_first (leaf_at j p v rest) others lies none =
        let cell = leaf_cell side here j p v rest others lies in
        let position : p ≡ node.position = ap (λ n. n.position) cell in
        record {
          verdict = v;
          rest = rest;
          row_is = ap (λ q. leaf q v (row_of rest)) position;
          node_is = sym cell ∙ ap (λ q. record { position = q; first = None; next = first_of rest; numbers = leaf_numbers v }) position;
          owns = subst (λ c. Owns slots (c ∷ (cells_of side rest ++ others)))
              (ap (λ k. (k, record { position = p; first = None; next = first_of rest; numbers = leaf_numbers v })) (same_some lies.first)
              ∙ ap (λ n. (at, n)) cell) lies.owns;
          clean = lies.clean;
          going = (λ e. sym (ap end_of position) ∙ lies.going.0 e, lies.going.1);
        }
    leaf_first (inner_at j p kids rest) others lies none =
        absurd (no_kids p kids (ap (λ n. n.first) (inner_cell side here j p kids rest others lies) ∙ none) lies.clean.0)

    pub inner_first : (row : Placed) (others : List (Cell Node)) → Lies side slots (Some at) row others → {first : ℕ} → node.first ≡ Some first
        → InnerFirst slots at node row others
    inner_first end others lies some = absurd (none-some at lies.first)
    inner_first (leaf_at j p v rest) others lies some = absurd (none-some _ (ap (λ n. n.first) (leaf_cell side here j p v rest others lies) ∙ some))
    inner_first (inner_at j p kids rest) others lies some =
        let cell = inner_cell side here j p kids rest others lies in
        let position : p ≡ node.position = ap (λ n. n.position) cell in
        record {
          kids = kids;
          rest = rest;
          row_is = ap (λ q. inner q (row_of kids) (row_of rest)) position;
          node_is = sym cell ∙ ap (λ q. record { position = q; first = first_of kids; next = first_of rest; numbers = node_numbers side q (row_of kids) })
              position;
          owns = subst (λ c. Owns slots (c ∷ ((cells_of side kids ++ cells_of side rest) ++ others)))
              (ap (λ k. (k, record { position = p; first = first_of kids; next = first_of rest; numbers = node_numbers side p (row_of kids) }))
              (same_some lies.first) ∙ ap (λ n. (at, n)) cell) lies.owns;
          clean = (ap (λ q. verdict_on side q (row_of kids)) (sym position) ∙ lies.clean.0, lies.clean.1, lies.clean.2);
          going = lies.going;
        }
