-- The first node of a row that lies in a pool, with the row below it and the row beside it.
use Rattle.std.specs.Prelude.{◌≡◌, ℕ, ◌+◌, ◌≤◌, Bool, true, false, List, [], ◌∷◌, ◌++◌, Option, None, Some, is_some}
use Rattle.std.proofs.lemmas.Option.{none-some}
use Rattle.std.proofs.Common.{refl, sym, ap, subst, ◌∙◌, arith}
use Rattle.game_rules.specs.Position.{Position}
use Rattle.game_rules.specs.declared.Side.{Side}
use Rattle.front_rules.specs.Counts.{finite_part}
use Rattle.front_rules.specs.Front.{leaf, inner, node_count, joined, takes_least, row_number}
use Rattle.front_rules.proofs.Numbers.{number_bound, part_leaf}
use Rattle.front_rules.specs.declared.LeafVerdict.{LeafVerdict}
use Rattle.node_pool.specs.Slots.{held, IsLive}
use Rattle.proof_front.specs.Cells.{Cell}
use Rattle.proof_front.specs.Numbers.{number_in, leaf_numbers, node_numbers}
use Rattle.proof_front.specs.Rows.{Placed, end, leaf_at, inner_at, row_of, first_of, cells_of, Lies}
use Rattle.proof_front.specs.declared.node.Node.{Node}
use Rattle.proof_front.proofs.Cells.{first_to_front, second_to_front, mine}

pub same_some : {A : Type 0} {x y : A} → Some x ≡ Some y → x ≡ y
same_some e = cc

-- the row below the first node, and the row beside it
abbrev pub kids_of : Placed → Placed
kids_of end = end
kids_of (leaf_at i p v rest) = end
kids_of (inner_at i p kids rest) = kids

abbrev pub rest_of : Placed → Placed
rest_of end = end
rest_of (leaf_at i p v rest) = rest
rest_of (inner_at i p kids rest) = rest

module _ (side : Side) where
  -- the node in slot i begins the row: below it lie its children, beside it the rest
  pub record Opened (slots : List (Option Node)) (i : ℕ) (node : Node) (row : Placed) (others : List (Cell Node)) : Type 0 where
    pub cells : cells_of side row ++ others ≡ (i, node) ∷ ((cells_of side (kids_of row) ++ cells_of side (rest_of row)) ++ others)
    pub below : Lies side slots node.first (kids_of row) ((i, node) ∷ (cells_of side (rest_of row) ++ others))
    pub beside : Lies side slots node.next (rest_of row) ((i, node) ∷ (cells_of side (kids_of row) ++ others))
    pub number : (proof smallest : Bool)
        → row_number side proof smallest (row_of row) ≡ joined smallest (number_in proof node.numbers) (row_number side proof smallest (row_of (rest_of row)))
    pub count : node_count (row_of row) ≡ 1 + (node_count (row_of (kids_of row)) + node_count (row_of (rest_of row)))
    pub part : (proof : Bool) → finite_part (number_in proof node.numbers) ≤ 1 + node_count (row_of (kids_of row))

  module _ {slots : List (Option Node)} where
    opened_leaf : (i : ℕ) (p : Position) (v : LeafVerdict) (rest : Placed) (others : List (Cell Node)) → Lies side slots (Some i) (leaf_at i p v rest) others
        → Opened slots i (record { position = p; first = None; next = first_of rest; numbers = leaf_numbers v }) (leaf_at i p v rest) others
    opened_leaf i p v rest others lies =
        record {
          cells = refl;
          below = record { owns = lies.owns; first = refl; clean = tt; going = tt };
          beside = record { owns = second_to_front _ [] (cells_of side rest) others lies.owns; first = refl; clean = lies.clean; going = lies.going.1 };
          number = number;
          count = omega arith;
          part = part;
        }
      where
        number : (proof smallest : Bool) → row_number side proof smallest (leaf p v (row_of rest))
            ≡ joined smallest (number_in proof (leaf_numbers v)) (row_number side proof smallest (row_of rest))
        number true smallest = refl
        number false smallest = refl

        part : (proof : Bool) → finite_part (number_in proof (leaf_numbers v)) ≤ 1 + 0
        part true = omega (arith, part_leaf side true v)
        part false = omega (arith, part_leaf side false v)

    opened_inner : (i : ℕ) (p : Position) (kids rest : Placed) (others : List (Cell Node)) → Lies side slots (Some i) (inner_at i p kids rest) others
        → Opened slots i (record { position = p; first = first_of kids; next = first_of rest; numbers = node_numbers side p (row_of kids) })
        (inner_at i p kids rest) others
    opened_inner i p kids rest others lies =
        record {
          cells = refl;
          below = record {
            owns = first_to_front _ (cells_of side kids) (cells_of side rest) others lies.owns;
            first = refl;
            clean = lies.clean.1;
            going =
                lies.going.0;
          };
          beside = record {
            owns = second_to_front _ (cells_of side kids) (cells_of side rest) others lies.owns;
            first = refl;
            clean = lies.clean.2;
            going =
                lies.going.1;
          };
          number = number;
          count = refl;
          part = part;
        }
      where
        number : (proof smallest : Bool) → row_number side proof smallest (inner p (row_of kids) (row_of rest))
            ≡ joined smallest (number_in proof (node_numbers side p (row_of kids))) (row_number side proof smallest (row_of rest))
        number true smallest = refl
        number false smallest = refl

        part : (proof : Bool) → finite_part (number_in proof (node_numbers side p (row_of kids))) ≤ 1 + node_count (row_of kids)
        part true = omega (arith, number_bound side (row_of kids) true (takes_least side true p))
        part false = omega (arith, number_bound side (row_of kids) false (takes_least side false p))

    pub opened : (i : ℕ) (node : Node) (row : Placed) (others : List (Cell Node)) → Lies side slots (Some i) row others → held slots i ≡ Some node
        → Opened slots i node row others
    opened i node end others lies here = absurd (none-some i lies.first)
    opened i node (leaf_at j p v rest) others lies here =
        let cell : Node = record { position = p; first = None; next = first_of rest; numbers = leaf_numbers v } in
        let e : j ≡ i = same_some lies.first in
        let n : cell ≡ node = same_some (sym (mine j cell (cells_of side rest ++ others) lies.owns) ∙ (ap (held slots) e ∙ here)) in
        subst (λ m. Opened slots i m (leaf_at j p v rest) others) n
        (subst (λ k. Opened slots k cell (leaf_at j p v rest) others) e
        (opened_leaf j p v rest others (record { owns = lies.owns; first = refl; clean = lies.clean; going = lies.going })))
    opened i node (inner_at j p kids rest) others lies here =
        let cell : Node = record { position = p; first = first_of kids; next = first_of rest; numbers = node_numbers side p (row_of kids) } in
        let e : j ≡ i = same_some lies.first in
        let n : cell ≡ node = same_some (sym (mine j cell ((cells_of side kids ++ cells_of side rest) ++ others) lies.owns) ∙ (ap (held slots) e ∙ here)) in
        subst (λ m. Opened slots i m (inner_at j p kids rest) others) n
        (subst (λ k. Opened slots k cell (inner_at j p kids rest) others) e
        (opened_inner j p kids rest others (record { owns = lies.owns; first = refl; clean = lies.clean; going = lies.going })))

    -- the slot of a row's first node is live
    pub first_held : (i : ℕ) (row : Placed) (others : List (Cell Node)) → Lies side slots (Some i) row others → IsLive slots i
    first_held i end others lies = absurd (none-some i lies.first)
    first_held i (leaf_at j p v rest) others lies = subst (IsLive slots) (same_some lies.first) (ap is_some (mine j _ (cells_of side rest ++ others) lies.owns))
    first_held i (inner_at j p kids rest) others lies = subst (IsLive slots) (same_some lies.first)
        (ap is_some (mine j _ ((cells_of side kids ++ cells_of side rest) ++ others) lies.owns))
