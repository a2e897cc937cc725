-- A function that works on a row opens it: what it may do with the row below the first node, and with the row beside it.
use Rattle.std.proofs.Common.{◌≡◌, ℕ, ◌+◌, ◌<◌, ◌≤◌, ◌^◌, Bool, true, false, not, List, [], ◌∷◌, ◌++◌, length, Option, Some, refl, sym, ap, subst, ◌∙◌, arith}
use Rattle.game_rules.specs.declared.Side.{Side}
use Rattle.front_rules.specs.Counts.{finite_part}
use Rattle.front_rules.specs.Front.{node_count, joined, row_number}
use Rattle.front_rules.specs.declared.Count.{Count}
use Rattle.front_rules.proofs.Numbers.{number_bound}
use Rattle.node_pool.specs.Slots.{held}
use Rattle.proof_front.specs.Cells.{Cell, Owns}
use Rattle.proof_front.specs.Numbers.{number_in, row_numbers}
use Rattle.proof_front.specs.Rows.{Placed, row_of, cells_of, Lies, IsRowAt, row_at}
use Rattle.proof_front.specs.declared.node.Node.{Node}
use Rattle.proof_front.specs.declared.node.Numbers.{Numbers}
use Rattle.proof_front.proofs.Cells.{exchanged}
use Rattle.proof_front.proofs.Reading.{reads_at, few_nodes}
use Rattle.proof_front.proofs.Opening.{kids_of, rest_of, Opened, opened}

module _ (side : Side) {slots : List (Option Node)} {at : Option ℕ} {i : ℕ} {node : Node} where
  pub opened_at : (row : Placed) (others : List (Cell Node)) → at ≡ Some i → held slots i ≡ Some node → Lies side slots at row others
      → Opened side slots i node row others
  opened_at row others e here lies = opened side i node row others (subst (λ a. Lies side slots a row others) e lies) here

  module _ (row : Placed) (others : List (Cell Node)) (lies : Lies side slots at row others) (o : Opened side slots i node row others) where
    pub below_at : IsRowAt side slots node.first
    below_at = record { row = kids_of row; others = _; lies = o.below }

    pub beside_at : IsRowAt side slots node.next
    beside_at = record { row = rest_of row; others = _; lies = o.beside }

    pub fewer_below : node_count (row_at slots node.first) < node_count (row_at slots at)
    fewer_below = omega (arith, ap node_count (reads_at side node.first (kids_of row) _ o.below), ap node_count (reads_at side at row others lies), o.count)

    pub fewer_beside : node_count (row_at slots node.next) < node_count (row_at slots at)
    fewer_beside = omega (arith, ap node_count (reads_at side node.next (rest_of row) _ o.beside), ap node_count (reads_at side at row others lies), o.count)

    -- the sum of a number of the node and one of the row beside it
    pub small : (proof smallest : Bool) (b : Count) → length slots ≤ 1000000 → b ≡ row_number side proof smallest (row_of (rest_of row))
        → finite_part (number_in proof node.numbers) + finite_part b < 2 ^ 32
    small proof smallest b few e =
        omega (
          arith,
          few,
          few_nodes side row others lies.owns,
          o.count,
          o.part proof,
          ap finite_part e,
          number_bound side (row_of (rest_of row)) proof
              smallest,
        )

    pub numbers_more : (own : Bool) (b : Numbers) (p q : Count) → b ≡ row_numbers side own (row_of (rest_of row)) → p ≡ joined own node.numbers.proof b.proof
        → q ≡ joined (not own) node.numbers.disproof b.disproof
        → record { proof = p; disproof = q } ≡ row_numbers side own (row_of row)
    numbers_more own b p q e f g =
        let proof : p ≡ row_number side true own (row_of row) = f ∙ (ap (λ n. joined own node.numbers.proof n.proof) e ∙ sym (o.number true own)) in
        let disproof : q ≡ row_number side false (not own) (row_of row) = g
        ∙ (ap (λ n. joined (not own) node.numbers.disproof n.disproof) e ∙ sym (o.number false (not own))) in
        rw (proof, disproof) refl

    -- where all below the node was freed, the row beside it is left
    pub beside_freed : {new : List (Option Node)} → Owns new ((i, node) ∷ (cells_of side (rest_of row) ++ others))
        → Lies side new node.next (rest_of row) ((i, node) ∷ others)
    beside_freed owns = record {
      owns = exchanged ((i, node) ∷ []) (cells_of side (rest_of row)) others owns;
      first = o.beside.first;
      clean =
          o.beside.clean;
      going = o.beside.going;
    }

    pub fewer_freed : {new : List (Option Node)} → Lies side new node.next (rest_of row) ((i, node) ∷ others)
        → node_count (row_at new node.next) < node_count (row_at slots at)
    fewer_freed left = omega (arith, ap node_count (reads_at side node.next (rest_of row) _ left), ap node_count (reads_at side at row others lies), o.count)
