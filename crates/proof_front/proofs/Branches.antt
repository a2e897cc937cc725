-- What an expansion at the first node of a row, or below it, makes of the row.
use Rattle.std.proofs.Common.{◌≡◌, ℕ, Bool, true, false, not, List, [], ◌∷◌, ◌++◌, length, Option, None, Some, refl, sym, ap, subst, ◌∙◌, inl, inr}
use Rattle.std.proofs.lemmas.Bool.{cases_Bool}
use Rattle.game_rules.specs.Position.{Position}
use Rattle.game_rules.specs.declared.Side.{Side}
use Rattle.front_rules.specs.Counts.{is_zero, is_infinite, same_count}
use Rattle.front_rules.specs.Front.{Row, leaf_number, joined, takes_least, is_own, row_number, node_number, verdict_on, node_as, leaves, moves_out, asked_in}
use Rattle.front_rules.specs.Path.{IsClean, updated}
use Rattle.front_rules.proofs.Numbers.{node_dual, as_number}
use Rattle.front_rules.proofs.Updated.{clean_leaves}
use Rattle.front_rules.specs.declared.Count.{Count}
use Rattle.front_rules.specs.declared.LeafVerdict.{LeafVerdict}
use Rattle.front_rules.specs.declared.LeafVerdict.TheVariants.{Unsettled, Yes, No}
use Rattle.proof_front.specs.Cells.{Cell, Owns}
use Rattle.proof_front.specs.Numbers.{number_in, leaf_numbers, node_numbers}
use Rattle.proof_front.specs.Rows.{Placed, inner_at, row_of, first_of, cells_of, AreGoing, Lies}
use Rattle.proof_front.specs.Steps.{LiesBelow, IsAsked, IsGoingLeaf, renewed, Grew}
use Rattle.proof_front.specs.declared.node.Node.{Node}
use Rattle.proof_front.proofs.Cells.{exchanged, first_to_front, first_from_front}
use Rattle.proof_front.proofs.Renewing.{count_same}
use Rattle.proof_front.proofs.Skipping.{in_leaf, in_node}
use Rattle.proof_front.proofs.Descending.{neither_zero, as_placed, as_row, as_lies, LeafFirst, InnerFirst}

open_leaf : (proof : Bool) (v : LeafVerdict) → is_zero (leaf_number proof v) ≡ false → is_infinite (leaf_number proof v) ≡ false → v ≡ Unsettled
open_leaf proof Unsettled z i = refl
open_leaf true Yes z i = cc
open_leaf false Yes z i = cc
open_leaf true No z i = cc
open_leaf false No z i = cc

module _ (side : Side) {slots : List (Option Node)} {at : ℕ} {node : Node} (row : Placed) (others : List (Cell Node)) (proof : Bool) (n : Count)
    (found : same_count (number_in proof node.numbers) n ≡ true) where
  -- ---- a leaf

  module _ (l : LeafFirst side slots at node row others) where
    found_leaf : same_count (leaf_number proof l.verdict) n ≡ true
    found_leaf = sym (ap (λ m. same_count m n) (ap (λ m. number_in proof m.numbers) l.node_is ∙ in_leaf side proof l.verdict)) ∙ found

    pub asked_leaf : asked_in side proof n (row_of row) ≡ length (moves_out node.position)
    asked_leaf = ap (asked_in side proof n) l.row_is ∙ (rw found_leaf refl)

    pub going_leaf : is_zero n ≡ false → is_infinite n ≡ false → IsGoingLeaf slots at
    going_leaf unsettled finite =
        let number = count_same (leaf_number proof l.verdict) n found_leaf in
        record {
          node = node;
          others = _;
          owns = l.owns;
          going =
              l.going.0 (open_leaf proof l.verdict (ap is_zero number ∙ unsettled) (ap is_infinite number ∙ finite));
        }

    module _ (closed : Side → Position → Bool) where
      updated_leaf : (kids : Row) → kids ≡ leaves side closed (moves_out node.position)
          → updated side closed proof n (row_of row) ≡ node_as (verdict_on side node.position kids) node.position kids (row_of l.rest)
      updated_leaf kids e = ap (updated side closed proof n) l.row_is ∙ (rw (found_leaf, e) refl)

      pub leaf_grew : {new : List (Option Node)} (kids : Placed) → row_of kids ≡ leaves side closed (moves_out node.position) → AreGoing (row_of kids)
          → Owns new (renewed side at node kids ++ (cells_of side l.rest ++ others)) → Grew side new at (updated side closed proof n (row_of row)) others
      leaf_grew {new} kids e going owns =
          record {
            placed = as_placed side (verdict_on side node.position (row_of kids)) at node.position kids l.rest;
            is = as_row side (verdict_on side node.position (row_of kids)) at node.position kids l.rest ∙ sym (updated_leaf (row_of kids) e);
            lies = as_lies side at node.position kids l.rest others None (leaf_numbers l.verdict)
                (subst (λ m. Owns new (renewed side at m kids ++ (cells_of side l.rest ++ others))) l.node_is owns)
                (subst (IsClean side) (sym e) (clean_leaves side closed (moves_out node.position))) l.clean going l.going.1;
          }

      pub leaf_numbers_same : node.numbers ≡ node_numbers side node.position (leaves side closed (moves_out node.position)) → (b smallest : Bool)
          → row_number side b smallest (updated side closed proof n (row_of row)) ≡ row_number side b smallest (row_of row)
      leaf_numbers_same same b smallest =
          let p = node.position in
          let kids = leaves side closed (moves_out p) in
          let number : node_number side b p kids ≡ leaf_number b l.verdict = sym (in_node side b p kids)
          ∙ (sym (ap (number_in b) same) ∙ (ap (λ m. number_in b m.numbers) l.node_is ∙ in_leaf side b l.verdict)) in
          ap (row_number side b smallest) (updated_leaf kids refl)
          ∙ (as_number side p kids kids (row_of l.rest) (λ c w. refl) b smallest
          ∙ (ap (λ m. joined smallest m (row_number side b smallest (row_of l.rest))) number ∙ sym (ap (row_number side b smallest) l.row_is)))

  -- ---- an inner node

  module _ (i : InnerFirst side slots at node row others) where
    found_inner : same_count (node_number side proof node.position (row_of i.kids)) n ≡ true
    found_inner = sym (ap (λ m. same_count m n) (ap (λ m. number_in proof m.numbers) i.node_is ∙ in_node side proof node.position (row_of i.kids))) ∙ found

    -- a node's number that is the least of its children's
    taken : (p : Position) → takes_least side (is_own side p) p ≡ true
    taken p = elim (cases_Bool (is_own side p)) [
      | inl own ↦ subst (λ b. takes_least side b p ≡ true) (sym own) own
      | inr other ↦ subst (λ b. takes_least side b p ≡ true) (sym other) (ap not other)
    ]

    module _ (own : Bool) (to_move : own ≡ is_own side node.position) where
      own_number : number_in own node.numbers ≡ node_number side own node.position (row_of i.kids)
      own_number = ap (λ m. number_in own m.numbers) i.node_is ∙ in_node side own node.position (row_of i.kids)

      least_here : row_number side own true (row_of i.kids) ≡ number_in own node.numbers
      least_here = sym (own_number ∙ ap (λ b. row_number side own b (row_of i.kids)) (ap (λ b. takes_least side b node.position) to_move ∙ taken node.position))

      least_there : row_number side (is_own side node.position) true (row_of i.kids) ≡ number_in own node.numbers
      least_there = ap (λ b. row_number side b true (row_of i.kids)) (sym to_move) ∙ least_here

      pub asked_inner : asked_in side proof n (row_of row) ≡ asked_in side own (number_in own node.numbers) (row_of i.kids)
      asked_inner = ap (asked_in side proof n) i.row_is ∙ (rw (found_inner, ← to_move, least_here) refl)

      zero_own : is_zero (node_number side own node.position (row_of i.kids)) ≡ false
      zero_own = pick own
        where
          pick : (b : Bool) → is_zero (node_number side b node.position (row_of i.kids)) ≡ false
          pick true = (neither_zero (node_number side true node.position (row_of i.kids)) (node_number side false node.position (row_of i.kids)) i.clean.0).0
          pick false = (neither_zero (node_number side true node.position (row_of i.kids)) (node_number side false node.position (row_of i.kids)) i.clean.0).1

      infinite_own : is_infinite (node_number side own node.position (row_of i.kids)) ≡ false
      infinite_own = pick own
        where
          pick : (b : Bool) → is_infinite (node_number side b node.position (row_of i.kids)) ≡ false
          pick true = sym (node_dual side node.position (row_of i.kids) false)
              ∙ (neither_zero (node_number side true node.position (row_of i.kids)) (node_number side false node.position (row_of i.kids)) i.clean.0).1
          pick false = sym (node_dual side node.position (row_of i.kids) true)
              ∙ (neither_zero (node_number side true node.position (row_of i.kids)) (node_number side false node.position (row_of i.kids)) i.clean.0).0

      module _ {first : ℕ} (some : node.first ≡ Some first) where
        kids_begin : first_of i.kids ≡ Some first
        kids_begin = sym (ap (λ m. m.first) i.node_is) ∙ some

        pub kids_lie : Lies side slots (Some first) i.kids ((at, node) ∷ (cells_of side i.rest ++ others))
        kids_lie = record {
          owns = first_to_front (at, node) (cells_of side i.kids) (cells_of side i.rest) others i.owns;
          first = kids_begin;
          clean =
              i.clean.1;
          going = i.going.0;
        }

        pub asked_below : IsAsked side slots first own (number_in own node.numbers)
        asked_below = record {
          row = i.kids;
          others = _;
          lies = kids_lie;
          number = least_here;
          unsettled = ap is_zero own_number
              ∙ zero_own;
          finite = ap is_infinite own_number ∙ infinite_own;
        }

        -- new children lie there
        pub new_below : {mid : List (Option Node)} (kids : Placed) → Lies side mid (Some first) kids ((at, node) ∷ (cells_of side i.rest ++ others))
            → LiesBelow side mid at (Some first) node kids (cells_of side i.rest ++ others)
        new_below kids l = record {
          owns = exchanged (cells_of side kids) ((at, node) ∷ []) (cells_of side i.rest ++ others) l.owns;
          begins = l.first;
          clean =
              l.clean;
          going = l.going;
        }

        module _ (closed : Side → Position → Bool) where
          updated_inner : (kids : Row) → kids ≡ updated side closed own (number_in own node.numbers) (row_of i.kids)
              → updated side closed proof n (row_of row) ≡ node_as (verdict_on side node.position kids) node.position kids (row_of i.rest)
          updated_inner kids e = ap (updated side closed proof n) i.row_is ∙ (rw (found_inner, ← to_move, least_here, ← e) refl)

          pub inner_grew : {mid new : List (Option Node)} (kids : Placed) → row_of kids ≡ updated side closed own (number_in own node.numbers) (row_of i.kids)
              → Lies side mid (Some first) kids ((at, node) ∷ (cells_of side i.rest ++ others))
              → Owns new (renewed side at node kids ++ (cells_of side i.rest ++ others)) → Grew side new at (updated side closed proof n (row_of row)) others
          inner_grew {mid} {new} kids e l owns =
              record {
                placed = as_placed side (verdict_on side node.position (row_of kids)) at node.position kids i.rest;
                is = as_row side (verdict_on side node.position (row_of kids)) at node.position kids i.rest ∙ sym (updated_inner (row_of kids) e);
                lies = as_lies side at node.position kids i.rest others (first_of i.kids) (node_numbers side node.position (row_of i.kids))
                    (subst (λ m. Owns new (renewed side at m kids ++ (cells_of side i.rest ++ others))) i.node_is owns) l.clean i.clean.2 l.going i.going.1;
              }

          -- where the node keeps its numbers, so does the row
          pub inner_numbers_same : (kids : Row) → kids ≡ updated side closed own (number_in own node.numbers) (row_of i.kids)
              → node.numbers ≡ node_numbers side node.position kids → (b smallest : Bool)
              → row_number side b smallest (updated side closed proof n (row_of row))
              ≡ row_number side b smallest (row_of row)
          inner_numbers_same kids e same b smallest =
              let p = node.position in
              let number : node_number side b p kids ≡ node_number side b p (row_of i.kids) = sym (in_node side b p kids)
              ∙ (sym (ap (number_in b) same) ∙ (ap (λ m. number_in b m.numbers) i.node_is ∙ in_node side b p (row_of i.kids))) in
              ap (row_number side b smallest) (updated_inner kids e)
              ∙ (as_number side p kids kids (row_of i.rest) (λ c w. refl) b smallest
              ∙ (ap (λ m. joined smallest m (row_number side b smallest (row_of i.rest))) number ∙ sym (ap (row_number side b smallest) i.row_is)))

          module _ (kids : Placed) (e : row_of kids ≡ updated side closed own (number_in own node.numbers) (row_of i.kids)) (same : (b smallest : Bool)
              → row_number side b smallest (updated side closed own (number_in own node.numbers) (row_of i.kids)) ≡ row_number side b smallest (row_of i.kids))
            where
              kept_number : (b : Bool) → node_number side b node.position (row_of kids) ≡ node_number side b node.position (row_of i.kids)
              kept_number b = ap (row_number side b (takes_least side b node.position)) e ∙ same b (takes_least side b node.position)

              pub kept_numbers : node.numbers ≡ node_numbers side node.position (row_of kids)
              kept_numbers = ap (λ m. m.numbers) i.node_is ∙ (rw (kept_number true, kept_number false) refl)

              -- the path ends here: the node stays as it is
              pub inner_stays : {new : List (Option Node)} → Lies side new (Some first) kids ((at, node) ∷ (cells_of side i.rest ++ others))
                  → Grew side new at (updated side closed proof n (row_of row)) others
              inner_stays {new} l =
                  let p = node.position in
                  let unsettled : verdict_on side p (row_of kids) ≡ Unsettled = (rw (kept_number true, kept_number false) refl) ∙ i.clean.0 in
                  let node_is : node ≡ record { position = p; first = first_of kids; next = first_of i.rest; numbers = node_numbers side p (row_of kids) } =
                  i.node_is ∙ (ap (λ f. record { position = p; first = f; next = first_of i.rest; numbers = node_numbers side p (row_of i.kids) })
                  (kids_begin ∙ sym l.first) ∙ ap (λ m. record { position = p; first = first_of kids; next = first_of i.rest; numbers = m })
                  (sym (ap (λ m. m.numbers) i.node_is) ∙ kept_numbers)) in
                  record {
                    placed = inner_at at p kids i.rest;
                    is = sym (updated_inner (row_of kids) e ∙ ap (λ v. node_as v p (row_of kids) (row_of i.rest)) unsettled);
                    lies = record {
                      owns = subst (λ m. Owns new ((at, m) ∷ ((cells_of side kids ++ cells_of side i.rest) ++ others))) node_is
                          (first_from_front (at, node) (cells_of side kids) (cells_of side i.rest) others l.owns);
                      first = refl;
                      clean = (unsettled, l.clean, i.clean.2);
                      going = (l.going, i.going.1);
                    };
                  }
