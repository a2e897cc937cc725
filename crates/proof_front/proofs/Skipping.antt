-- The first node of a row hasn't the number that is looked for: what is done in the row beside it is done in the row.
use Rattle.std.proofs.Common.{◌≡◌, ℕ, nat_lt, if◌then◌else◌, Bool, true, false, List, [], ◌∷◌, ◌++◌, Option, None, Some, refl, sym, ap, subst, ◌∙◌, arith, inl}
use Rattle.std.proofs.Common.{inr}
use Rattle.std.proofs.lemmas.Bool.{cases_Bool}
use Rattle.std.proofs.lemmas.Option.{none-some}
use Rattle.game_rules.specs.Position.{Position}
use Rattle.game_rules.specs.declared.Side.{Side}
use Rattle.front_rules.specs.Counts.{least, same_count, is_infinite}
use Rattle.front_rules.specs.Front.{Row, leaf, inner, leaf_number, joined, row_number, node_number, asked_in}
use Rattle.front_rules.specs.Path.{updated}
use Rattle.front_rules.specs.declared.Count.{Count}
use Rattle.front_rules.specs.declared.Count.TheVariants.{Finite, Infinite}
use Rattle.front_rules.specs.declared.LeafVerdict.{LeafVerdict}
use Rattle.node_pool.specs.Slots.{held}
use Rattle.proof_front.specs.Cells.{Cell, Owns}
use Rattle.proof_front.specs.Numbers.{number_in, leaf_numbers, node_numbers}
use Rattle.proof_front.specs.Rows.{Placed, end, leaf_at, inner_at, row_of, first_of, cells_of, Lies}
use Rattle.proof_front.specs.Steps.{IsAsked}
use Rattle.proof_front.specs.declared.node.Node.{Node}
use Rattle.proof_front.proofs.Cells.{mine, second_from_front}
use Rattle.proof_front.proofs.Opening.{same_some, kids_of, rest_of, Opened}

pub same_itself : (n : Count) → same_count n n ≡ true
same_itself (Finite m) = grind arith
same_itself Infinite = refl

-- the least of two numbers is the second where the first is another
least_other : (a b n : Count) → least a b ≡ n → same_count a n ≡ false → b ≡ n
least_other (Finite m) (Finite k) n h apart =
    elim (cases_Bool (nat_lt k m)) [
      | inl less ↦ sym (ap (λ t. if t then Finite k else Finite m) less) ∙ h
      | inr more ↦ absurd (differ (sym (ap (λ t. if t then Finite k else Finite m) more) ∙ h))
    ]
  where
    differ : Finite m ≡ n → ⊥
    differ e = both (sym (same_itself (Finite m)) ∙ (ap (same_count (Finite m)) e ∙ apart))
      where
        both : true ≡ false → ⊥
        both e = cc
least_other (Finite m) Infinite n h apart = absurd (both (sym (same_itself (Finite m)) ∙ (ap (same_count (Finite m)) h ∙ apart)))
  where
    both : true ≡ false → ⊥
    both e = cc
least_other Infinite b n h apart = h

module _ (side : Side) where
  abbrev first_number : Bool → Placed → Count
  first_number proof end = Infinite
  first_number proof (leaf_at i p v rest) = leaf_number proof v
  first_number proof (inner_at i p kids rest) = node_number side proof p (row_of kids)

  abbrev pub with_rest : Placed → Placed → Placed
  with_rest end new = end
  with_rest (leaf_at i p v rest) new = leaf_at i p v new
  with_rest (inner_at i p kids rest) new = inner_at i p kids new

  pub in_leaf : (proof : Bool) (v : LeafVerdict) → number_in proof (leaf_numbers v) ≡ leaf_number proof v
  in_leaf true v = refl
  in_leaf false v = refl

  pub in_node : (proof : Bool) (p : Position) (kids : Row) → number_in proof (node_numbers side p kids) ≡ node_number side proof p kids
  in_node true p kids = refl
  in_node false p kids = refl

  module _ {slots : List (Option Node)} {i : ℕ} {node : Node} (here : held slots i ≡ Some node) where
    -- the node in the slot of a row's first node
    pub leaf_cell : (j : ℕ) (p : Position) (v : LeafVerdict) (rest : Placed) (others : List (Cell Node)) → Lies side slots (Some i) (leaf_at j p v rest) others
        → record { position = p; first = None; next = first_of rest; numbers = leaf_numbers v } ≡ node
    leaf_cell j p v rest others lies = same_some (sym (mine j _ (cells_of side rest ++ others) lies.owns) ∙ (ap (held slots) (same_some lies.first) ∙ here))

    pub inner_cell : (j : ℕ) (p : Position) (kids rest : Placed) (others : List (Cell Node)) → Lies side slots (Some i) (inner_at j p kids rest) others
        → record { position = p; first = first_of kids; next = first_of rest; numbers = node_numbers side p (row_of kids) } ≡ node
    inner_cell j p kids rest others lies = same_some (sym (mine j _ ((cells_of side kids ++ cells_of side rest) ++ others) lies.owns)
        ∙ (ap (held slots) (same_some lies.first) ∙ here))

    number_first : (row : Placed) (others : List (Cell Node)) → Lies side slots (Some i) row others → (proof : Bool)
        → number_in proof node.numbers ≡ first_number proof row
    number_first end others lies proof = absurd (none-some i lies.first)
    number_first (leaf_at j p v rest) others lies proof = sym (ap (λ n. number_in proof n.numbers) (leaf_cell j p v rest others lies)) ∙ in_leaf proof v
    number_first (inner_at j p kids rest) others lies proof = sym (ap (λ n. number_in proof n.numbers) (inner_cell j p kids rest others lies))
        ∙ in_node proof p (row_of kids)

    -- a row beside the node that lies in its place makes a new row
    pub lies_with : {new : List (Option Node)} {next : ℕ} (row more : Placed) (others : List (Cell Node)) → Lies side slots (Some i) row others
        → node.next ≡ Some next → Lies side new (Some next) more ((i, node) ∷ (cells_of side (kids_of row) ++ others))
        → Lies side new (Some i) (with_rest row more) others
    lies_with end more others lies e l = absurd (none-some i lies.first)
    lies_with {new} (leaf_at j p v rest) more others lies e l =
        let cell = leaf_cell j p v rest others lies in
        let same : (i, node) ≡ (j, record { position = p; first = None; next = first_of more; numbers = leaf_numbers v }) =
        ap (λ k. (k, node)) (sym (same_some lies.first))
        ∙ ap (λ n. (j, n)) (sym cell ∙ ap (λ a. record { position = p; first = None; next = a; numbers = leaf_numbers v })
        (ap (λ n. n.next) cell ∙ (e ∙ sym l.first))) in
        record {
          owns = subst (λ c. Owns new (c ∷ (cells_of side more ++ others))) same (second_from_front (i, node) [] (cells_of side more) others l.owns);
          first = lies.first;
          clean = l.clean;
          going = (lies.going.0, l.going);
        }
    lies_with {new} (inner_at j p kids rest) more others lies e l =
        let cell = inner_cell j p kids rest others lies in
        let same : (i, node) ≡ (j, record { position = p; first = first_of kids; next = first_of more; numbers = node_numbers side p (row_of kids) }) =
        ap (λ k. (k, node)) (sym (same_some lies.first))
        ∙ ap (λ n. (j, n)) (sym cell ∙ ap (λ a. record { position = p; first = first_of kids; next = a; numbers = node_numbers side p (row_of kids) })
        (ap (λ n. n.next) cell ∙ (e ∙ sym l.first))) in
        record {
          owns = subst (λ c. Owns new (c ∷ ((cells_of side kids ++ cells_of side more) ++ others))) same
              (second_from_front (i, node) (cells_of side kids) (cells_of side more) others l.owns);
          first = lies.first;
          clean = (lies.clean.0, lies.clean.1, l.clean);
          going = (lies.going.0, l.going);
        }

    -- ---- where the first node has another number

    module _ (row : Placed) (others : List (Cell Node)) (lies : Lies side slots (Some i) row others) (proof : Bool) (n : Count)
        (apart : same_count (number_in proof node.numbers) n ≡ false) where
      other_first : same_count (first_number proof row) n ≡ false
      other_first = sym (ap (λ m. same_count m n) (number_first row others lies proof)) ∙ apart

      pub asked_skipped : asked_in side proof n (row_of row) ≡ asked_in side proof n (row_of (rest_of row))
      asked_skipped = skip row other_first
        where
          skip : (row : Placed) → same_count (first_number proof row) n ≡ false
              → asked_in side proof n (row_of row) ≡ asked_in side proof n (row_of (rest_of row))
          skip end h = refl
          skip (leaf_at j p v rest) h = rw h refl
          skip (inner_at j p kids rest) h = rw h refl

      module _ (closed : Side → Position → Bool) where
        pub updated_skipped : (more : Placed) → row_of more ≡ updated side closed proof n (row_of (rest_of row))
            → row_of (with_rest row more) ≡ updated side closed proof n (row_of row)
        updated_skipped more e = skip row other_first e
          where
            skip : (row : Placed) → same_count (first_number proof row) n ≡ false → row_of more ≡ updated side closed proof n (row_of (rest_of row))
                → row_of (with_rest row more) ≡ updated side closed proof n (row_of row)
            skip end h e = refl
            skip (leaf_at j p v rest) h e = rw h (ap (leaf p v) e)
            skip (inner_at j p kids rest) h e = rw h (ap (inner p (row_of kids)) e)

        pub numbers_skipped : ((b smallest : Bool) → row_number side b smallest (updated side closed proof n (row_of (rest_of row)))
            ≡ row_number side b smallest (row_of (rest_of row)))
            → (b smallest : Bool) → row_number side b smallest (updated side closed proof n (row_of row)) ≡ row_number side b smallest (row_of row)
        numbers_skipped same b smallest = skip row other_first (same b smallest)
          where
            skip : (row : Placed) → same_count (first_number proof row) n ≡ false
                → row_number side b smallest (updated side closed proof n (row_of (rest_of row))) ≡ row_number side b smallest (row_of (rest_of row))
                → row_number side b smallest (updated side closed proof n (row_of row)) ≡ row_number side b smallest (row_of row)
            skip end h e = refl
            skip (leaf_at j p v rest) h e = rw h (ap (joined smallest (leaf_number b v)) e)
            skip (inner_at j p kids rest) h e = rw h (ap (joined smallest (node_number side b p (row_of kids))) e)

  -- the row beside is asked
  module _ {slots : List (Option Node)} {at : ℕ} {node : Node} {proof : Bool} {n : Count} (g : IsAsked side slots at proof n)
      (o : Opened side slots at node g.row g.others) (apart : same_count (number_in proof node.numbers) n ≡ false) where
    number_beside : row_number side proof true (row_of (rest_of g.row)) ≡ n
    number_beside = least_other (number_in proof node.numbers) (row_number side proof true (row_of (rest_of g.row))) n (sym (o.number proof true) ∙ g.number)
        apart

    pub some_beside : node.next ≡ None → ⊥
    some_beside none = infinite (rest_of g.row) (o.beside.first ∙ none) (number_beside)
      where
        infinite : (row : Placed) → first_of row ≡ None → row_number side proof true (row_of row) ≡ n → ⊥
        infinite end e h = both (ap is_infinite h ∙ g.finite)
          where
            both : true ≡ false → ⊥
            both e = cc
        infinite (leaf_at j p v rest) e h = cc
        infinite (inner_at j p kids rest) e h = cc

    pub asked_beside : {next : ℕ} → node.next ≡ Some next → IsAsked side slots next proof n
    asked_beside e = record {
      row = rest_of g.row;
      others = _;
      lies =
          record { owns = o.beside.owns; first = o.beside.first ∙ e; clean = o.beside.clean; going = o.beside.going };
      number = number_beside;
      unsettled =
          g.unsettled;
      finite = g.finite;
    }
