-- A node whose children changed is looked at again: its numbers, and its children where it is settled.
use Rattle.std.proofs.Common.{◌≡◌, ◌≢◌, ℕ, Bool, true, List, [], ◌∷◌, ◌++◌, set, Option, None, Some, is_some, refl, sym, ap, subst, ◌∙◌, arith}
use Rattle.std.proofs.lemmas.Bool.{and_parts}
use Rattle.game_rules.specs.Position.{Position, same_side, side_to_move}
use Rattle.game_rules.specs.declared.Side.{Side}
use Rattle.game_rules.specs.contracts.SidePartialEq.TheImpl.{eq-value}
use Rattle.front_rules.specs.Counts.{same_count}
use Rattle.front_rules.specs.Front.{is_own, verdict_by_numbers, verdict_on}
use Rattle.front_rules.specs.declared.Count.{Count}
use Rattle.front_rules.specs.declared.Count.TheVariants.{Finite, Infinite}
use Rattle.front_rules.specs.declared.LeafVerdict.{LeafVerdict}
use Rattle.front_rules.specs.declared.LeafVerdict.TheVariants.{Unsettled, Yes, No}
use Rattle.node_pool.specs.Slots.{held, IsLive, live_slots}
use Rattle.proof_front.specs.Cells.{Cell, Owns}
use Rattle.proof_front.specs.Numbers.{row_numbers, node_numbers, same_numbers}
use Rattle.proof_front.specs.Rows.{Placed, row_of, first_of, cells_of, Lies, IsRowAt}
use Rattle.proof_front.specs.Steps.{LiesBelow, renewed, IsRenewed}
use Rattle.proof_front.specs.declared.growing.Step.{Step}
use Rattle.proof_front.specs.declared.growing.Step.TheVariants as steps
use Rattle.proof_front.specs.declared.node.Node.{Node}
use Rattle.proof_front.specs.declared.node.Numbers.{Numbers}
use Rattle.proof_front.proofs.Cells.{exchanged, mine, changed_to}
use Rattle.proof_front.proofs.Opening.{same_some}
use Rattle.game_rules.proofs.Ends.{side_same}

pub count_same : (a b : Count) → same_count a b ≡ true → a ≡ b
count_same (Finite m) (Finite n) h = ap Finite (grind arith)
count_same (Finite m) Infinite h = cc
count_same Infinite (Finite n) h = cc
count_same Infinite Infinite h = refl

pub numbers_same : (a b : Numbers) → same_numbers a b ≡ true → a ≡ b
numbers_same a b h =
    let both = and_parts (same_count a.proof b.proof) (same_count a.disproof b.disproof) h in
    rw (count_same a.proof b.proof both.0, count_same a.disproof b.disproof both.1) refl

-- the node with its numbers by its children, and this first child
abbrev pub put_as : Side → Node → Placed → Option ℕ → Node
put_as side node kids first = record { position = node.position; first = first; next = node.next; numbers = node_numbers side node.position (row_of kids) }

module _ (side : Side) {slots : List (Option Node)} {at : ℕ} {first : Option ℕ} (node : Node) (kids : Placed) (others : List (Cell Node))
    (b : LiesBelow side slots at first node kids others) where
  pub kids_lie : Lies side slots first kids ((at, node) ∷ others)
  kids_lie = record { owns = exchanged ((at, node) ∷ []) (cells_of side kids) others b.owns; first = b.begins; clean = b.clean; going = b.going }

  pub kids_at : IsRowAt side slots first
  kids_at = record { row = kids; others = _; lies = kids_lie }

  -- the node that was read is the node
  pub read_is : (read : Node) → held slots at ≡ Some read → read ≡ node
  read_is read here = same_some (sym here ∙ mine at node (cells_of side kids ++ others) b.owns)

  -- what became of the slots, where a node that stands so keeps its children or gives them up
  pub record Kept (v : LeafVerdict) (mid : List (Option Node)) (kept : Option ℕ) : Type 0 where
    pub same : v ≡ Unsettled → (mid ≡ slots) × (kept ≡ first)
    pub none : v ≢ Unsettled → kept ≡ None
    pub freed : v ≢ Unsettled → (side : Side) (row : Placed) (o : List (Cell Node)) → Lies side slots first row o → Owns mid o

  module _ {mid : List (Option Node)} {kept : Option ℕ} where
    unsettled_owns : Kept Unsettled mid kept → Owns mid ((at, node) ∷ (cells_of side kids ++ others))
    unsettled_owns k = subst (λ s. Owns s ((at, node) ∷ (cells_of side kids ++ others))) (sym (k.same refl).0) b.owns

    settled_owns : {v : LeafVerdict} → Kept v mid kept → v ≢ Unsettled → Owns mid ((at, node) ∷ others)
    settled_owns k apart = k.freed apart side kids ((at, node) ∷ others) kids_lie

    pub still_live : (v : LeafVerdict) → Kept v mid kept → IsLive mid at
    still_live Unsettled k = ap is_some (mine at node (cells_of side kids ++ others) (unsettled_owns k))
    still_live Yes k = ap is_some (mine at node others (settled_owns k (λ e. cc)))
    still_live No k = ap is_some (mine at node others (settled_owns k (λ e. cc)))

    put_back : (v : LeafVerdict) → Kept v mid kept → v ≡ verdict_on side node.position (row_of kids)
        → live_slots (set mid at (Some (put_as side node kids kept))) ≡ live_slots mid
        → Owns (set mid at (Some (put_as side node kids kept))) (renewed side at node kids ++ others)
    put_back Unsettled k e count =
        let begins : kept ≡ first_of kids = (k.same refl).1 ∙ sym b.begins in
        rw (← e) (subst (λ f. Owns (set mid at (Some (put_as side node kids kept))) ((at, put_as side node kids f) ∷ (cells_of side kids ++ others))) begins
        (changed_to at node _ (cells_of side kids ++ others) (unsettled_owns k) count))
    put_back Yes k e count = rw (← e)
        (rw (k.none (λ e. cc)) (changed_to at node _ others (settled_owns k (λ e. cc))
        (subst (λ f. live_slots (set mid at (Some (put_as side node kids f))) ≡ live_slots mid) (k.none (λ e. cc)) count)))
    put_back No k e count = rw (← e)
        (rw (k.none (λ e. cc)) (changed_to at node _ others (settled_owns k (λ e. cc))
        (subst (λ f. live_slots (set mid at (Some (put_as side node kids f))) ≡ live_slots mid) (k.none (λ e. cc)) count)))

  -- the node was put back with the numbers that its children have
  renewed_owns : (read : Node) (n : Numbers) (v : LeafVerdict) (kept : Option ℕ) (mid new : List (Option Node)) → held slots at ≡ Some read
      → n ≡ node_numbers side node.position (row_of kids) → v ≡ verdict_by_numbers n.proof n.disproof → Kept v mid kept
      → new ≡ set mid at (Some (record { position = read.position; first = kept; next = read.next; numbers = n })) → live_slots new ≡ live_slots mid
      → Owns new (renewed side at node kids ++ others)
  renewed_owns read n v kept mid new here e f k put count =
      let made : record { position = read.position; first = kept; next = read.next; numbers = n } ≡ put_as side node kids kept = rw (read_is read here, e) refl
      in
      let is : new ≡ set mid at (Some (put_as side node kids kept)) = put ∙ ap (λ m. set mid at (Some m)) made in
      subst (λ s. Owns s (renewed side at node kids ++ others)) (sym is)
      (put_back v k (f ∙ ap (λ n. verdict_by_numbers n.proof n.disproof) e) (sym (ap live_slots is) ∙ count))

  -- the numbers of the children, as a node's
  numbers_are : (read : Node) (own : Bool) (n : Numbers) → held slots at ≡ Some read → own ≡ is_own side read.position → n ≡ row_numbers side own (row_of kids)
      → n ≡ node_numbers side node.position (row_of kids)
  numbers_are read own n here e f = f
      ∙ (ap (λ b. row_numbers side b (row_of kids)) e ∙ ap (λ m. node_numbers side m.position (row_of kids)) (read_is read here))

  -- where the numbers are as before, they were the children's before
  before_is : (read : Node) (n : Numbers) → held slots at ≡ Some read → n ≡ node_numbers side node.position (row_of kids) → same_numbers n read.numbers ≡ true
      → node.numbers ≡ node_numbers side node.position (row_of kids)
  before_is read n here e alike = sym (ap (λ m. m.numbers) (read_is read here)) ∙ (sym (numbers_same n read.numbers alike) ∙ e)

  -- the node after it was looked at again
  pub renewed_again : {read : Node} {own : Bool} {n : Numbers} {v : LeafVerdict} {kept : Option ℕ} {mid new : List (Option Node)} {step : Step}
      → held slots at ≡ Some read → own ≡ is_own side read.position
      → n ≡ row_numbers side own (row_of kids) → v ≡ verdict_by_numbers n.proof n.disproof → Kept v mid kept
      → new ≡ set mid at (Some (record { position = read.position; first = kept; next = read.next; numbers = n })) → live_slots new ≡ live_slots mid
      → (step ≡ steps.Same → same_numbers n read.numbers ≡ true)
      → IsRenewed side new at node kids others step
  renewed_again {read} {own} {n} {v} {kept} {mid} {new} here moves e f k put count alike =
      let numbers = numbers_are read own n here moves e in
      record { owns = renewed_owns read n v kept mid new here numbers f k put count; numbers = λ same. before_is read n here numbers (alike same) }

-- whether the side that is asked about is to move, as the code tests it
pub own_is : (side : Side) {turn : Side} {own : Bool} (p : Position) → own ≡ eq-value.it side turn → turn ≡ side_to_move p → own ≡ is_own side p
own_is side {turn} p is moves = is ∙ side_same side turn ∙ ap (same_side side) moves
