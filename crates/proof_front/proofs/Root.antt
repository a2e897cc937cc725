-- A front's tree has one root, whose numbers are the tree's.
use Rattle.std.proofs.Common.{◌≡◌, ◌≢◌, ◌↔◌, ℕ, ◌+◌, ◌-◌, ◌<◌, ◌≤◌, Bool, true, false, ◌||◌, List, [], ◌∷◌, length, replicate, set, Option, None, Some, IfSome}
use Rattle.std.proofs.Common.{refl, sym, ap, subst, ◌∙◌, arith, length-set, add-one, if◌then◌else◌, inl, inr}
use Rattle.std.proofs.lemmas.Bool.{cases_lt, ltb-true, lt-ltb}
use Rattle.std.proofs.lemmas.List.{length-append, get_or-replicate, get_or_past, length-replicate}
use Rattle.game_rules.specs.Position.{Position}
use Rattle.game_rules.specs.declared.Side.{Side}
use Rattle.front_rules.specs.Counts.{least, same_count, is_zero, is_infinite}
use Rattle.front_rules.specs.Front.{Row, nothing, leaf, inner, node_count, leaf_number, joined, row_number, node_number, root_number, verdict_by_numbers}
use Rattle.front_rules.specs.Front.{node_as}
use Rattle.front_rules.specs.Front.{verdict_at, leaves, moves_out, grown, asked, asked_in, is_settled, planned, front_within, front}
use Rattle.front_rules.specs.Path.{updated}
use Rattle.front_rules.proofs.Numbers.{row_dual}
use Rattle.front_rules.proofs.Updated.{grown_is}
use Rattle.front_rules.specs.declared.Count.{Count}
use Rattle.front_rules.specs.declared.Count.TheVariants.{Finite, Infinite}
use Rattle.front_rules.specs.declared.LeafVerdict.{LeafVerdict}
use Rattle.front_rules.specs.declared.LeafVerdict.TheVariants.{Unsettled, Yes, No}
use Rattle.node_pool.specs.Slots.{held, IsLive, live_slots, free_slots}
use Rattle.proof_front.specs.Cells.{Owns, listed}
use Rattle.proof_front.specs.Numbers.{number_in, leaf_numbers}
use Rattle.proof_front.specs.Rows.{Placed, end, leaf_at, inner_at, row_of, cells_of, Lies, IsRowAt, row_at}
use Rattle.proof_front.specs.Steps.{IsAsked, Grew}
use Rattle.proof_front.specs.Fronts.{beside, IsFront, is_full, IsAnswer}
use Rattle.proof_front.specs.declared.node.Node.{Node}
use Rattle.proof_front.proofs.Cells.{placed_to}
use Rattle.proof_front.proofs.Reading.{reads_at, length_cells}
use Rattle.proof_front.proofs.Opening.{rest_of, opened, first_held}
use Rattle.proof_front.proofs.Going.{going_leaves}
use Rattle.proof_front.proofs.Skipping.{same_itself}
use Rattle.proof_front.proofs.Descending.{yes_zero, no_zero, neither_zero}
use Rattle.proof_front.specs.declared.front.Grown.{Grown}
use Rattle.proof_front.specs.declared.front.Grown.TheVariants.{Settled, Full, Expanded}
use Rattle.proof_front.specs.declared.growing.Step.{Step}
use Rattle.proof_front.specs.declared.growing.Step.TheVariants as steps

alone_joined : (smallest : Bool) (side : Side) (proof : Bool) (a : Count) → joined smallest a (row_number side proof smallest nothing) ≡ a
alone_joined true side proof (Finite m) = refl
alone_joined true side proof Infinite = refl
alone_joined false side proof (Finite m) = ap Finite (omega arith)
alone_joined false side proof Infinite = refl

rest_beside : (row : Placed) → row_of (rest_of row) ≡ beside (row_of row)
rest_beside end = refl
rest_beside (leaf_at i p v rest) = refl
rest_beside (inner_at i p kids rest) = refl

beside_as : (v : LeafVerdict) (p : Position) (kids rest : Row) → beside (node_as v p kids rest) ≡ rest
beside_as Unsettled p kids rest = refl
beside_as Yes p kids rest = refl
beside_as No p kids rest = refl

-- an expansion of a tree of one root leaves one root
updated_alone : (side : Side) (closed : Side → Position → Bool) (tree : Row) → beside tree ≡ nothing
    → beside (updated side closed true (root_number side true tree) tree) ≡ nothing
updated_alone side closed nothing h = refl
updated_alone side closed (leaf p v rest) h =
    let number : root_number side true (leaf p v rest) ≡ leaf_number true v = ap (λ r. least (leaf_number true v) (row_number side true true r)) h
    ∙ alone_joined true side true (leaf_number true v) in
    let found : same_count (leaf_number true v) (root_number side true (leaf p v rest)) ≡ true = ap (same_count (leaf_number true v)) number
    ∙ same_itself (leaf_number true v) in
    rw found (beside_as _ p (leaves side closed (moves_out p)) rest ∙ h)
updated_alone side closed (inner p kids rest) h =
    let number : root_number side true (inner p kids rest) ≡ node_number side true p kids =
    ap (λ r. least (node_number side true p kids) (row_number side true true r)) h ∙ alone_joined true side true (node_number side true p kids) in
    let found : same_count (node_number side true p kids) (root_number side true (inner p kids rest))
    ≡ true = ap (same_count (node_number side true p kids)) number ∙ same_itself (node_number side true p kids) in
    rw found (beside_as _ p _ rest ∙ h)

module _ {side : Side} {slots : List (Option Node)} {root : ℕ} (f : IsFront side slots root) where
  pub tree_is : row_at slots (Some root) ≡ row_of f.tree
  tree_is = reads_at side (Some root) f.tree [] f.lies

  pub live_is : live_slots slots ≡ node_count (row_at slots (Some root))
  live_is = omega (arith, f.lies.owns.live, length-append (cells_of side f.tree) [], length_cells side f.tree, ap node_count tree_is)

  pub root_row : IsRowAt side slots (Some root)
  root_row = record { row = f.tree; others = []; lies = f.lies }

  pub root_live : IsLive slots root
  root_live = first_held side root f.tree [] f.lies

  module _ (node : Node) (here : held slots root ≡ Some node) where
    number_of_tree : (proof smallest : Bool) → row_number side proof smallest (row_of f.tree) ≡ number_in proof node.numbers
    number_of_tree proof smallest =
        let o = opened side root node f.tree [] f.lies here in
        o.number proof smallest ∙ (ap (λ r. joined smallest (number_in proof node.numbers) (row_number side proof smallest r)) (rest_beside f.tree ∙ f.alone)
        ∙ alone_joined smallest side proof (number_in proof node.numbers))

    pub number_is : (proof : Bool) → root_number side proof (row_at slots (Some root)) ≡ number_in proof node.numbers
    number_is proof = ap (root_number side proof) tree_is ∙ number_of_tree proof true

    pub asked_root : verdict_by_numbers node.numbers.proof node.numbers.disproof ≡ Unsettled → IsAsked side slots root true node.numbers.proof
    asked_root open_root =
        let zeros = neither_zero node.numbers.proof node.numbers.disproof open_root in
        record {
          row = f.tree;
          others = [];
          lies = f.lies;
          number = number_of_tree true true;
          unsettled = zeros.0;
          finite = sym (ap is_infinite (number_of_tree true true))
              ∙ (sym (row_dual side (row_of f.tree) false false) ∙ (ap is_zero (number_of_tree false false) ∙ zeros.1));
        }

    module _ (closed : Side → Position → Bool) {new : List (Option Node)}
        (grew : Grew side new root (updated side closed true node.numbers.proof (row_of f.tree)) []) where
      updated_is : updated side closed true node.numbers.proof (row_of f.tree) ≡ updated side closed true (root_number side true (row_of f.tree))
          (row_of f.tree)
      updated_is = ap (λ n. updated side closed true n (row_of f.tree)) (sym (number_of_tree true true))

      pub front_after : length new ≡ length slots → IsFront side new root
      front_after same =
          record {
            tree = grew.placed;
            lies = grew.lies;
            alone = ap beside (grew.is ∙ updated_is) ∙ updated_alone side closed (row_of f.tree) f.alone;
            few = omega (arith, same, f.few);
          }

      pub grown_after : row_at new (Some root) ≡ grown side closed (row_at slots (Some root))
      grown_after = reads_at side (Some root) grew.placed [] grew.lies
          ∙ (grew.is ∙ (updated_is ∙ (sym (grown_is side closed (row_of f.tree) f.lies.clean) ∙ ap (grown side closed) (sym tree_is))))

-- ---- what the root's numbers settle

is_yes : LeafVerdict → Bool
is_yes Unsettled = false
is_yes Yes = true
is_yes No = false

is_no : LeafVerdict → Bool
is_no Unsettled = false
is_no Yes = false
is_no No = true

-- what a call of `grow` answers, by how the root stands and by what an expansion did
abbrev pub answer_of : LeafVerdict → Step → Grown
answer_of Yes step = Settled true
answer_of No step = Settled false
answer_of Unsettled steps.Full = Full
answer_of Unsettled steps.Same = Expanded
answer_of Unsettled steps.Changed = Expanded

no_first : (a b : Count) → verdict_by_numbers a b ≡ No → is_zero a ≡ false
no_first a b h = look (is_zero a) h
  where
    look : (t : Bool) → (if t then Yes else (if is_zero b then No else Unsettled)) ≡ No → t ≡ false
    look true e = cc
    look false e = refl

module _ {side : Side} {slots : List (Option Node)} {root : ℕ} (f : IsFront side slots root) (node : Node) (here : held slots root ≡ Some node) where
  zero_infinite : is_zero node.numbers.proof ≡ true → is_zero node.numbers.disproof ≡ false
  zero_infinite zero = look node.numbers.disproof (sym (ap is_infinite (number_of_tree f node here false false))
      ∙ (sym (row_dual side (row_of f.tree) true true) ∙ (ap is_zero (number_of_tree f node here true true) ∙ zero)))
    where
      look : (a : Count) → is_infinite a ≡ true → is_zero a ≡ false
      look (Finite m) e = cc
      look Infinite e = refl

  module _ (v : LeafVerdict) (is : v ≡ verdict_by_numbers node.numbers.proof node.numbers.disproof) where
    proof_zero : is_zero (root_number side true (row_at slots (Some root))) ≡ is_yes v
    unfolding is_yes
    proof_zero = ap is_zero (number_is f node here true) ∙ look v is
      where
        look : (v : LeafVerdict) → v ≡ verdict_by_numbers node.numbers.proof node.numbers.disproof → is_zero node.numbers.proof ≡ is_yes v
        look Unsettled e = (neither_zero node.numbers.proof node.numbers.disproof (sym e)).0
        look Yes e = yes_zero node.numbers.proof node.numbers.disproof (sym e)
        look No e = no_first node.numbers.proof node.numbers.disproof (sym e)

    disproof_zero : is_zero (root_number side false (row_at slots (Some root))) ≡ is_no v
    unfolding is_no
    disproof_zero = ap is_zero (number_is f node here false) ∙ look v is
      where
        look : (v : LeafVerdict) → v ≡ verdict_by_numbers node.numbers.proof node.numbers.disproof → is_zero node.numbers.disproof ≡ is_no v
        look Unsettled e = (neither_zero node.numbers.proof node.numbers.disproof (sym e)).1
        look Yes e = zero_infinite (yes_zero node.numbers.proof node.numbers.disproof (sym e))
        look No e = no_zero node.numbers.proof node.numbers.disproof (sym e)

    module _ (step : Step) (result : Grown) (answers : result ≡ answer_of v step) where
      says_yes : (result ≡ Settled true) ↔ (is_zero (root_number side true (row_at slots (Some root))) ≡ true)
      unfolding is_yes
      says_yes = rw (answers, proof_zero) (look v step)
        where
          look : (v : LeafVerdict) (step : Step) → (answer_of v step ≡ Settled true) ↔ (is_yes v ≡ true)
          look Yes step = (λ e. refl, λ e. refl)
          look No step = (λ e. cc, λ e. cc)
          look Unsettled steps.Full = (λ e. cc, λ e. cc)
          look Unsettled steps.Same = (λ e. cc, λ e. cc)
          look Unsettled steps.Changed = (λ e. cc, λ e. cc)

      says_no : (result ≡ Settled false) ↔ (is_zero (root_number side false (row_at slots (Some root))) ≡ true)
      unfolding is_no
      says_no = rw (answers, disproof_zero) (look v step)
        where
          look : (v : LeafVerdict) (step : Step) → (answer_of v step ≡ Settled false) ↔ (is_no v ≡ true)
          look Yes step = (λ e. cc, λ e. cc)
          look No step = (λ e. refl, λ e. refl)
          look Unsettled steps.Full = (λ e. cc, λ e. cc)
          look Unsettled steps.Same = (λ e. cc, λ e. cc)
          look Unsettled steps.Changed = (λ e. cc, λ e. cc)

      -- where the root is settled nothing is said of room
      says_full : (v ≡ Unsettled → (step ≡ steps.Full) ↔ (free_slots slots < asked_in side true node.numbers.proof (row_of f.tree)))
          → (result ≡ Full) ↔ ((is_settled side (row_at slots (Some root)) ≡ false) × (is_full side (length slots) (row_at slots (Some root)) ≡ true))
      unfolding is_yes is_no
      says_full room = rw (answers, proof_zero, disproof_zero) (look v step room)
        where
          short : (free_slots slots < asked_in side true node.numbers.proof (row_of f.tree)) ↔ (is_full side (length slots) (row_at slots (Some root)) ≡ true)
          short =
              let asked_is : asked side (row_at slots (Some root)) ≡ asked_in side true node.numbers.proof (row_of f.tree) = ap (asked side) (tree_is f)
              ∙ ap (λ m. asked_in side true m (row_of f.tree)) (number_of_tree f node here true true) in
              let free_is : length slots - node_count (row_at slots (Some root)) ≡ free_slots slots = ap (λ m. length slots - m) (sym (live_is f)) in (
                λ few. rw (asked_is, free_is) (lt-ltb (free_slots slots) _ few),
                λ full.
                    ltb-true (free_slots slots) _ (sym (rw (asked_is, free_is) refl) ∙ full),
              )

          look : (v : LeafVerdict) (step : Step)
              → (v ≡ Unsettled → (step ≡ steps.Full) ↔ (free_slots slots < asked_in side true node.numbers.proof (row_of f.tree))) → (answer_of v step ≡ Full)
              ↔ (((is_yes v || is_no v) ≡ false) × (is_full side (length slots) (row_at slots (Some root)) ≡ true))
          look Yes step room = (λ e. cc, λ h. absurd (settled h.0))
            where
              settled : true ≡ false → ⊥
              settled e = cc
          look No step room = (λ e. cc, λ h. absurd (settled h.0))
            where
              settled : true ≡ false → ⊥
              settled e = cc
          look Unsettled steps.Full room = (λ e. (refl, short.0 ((room refl).0 refl)), λ h. refl)
          look Unsettled steps.Same room = (λ e. cc, λ h. absurd (other ((room refl).1 (short.1 h.1))))
            where
              other : steps.Same ≡ steps.Full → ⊥
              other e = cc
          look Unsettled steps.Changed room = (λ e. cc, λ h. absurd (other ((room refl).1 (short.1 h.1))))
            where
              other : steps.Changed ≡ steps.Full → ⊥
              other e = cc

      pub says : {reach : ℕ} → (v ≡ Unsettled → (step ≡ steps.Full) ↔ (free_slots slots < asked_in side true node.numbers.proof (row_of f.tree)))
          → IsAnswer (record { side = side; reach = reach; slots = slots; root = root }) result
      says room = record { yes = says_yes; no = says_no; full = says_full room }

-- ---- a new tree

pub none_owned : {slots : List (Option Node)} (n : ℕ) → slots ≡ replicate n None → live_slots slots ≡ 0 → Owns slots []
none_owned n is none = record { holds = λ i. rw is (ap listed (sym (empty i))); live = none }
  where
    empty : (i : ℕ) → held {T = Node} (replicate n None) i ≡ None
    empty i = elim (cases_lt i n) [
      | inl inside ↦ get_or-replicate {A = Option Node} n i None None inside
      | inr past ↦ get_or_past (replicate {A = Option Node} n None) i None (omega (arith, past, length-replicate {A = Option Node} n None))
    ]

if_some : {o : Option ℕ} {x : ℕ} (P : ℕ → Type 0) → o ≡ Some x → IfSome o P → P x
if_some P some h = subst (λ o. IfSome o P) some h

-- the node of a root
abbrev pub root_node : Side → ℕ → Position → Node
root_node side reach p = record { position = p; first = None; next = None; numbers = leaf_numbers (verdict_at side (planned reach) p) }

module _ (side : Side) (reach : ℕ) (p : Position) (mid new : List (Option Node)) (result : Option ℕ) (root : ℕ) (made : Node) (owns : Owns mid [])
    (few : length mid ≤ 1000000) (some : result ≡ Some root) (is : made ≡ root_node side reach p)
    (inside : IfSome result (λ at. at < length mid)) (free : IfSome result (λ at. held mid at ≡ None))
    (put : IfSome result (λ at. new ≡ set mid at (Some made))) (count : IfSome result (λ at. live_slots new ≡ live_slots mid + 1)) where
  put_root : new ≡ set mid root (Some made)
  put_root = if_some (λ at. new ≡ set mid at (Some made)) some put

  root_lies : Lies side new (Some root) (leaf_at root p (verdict_at side (planned reach) p) end) []
  root_lies =
      let there : new ≡ set mid root (Some (root_node side reach p)) = put_root ∙ ap (λ m. set mid root (Some m)) is in
      record {
        owns = subst (λ s. Owns s ((root, root_node side reach p) ∷ [])) (sym there)
            (placed_to root (root_node side reach p) [] (if_some (λ at. at < length mid) some inside) (if_some (λ at. held mid at ≡ None) some free) owns
            (sym (ap live_slots there) ∙ if_some (λ at. live_slots new ≡ live_slots mid + 1) some count));
        first = refl;
        clean = tt;
        going = going_leaves side (planned reach) (p ∷ []);
      }

  pub same_slots : length new ≡ length mid
  same_slots = ap length put_root ∙ length-set mid root (Some made)

  pub front_begins : IsFront side new root
  front_begins = record { tree = leaf_at root p (verdict_at side (planned reach) p) end; lies = root_lies; alone = refl; few = omega (arith, few, same_slots) }

  pub tree_begins : row_at new (Some root) ≡ front p side reach 0
  unfolding front_within front
  tree_begins = reads_at side (Some root) (leaf_at root p (verdict_at side (planned reach) p) end) [] root_lies

-- one expansion more
pub front_more : (p : Position) (side : Side) (reach n : ℕ) → front p side reach (n + 1) ≡ grown side (planned reach) (front p side reach n)
unfolding front_within front
front_more p side reach n = ap (front_within side (planned reach) p) (add-one n)

-- the front after an expansion, or after none where there was no room
module _ {side : Side} {slots new : List (Option Node)} {root : ℕ} (f : IsFront side slots root) (node : Node) (here : held slots root ≡ Some node)
    (closed : Side → Position → Bool) (same : length new ≡ length slots) where
  pub front_kept : (step : Step) → (step ≡ steps.Full → new ≡ slots)
      → (step ≢ steps.Full → Grew side new root (updated side closed true node.numbers.proof (row_of f.tree)) []) → IsFront side new root
  front_kept steps.Full kept grew = subst (λ s. IsFront side s root) (sym (kept refl)) f
  front_kept steps.Same kept grew = front_after f node here closed (grew (λ e. cc)) same
  front_kept steps.Changed kept grew = front_after f node here closed (grew (λ e. cc)) same

pub expanded_not_full : (step : Step) → answer_of Unsettled step ≡ Expanded → step ≢ steps.Full
expanded_not_full steps.Full e f = cc
expanded_not_full steps.Same e f = cc
expanded_not_full steps.Changed e f = cc
