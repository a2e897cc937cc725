-- An expansion below a row, seen from its first node: in the row beside it, at the leaf that it is, or below it.
use Rattle.std.proofs.Common.{◌≡◌, ◌≢◌, ◌↔◌, ℕ, ◌<◌, Bool, true, false, List, ◌∷◌, ◌++◌, Option, Some, None, refl, sym, ap, subst, ◌∙◌, arith}
use Rattle.game_rules.specs.declared.Side.{Side}
use Rattle.front_rules.specs.Counts.{same_count}
use Rattle.front_rules.specs.Front.{node_count, row_number, is_own, planned, asked_in}
use Rattle.front_rules.specs.Path.{updated}
use Rattle.front_rules.specs.declared.Count.{Count}
use Rattle.node_pool.specs.Slots.{held, free_slots}
use Rattle.proof_front.specs.Cells.{Cell, Owns}
use Rattle.proof_front.specs.Numbers.{number_in}
use Rattle.proof_front.specs.Rows.{Placed, row_of, cells_of, Lies, row_at}
use Rattle.proof_front.specs.Steps.{LiesBelow, IsBelow, IsAsked, IsGoingLeaf, IsRenewed, IsExpanded, IsGrown}
use Rattle.proof_front.specs.declared.growing.Step.{Step}
use Rattle.proof_front.specs.declared.growing.Step.TheVariants as steps
use Rattle.proof_front.specs.declared.node.Node.{Node}
use Rattle.proof_front.proofs.Opening.{opened, kids_of, rest_of}
use Rattle.proof_front.proofs.Parts.{fewer_below, fewer_beside}
use Rattle.proof_front.proofs.Skipping.{asked_skipped, updated_skipped, numbers_skipped, lies_with, with_rest, asked_beside}
use Rattle.proof_front.proofs.Descending.{InnerFirst, leaf_first, inner_first}
use Rattle.proof_front.proofs.Branches.{asked_leaf, going_leaf, leaf_grew, leaf_numbers_same, asked_inner, kids_lie, asked_below, new_below, inner_grew}
use Rattle.proof_front.proofs.Branches.{inner_numbers_same, kept_numbers, inner_stays}

changed_not_full : {s : Step} → s ≡ steps.Changed → s ≢ steps.Full
changed_not_full e f = cc

same_not_full : {s : Step} → s ≡ steps.Same → s ≢ steps.Full
same_not_full e f = cc

the_same : (s : Step) → s ≢ steps.Full → s ≢ steps.Changed → s ≡ steps.Same
the_same steps.Full f g = absurd (f refl)
the_same steps.Same f g = refl
the_same steps.Changed f g = absurd (g refl)

-- too little room for as many moves
room_as : {s : Step} {free m n : ℕ} → m ≡ n → s ≡ steps.Full ↔ (free < m) → s ≡ steps.Full ↔ (free < n)
room_as {s} {free} e told = subst (λ k. s ≡ steps.Full ↔ (free < k)) e told

-- what the code tests of the first node's number
pub tested : (proof : Bool) (node : Node) {number : Count} (least : Count) {test answer : Bool} → number ≡ number_in proof node.numbers
    → test ≡ same_count number least → test ≡ answer
    → same_count (number_in proof node.numbers) least ≡ answer
tested proof node least is same answers = sym (ap (λ m. same_count m least) is) ∙ (sym same ∙ answers)

module _ {side : Side} {old : List (Option Node)} {at : ℕ} {node : Node} (here : held old at ≡ Some node) (proof : Bool) (least : Count) where
  -- ---- in the row beside it

  module _ (apart : same_count (number_in proof node.numbers) least ≡ false) where
    pub beside_asked : {next : ℕ} (g : IsAsked side old at proof least) → node.next ≡ Some next → IsAsked side old next proof least
    beside_asked g e = asked_beside side g (opened side at node g.row g.others g.lies here) apart e

    pub beside_less : {next : ℕ} (g : IsAsked side old at proof least) → node.next ≡ Some next
        → node_count (row_at old (Some next)) < node_count (row_at old (Some at))
    beside_less g e =
        omega (arith, fewer_beside side g.row g.others g.lies (opened side at node g.row g.others g.lies here), ap (λ a. node_count (row_at old a)) e)

    pub beside_grown : {reach next : ℕ} {new : List (Option Node)} {step : Step} {row : Placed} {others : List (Cell Node)} → Lies side old (Some at) row others
        → node.next ≡ Some next
        → ((row : Placed) (others : List (Cell Node)) → Lies side old (Some next) row others → IsGrown side reach old new next proof least row others step)
        → IsGrown side reach old new at proof least row others step
    beside_grown {reach} {new = new} {row = row} {others} lies e grown =
        let closed = planned reach in
        let o = opened side at node row others lies here in
        let below = grown (rest_of row) _ (subst (λ a. Lies side old a (rest_of row) ((at, node) ∷ (cells_of side (kids_of row) ++ others))) e o.beside) in
        record {
          full = room_as (sym (asked_skipped side here row others lies proof least apart)) below.full;
          grown = λ went.
              let more = below.grown went in
              record {
                placed = with_rest side row more.placed;
                is = updated_skipped side here row others lies proof least apart closed more.placed more.is;
                lies = lies_with side here row more.placed others lies e more.lies;
              };
          numbers = λ same. numbers_skipped side here row others lies proof least apart closed (below.numbers same);
        }

  module _ (found : same_count (number_in proof node.numbers) least ≡ true) where
    -- ---- at the leaf that it is

    pub leaf_going : (g : IsAsked side old at proof least) → node.first ≡ None → IsGoingLeaf old at
    leaf_going g none = going_leaf side g.row g.others proof least found (leaf_first side here g.row g.others g.lies none) g.unsettled g.finite

    pub leaf_grown : {reach : ℕ} {new : List (Option Node)} {step : Step} {row : Placed} {others : List (Cell Node)} → Lies side old (Some at) row others
        → node.first ≡ None
        → ((node : Node) (others : List (Cell Node)) → Owns old ((at, node) ∷ others) → IsExpanded side reach old new at node others step)
        → IsGrown side reach old new at proof least row others step
    leaf_grown {reach} {row = row} {others} lies none expanded =
        let closed = planned reach in
        let l = leaf_first side here row others lies none in
        let did = expanded node _ l.owns in
        record {
          full = room_as (sym (asked_leaf side row others proof least found l)) did.full;
          grown = λ went. let kids = did.grown went in leaf_grew side row others proof least found l closed kids.0 kids.1 kids.2 kids.3;
          numbers = λ same. leaf_numbers_same side row others proof least found l closed (did.numbers same);
        }

    -- ---- below it

    module _ {own : Bool} (to_move : own ≡ is_own side node.position) {first : ℕ} (some : node.first ≡ Some first) {below : Count}
        (least_below : below ≡ number_in own node.numbers) where
      first_inner : {row : Placed} {others : List (Cell Node)} → Lies side old (Some at) row others → InnerFirst side old at node row others
      first_inner {row} {others} lies = inner_first side here row others lies some

      pub below_asked : (g : IsAsked side old at proof least) → IsAsked side old first own below
      below_asked g = subst (IsAsked side old first own) (sym least_below)
          (asked_below side g.row g.others proof least found (first_inner g.lies) own to_move some)

      pub below_less : (g : IsAsked side old at proof least) → node_count (row_at old (Some first)) < node_count (row_at old (Some at))
      below_less g =
          omega (arith, fewer_below side g.row g.others g.lies (opened side at node g.row g.others g.lies here), ap (λ a. node_count (row_at old a)) some)

      -- what an expansion below it leaves in the pool
      module _ {reach : ℕ} {mid : List (Option Node)} {went : Step}
          (grown : (row : Placed) (others : List (Cell Node)) → Lies side old (Some first) row others
          → IsGrown side reach old mid first own below row others went) where
        pub kids_below : went ≡ steps.Changed → IsAsked side old at proof least → IsBelow side mid at (Some first)
        kids_below changed g =
            let i = first_inner g.lies in
            let kids = (grown i.kids _ (kids_lie side g.row g.others proof least found i own to_move some)).grown (changed_not_full changed) in
            record {
              node = node;
              kids = kids.placed;
              others = _;
              lies = new_below side g.row g.others proof least found i own to_move some kids.placed
                  kids.lies;
            }

        module _ {row : Placed} {others : List (Cell Node)} (lies : Lies side old (Some at) row others) where
          inside : InnerFirst side old at node row others
          inside = first_inner lies

          did : IsGrown side reach old mid first own below inside.kids ((at, node) ∷ (cells_of side inside.rest ++ others)) went
          did = grown inside.kids _ (kids_lie side row others proof least found inside own to_move some)

          room_below : went ≡ steps.Full ↔ (free_slots old < asked_in side proof least (row_of row))
          room_below = room_as (sym (asked_inner side row others proof least found inside own to_move
              ∙ ap (λ m. asked_in side own m (row_of inside.kids)) (sym least_below))) did.full

          updated_below : updated side (planned reach) own below (row_of inside.kids) ≡ updated side (planned reach) own (number_in own node.numbers)
              (row_of inside.kids)
          updated_below = ap (λ m. updated side (planned reach) own m (row_of inside.kids)) least_below

          -- the first child has other numbers, so the node is looked at again
          pub changed_grown : {new : List (Option Node)} {step : Step} → went ≡ steps.Changed → step ≢ steps.Full
              → ((node : Node) (kids : Placed) (others : List (Cell Node)) → LiesBelow side mid at (Some first) node kids others
              → IsRenewed side new at node kids others step)
              → IsGrown side reach old new at proof least row others step
          changed_grown changed done renewed =
              let kids = did.grown (changed_not_full changed) in
              let again = renewed node kids.placed _ (new_below side row others proof least found inside own to_move some kids.placed kids.lies) in
              record {
                full = (λ full. absurd (done full), λ few. absurd (changed_not_full changed (room_below.1 few)));
                grown = λ step. inner_grew side row others proof least found inside own to_move some (planned reach) kids.placed (kids.is ∙ updated_below)
                    kids.lies again.owns;
                numbers = λ same. inner_numbers_same side row others proof least found inside own to_move some (planned reach) (row_of kids.placed)
                    (kids.is ∙ updated_below) (again.numbers same);
              }

          -- it has the same, so the path ends here
          same_below : went ≡ steps.Same → (b smallest : Bool)
              → row_number side b smallest (updated side (planned reach) own (number_in own node.numbers) (row_of inside.kids))
              ≡ row_number side b smallest (row_of inside.kids)
          same_below same =
              subst (λ m. (b smallest : Bool) → row_number side b smallest (updated side (planned reach) own m (row_of inside.kids))
              ≡ row_number side b smallest (row_of inside.kids)) least_below (did.numbers same)

          pub same_grown : went ≢ steps.Changed → IsGrown side reach old mid at proof least row others went
          same_grown kept =
              record {
                full = room_below;
                grown = λ done.
                    let kids = did.grown done in
                    inner_stays side row others proof least found inside own to_move some (planned reach) kids.placed (kids.is ∙ updated_below)
                    (same_below (the_same went done kept)) kids.lies;
                numbers = λ same.
                    let kids = did.grown (same_not_full same) in
                    inner_numbers_same side row others proof least found inside own to_move some (planned reach) (row_of kids.placed) (kids.is ∙ updated_below)
                    (kept_numbers side row others proof least found inside own to_move some (planned reach) kids.placed (kids.is ∙ updated_below)
                    (same_below same));
              }
