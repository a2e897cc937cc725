-- What is known of the two numbers of a node: when one is 0 and the other infinite, that a collapsed tree has the numbers
-- of the tree, and how great they are.
use Rattle.std.proofs.Common.{◌≡◌, ◌+◌, ◌≤◌, Bool, true, false, not, ◌||◌, ◌&&◌, refl, sym, ap, ◌∙◌, arith, inl, inr}
use Rattle.std.proofs.lemmas.Bool.Decides.{nat_tests}
use Rattle.std.proofs.lemmas.Bool.{cases_Bool}
use mathlib.Core.Bool.{true≢false}
use Rattle.game_rules.specs.Position.{Position}
use Rattle.game_rules.specs.declared.Side.{Side}
use Rattle.front_rules.specs.Counts.{plus, least, is_zero, is_infinite, finite_part}
use Rattle.front_rules.specs.Front.{Row, nothing, leaf, inner, node_count, leaf_number, joined, takes_least, is_own, row_number, node_number, verdict_on}
use Rattle.front_rules.specs.Front.{node_as, collapsed}
use Rattle.front_rules.specs.declared.Count.{Count}
use Rattle.front_rules.specs.declared.Count.TheVariants.{Finite, Infinite}
use Rattle.front_rules.specs.declared.LeafVerdict.{LeafVerdict}
use Rattle.front_rules.specs.declared.LeafVerdict.TheVariants.{Unsettled, Yes, No}

-- ---- one number

zero_is : (a : Count) → is_zero a ≡ true → a ≡ Finite 0
zero_is (Finite m) h = ap Finite (grind arith)
zero_is Infinite h = absurd (true≢false (sym h))

infinite_is : (a : Count) → is_infinite a ≡ true → a ≡ Infinite
infinite_is (Finite m) h = absurd (true≢false (sym h))
infinite_is Infinite h = refl

zero_infinite : (a : Count) → is_zero a ≡ true → is_infinite a ≡ false
zero_infinite a h = ap is_infinite (zero_is a h)

-- ---- two numbers

pub zero_least : (a b : Count) → is_zero (least a b) ≡ (is_zero a || is_zero b)
zero_least (Finite m) (Finite n) = grind (arith, nat_tests)
zero_least (Finite m) Infinite = grind (arith, nat_tests)
zero_least Infinite b = refl

pub zero_plus : (a b : Count) → is_zero (plus a b) ≡ (is_zero a && is_zero b)
zero_plus (Finite m) (Finite n) = grind (arith, nat_tests)
zero_plus (Finite m) Infinite = grind (arith, nat_tests)
zero_plus Infinite b = refl

infinite_least : (a b : Count) → is_infinite (least a b) ≡ (is_infinite a && is_infinite b)
infinite_least (Finite m) (Finite n) = grind (arith, nat_tests)
infinite_least (Finite m) Infinite = refl
infinite_least Infinite b = refl

infinite_plus : (a b : Count) → is_infinite (plus a b) ≡ (is_infinite a || is_infinite b)
infinite_plus (Finite m) (Finite n) = refl
infinite_plus (Finite m) Infinite = refl
infinite_plus Infinite b = refl

-- where two numbers are each 0 exactly where two others are infinite, so is the least of them and the sum of the others
dual_joined : (smallest : Bool) (a b c d : Count) → is_zero a ≡ is_infinite c → is_zero b ≡ is_infinite d
    → is_zero (joined smallest a b) ≡ is_infinite (joined (not smallest) c d)
dual_joined true a b c d e f = zero_least a b ∙ (rw (e, f) (sym (infinite_plus c d)))
dual_joined false a b c d e f = zero_plus a b ∙ (rw (e, f) (sym (infinite_least c d)))

part_joined : (smallest : Bool) (a b : Count) → finite_part (joined smallest a b) ≤ finite_part a + finite_part b
part_joined true (Finite m) (Finite n) = grind (arith, nat_tests)
part_joined true (Finite m) Infinite = omega arith
part_joined true Infinite b = omega arith
part_joined false (Finite m) (Finite n) = omega arith
part_joined false (Finite m) Infinite = omega arith
part_joined false Infinite b = omega arith

-- ---- the numbers of rows

dual_leaf : (proof : Bool) (v : LeafVerdict) → is_zero (leaf_number proof v) ≡ is_infinite (leaf_number (not proof) v)
dual_leaf true Unsettled = refl
dual_leaf true Yes = refl
dual_leaf true No = refl
dual_leaf false Unsettled = refl
dual_leaf false Yes = refl
dual_leaf false No = refl

not_not : (b : Bool) → b ≡ not (not b)
not_not true = refl
not_not false = refl

module _ (side : Side) where
  turned : (proof : Bool) (p : Position) → takes_least side (not proof) p ≡ not (takes_least side proof p)
  turned true p = refl
  turned false p = not_not (is_own side p)

  pub row_dual : (row : Row) (proof smallest : Bool) → is_zero (row_number side proof smallest row) ≡ is_infinite (row_number side (not proof)
      (not smallest) row)
  row_dual nothing proof true = refl
  row_dual nothing proof false = refl
  row_dual (leaf p v rest) proof smallest = dual_joined smallest _ _ _ _ (dual_leaf proof v) (row_dual rest proof smallest)
  row_dual (inner p kids rest) proof smallest =
      dual_joined smallest _ _ _ _ (row_dual kids proof (takes_least side proof p)
      ∙ ap (λ w. is_infinite (row_number side (not proof) w kids)) (sym (turned proof p))) (row_dual rest proof smallest)

  pub node_dual : (p : Position) (kids : Row) (proof : Bool) → is_zero (node_number side proof p kids) ≡ is_infinite (node_number side (not proof) p kids)
  node_dual p kids proof = row_dual kids proof (takes_least side proof p) ∙ ap (λ w. is_infinite (row_number side (not proof) w kids)) (sym (turned proof p))

  -- ---- a settled node as a leaf

  pub settled_yes : (p : Position) (kids : Row) (proof : Bool) → is_zero (node_number side true p kids) ≡ true
      → leaf_number proof Yes ≡ node_number side proof p kids
  settled_yes p kids true h = sym (zero_is _ h)
  settled_yes p kids false h = sym (infinite_is _ (sym (node_dual p kids true) ∙ h))

  pub settled_no : (p : Position) (kids : Row) (proof : Bool) → is_zero (node_number side false p kids) ≡ true
      → leaf_number proof No ≡ node_number side proof p kids
  settled_no p kids true h = sym (infinite_is _ (sym (node_dual p kids false) ∙ h))
  settled_no p kids false h = sym (zero_is _ h)

  -- a node that becomes a leaf where it is settled, and else gets children with the same numbers, keeps its numbers
  pub as_number : (p : Position) (kids new rest : Row) → ((proof smallest : Bool) → row_number side proof smallest new ≡ row_number side proof smallest kids)
      → (proof smallest : Bool) → row_number side proof smallest (node_as (verdict_on side p kids) p new rest)
      ≡ joined smallest (node_number side proof p kids) (row_number side proof smallest rest)
  as_number p kids new rest same proof smallest =
      elim (cases_Bool (is_zero (node_number side true p kids))) [
        | inl won ↦ rw won (ap (λ n. joined smallest n (row_number side proof smallest rest)) (settled_yes p kids proof won))
        | inr first ↦ elim (cases_Bool (is_zero (node_number side false p kids))) [
          | inl lost ↦ rw (first, lost) (ap (λ n. joined smallest n (row_number side proof smallest rest)) (settled_no p kids proof lost))
          | inr second ↦ rw (first, second) (ap (λ n. joined smallest n (row_number side proof smallest rest)) (same proof (takes_least side proof p)))
        ]
      ]

  pub collapsed_number : (row : Row) (proof smallest : Bool) → row_number side proof smallest (collapsed side row) ≡ row_number side proof smallest row
  collapsed_number nothing proof smallest = refl
  collapsed_number (leaf p v rest) proof smallest = ap (joined smallest (leaf_number proof v)) (collapsed_number rest proof smallest)
  collapsed_number (inner p kids rest) proof smallest =
      as_number p kids (collapsed side kids) (collapsed side rest) (λ b w. collapsed_number kids b w) proof smallest
      ∙ ap (joined smallest (node_number side proof p kids)) (collapsed_number rest proof smallest)

  -- ---- how great a finite number is

  pub part_leaf : (proof : Bool) (v : LeafVerdict) → finite_part (leaf_number proof v) ≤ 1
  part_leaf true Unsettled = omega arith
  part_leaf true Yes = omega arith
  part_leaf true No = omega arith
  part_leaf false Unsettled = omega arith
  part_leaf false Yes = omega arith
  part_leaf false No = omega arith

  pub number_bound : (row : Row) (proof smallest : Bool) → finite_part (row_number side proof smallest row) ≤ node_count row
  number_bound nothing proof true = omega arith
  number_bound nothing proof false = omega arith
  number_bound (leaf p v rest) proof smallest =
      omega (arith, part_joined smallest (leaf_number proof v) (row_number side proof smallest rest), part_leaf proof v, number_bound rest proof smallest)
  number_bound (inner p kids rest) proof smallest =
      omega (
        arith,
        part_joined smallest (node_number side proof p kids) (row_number side proof smallest rest),
        number_bound kids proof (takes_least side proof p),
        number_bound rest proof smallest,
      )
