-- Where a front ends, and that its remark is one.
use Rattle.std.proofs.Common.{◌≡◌, ◌≢◌, ◌⊎◌, ℕ, ◌+◌, ◌%◌, ◌<◌, ◌≤◌, ◌^◌, Bool, true, false, ◌||◌, List, [], ◌∷◌, ◌++◌, ◌==◌, codes, decimal, length, Option}
use Rattle.std.proofs.Common.{Some, refl, sym, ap, ◌∙◌, subst, inl, inr, arith, length-append}
use Rattle.std.specs.List.{list_all}
use mathlib.Core.Bool.{true≢false}
use Rattle.std.proofs.lemmas.Bool.{cases_Bool, cases_lt, eq-eqb, ne_eqb, le-leb}
use Rattle.std.proofs.lemmas.Bool.Decides.{nat_tests}
use Rattle.std.proofs.lemmas.Fmt.{decimal_by_steps, length-decimal-le}
use Rattle.std.proofs.lemmas.List.Folds.{list_all-append}
use Rattle.game_rules.specs.Position.{Position}
use Rattle.game_rules.specs.declared.Side.{Side}
use Rattle.game_rules.specs.declared.Side.TheVariants.{White, Black}
use Rattle.front_rules.specs.Counts.{is_zero}
use Rattle.front_rules.specs.Front.{root_number, is_settled, front}
use Rattle.front_rules.specs.declared.Count.{Count}
use Rattle.proof_front.specs.Fronts.{FrontState, tree_of, slot_count, is_full, IsFrontOf, IsAnswer}
use Rattle.proof_front.specs.declared.front.Grown.{Grown}
use Rattle.proof_front.specs.declared.front.Grown.TheVariants.{Settled, Full, Expanded}
use Rattle.device_rules.specs.Devices.{AppendsPrefix}
use Rattle.proof_text.specs.Spelling.{as_line, is_printable, is_remark, longest_line}
use Rattle.run_questions.specs.Remarks.{side_word, count_word, remark_of, IsRemarkWord, is_front_end, EndsAfter, remark_after}
use Rattle.run_questions.specs.SizedFronts.{IsAfter, IsAfterSome, LeavesRemark}
use Rattle.run_questions.specs.declared.fronts.SizedFront.{SizedFront}

-- ---- the text

-- the word can be printed
abbrev pub IsPrinted : List ℕ → Type 0
IsPrinted word = list_all is_printable word ≡ true

pub digits_print : (n : ℕ) → n < 2 ^ 64 → IsPrinted (decimal n)
digits_print n small = decimal_by_steps (λ n ds. IsPrinted ds) one more n small
  where
    digit : (d : ℕ) → d < 10 → is_printable (48 + d) ≡ true
    digit d h = grind (arith, nat_tests)

    one : (n : ℕ) → n < 10 → list_all is_printable ((48 + n) ∷ []) ≡ true
    one n h = rw (digit n h) refl

    more : (n : ℕ) (ds : List ℕ) → 10 ≤ n → list_all is_printable ds ≡ true → list_all is_printable (ds ++ (48 + n % 10) ∷ []) ≡ true
    more n ds h before = list_all-append is_printable ds ((48 + n % 10) ∷ []) ∙ rw (before, digit (n % 10) (omega arith)) refl

word_prints : (word rest : List ℕ) → IsPrinted word → IsPrinted rest → IsPrinted (word ++ 32 ∷ rest)
word_prints word rest first others = list_all-append is_printable word (32 ∷ rest) ∙ rw (first, others) refl

side_prints : (side : Side) → IsPrinted (side_word side)
side_prints White = refl
side_prints Black = refl

side_short : (side : Side) → length (side_word side) ≡ 1
side_short White = refl
side_short Black = refl

remark_if : (rest : List ℕ) → IsPrinted rest → length (35 ∷ rest) ≤ longest_line → is_remark (35 ∷ rest) ≡ true
remark_if rest printed short = rw (printed, le-leb (length (35 ∷ rest)) longest_line short) refl

-- the words behind the side
abbrev behind_side : ℕ → Count → Count → List ℕ
behind_side n proof disproof = decimal n ++ 32 ∷ (count_word proof ++ 32 ∷ count_word disproof)

-- such words are a remark
pub remark_prints : (side : Side) (n : ℕ) (proof disproof : Count) → IsRemarkWord (decimal n) → IsRemarkWord (count_word proof)
    → IsRemarkWord (count_word disproof) → is_remark (remark_of side n proof disproof) ≡ true
remark_prints side n proof disproof first second third =
    remark_if (codes " front " ++ (side_word side ++ 32 ∷ behind_side n proof disproof))
    (word_prints (side_word side) (behind_side n proof disproof) (side_prints side)
    (word_prints (decimal n) _ first.0 (word_prints (count_word proof) (count_word disproof) second.0 third.0)))
    (omega (
      arith,
      first.1,
      second.1,
      third.1,
      length-append (side_word side) (32 ∷ behind_side n proof disproof),
      side_short side,
      length-append (decimal n) (32 ∷ (count_word proof ++ 32 ∷ count_word disproof)),
      length-append (count_word proof) (32 ∷ count_word disproof),
    ))

pub number_word : (n : ℕ) → n < 2 ^ 32 → IsRemarkWord (decimal n)
number_word n small = (digits_print n (omega (arith, small)), length-decimal-le 10 n (omega arith) (omega (arith, small)) (omega (arith, small)))

-- ---- the end

by_first : (a b c : Bool) → a ≡ true → (a || b || c) ≡ true
by_first true b c h = refl
by_first false b c h = absurd (true≢false (sym h))

or_true : (a b : Bool) → b ≡ true → (a || b) ≡ true
or_true true b h = refl
or_true false b h = h

last_of : (a b c : Bool) → c ≡ true → (a || b || c) ≡ true
last_of a b c h = or_true (a || b) c h

by_second : (a b c : Bool) → b ≡ true → (a || b || c) ≡ true
by_second true b c h = refl
by_second false true c h = refl
by_second false false c h = absurd (true≢false (sym h))

none_of : (a b c : Bool) → a ≡ false → b ≡ false → c ≡ false → (a || b || c) ≡ false
none_of true b c first second third = absurd (true≢false first)
none_of false true c first second third = absurd (true≢false second)
none_of false false c first second third = third

module _ (root : Position) (side : Side) (reach slots n : ℕ) (f : FrontState) (is : IsFrontOf root side reach n slots f) where
  -- the front's own words are those of its position
  pub settled_is : is_settled f.side (tree_of f) ≡ is_settled side (front root side reach n)
  settled_is = rw (is.same_side, is.tree) refl

  pub full_is : is_full f.side (slot_count f) (tree_of f) ≡ is_full side slots (front root side reach n)
  full_is = rw (is.same_side, is.tree, is.same_slots) refl

  abbrev has_zero : Bool → Bool
  has_zero proof = is_zero (root_number f.side proof (tree_of f))

  pub stopped : (g : Grown) → g ≢ Expanded → IsAnswer f g → is_front_end root side reach slots n ≡ true
  stopped (Settled true) other answer = by_first _ _ _ (sym settled_is ∙ ap (λ b. b || has_zero false) (answer.yes.0 refl))
  stopped (Settled false) other answer = by_first _ _ _ (sym settled_is ∙ or_true (has_zero true) (has_zero false) (answer.no.0 refl))
  stopped Full other answer = by_second (is_settled side (front root side reach n)) (is_full side slots (front root side reach n)) (n == slots)
      (sym full_is ∙ (answer.full.0 refl).1)
  stopped Expanded other answer = absurd (other refl)

  pub went_on : (g : Grown) → g ≡ Expanded → IsAnswer f g → n < slots → is_front_end root side reach slots n ≡ false
  went_on g is_expanded answer within =
      elim (cases_Bool (has_zero true)) [
        | inl won ↦ absurd (let same : Settled true ≡ Expanded = sym (answer.yes.1 won) ∙ is_expanded in cc)
        | inr first ↦ elim (cases_Bool (has_zero false)) [
          | inl lost ↦ absurd (let same : Settled false ≡ Expanded = sym (answer.no.1 lost) ∙ is_expanded in cc)
          | inr second ↦ elim (cases_Bool (is_full f.side (slot_count f) (tree_of f))) [
            | inl no_room ↦ absurd (let same : Full ≡ Expanded = sym (answer.full.1 (ap (λ b. b || has_zero false) first ∙ second, no_room))
                ∙ is_expanded in cc)
            | inr room ↦ none_of _ _ _ (sym settled_is ∙ ap (λ b. b || has_zero false) first ∙ second) (sym full_is ∙ room)
                (ne_eqb n slots (λ same. omega (arith, same, within)))
          ]
        ]
      ]

-- A front that wasn't expanded yet was expanded n times, and ended at none of the numbers before.
pub record Grew (old new : SizedFront) (n : ℕ) : Type 0 where
  pub slots : new.slots ≡ old.slots
  pub front : (root : Position) (side : Side) (reach : ℕ) → IsFrontOf root side reach 0 old.slots old.front → IsFrontOf root side reach n old.slots new.front
  pub goes_on : (root : Position) (side : Side) (reach : ℕ) → IsFrontOf root side reach 0 old.slots old.front → (m : ℕ) → m < n
      → is_front_end root side reach old.slots m ≡ false

pub grew_none : (old : SizedFront) → Grew old old 0
grew_none old = record { slots = refl; front = λ root side reach is. is; goes_on = λ root side reach is m h. absurd (omega (arith, h)) }

-- what is said of an expansion is said of the position's front
pub next_front : (root : Position) (side : Side) (reach slots n : ℕ) (f g : FrontState) → IsFrontOf root side reach n slots f
    → ((p : Position) (n : ℕ) → IsFrontOf p f.side f.reach n (slot_count f) f → IsFrontOf p f.side f.reach (n + 1) (slot_count f) g)
    → IsFrontOf root side reach (n + 1) slots g
next_front root side reach slots n f g is step =
    let own : IsFrontOf root f.side f.reach n (slot_count f) f =
    record { tree = is.tree ∙ rw (is.same_side, is.same_reach) refl; same_side = refl; same_reach = refl; same_slots = refl } in
    let next = step root n own in
    record {
      tree = next.tree ∙ rw (is.same_side, is.same_reach) refl;
      same_side = next.same_side ∙ is.same_side;
      same_reach = next.same_reach
          ∙ is.same_reach;
      same_slots = next.same_slots ∙ is.same_slots;
    }

module _ (old now : SizedFront) (n : ℕ) (grew : Grew old now n) (g : Grown) (answer : IsAnswer now.front g) where
  -- one more expansion
  pub grew_more : (next : FrontState) → g ≡ Expanded → n < old.slots
      → ((p : Position) (n : ℕ) → IsFrontOf p now.front.side now.front.reach n (slot_count now.front) now.front
      → IsFrontOf p now.front.side now.front.reach (n + 1) (slot_count now.front) next)
      → Grew old (record now { front = next }) (n + 1)
  grew_more next is_expanded within step = record {
    slots = grew.slots;
    front = λ root side reach is. next_front root side reach old.slots n now.front next (grew.front root side reach is) step;
    goes_on = λ root side reach is m h. goes root side reach is m h (cases_lt m n);
  }
    where
      goes : (root : Position) (side : Side) (reach : ℕ) → IsFrontOf root side reach 0 old.slots old.front → (m : ℕ) → m < n + 1 → (m < n) ⊎ (n ≤ m)
          → is_front_end root side reach old.slots m ≡ false
      goes root side reach is m h (inl before) = grew.goes_on root side reach is m before
      goes root side reach is m h (inr here) =
          let same : n ≡ m = omega (arith, h, here) in
          subst (λ m. is_front_end root side reach old.slots m ≡ false) same
          (went_on root side reach old.slots n now.front (grew.front root side reach is) g is_expanded answer within)

  -- it stopped
  pub ends_here : g ≢ Expanded → (root : Position) (side : Side) (reach : ℕ) → IsFrontOf root side reach 0 old.slots old.front
      → EndsAfter root side reach old.slots n
  ends_here other root side reach is =
      record { last = stopped root side reach old.slots n now.front (grew.front root side reach is) g other answer; first = grew.goes_on root side reach is }

-- there were as many expansions as slots
pub ends_last : (old now : SizedFront) → Grew old now old.slots → (root : Position) (side : Side) (reach : ℕ) → IsFrontOf root side reach 0 old.slots old.front
    → EndsAfter root side reach old.slots old.slots
ends_last old now grew root side reach is =
    record {
      last = last_of (is_settled side (front root side reach old.slots)) (is_full side old.slots (front root side reach old.slots))
          (old.slots == old.slots) (eq-eqb old.slots old.slots refl);
      first = grew.goes_on root side reach is;
    }

-- a front that was begun anew for Black
pub turned : (p : Position) (side : Side) (reach : ℕ) (old new : SizedFront) → IsAfterSome p side reach (Some old) → new.slots ≡ old.slots
    → IsFrontOf p Black old.front.reach 0 (slot_count old.front) new.front
    → IsAfter p Black reach 0 (Some new)
turned p side reach old new (n, is) same begun =
    subst (λ slots. IsFrontOf p Black reach 0 slots new.front) (is.same_slots ∙ sym same)
    (subst (λ reach. IsFrontOf p Black reach 0 (slot_count old.front) new.front) is.same_reach begun)

-- ---- what a question's remark leaves in a sink

pub remark_stands : (root : Position) (side : Side) (reach slots n : ℕ) (f : FrontState) (proof disproof : Count) (whole : Bool) (old new : Option (List ℕ))
    → EndsAfter root side reach slots n → IsFrontOf root side reach n slots f
    → ◌≡◌ {A = Count × Count} (proof, disproof) (root_number f.side true (tree_of f), root_number f.side false (tree_of f))
    → is_remark (remark_of side n proof disproof) ≡ true
    → AppendsPrefix whole old new (as_line (remark_of side n proof disproof)) → LeavesRemark (Some slots) reach root side whole old new
remark_stands root side reach slots n f proof disproof whole old new ends is numbers printable text =
    record { remark = Some (remark_of side n proof disproof); right = (n, ends, ap Some same); line = printable; text = text }
  where
    same : remark_of side n proof disproof ≡ remark_after root side reach n
    same =
        ap (λ (numbers : Count × Count). remark_of side n numbers.0 numbers.1) numbers
        ∙ ap (λ s. remark_of side n (root_number s true (tree_of f)) (root_number s false (tree_of f))) is.same_side
        ∙ ap (λ tree. remark_of side n (root_number side true tree) (root_number side false tree)) is.tree
