-- The marks that are made are those of the test of what is reached, and the new numbers are ranks.
use Rattle.std.proofs.Common.{◌≡◌, ◌≢◌, ◌⊎◌, ℕ, zero, suc, ◌+◌, ◌-◌, ◌<◌, ◌≤◌, Bool, true, false, not, ◌||◌, ◌==◌, cond, List, [], ◌∷◌, ◌++◌}
use Rattle.std.proofs.Common.{length, map, set, get_or, drop}
use Rattle.std.proofs.Common.{replicate, append-nil, Option, Some, None, option_map, refl, sym, ap, ◌∙◌, subst, inl, inr, arith, add-one}
use Rattle.std.specs.List.{AllByRecursion, list_any, slice_get}
use Rattle.std.proofs.lemmas.Bool.{cases_eq, cases_lt, both_ways, eq-eqb, ne_eqb}
use Rattle.std.proofs.lemmas.List.{length-set, length-replicate, get_or-set_same, get_or-set_other, get_or_past}
use Rattle.game_rules.proofs.Lists.{cons_same}
use Rattle.proof_text.specs.Lemma.{Reason, Lemma}
use Rattle.proof_text.specs.declared.Verdict.{Verdict}
use Rattle.tool_text.specs.Trim.{numbers_cited, numbers_named, IsEarlier, CitesEarlier, has_number, with_cites, wanted_by, is_reached, rank}
use Rattle.proof_tools.specs.Reach.{mark_at, new_number, reach_of, with_mark, marked, passed, all_passed, numbers_from, is_some_number, reach_kept}
use Rattle.proof_tools.specs.Reach.{IsReach, AreWithin}

-- the marks are of the numbers that are wanted
abbrev pub Agree : List Bool → List ℕ → Type 0
Agree marks wanted = (n : ℕ) → 1 ≤ n → n ≤ length marks → mark_at marks n ≡ has_number wanted n

pub none_agree : (count : ℕ) → Agree (replicate count false) []
none_agree count zero least most = absurd (omega (arith, least))
none_agree count (suc i) least most = no_mark count i
  where
    no_mark : (count i : ℕ) → get_or (replicate count false) i false ≡ false
    no_mark zero i = refl
    no_mark (suc count) zero = refl
    no_mark (suc count) (suc i) = no_mark count i

-- one more mark
mark_with : (marks : List Bool) (n m : ℕ) → n ≤ length marks → 1 ≤ n → 1 ≤ m → mark_at (with_mark marks n) m ≡ ((n == m) || mark_at marks m)
mark_with marks zero m most least from = absurd (omega (arith, least))
mark_with marks (suc i) zero most least from = absurd (omega (arith, from))
mark_with marks (suc i) (suc j) most least from = elim (cases_eq i j) [
  | inl same ↦
      subst (λ j. mark_at (with_mark marks (suc i)) (suc j) ≡ ((suc i == suc j) || mark_at marks (suc j))) same
      (get_or-set_same marks i true false (let low : i < length marks = omega (arith, most) in low)
      ∙ sym (ap (λ b. b || mark_at marks (suc i)) (eq-eqb (suc i) (suc i) refl)))
  | inr apart ↦
      get_or-set_other marks i j true false (λ e. apart (sym e))
      ∙ sym (ap (λ b. b || mark_at marks (suc j)) (ne_eqb (suc i) (suc j) (λ e. apart (let f : i ≡ j = omega (arith, e) in f))))
]

length_with : (marks : List Bool) (n : ℕ) → length (with_mark marks n) ≡ length marks
length_with marks zero = refl
length_with marks (suc i) = length-set marks i true

pub length_marked : (ns : List ℕ) (marks : List Bool) → length (marked marks ns) ≡ length marks
length_marked [] marks = refl
length_marked (n ∷ ns) marks = length_marked ns (with_mark marks n) ∙ length_with marks n

pub within_with : (marks : List Bool) (n : ℕ) (ns : List ℕ) → AreWithin (length marks) ns → AreWithin (length (with_mark marks n)) ns
within_with marks n ns within = subst (λ k. AreWithin k ns) (sym (length_with marks n)) within

-- a number is marked where it was, or is among those that are
marked_says : (ns : List ℕ) (marks : List Bool) → AreWithin (length marks) ns → (m : ℕ) → 1 ≤ m
    → mark_at (marked marks ns) m ≡ (has_number ns m || mark_at marks m)
marked_says [] marks within m least = refl
marked_says (n ∷ ns) marks within m least =
    marked_says ns (with_mark marks n) (within_with marks n ns within.1) m least
    ∙ ap (λ b. has_number ns m || b) (mark_with marks n m within.0.1 within.0.0 least)
    ∙ swap (has_number ns m) (n == m) (mark_at marks m)
  where
    swap : (a b c : Bool) → (a || (b || c)) ≡ ((b || a) || c)
    swap true true c = refl
    swap true false c = refl
    swap false true c = refl
    swap false false c = refl

has_more : (ns wanted : List ℕ) (m : ℕ) → has_number (ns ++ wanted) m ≡ (has_number ns m || has_number wanted m)
has_more [] wanted m = refl
has_more (k ∷ ns) wanted m = ap (λ b. (k == m) || b) (has_more ns wanted m) ∙ assoc (k == m) (has_number ns m) (has_number wanted m)
  where
    assoc : (a b c : Bool) → (a || (b || c)) ≡ ((a || b) || c)
    assoc true b c = refl
    assoc false b c = refl

pub marks_more : (ns : List ℕ) (marks : List Bool) (wanted : List ℕ) → AreWithin (length marks) ns → Agree marks wanted → Agree (marked marks ns) (ns ++ wanted)
marks_more ns marks wanted within agree m least most =
    marked_says ns marks within m least
    ∙ ap (λ b. has_number ns m || b) (agree m least (let e = length_marked ns marks in omega (arith, most, e)))
    ∙ sym (has_more ns wanted m)

-- ---- from the last lemma back

-- what earlier lemmas cite is within the count of all
pub cites_within : (first count : ℕ) (ns : List ℕ) → AllByRecursion (IsEarlier first) ns → first ≤ count + 1 → AreWithin count ns
cites_within first count [] earlier most = tt
cites_within first count (n ∷ ns) earlier most = ((earlier.0.0, omega (arith, earlier.0.1, most)), cites_within first count ns earlier.1 most)

pub length_passed : (marks : List Bool) (ls : List Lemma) → length (all_passed marks ls) ≡ length marks
length_passed marks [] = refl
length_passed marks (l ∷ ls) = of (mark_at (all_passed marks ls) l.number) ∙ length_passed marks ls
  where
    of : (b : Bool) → length (cond b (marked (all_passed marks ls) (numbers_cited l.reason)) (all_passed marks ls)) ≡ length (all_passed marks ls)
    of true = length_marked (numbers_cited l.reason) (all_passed marks ls)
    of false = refl

-- the marks behind some lemmas are what those want
pub passed_agree : (v : Verdict) (marks : List Bool) (first : ℕ) (ls : List Lemma) → CitesEarlier first ls → 1 ≤ first
    → first + length ls ≤ length marks + 1 → Agree marks (numbers_named v) → Agree (all_passed marks ls) (wanted_by v ls)
passed_agree v marks first [] ordered least room agree = agree
passed_agree v marks first (l ∷ ls) ordered least room agree =
    of (mark_at (all_passed marks ls) l.number) refl (passed_agree v marks (first + 1) ls ordered.2 (omega arith) (omega (arith, room)) agree)
  where
    same : length (all_passed marks ls) ≡ length marks
    same = length_passed marks ls

    looked : Agree (all_passed marks ls) (wanted_by v ls) → mark_at (all_passed marks ls) l.number ≡ has_number (wanted_by v ls) l.number
    looked later = later l.number (omega (arith, ordered.0, least)) (omega (arith, ordered.0, room, same))

    of : (b : Bool) → mark_at (all_passed marks ls) l.number ≡ b → Agree (all_passed marks ls) (wanted_by v ls)
        → Agree (cond b (marked (all_passed marks ls) (numbers_cited l.reason)) (all_passed marks ls)) (with_cites (wanted_by v ls) l)
    of true is later =
        subst (Agree (marked (all_passed marks ls) (numbers_cited l.reason))) (sym (rw (sym (looked later) ∙ is) refl))
        (marks_more (numbers_cited l.reason) (all_passed marks ls) (wanted_by v ls)
        (cites_within first (length (all_passed marks ls)) (numbers_cited l.reason) ordered.1 (omega (arith, room, same))) later)
    of false is later = subst (Agree (all_passed marks ls)) (sym (rw (sym (looked later) ∙ is) refl)) later

-- ---- new numbers

-- one lemma before all
rank_first : (b : Bool) (marks : List Bool) (i : ℕ) → rank (mark_at (b ∷ marks)) (suc i) ≡ cond b 1 0 + rank (mark_at marks) i
rank_first true marks zero = refl
rank_first false marks zero = refl
rank_first b marks (suc i) = of (mark_at marks (suc i)) (rank_first b marks i)
  where
    of : (c : Bool) → rank (mark_at (b ∷ marks)) (suc i) ≡ cond b 1 0 + rank (mark_at marks) i
        → cond c (rank (mark_at (b ∷ marks)) (suc i) + 1) (rank (mark_at (b ∷ marks)) (suc i)) ≡ cond b 1 0 + cond c (rank (mark_at marks) i + 1)
        (rank (mark_at marks) i)
    of true same = omega (arith, same)
    of false same = same

-- the number that is kept for a lemma
pub number_at : (given : ℕ) (marks : List Bool) (i : ℕ) → i < length marks
    → get_or (numbers_from given marks) i 0 ≡ cond (get_or marks i false) (given + rank (mark_at marks) (suc i)) 0
number_at given [] i within = absurd (omega (arith, within))
number_at given (true ∷ marks) zero within = omega arith
number_at given (false ∷ marks) zero within = refl
number_at given (true ∷ marks) (suc i) within =
    number_at (given + 1) marks i (omega (arith, within))
    ∙ ap (λ n. cond (get_or marks i false) n 0)
    (let e : given + 1 + rank (mark_at marks) (suc i) ≡ given + rank (mark_at (true ∷ marks)) (suc (suc i)) = omega (arith, rank_first true marks (suc i)) in e)
number_at given (false ∷ marks) (suc i) within =
    number_at given marks i (omega (arith, within))
    ∙ ap (λ n. cond (get_or marks i false) n 0)
    (let e : given + rank (mark_at marks) (suc i) ≡ given + rank (mark_at (false ∷ marks)) (suc (suc i)) = omega (arith, rank_first false marks (suc i)) in e)

pub length_numbers : (given : ℕ) (marks : List Bool) → length (numbers_from given marks) ≡ length marks
length_numbers given [] = refl
length_numbers given (true ∷ marks) = omega (arith, length_numbers (given + 1) marks)
length_numbers given (false ∷ marks) = omega (arith, length_numbers given marks)

-- where a number stands there was a mark
pub marks_again : (given : ℕ) (marks : List Bool) → map is_some_number (numbers_from given marks) ≡ marks
marks_again given [] = refl
marks_again given (true ∷ marks) = cons_both (some given) (marks_again (given + 1) marks)
  where
    some : (given : ℕ) → is_some_number (given + 1) ≡ true
    some given = ap not (ne_eqb (given + 1) 0 (λ e. absurd (omega (arith, e))))

    cons_both : {b c : Bool} {bs cs : List Bool} → b ≡ c → bs ≡ cs → b ∷ bs ≡ c ∷ cs
    cons_both e f = cc
marks_again given (false ∷ marks) = ap (λ bs. false ∷ bs) (marks_again given marks)

-- ---- what a reach tells of a lemma

module _ (numbers : List ℕ) (marks : List Bool) (viewed : reach_kept numbers ≡ marks) (kept : IsReach numbers) (i : ℕ) where
  are : numbers ≡ numbers_from 0 marks
  are = kept ∙ ap (numbers_from 0) viewed

  same : length numbers ≡ length marks
  same = ap length are ∙ length_numbers 0 marks

  number_is : i < length numbers → get_or numbers i 0 ≡ cond (get_or marks i false) (rank (mark_at marks) (suc i)) 0
  number_is within =
      ap (λ ns. get_or ns i 0) are ∙ number_at 0 marks i (omega (arith, within, same))
      ∙ ap (λ n. cond (get_or marks i false) n 0) (let e : 0 + rank (mark_at marks) (suc i) ≡ rank (mark_at marks) (suc i) = omega arith in e)

  marked_rank : get_or marks i false ≡ true → rank (mark_at marks) (suc i) ≡ rank (mark_at marks) i + 1
  marked_rank h = rw h refl

  -- where a number stands, it is the new one; where none does, or 0, there is none
  pub number_some : (n : ℕ) → i < length numbers → n ≡ get_or numbers i n → 1 ≤ n → Some n ≡ new_number marks (suc i)
  number_some n within at positive = of (get_or marks i false) refl
    where
      told : n ≡ cond (get_or marks i false) (rank (mark_at marks) (suc i)) 0
      told = at ∙ get_or_same numbers i within n 0 ∙ number_is within
        where
          get_or_same : (xs : List ℕ) (i : ℕ) → i < length xs → (d e : ℕ) → get_or xs i d ≡ get_or xs i e
          get_or_same [] i low d e = absurd (omega (arith, low))
          get_or_same (x ∷ xs) zero low d e = refl
          get_or_same (x ∷ xs) (suc i) low d e = get_or_same xs i (omega (arith, low)) d e

      of : (b : Bool) → get_or marks i false ≡ b → Some n ≡ new_number marks (suc i)
      of true is = rw is (ap Some (told ∙ ap (λ b. cond b (rank (mark_at marks) (suc i)) 0) is ∙ marked_rank is))
      of false is = absurd (let none : n ≡ 0 = told ∙ ap (λ b. cond b (rank (mark_at marks) (suc i)) 0) is in omega (arith, none, positive))

  pub number_none : (i < length numbers → get_or numbers i 0 ≡ 0) → None ≡ new_number marks (suc i)
  number_none zeros = of (get_or marks i false) refl
    where
      inside : get_or marks i false ≡ true → i < length numbers
      inside is = elim (cases_lt i (length numbers)) [
        | inl low ↦ low
        | inr past ↦ absurd (let none : get_or marks i false ≡ false = get_or_past marks i false (omega (arith, past, same)) in both_ways _ none is)
      ]

      of : (b : Bool) → get_or marks i false ≡ b → None ≡ new_number marks (suc i)
      of true is =
          absurd (let low = inside is in
          let told : 0 ≡ rank (mark_at marks) (suc i) = sym (zeros low) ∙ number_is low ∙ ap (λ b. cond b (rank (mark_at marks) (suc i)) 0) is in
          omega (arith, told, marked_rank is))
      of false is = rw is refl

-- the numbers that were made are a reach, of the marks that they were made of
pub made_reach : (numbers : List ℕ) (marks : List Bool) → numbers ≡ numbers_from 0 marks → IsReach numbers × (reach_kept numbers ≡ marks)
made_reach numbers marks made =
    let back = ap reach_kept made ∙ marks_again 0 marks in (made ∙ ap (numbers_from 0) (sym back), back)

-- ---- the marks of all lemmas

-- marks that are the test's at each place are the list of its answers
by_marks : (v : Verdict) (ls some : List Lemma) (marks : List Bool) → length marks ≡ length some → (first : ℕ) → CitesEarlier first some
    → ((i : ℕ) → i < length some → get_or marks i false ≡ is_reached ls v (first + i)) → marks ≡ map (λ l. is_reached ls v l.number) some
by_marks v ls [] [] same first ordered each = refl
by_marks v ls [] (mark ∷ marks) same first ordered each = absurd (omega (arith, same))
by_marks v ls (l ∷ some) [] same first ordered each = absurd (omega (arith, same))
by_marks v ls (l ∷ some) (mark ∷ marks) same first ordered each =
    cons_same mark (is_reached ls v l.number) marks (map (λ l. is_reached ls v l.number) some)
    (each 0 (omega arith) ∙ ap (is_reached ls v) (let e : first + 0 ≡ l.number = omega (arith, ordered.0) in e))
    (by_marks v ls some marks (omega (arith, same)) (first + 1) ordered.2
    (λ i low. each (suc i) (omega (arith, low)) ∙ ap (is_reached ls v) (let e : first + suc i ≡ first + 1 + i = omega arith in e)))

-- the marks from the last lemma back are those of the test
pub marks_tested : (v : Verdict) (ls : List Lemma) → CitesEarlier 1 ls → AreWithin (length ls) (numbers_named v)
    → all_passed (marked (replicate (length ls) false) (numbers_named v)) ls ≡ reach_of ls v
marks_tested v ls ordered named = by_marks v ls ls (all_passed start ls) (length_passed start ls ∙ room) 1 ordered tested
  where
    start : List Bool
    start = marked (replicate (length ls) false) (numbers_named v)

    none : length (replicate (length ls) false) ≡ length ls
    none = length-replicate (length ls) false

    room : length start ≡ length ls
    room = length_marked (numbers_named v) (replicate (length ls) false) ∙ none

    agree : Agree start (numbers_named v)
    agree n least most =
        marks_more (numbers_named v) (replicate (length ls) false) [] (subst (λ k. AreWithin k (numbers_named v)) (sym none) named)
        (none_agree (length ls)) n least most
        ∙ ap (λ ns. has_number ns n) (append-nil (numbers_named v))

    tested : (i : ℕ) → i < length ls → get_or (all_passed start ls) i false ≡ is_reached ls v (1 + i)
    tested i low =
        passed_agree v start 1 ls ordered (omega arith) (omega (arith, room)) agree (suc i) (omega arith) (omega (arith, low, length_passed start ls, room))
        ∙ ap (is_reached ls v) (let e : suc i ≡ 1 + i = omega arith in e)

-- the lemma at a place has its number, and cites earlier ones
pub lemma_ordered : (first : ℕ) (ls : List Lemma) (i : ℕ) (l : Lemma) → CitesEarlier first ls → slice_get ls i ≡ Some l
    → (l.number ≡ first + i) × AllByRecursion (IsEarlier (first + i)) (numbers_cited l.reason)
lemma_ordered first [] i l ordered at = absurd (cc at)
lemma_ordered first (m ∷ ls) zero l ordered at =
    let same : m ≡ l = cc at in
    let e : first + 0 ≡ first = omega arith in
    subst (λ l. (l.number ≡ first + 0) × AllByRecursion (IsEarlier (first + 0)) (numbers_cited l.reason)) same
    (rw e (ordered.0, ordered.1))
lemma_ordered first (m ∷ ls) (suc i) l ordered at =
    let e : first + 1 + i ≡ first + suc i = omega arith in
    subst (λ k. (l.number ≡ k) × AllByRecursion (IsEarlier k) (numbers_cited l.reason)) e (lemma_ordered (first + 1) ls i l ordered.2 at)

dropped : (ls : List Lemma) (i : ℕ) (l : Lemma) → slice_get ls i ≡ Some l → drop i ls ≡ l ∷ drop (suc i) ls
dropped [] i l at = absurd (cc at)
dropped (m ∷ ls) zero l at = let same : m ≡ l = cc at in ap (λ l. l ∷ ls) same
dropped (m ∷ ls) (suc i) l at = dropped ls i l at

pub at_within : (ls : List Lemma) (i : ℕ) → i < length ls → (l : Lemma) × (slice_get ls i ≡ Some l)
at_within [] i low = absurd (omega (arith, low))
at_within (l ∷ ls) zero low = (l, refl)
at_within (l ∷ ls) (suc i) low = at_within ls i (omega (arith, low))

-- one lemma more, from the last back
module _ (marks start : List Bool) (ls : List Lemma) (i : ℕ) (ordered : CitesEarlier 1 ls) (so_far : marks ≡ all_passed start (drop (suc i) ls)) where
  passed_here : (l : Lemma) → slice_get ls i ≡ Some l → passed marks l ≡ all_passed start (drop i ls)
  passed_here l at = ap (λ marks. passed marks l) so_far ∙ sym (ap (all_passed start) (dropped ls i l at))

  number_here : (l : Lemma) → slice_get ls i ≡ Some l → mark_at marks l.number ≡ get_or marks i false
  number_here l at = ap (mark_at marks) ((lemma_ordered 1 ls i l ordered at).0 ∙ (let e : 1 + i ≡ suc i = omega arith in e))

  pub passed_marked : (l : Lemma) → slice_get ls i ≡ Some l → get_or marks i false ≡ true → marked marks (numbers_cited l.reason) ≡ all_passed start (drop i ls)
  passed_marked l at is = sym (rw (number_here l at ∙ is) refl) ∙ passed_here l at

  pub passed_unmarked : i < length ls → get_or marks i false ≡ false → marks ≡ all_passed start (drop i ls)
  passed_unmarked low is = let found = at_within ls i low in sym (rw (number_here found.0 found.1 ∙ is) refl) ∙ passed_here found.0 found.1

-- the lemma whose reason is lent
pub lemma_lent : (ls : List Lemma) (i : ℕ) (reason : Reason) → option_map (λ (l : Lemma). l.reason) (slice_get ls i) ≡ Some reason
    → (l : Lemma) × (slice_get ls i ≡ Some l) × (l.reason ≡ reason)
lemma_lent ls i reason h = of (slice_get ls i) h
  where
    of : (found : Option Lemma) → option_map (λ (l : Lemma). l.reason) found ≡ Some reason → (l : Lemma) × (found ≡ Some l) × (l.reason ≡ reason)
    of None h = absurd (cc h)
    of (Some l) h = (l, refl, cc)
