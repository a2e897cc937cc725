-- Which lemmas are reached, as a mark for each, and their new numbers.
use Rattle.std.specs.Prelude.{◌≡◌, ◌≤◌, ℕ, zero, suc, ◌+◌, Bool, true, false, not, ◌==◌, if◌then◌else◌, List, [], ◌∷◌, map, length, slice_set, slice_index_or, Option, Some, None, Result}
use Rattle.std.specs.List.{AllByRecursion}
use Rattle.proof_text.specs.Lemma.{Lemma}
use Rattle.proof_text.specs.declared.Verdict.{Verdict}
use Rattle.tool_text.specs.Trim.{numbers_cited, numbers_named, is_reached, rank}

-- the mark of the lemma with this number; numbers begin with 1
abbrev pub mark_at : List Bool → ℕ → Bool
mark_at marks zero = false
mark_at marks (suc i) = slice_index_or marks i false

-- the new number of a marked lemma
abbrev pub new_number : List Bool → ℕ → Option ℕ
new_number marks n = if mark_at marks n then Some (rank (mark_at marks) n) else None

-- a mark for each lemma: whether it is reached
abbrev pub reach_of : List Lemma → Verdict → List Bool
reach_of ls v = map (λ l. is_reached ls v l.number) ls

-- ---- how they are made

-- with a mark for this number, and for these
abbrev pub with_mark : List Bool → ℕ → List Bool
with_mark marks zero = marks
with_mark marks (suc i) = slice_set marks i true

abbrev pub marked : List Bool → List ℕ → List Bool
marked marks [] = marks
marked marks (n ∷ ns) = marked (with_mark marks n) ns

-- the cites of a marked lemma are marked
abbrev pub passed : List Bool → Lemma → List Bool
passed marks l = if mark_at marks l.number then marked marks (numbers_cited l.reason) else marks

-- from the last lemma back
abbrev pub all_passed : List Bool → List Lemma → List Bool
all_passed marks [] = marks
all_passed marks (l ∷ ls) = passed (all_passed marks ls) l

-- the new numbers, of which so many were given before; 0 where there is no mark
abbrev pub numbers_from : ℕ → List Bool → List ℕ
numbers_from given [] = []
numbers_from given (true ∷ marks) = (given + 1) ∷ numbers_from (given + 1) marks
numbers_from given (false ∷ marks) = 0 ∷ numbers_from given marks

abbrev pub is_some_number : ℕ → Bool
is_some_number n = not (n == 0)

-- the marks that are kept as numbers, and which lists of numbers are kept
abbrev pub reach_kept : List ℕ → List Bool
reach_kept numbers = map is_some_number numbers

abbrev pub IsReach : List ℕ → Type 0
IsReach numbers = numbers ≡ numbers_from 0 (reach_kept numbers)

-- numbers of lemmas, where there are so many
abbrev pub AreWithin : ℕ → List ℕ → Type 0
AreWithin most ns = AllByRecursion (λ n. (1 ≤ n) × (n ≤ most)) ns
