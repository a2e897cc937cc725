-- What is printed of the lemmas that are reached, one after the other.
use Rattle.std.specs.Prelude.{◌≡◌, ℕ, zero, suc, Bool, true, List, [], ◌∷◌}
use Rattle.std.specs.List.{AllByRecursion}
use Rattle.proof_text.specs.Lemma.{Lemma}
use Rattle.proof_text.specs.Spelling.{lines_of}
use Rattle.tool_text.specs.Trim.{numbers_cited, rank, renumbered, kept_first}
use Rattle.proof_tools.specs.Reach.{mark_at}

-- each of these numbers is marked
abbrev pub AreMarked : List Bool → List ℕ → Type 0
AreMarked marks ns = AllByRecursion (λ n. mark_at marks n ≡ true) ns

-- what a marked lemma cites is marked
abbrev pub IsClosedReach : List Bool → List Lemma → Type 0
IsClosedReach marks ls = AllByRecursion (λ l. mark_at marks l.number ≡ true → AreMarked marks (numbers_cited l.reason)) ls

-- the line of the lemma at a place, numbered anew, where it is kept
abbrev pub lines_at : (ℕ → Bool) → List Lemma → ℕ → List ℕ
lines_at keep [] i = []
lines_at keep (l ∷ ls) zero = lines_of (kept_first (keep l.number) (renumbered (rank keep) l) [])
lines_at keep (l ∷ ls) (suc i) = lines_at keep ls i
