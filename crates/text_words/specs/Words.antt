-- Words that a line has and hasn't, as the code finds them at its front.
use Rattle.std.specs.Prelude.{◌≡◌, ℕ, ◌<◌, ◌==◌, false, List, [], ◌∷◌, length, slice_index_or, Option, Some, None}
use Rattle.std.specs.Borrow.{Bor}
use Rattle.std.specs.Int.{IsInRange}
use Rattle.game_rules.specs.Number.{number_between}
use Rattle.plan_text.specs.Words.{words_of}

-- none of the first bytes is a space
abbrev pub AreNoSpaces : List ℕ → ℕ → Type 0
AreNoSpaces bytes at = (k : ℕ) → k < at → (slice_index_or bytes k 0 == 32) ≡ false

-- the first bytes are digits
abbrev pub AreDigits : List ℕ → ℕ → Type 0
AreDigits bytes at = (k : ℕ) → k < at → IsInRange 48 57 (slice_index_or bytes k 0)

-- behind the first bytes, where they are fewer than ten, no digit follows
abbrev pub EndsDigits : List ℕ → ℕ → Type 0
EndsDigits bytes at = at < 10 → at < length bytes → IsInRange 48 57 (slice_index_or bytes at 0) → ⊥

-- the words of what stands behind the space after the first word, if there is one
abbrev pub words_left : Option (Bor (List ℕ)) → List (List ℕ)
words_left None = []
words_left (Some bytes) = words_of bytes.now

-- The first word spells the number, one of the range, and this is what stands behind it.
pub record HasNumber (low high : ℕ) (bytes : List ℕ) (number : ℕ) (rest : Option (Bor (List ℕ))) : Type 0 where
  pub word : List ℕ
  pub words : words_of bytes ≡ word ∷ words_left rest
  pub spells : number_between low high word ≡ Some number

-- the first word spells no number of the range
abbrev pub HasNoNumber : (low high : ℕ) → List ℕ → Type 0
HasNoNumber low high bytes = (word : List ℕ) (more : List (List ℕ)) → words_of bytes ≡ word ∷ more → number_between low high word ≡ None
