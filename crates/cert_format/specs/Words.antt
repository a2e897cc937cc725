-- Words that a line hasn't, and a lemma by the words behind its number.
use Rattle.std.specs.Prelude.{◌≡◌, ℕ, ◌+◌, List, ◌∷◌, length, Option, Some, None}
use Rattle.std.specs.Borrow.{Bor}
use Rattle.game_rules.specs.Board.{Board}
use Rattle.proof_text.specs.Lemma.{Lemma, Cite}
use Rattle.proof_text.specs.Reading.{◌>>=◌, words_of, path_of, claim_of, cites_of, reason_of}
use Rattle.text_words.specs.Words.{words_left}

-- no claim stands first with another word behind it
abbrev pub HasNoClaim : List ℕ → Type 0
HasNoClaim bytes = (word next : List ℕ) (more : List (List ℕ)) → words_of bytes ≡ word ∷ next ∷ more → claim_of word ≡ None

-- the words are this cite and what stands behind it
abbrev pub HasCite : ℕ → List ℕ → Cite → Option (Bor (List ℕ)) → Type 0
HasCite cols bytes cite rest =
    (cites_of cols (words_of bytes) ≡ cites_of cols (words_left rest) >>= (λ more. Some (cite ∷ more)))
    × (length (words_of bytes) ≡ 1 + length (words_left rest))

-- the words aren't all cites, since the first is none
abbrev pub HasNoCite : ℕ → List ℕ → Type 0
HasNoCite cols bytes = cites_of cols (words_of bytes) ≡ None

-- what a lemma with this number says, by the words behind the number
abbrev pub lemma_behind : Board → ℕ → List (List ℕ) → Option Lemma
lemma_behind board n (path ∷ claim ∷ reason) = do
  moves ← path_of board.cols path
  said ← claim_of claim
  why ← reason_of board reason
  Some (record { number = n; path = moves; claim = said; reason = why })
lemma_behind board n words = None
