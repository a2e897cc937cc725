-- Words as they are read: one is cut off at the first space.
use Rattle.std.proofs.Common.{◌≡◌, ℕ, ◌+◌, ◌-◌, ◌<◌, ◌≤◌, Bool, true, false, not, cond, ◌==◌, nat_lt, List, [], ◌∷◌, take, drop}
use Rattle.std.proofs.Common.{length, get_or, Option, Some, None, Bor, refl, sym, ap, ◌∙◌, subst, inl, inr, arith}
use Rattle.std.specs.List.{position, position_or_len, onto_first, list_all}
use Rattle.std.proofs.lemmas.List.{take_rest, get_or-take, length-take-le}
use Rattle.std.proofs.lemmas.List.Folds.{list_all_at}
use Rattle.std.proofs.Math.Seq.{take-length}
use Rattle.std.proofs.lemmas.List.Sums.{position_or_len_is, passes_at_first}
use Rattle.std.proofs.lemmas.List.Splits.{slice_split-cons_no, slice_split_first, length-slice_split}
use Rattle.std.proofs.lemmas.Option.{cond_some}
use Rattle.std.proofs.lemmas.Bool.{cases_Bool, cases_lt, both_ways, eqb-true, ltb-true, lt-ltb, le-ltb, eq-eqb, ne_eqb}
use Rattle.game_rules.specs.Letters.{is_letter}
use mathlib.Core.Bool.{true≢false}
use Rattle.std.proofs.lemmas.Bool.Decides.{nat_tests}
use borrow.Author.Count.{below_more}
use Rattle.plan_text.specs.Words.{words_of}
use Rattle.text_words.specs.Words.{AreNoSpaces}
pub use Rattle.text_words.specs.Words.{words_left}

abbrev pub is_space : ℕ → Bool
is_space byte = byte == 32

-- ---- cutting

-- where the first space stands, by its place, or that there is none
pub space_near : (bytes : List ℕ) (at : ℕ) → position_or_len is_space bytes ≡ at → at < length bytes → Some at ≡ position is_space bytes
space_near bytes at there within =
    let found : position_or_len is_space bytes < length bytes = omega (arith, there, within) in
    sym (ap (λ b. cond b (Some (position_or_len is_space bytes)) None) (lt-ltb (position_or_len is_space bytes) (length bytes) found) ∙ ap Some there)

pub space_nowhere : (bytes : List ℕ) → position_or_len is_space bytes ≡ length bytes → None ≡ position is_space bytes
space_nowhere bytes past =
    sym (ap (λ b. cond b (Some (position_or_len is_space bytes)) None) (le-ltb (position_or_len is_space bytes) (length bytes) (omega (arith, past))))

-- a search that goes through the bytes one by one
pub no_spaces_more : (bytes : List ℕ) (at : ℕ) → AreNoSpaces bytes at → (get_or bytes at 0 ≡ 32 → ⊥) → AreNoSpaces bytes (at + 1)
no_spaces_more bytes at none other = below_more (λ k. is_space (get_or bytes k 0) ≡ false) at none (ne_eqb _ _ other)

pub space_there : (bytes : List ℕ) (at : ℕ) → AreNoSpaces bytes at → get_or bytes at 0 ≡ 32 → at < length bytes → Some at ≡ position is_space bytes
space_there bytes at none is within =
    space_near bytes at (position_or_len_is is_space bytes at 0 (omega (arith, within)) none (λ _. eq-eqb _ _ is)) within

pub no_space : (bytes : List ℕ) (at : ℕ) → AreNoSpaces bytes at → length bytes ≤ at → None ≡ position is_space bytes
no_space bytes at none past = space_nowhere bytes (position_or_len_is is_space bytes (length bytes) 0 (omega arith)
    (λ k below. none k (omega (arith, below, past))) (λ beyond. absurd (omega (arith, beyond))))

-- letters are no spaces
pub no_letter_is_a_space : (cols known : ℕ) (bytes : List ℕ) → known ≤ length bytes
    → list_all (is_letter cols) (take known bytes) ≡ true → AreNoSpaces bytes known
no_letter_is_a_space cols known bytes within letters k below = elim (cases_Bool (is_space (get_or bytes k 0))) [
  | inl space ↦ absurd (true≢false (sym letters ∙ list_all_at (is_letter cols) (take known bytes) k 0 (omega (arith, length-take-le known bytes within))
      (ap (is_letter cols) (get_or-take known bytes k 0 below ∙ eqb-true (get_or bytes k 0) 32 space))))
  | inr other ↦ other
]

pub cut_at : (bytes : List ℕ) (end : ℕ) → position is_space bytes ≡ Some end
    → words_of bytes ≡ take end bytes ∷ words_of (take (length bytes - (end + 1)) (drop (end + 1) bytes))
cut_at bytes end h =
    let found = cond_some (nat_lt (position_or_len is_space bytes) (length bytes)) (position_or_len is_space bytes) end h in
    let cut : words_of bytes ≡ take end bytes ∷ words_of (drop (end + 1) bytes) =
    subst (λ n. words_of bytes ≡ take n bytes ∷ words_of (drop (n + 1) bytes)) found.1 (slice_split_first is_space bytes 0 (ltb-true _ _ found.0)) in
    cut ∙ ap (λ rest. take end bytes ∷ words_of rest) (sym (take_rest bytes (end + 1)))

one_part : (bytes : List ℕ) → length bytes ≤ position_or_len is_space bytes → words_of bytes ≡ bytes ∷ []
one_part [] h = refl
one_part (byte ∷ bytes) h = at (is_space byte) refl h (λ long. one_part bytes long)
  where
    at : (b : Bool) → is_space byte ≡ b → length (byte ∷ bytes) ≤ cond (not b) (1 + position_or_len is_space bytes) 0
        → (length bytes ≤ position_or_len is_space bytes → words_of bytes ≡ bytes ∷ [])
        → words_of (byte ∷ bytes) ≡ (byte ∷ bytes) ∷ []
    at true e long rest = absurd (omega arith)
    at false e long rest = slice_split-cons_no is_space byte bytes e ∙ ap (onto_first byte) (rest (omega arith))

pub uncut : (bytes : List ℕ) → position is_space bytes ≡ None → words_of bytes ≡ bytes ∷ []
uncut bytes h = one_part bytes (past (nat_lt (position_or_len is_space bytes) (length bytes)) refl h)
  where
    past : (b : Bool) → nat_lt (position_or_len is_space bytes) (length bytes) ≡ b → cond b (Some (position_or_len is_space bytes)) None ≡ None
        → length bytes ≤ position_or_len is_space bytes
    past true e h = cc
    past false e h = grind (arith, nat_tests)

-- the first word reaches behind bytes that are no spaces
pub first_word_past : (bytes word : List ℕ) (more : List (List ℕ)) (past : ℕ) → words_of bytes ≡ word ∷ more → AreNoSpaces bytes past → past ≤ length bytes
    → (end : ℕ) × (past ≤ end) × (end ≤ length bytes) × (word ≡ take end bytes)
first_word_past bytes word more past cut none within = elim (cases_lt (position_or_len is_space bytes) (length bytes)) [
  | inl found ↦
      let same : word ∷ more ≡ take (position_or_len is_space bytes) bytes ∷ words_of (drop (position_or_len is_space bytes + 1) bytes) =
      sym cut ∙ slice_split_first is_space bytes 0 found in
      (position_or_len is_space bytes, behind found, omega (arith, found), cc same)
  | inr nowhere ↦
      let same : word ∷ more ≡ bytes ∷ [] = sym cut ∙ one_part bytes nowhere in
      let whole : word ≡ bytes = cc same in (length bytes, within, omega arith, whole ∙ sym (take-length bytes))
]
  where
    behind : position_or_len is_space bytes < length bytes → past ≤ position_or_len is_space bytes
    behind found = elim (cases_lt (position_or_len is_space bytes) past) [
      | inl below ↦ absurd (both_ways (is_space (get_or bytes (position_or_len is_space bytes) 0)) (none (position_or_len is_space bytes) below)
          (passes_at_first is_space bytes 0 found))
      | inr reached ↦ reached
    ]

-- ---- what is left of a row of words

abbrev pub bytes_left : Option (Bor (List ℕ)) → ℕ
bytes_left None = 0
bytes_left (Some bytes) = 1 + length bytes.now

pub words_some : (bytes : List ℕ) → 1 ≤ length (words_of bytes)
words_some bytes = omega (arith, length-slice_split is_space bytes)
