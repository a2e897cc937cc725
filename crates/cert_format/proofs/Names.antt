-- Letters as names of columns, a block more.
use Rattle.std.proofs.Common.{◌≡◌, ℕ, zero, suc, ◌+◌, ◌-◌, ◌≤◌, true, List, [], ◌∷◌, ◌++◌, map, take, drop, refl, sym, ap, ◌∙◌, subst, arith}
use Rattle.std.proofs.Math.Seq.{take-add}
use Rattle.std.specs.List.{list_all}
use Rattle.std.proofs.lemmas.Bool.{and_from, and_parts}
use Rattle.std.proofs.lemmas.List.{map-append}
use Rattle.std.proofs.lemmas.List.Folds.{list_all-append}
use Rattle.game_rules.specs.Letters.{is_letter, column_of}
use Rattle.game_rules.specs.Grammar.{letter_of}
use Rattle.game_rules.proofs.Lists.{cons_same}
use Rattle.proof_text.proofs.Spaced.{letter_read, letter_spelled}
use Rattle.cert_format.specs.Names.{AreNamed, AreBelow}

-- letters behind others
pub named_then : (cols : ℕ) (path more word next : List ℕ) → AreNamed cols path word → AreNamed cols more next → AreNamed cols (path ++ more) (word ++ next)
named_then cols path more word next first rest = record {
  columns = ap (λ xs. xs ++ more) first.columns ∙ ap (λ xs. map column_of word ++ xs) rest.columns ∙ sym (map-append column_of word next);
  letters = list_all-append (is_letter cols) word next ∙ and_from _ _ first.letters rest.letters;
}

-- the letters up to another place
pub letters_up_to : (at end : ℕ) (path word : List ℕ) → at ≤ end → take at word ≡ map letter_of (take at path)
    → take (end - at) (drop at word) ≡ map letter_of (take (end - at) (drop at path))
    → take end word ≡ map letter_of (take end path)
letters_up_to at end path word ordered first rest =
    let parts : at + (end - at) ≡ end = omega arith in
    subst (λ n. take n word ≡ map letter_of (take n path)) parts
    (take-add at (end - at) word ∙ ap (λ xs. xs ++ take (end - at) (drop at word)) first ∙ ap (λ xs. map letter_of (take at path) ++ xs) rest
    ∙ sym (map-append letter_of (take at path) (take (end - at) (drop at path))) ∙ ap (map letter_of) (sym (take-add at (end - at) path)))

below_take : (cols n : ℕ) (path : List ℕ) → AreBelow cols path → AreBelow cols (take n path)
below_take cols zero path below = tt
below_take cols (suc n) [] below = tt
below_take cols (suc n) (column ∷ path) below = (below.0, below_take cols n path below.1)

-- the letters of columns that the board has
spelled : (cols : ℕ) (path : List ℕ) → AreBelow cols path → AreNamed cols path (map letter_of path)
spelled cols [] below = record { columns = refl; letters = refl }
spelled cols (column ∷ path) below =
    let first = letter_spelled cols column below.0 in let rest = spelled cols path below.1 in
    record {
      columns = cons_same column (column_of (letter_of column)) path (map column_of (map letter_of path)) (sym first.1) rest.columns;
      letters = and_from _ _ first.0 rest.letters;
    }

pub named_below : (cols n : ℕ) (path word : List ℕ) → AreBelow cols path → take n word ≡ map letter_of (take n path) → AreNamed cols (take n path) (take n word)
named_below cols n path word below same = subst (AreNamed cols (take n path)) (sym same) (spelled cols (take n path) (below_take cols n path below))

pub none_named : (cols : ℕ) (path word : List ℕ) → AreNamed cols (take 0 path) (take 0 word)
none_named cols path word = record { columns = refl; letters = refl }

-- what is named is on the board
pub below_named : (cols : ℕ) (path word : List ℕ) → AreNamed cols path word → AreBelow cols path
below_named cols path word named = subst (AreBelow cols) (sym named.columns) (below_word word named.letters)
  where
    below_word : (word : List ℕ) → list_all (is_letter cols) word ≡ true → AreBelow cols (map column_of word)
    below_word [] letters = tt
    below_word (byte ∷ word) letters =
        let both = and_parts (is_letter cols byte) (list_all (is_letter cols) word) letters in ((letter_read cols byte both.0).1, below_word word both.1)
