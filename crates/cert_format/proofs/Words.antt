-- Words as they are read: a number is a word of its own, and the first word, where others follow.
use Rattle.std.proofs.Common.{◌≡◌, ◌≢◌, ℕ, ◌+◌, ◌-◌, ◌^◌, ◌<◌, ◌≤◌, ◌⊎◌, Bor, get_or, subst, Bool, true, false, cond, ◌&&◌, ◌==◌, nat_le, nat_lt}
use Rattle.std.proofs.Common.{List, [], ◌∷◌, ◌++◌, length, take, drop, Option, Some, None, codes, refl, sym, ap, ◌∙◌, inl, inr, arith}
use Rattle.std.specs.Cmp.Lexicographic.{same_text}
use Rattle.std.specs.Option.{option_map}
use Rattle.std.specs.List.{onto_first}
use Rattle.std.specs.Str.{bytes_eq}
use Rattle.std.specs.Fmt.{decimal}
use Rattle.std.proofs.lemmas.List.Splits.{join_with_byte-slice_split, slice_split-cons_yes, slice_split-cons_no}
use Rattle.std.specs.Int.{IsInRange}
use Rattle.std.proofs.lemmas.Bool.{cases_Bool, le-leb, leb-true, lt-leb, and_from, and_parts, eqb-true, eq-eqb, ne_eqb, false_from_ne_true}
use Rattle.std.proofs.lemmas.Fmt.{decimal_is_IsNumeral, decimal_nonempty}
use Rattle.std.proofs.lemmas.Option.{cond_some}
use Rattle.std.proofs.lemmas.List.{get_or-take, length-take-le, take_rest}
use Rattle.std.proofs.lemmas.Str.Parse.{digit_at}
use Rattle.std.proofs.Math.Bool.{and-false}
use Rattle.proof_text.specs.Lemma.{Cite, Reason, ByEnd, ByOne, ByAll, ByMirror, Line, ALemma, ARemark, AVerdict}
use Rattle.proof_text.specs.Spelling.{spaced, most_cites, is_remark, greatest_number}
use Rattle.proof_text.specs.Reading.{◌>>=◌, words_of, number_of, letter_word, cite_of, cites_of, one_of, all_of, mirror_of, reason_of, with_one, with_two, verdict_of, lemma_of, line_of_words, read_any}
use Rattle.proof_text.specs.declared.Claim.TheVariants.{WhiteWins, WhiteFails, BlackWins, BlackFails}
use Rattle.proof_text.specs.declared.Verdict.{Verdict}
use Rattle.proof_text.specs.declared.Verdict.TheVariants.{Win, Loss, Draw, Unknown}
use Rattle.cert_format.specs.Words.{HasNoClaim, HasNoCite, lemma_behind}
use Rattle.text_words.specs.Words.{words_left, HasNumber, HasNoNumber}
use Rattle.text_words.proofs.Words.{is_space, words_some, first_word_past}
use Rattle.proof_text.proofs.Words.{number_read}
use Rattle.proof_text.proofs.Spelled.{plain_decimal}
use Rattle.proof_text.proofs.Spaced.{words_of_spaced}
use Rattle.game_rules.specs.Board.{Board}
use Rattle.game_rules.specs.Letters.{is_letter, column_of, column_named}

-- ---- the last word

abbrev pub IsLast : List ℕ → Type 0
IsLast bytes = words_of bytes ≡ bytes ∷ []

-- there are more words than one, so the bytes are no number
pub record HasMore (bytes : List ℕ) : Type 0 where
  pub word : List ℕ
  pub next : List ℕ
  pub more : List (List ℕ)
  pub words : words_of bytes ≡ word ∷ next ∷ more
  pub none : number_of bytes ≡ None

number_is_last : (bytes : List ℕ) (n : ℕ) → number_of bytes ≡ Some n → IsLast bytes
number_is_last bytes n h =
    let read = number_read bytes n h in
    ap words_of read.0 ∙ words_of_spaced (decimal n) [] (plain_decimal n read.1, tt) ∙ ap (λ word. word ∷ []) (sym read.0)

pub last_word : (bytes : List ℕ) → IsLast bytes ⊎ HasMore bytes
last_word bytes = by_words (words_of bytes) refl
  where
    none : (word next : List ℕ) (more : List (List ℕ)) → words_of bytes ≡ word ∷ next ∷ more → (o : Option ℕ) → number_of bytes ≡ o → number_of bytes ≡ None
    none word next more h None e = e
    none word next more h (Some n) e = let last = number_is_last bytes n e in absurd (cc)

    by_words : (words : List (List ℕ)) → words_of bytes ≡ words → IsLast bytes ⊎ HasMore bytes
    by_words [] h = absurd (omega (arith, words_some bytes, ap length h))
    by_words (word ∷ []) h = inl (h ∙ ap (λ word. word ∷ []) (sym (ap spaced h) ∙ join_with_byte-slice_split 32 bytes))
    by_words (word ∷ next ∷ more) h = inr (record { word = word; next = next; more = more; words = h; none = none word next more h (number_of bytes) refl })

-- a number that is all of the bytes
pub whole_number : (bytes : List ℕ) (n : ℕ) → HasNumber 1 greatest_number bytes n None → number_of bytes ≡ Some n
whole_number bytes n has = elim (last_word bytes) [
  | inl last ↦
      let same : bytes ∷ [] ≡ has.word ∷ [] = sym last ∙ has.words in let whole : bytes ≡ has.word = cc same in ap number_of whole ∙ has.spells
  | inr more ↦ let same : more.word ∷ more.next ∷ more.more ≡ has.word ∷ [] = sym more.words ∙ has.words in absurd (cc same)
]

-- and one that isn't
pub part_number : (bytes : List ℕ) (n : ℕ) (rest : Bor (List ℕ)) → HasNumber 1 greatest_number bytes n (Some rest) → number_of bytes ≡ None
part_number bytes n rest has = elim (last_word bytes) [
  | inl last ↦ absurd (omega (arith, words_some rest.now, ap length (sym last ∙ has.words)))
  | inr more ↦ more.none
]

pub no_number : (bytes : List ℕ) → HasNoNumber 1 greatest_number bytes → number_of bytes ≡ None
no_number bytes none = elim (last_word bytes) [ inl last ↦ none bytes [] last | inr more ↦ more.none ]

-- ---- numbers at the end of a line

pub one_number : (verdict : ℕ → Verdict) (bytes : List ℕ) (n : Option ℕ) → number_of bytes ≡ n → with_one verdict (words_of bytes) ≡ option_map verdict n
one_number verdict bytes n h = elim (last_word bytes) [
  | inl last ↦ ap (with_one verdict) last ∙ ap (option_map verdict) h
  | inr more ↦ ap (with_one verdict) more.words ∙ ap (option_map verdict) (sym more.none ∙ h)
]

pub two_numbers : (bytes first rest : List ℕ) (n m : Option ℕ) → words_of bytes ≡ first ∷ words_of rest → number_of first ≡ n → number_of rest ≡ m
    → with_two Draw (words_of bytes) ≡ n >>= (λ n. option_map (Draw n) m)
two_numbers bytes first rest n m cut h k = elim (last_word rest) [
  | inl last ↦ ap (with_two Draw) (cut ∙ ap (λ words. first ∷ words) last) ∙ ap (λ o. o >>= (λ n. number_of rest >>= (λ m. Some (Draw n m)))) h
      ∙ ap (λ o. n >>= (λ n. o >>= (λ m. Some (Draw n m)))) k ∙ both n m
  | inr more ↦ ap (with_two Draw) (cut ∙ ap (λ words. first ∷ words) more.words) ∙ none n ∙ ap (λ o. n >>= (λ n. option_map (Draw n) o)) (sym more.none ∙ k)
]
  where
    both : (n m : Option ℕ) → (n >>= (λ n. m >>= (λ m. Some (Draw n m)))) ≡ (n >>= (λ n. option_map (Draw n) m))
    both None m = refl
    both (Some n) None = refl
    both (Some n) (Some m) = refl

    none : (n : Option ℕ) → None ≡ (n >>= (λ n. option_map (Draw n) None))
    none None = refl
    none (Some n) = refl

pub letter_and_number : (cols : ℕ) (bytes letter rest : List ℕ) (c n : Option ℕ) → words_of bytes ≡ letter ∷ words_of rest → letter_word cols letter ≡ c
    → number_of rest ≡ n
    → one_of cols (words_of bytes) ≡ c >>= (λ column. option_map (λ n. ByOne (record { column = column; lemma = n })) n)
letter_and_number cols bytes letter rest c n cut h k = elim (last_word rest) [
  | inl last ↦ ap (one_of cols) (cut ∙ ap (λ words. letter ∷ words) last)
      ∙ ap (λ o. o >>= (λ column. number_of rest >>= (λ n. Some (ByOne (record { column = column; lemma = n }))))) h
      ∙ ap (λ o. c >>= (λ column. o >>= (λ n. Some (ByOne (record { column = column; lemma = n }))))) k ∙ both c n
  | inr more ↦ ap (one_of cols) (cut ∙ ap (λ words. letter ∷ words) more.words) ∙ none c
      ∙ ap (λ o. c >>= (λ column. option_map (λ n. ByOne (record { column = column; lemma = n })) o)) (sym more.none ∙ k)
]
  where
    both : (c n : Option ℕ) → (c >>= (λ column. n >>= (λ n. Some (ByOne (record { column = column; lemma = n })))))
        ≡ (c >>= (λ column. option_map (λ n. ByOne (record { column = column; lemma = n })) n))
    both None n = refl
    both (Some c) None = refl
    both (Some c) (Some n) = refl

    none : (c : Option ℕ) → None ≡ (c >>= (λ column. option_map (λ n. ByOne (record { column = column; lemma = n })) None))
    none None = refl
    none (Some c) = refl

-- a letter of a column with a space behind it
pub letter_apart : (cols c : ℕ) (bytes : List ℕ) → 2 ≤ length bytes → get_or bytes 1 0 ≡ 32 → column_named cols (get_or bytes 0 0) ≡ Some c
    → words_of bytes ≡ (get_or bytes 0 0 ∷ []) ∷ words_of (take (length bytes - 2) (drop 2 bytes))
letter_apart cols c [] long is named = absurd (omega (arith, long))
letter_apart cols c (letter ∷ []) long is named = absurd (omega (arith, long))
letter_apart cols c (letter ∷ mark ∷ rest) long is named =
    let column = cond_some (is_letter cols letter) (column_of letter) c named in
    let large : 97 ≤ letter = leb-true 97 letter (and_parts (nat_le 97 letter) (nat_lt letter (97 + cols)) column.0).0 in
    slice_split-cons_no is_space letter (mark ∷ rest) (ne_eqb letter 32 (λ space. omega (arith, large, space)))
    ∙ ap (onto_first letter) (slice_split-cons_yes is_space mark rest (eq-eqb mark 32 is))
    ∙ ap (λ rest. (letter ∷ []) ∷ words_of rest) (sym (take_rest (letter ∷ mark ∷ rest) 2))

-- bytes of which the second is no space don't begin with a letter as a word that others follow
pub one_letter_none : (cols : ℕ) (bytes : List ℕ) → (2 ≤ length bytes → get_or bytes 1 0 ≡ 32 → ⊥) → one_of cols (words_of bytes) ≡ None
one_letter_none cols bytes other = by_words (words_of bytes) refl
  where
    by_words : (words : List (List ℕ)) → words_of bytes ≡ words → one_of cols (words_of bytes) ≡ None
    by_words [] h = ap (one_of cols) h
    by_words (word ∷ []) h = ap (one_of cols) h
    by_words ([] ∷ number ∷ []) h = ap (one_of cols) h
    by_words ((letter ∷ next ∷ more) ∷ number ∷ []) h = ap (one_of cols) h
    by_words ((letter ∷ []) ∷ number ∷ []) h =
        let is : bytes ≡ letter ∷ 32 ∷ spaced (number ∷ []) = sym (join_with_byte-slice_split 32 bytes) ∙ ap spaced h in
        absurd (other (omega (arith, ap length is)) (ap (λ bytes. get_or bytes 1 0) is))
    by_words (word ∷ number ∷ next ∷ more) h = ap (one_of cols) h

-- ---- the cites of all moves

-- a first word that is no cite
no_first_cite : (cols : ℕ) (bytes : List ℕ) → ((word : List ℕ) (more : List (List ℕ)) → words_of bytes ≡ word ∷ more → cite_of cols word ≡ None)
    → HasNoCite cols bytes
no_first_cite cols bytes none = by_words (words_of bytes) refl
  where
    by_words : (words : List (List ℕ)) → words_of bytes ≡ words → cites_of cols (words_of bytes) ≡ None
    by_words [] h = absurd (omega (arith, words_some bytes, ap length h))
    by_words (word ∷ more) h = ap (cites_of cols) h
        ∙ ap (λ o. o >>= (λ cite. cites_of cols more >>= (λ cites. Some (cite ∷ cites)))) (none word more h)

-- bytes of which the second is no colon
pub no_colon : (cols : ℕ) (bytes : List ℕ) → (2 ≤ length bytes → get_or bytes 1 0 ≡ 58 → ⊥) → HasNoCite cols bytes
no_colon cols bytes other = no_first_cite cols bytes by_word
  where
    starts : (letter colon : ℕ) (digits : List ℕ) (more : List (List ℕ)) → words_of bytes ≡ (letter ∷ colon ∷ digits) ∷ more
        → (rest : List ℕ) × (bytes ≡ letter ∷ colon ∷ rest)
    starts letter colon digits [] h = (digits, sym (join_with_byte-slice_split 32 bytes) ∙ ap spaced h)
    starts letter colon digits (word ∷ more) h =
        (digits ++ 32 ∷ spaced (word ∷ more), sym (join_with_byte-slice_split 32 bytes) ∙ ap spaced h)

    by_word : (word : List ℕ) (more : List (List ℕ)) → words_of bytes ≡ word ∷ more → cite_of cols word ≡ None
    by_word [] more h = refl
    by_word (letter ∷ []) more h = refl
    by_word (letter ∷ colon ∷ digits) more h = elim (cases_Bool (colon == 58)) [
      | inl is ↦
          let start = starts letter colon digits more h in
          absurd (other (omega (arith, ap length start.1)) (ap (λ bytes. get_or bytes 1 0) start.1 ∙ eqb-true colon 58 is))
      | inr isnt ↦ ap (λ b. cond (is_letter cols letter && b) (option_map (λ n. record { column = column_of letter; lemma = n }) (number_of digits)) None) isnt
          ∙ ap (λ b. cond b (option_map (λ n. record { column = column_of letter; lemma = n }) (number_of digits)) None) (and-false (is_letter cols letter))
    ]

-- a colon behind which no number stands
pub no_cited_number : (cols : ℕ) (bytes : List ℕ) → 2 ≤ length bytes → get_or bytes 1 0 ≡ 58
    → HasNoNumber 1 greatest_number (take (length bytes - 2) (drop 2 bytes)) → HasNoCite cols bytes
no_cited_number cols [] long colon none = absurd (omega (arith, long))
no_cited_number cols (letter ∷ []) long colon none = absurd (omega (arith, long))
no_cited_number cols (letter ∷ mark ∷ digits) long colon none =
    subst (λ mark. HasNoCite cols (letter ∷ mark ∷ digits)) (sym colon) (no_first_cite cols (letter ∷ 58 ∷ digits) by_word)
  where
    unnumbered : (word : List ℕ) (more : List (List ℕ)) → words_of digits ≡ word ∷ more → number_of word ≡ None
    unnumbered word more h = none word more (ap words_of (take_rest (letter ∷ mark ∷ digits) 2) ∙ h)

    uncited : (word : List ℕ) → number_of word ≡ None → cite_of cols (letter ∷ 58 ∷ word) ≡ None
    uncited word h = elim (cases_Bool (is_letter cols letter)) [
      | inl is ↦ ap (λ b. cond (b && true) (option_map (λ n. record { column = column_of letter; lemma = n }) (number_of word)) None) is
          ∙ ap (option_map (λ n. record { column = column_of letter; lemma = n })) h
      | inr isnt ↦ ap (λ b. cond (b && true) (option_map (λ n. record { column = column_of letter; lemma = n }) (number_of word)) None) isnt
    ]

    behind_letter : (words : List (List ℕ)) → words_of digits ≡ words → (letter == 32) ≡ false
        → (word : List ℕ) (more : List (List ℕ)) → words_of (letter ∷ 58 ∷ digits) ≡ word ∷ more → cite_of cols word ≡ None
    behind_letter [] h e word more cut = absurd (omega (arith, words_some digits, ap length h))
    behind_letter (first ∷ others) h e word more cut =
        let same : word ∷ more ≡ (letter ∷ 58 ∷ first) ∷ others = sym cut ∙ slice_split-cons_no is_space letter (58 ∷ digits) e
        ∙ ap (λ words. onto_first letter words) (slice_split-cons_no is_space 58 digits refl ∙ ap (λ words. onto_first 58 words) h) in
        let is : word ≡ letter ∷ 58 ∷ first = cc same in
        ap (cite_of cols) is ∙ uncited first (unnumbered first others h)

    by_word : (word : List ℕ) (more : List (List ℕ)) → words_of (letter ∷ 58 ∷ digits) ≡ word ∷ more → cite_of cols word ≡ None
    by_word word more cut = elim (cases_Bool (letter == 32)) [
      | inl space ↦
          let same : word ∷ more ≡ [] ∷ words_of (58 ∷ digits) = sym cut ∙ slice_split-cons_yes is_space letter (58 ∷ digits) space in
          let is : word ≡ [] = cc same in ap (cite_of cols) is
      | inr other ↦ behind_letter (words_of digits) refl other word more cut
    ]

pub all_too_many : (cols : ℕ) (words : List (List ℕ)) → 10 < length words → all_of cols words ≡ None
all_too_many cols words many =
    let long : nat_le (length words) most_cites ≡ false = lt-leb (length words) most_cites many in
    ap (λ b. cond b (option_map ByAll (cites_of cols words)) None) (ap (λ b. nat_le 1 (length words) && b) long ∙ and-false (nat_le 1 (length words)))

pub all_read : (cols : ℕ) (bytes : List ℕ) (cites : List Cite) → length (words_of bytes) ≤ 10 → cites_of cols (words_of bytes) ≡ Some cites
    → all_of cols (words_of bytes) ≡ Some (ByAll cites)
all_read cols bytes cites few h =
    ap (λ b. cond b (option_map ByAll (cites_of cols (words_of bytes))) None) (and_from _ _ (le-leb 1 _ (words_some bytes)) (le-leb _ most_cites few))
    ∙ ap (option_map ByAll) h

-- ---- the first word, where others follow

-- bytes that don't begin with this text and a space have another first word
other_first : (text bytes word next : List ℕ) (more : List (List ℕ)) → ((rest : List ℕ) → bytes ≢ text ++ 32 ∷ rest) → words_of bytes ≡ word ∷ next ∷ more
    → bytes_eq word text ≡ true → ⊥
other_first text bytes word next more never cut same =
    never (spaced (next ∷ more)) (sym (join_with_byte-slice_split 32 bytes) ∙ ap spaced cut
    ∙ ap (λ word. word ++ 32 ∷ spaced (next ∷ more)) (same_text word text (sym same)))

-- ---- the number of a lemma

lemma_from : (board : Board) (word : List ℕ) (words : List (List ℕ)) → lemma_of board (word ∷ words) ≡ number_of word >>= (λ n. lemma_behind board n words)
lemma_from board word [] = none (number_of word)
  where
    none : (n : Option ℕ) → None ≡ (n >>= (λ n. lemma_behind board n []))
    none None = refl
    none (Some n) = refl
lemma_from board word (path ∷ []) = none (number_of word)
  where
    none : (n : Option ℕ) → None ≡ (n >>= (λ n. lemma_behind board n (path ∷ [])))
    none None = refl
    none (Some n) = refl
lemma_from board word (path ∷ claim ∷ reason) = refl

no_lemma : (board : Board) (word : List ℕ) (words : List (List ℕ)) → number_of word ≡ None → lemma_of board (word ∷ words) ≡ None
no_lemma board word words none = lemma_from board word words ∙ ap (λ n. n >>= (λ n. lemma_behind board n words)) none

-- the first byte of a number is a digit
digit_first : (word : List ℕ) (n : ℕ) → number_of word ≡ Some n → (0 < length word) × IsInRange 48 57 (get_or word 0 0)
digit_first word n h =
    let read = number_read word n h in
    let few = read.1.1 in
    let wide : n < 2 ^ 64 = omega (arith, few) in
    let some : 0 < length (decimal n) = decimal_nonempty n wide in
    let digit = digit_at (decimal n) 0 (decimal_is_IsNumeral n wide).0.1 some in
    subst (λ word. (0 < length word) × IsInRange 48 57 (get_or word 0 0)) (sym read.0) (some, digit)

other_byte : (bytes : List ℕ) → (get_or bytes 0 0 ≡ 35 → ⊥) → is_remark bytes ≡ false
other_byte [] other = refl
other_byte (byte ∷ bytes) other = rw (ne_eqb byte 35 other) refl

-- a line that begins with a number is a lemma, or none
pub lemma_line_read : (board : Board) (bytes : List ℕ) (n : ℕ) (rest : Option (Bor (List ℕ))) → HasNumber 1 greatest_number bytes n rest
    → read_any board bytes ≡ option_map ALemma (lemma_behind board n (words_left rest))
lemma_line_read board bytes n rest has =
    let digit = digit_first has.word n has.spells in
    let reach = first_word_past bytes has.word (words_left rest) 0 has.words (λ k below. absurd (omega (arith, below))) (omega arith) in
    let long : length has.word ≡ reach.0 = ap length reach.3 ∙ length-take-le reach.0 bytes reach.2 in
    let same : get_or has.word 0 0 ≡ get_or bytes 0 0 = ap (λ word. get_or word 0 0) reach.3 ∙ get_or-take reach.0 bytes 0 0 (omega (arith, long, digit.0)) in
    let remark : is_remark bytes ≡ false = other_byte bytes (λ mark. omega (arith, digit.1, same, mark)) in
    let word : bytes_eq has.word (codes "value") ≡ false = false_from_ne_true (bytes_eq has.word (codes "value")) (λ value.
    omega (arith, digit.1, ap (λ word. get_or word 0 0) (same_text has.word (codes "value") (sym value)))) in
    ap (λ b. cond b (Some ARemark) (line_of_words board (words_of bytes))) remark ∙ ap (line_of_words board) has.words
    ∙ ap (λ b. cond b (option_map AVerdict (verdict_of (words_left rest))) (option_map ALemma (lemma_of board (has.word ∷ words_left rest)))) word
    ∙ ap (option_map ALemma) (lemma_from board has.word (words_left rest) ∙ ap (λ n. n >>= (λ n. lemma_behind board n (words_left rest))) has.spells)

pub remark_read : (board : Board) (bytes : List ℕ) → is_remark bytes ≡ true → read_any board bytes ≡ Some ARemark
remark_read board bytes h = ap (λ b. cond b (Some ARemark) (line_of_words board (words_of bytes))) h

pub verdict_read : (board : Board) (bytes rest : List ℕ) (v : Option Verdict) → bytes ≡ codes "value " ++ rest → v ≡ verdict_of (words_of rest)
    → read_any board bytes ≡ option_map AVerdict v
verdict_read board bytes rest v is told = ap (read_any board) is ∙ ap (option_map AVerdict) (sym told)

-- a line that is no remark, and begins with no number and not as a verdict, is none
pub no_line_read : (board : Board) (bytes : List ℕ) → HasNoNumber 1 greatest_number bytes → is_remark bytes ≡ false
    → ((rest : List ℕ) → bytes ≢ codes "value " ++ rest) → read_any board bytes ≡ None
no_line_read board bytes none remark never =
    ap (λ b. cond b (Some ARemark) (line_of_words board (words_of bytes))) remark ∙ by_words (words_of bytes) refl
  where
    alone : (b : Bool) → cond b (option_map AVerdict None) (option_map ALemma None) ≡ None
    alone true = refl
    alone false = refl

    first : (b : Bool) (x y : Option Line) → (b ≡ true → ⊥) → y ≡ None → cond b x y ≡ None
    first true x y other h = absurd (other refl)
    first false x y other h = h

    by_words : (words : List (List ℕ)) → words_of bytes ≡ words → line_of_words board (words_of bytes) ≡ None
    by_words [] h = ap (line_of_words board) h
    by_words (word ∷ []) h = ap (line_of_words board) h ∙ alone (bytes_eq word (codes "value"))
    by_words (word ∷ next ∷ more) h = ap (line_of_words board) h
        ∙ first (bytes_eq word (codes "value")) _ _ (other_first (codes "value") bytes word next more never h)
        (ap (option_map ALemma) (no_lemma board word (next ∷ more) (none word (next ∷ more) h)))

-- ---- the claim

-- bytes that begin with no claim and a space
pub claim_none : (bytes : List ℕ) → ((rest : List ℕ) → bytes ≢ codes "W+ " ++ rest) → ((rest : List ℕ) → bytes ≢ codes "W- " ++ rest)
    → ((rest : List ℕ) → bytes ≢ codes "B+ " ++ rest)
    → ((rest : List ℕ) → bytes ≢ codes "B- " ++ rest) → HasNoClaim bytes
claim_none bytes a b c d word next more cut =
    at _ _ _ _ (other_first (codes "W+") bytes word next more a cut) (other_first (codes "W-") bytes word next more b cut)
    (other_first (codes "B+") bytes word next more c cut)
    (other_first (codes "B-") bytes word next more d cut)
  where
    at : (p q r s : Bool) → (p ≡ true → ⊥) → (q ≡ true → ⊥) → (r ≡ true → ⊥) → (s ≡ true → ⊥)
        → cond p (Some WhiteWins) (cond q (Some WhiteFails) (cond r (Some BlackWins) (cond s (Some BlackFails) None))) ≡ None
    at true q r s a b c d = absurd (a refl)
    at false true r s a b c d = absurd (b refl)
    at false false true s a b c d = absurd (c refl)
    at false false false true a b c d = absurd (d refl)
    at false false false false a b c d = refl

-- ---- the kind of a reason

-- the number of the lemma at the image
pub reason_mirror : (board : Board) (bytes rest : List ℕ) (n : Option ℕ) → bytes ≡ codes "mirror " ++ rest → number_of rest ≡ n
    → reason_of board (words_of bytes) ≡ option_map ByMirror n
reason_mirror board bytes rest n h is = ap (λ bytes. reason_of board (words_of bytes)) h ∙ elim (last_word rest) [
  | inl last ↦ ap mirror_of last ∙ ap (option_map ByMirror) is
  | inr more ↦ ap mirror_of more.words ∙ ap (option_map ByMirror) (sym more.none ∙ is)
]

-- bytes that aren't `end`, and don't begin with another kind and a space
pub reason_none : (board : Board) (bytes : List ℕ) → bytes_eq bytes (codes "end") ≡ false → ((rest : List ℕ) → bytes ≢ codes "one " ++ rest)
    → ((rest : List ℕ) → bytes ≢ codes "all " ++ rest) → ((rest : List ℕ) → bytes ≢ codes "plan " ++ rest)
    → ((rest : List ℕ) → bytes ≢ codes "mirror " ++ rest) → reason_of board (words_of bytes) ≡ None
reason_none board bytes end one all plan image = by_words (words_of bytes) refl
  where
    alone : (e o a p m : Bool) → e ≡ false → cond e (Some ByEnd) (cond o None (cond a None (cond p None (cond m None None)))) ≡ None
    alone true o a p m h = cc
    alone false true a p m h = refl
    alone false false true p m h = refl
    alone false false false true m h = refl
    alone false false false false true h = refl
    alone false false false false false h = refl

    first : (e o a p m : Bool) (x y z w : Option Reason) → (o ≡ true → ⊥) → (a ≡ true → ⊥) → (p ≡ true → ⊥) → (m ≡ true → ⊥)
        → cond e None (cond o x (cond a y (cond p z (cond m w None)))) ≡ None
    first true o a p m x y z w one all plan image = refl
    first false true a p m x y z w one all plan image = absurd (one refl)
    first false false true p m x y z w one all plan image = absurd (all refl)
    first false false false true m x y z w one all plan image = absurd (plan refl)
    first false false false false true x y z w one all plan image = absurd (image refl)
    first false false false false false x y z w one all plan image = refl

    by_words : (words : List (List ℕ)) → words_of bytes ≡ words → reason_of board (words_of bytes) ≡ None
    by_words [] h = ap (reason_of board) h
    by_words (word ∷ []) h =
        let same : bytes ≡ word = sym (join_with_byte-slice_split 32 bytes) ∙ ap spaced h in
        ap (reason_of board) h
        ∙ alone (bytes_eq word (codes "end")) (bytes_eq word (codes "one")) (bytes_eq word (codes "all")) (bytes_eq word (codes "plan"))
        (bytes_eq word (codes "mirror")) (ap (λ word. bytes_eq word (codes "end")) (sym same) ∙ end)
    by_words (word ∷ next ∷ more) h =
        ap (reason_of board) h
        ∙ first (bytes_eq word (codes "end")) (bytes_eq word (codes "one")) (bytes_eq word (codes "all")) (bytes_eq word (codes "plan"))
        (bytes_eq word (codes "mirror")) _ _ _ _ (other_first (codes "one") bytes word next more one h)
        (other_first (codes "all") bytes word next more all h) (other_first (codes "plan") bytes word next more plan h)
        (other_first (codes "mirror") bytes word next more image h)

-- ---- the kind of a verdict

pub verdict_win : (bytes rest : List ℕ) (n : Option ℕ) → bytes ≡ codes "win " ++ rest → number_of rest ≡ n → verdict_of (words_of bytes) ≡ option_map Win n
verdict_win bytes rest n h is = ap (λ bytes. verdict_of (words_of bytes)) h ∙ one_number Win rest n is

pub verdict_loss : (bytes rest : List ℕ) (n : Option ℕ) → bytes ≡ codes "loss " ++ rest → number_of rest ≡ n → verdict_of (words_of bytes) ≡ option_map Loss n
verdict_loss bytes rest n h is = ap (λ bytes. verdict_of (words_of bytes)) h ∙ one_number Loss rest n is

-- bytes that aren't `unknown`, and don't begin with another kind and a space
pub verdict_none : (bytes : List ℕ) → bytes_eq bytes (codes "unknown") ≡ false → ((rest : List ℕ) → bytes ≢ codes "win " ++ rest)
    → ((rest : List ℕ) → bytes ≢ codes "loss " ++ rest)
    → ((rest : List ℕ) → bytes ≢ codes "draw " ++ rest) → verdict_of (words_of bytes) ≡ None
verdict_none bytes unknown win loss draw = by_words (words_of bytes) refl
  where
    alone : (w l d u : Bool) → u ≡ false → cond w None (cond l None (cond d None (cond u (Some Unknown) None))) ≡ None
    alone true l d u h = refl
    alone false true d u h = refl
    alone false false true u h = refl
    alone false false false true h = cc
    alone false false false false h = refl

    first : (w l d u : Bool) (x y z : Option Verdict) → (w ≡ true → ⊥) → (l ≡ true → ⊥) → (d ≡ true → ⊥)
        → cond w x (cond l y (cond d z (cond u None None))) ≡ None
    first true l d u x y z win loss draw = absurd (win refl)
    first false true d u x y z win loss draw = absurd (loss refl)
    first false false true u x y z win loss draw = absurd (draw refl)
    first false false false true x y z win loss draw = refl
    first false false false false x y z win loss draw = refl

    by_words : (words : List (List ℕ)) → words_of bytes ≡ words → verdict_of (words_of bytes) ≡ None
    by_words [] h = ap verdict_of h
    by_words (word ∷ []) h =
        let same : bytes ≡ word = sym (join_with_byte-slice_split 32 bytes) ∙ ap spaced h in
        ap verdict_of h ∙ alone (bytes_eq word (codes "win")) (bytes_eq word (codes "loss")) (bytes_eq word (codes "draw")) (bytes_eq word (codes "unknown"))
        (ap (λ word. bytes_eq word (codes "unknown")) (sym same) ∙ unknown)
    by_words (word ∷ next ∷ more) h =
        ap verdict_of h ∙ first (bytes_eq word (codes "win")) (bytes_eq word (codes "loss")) (bytes_eq word (codes "draw")) (bytes_eq word (codes "unknown")) _
        _ _ (other_first (codes "win") bytes word next more win h) (other_first (codes "loss") bytes word next more loss h)
        (other_first (codes "draw") bytes word next more draw h)
