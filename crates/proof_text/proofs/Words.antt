-- The words of a line: what is read is spelled so and has a spelling, and what is spelled so is read.
use Rattle.std.proofs.Common.{◌≡◌, ℕ, ◌+◌, ◌<◌, ◌≤◌, ◌^◌, true, false, ◌&&◌, ◌==◌, nat_le, List, [], ◌∷◌, ◌++◌, map, length, Some, None, codes, refl, ap, ◌∙◌}
use Rattle.std.proofs.Common.{subst, inl, inr, arith}
use Rattle.std.specs.List.{AllByRecursion, list_all}
use Rattle.std.specs.Str.{bytes_eq}
use Rattle.std.specs.Fmt.{decimal}
use Rattle.std.specs.Option.{option_map}
use Rattle.std.proofs.lemmas.List.{length-map}
use Rattle.std.specs.Bool.{if◌then◌else◌}
use Rattle.std.proofs.lemmas.Bool.{and_parts, and_from, leb-true, le-leb, eqb-true, ne_eqb}
use Rattle.game_rules.specs.Grammar.{letter_of, move_list}
use Rattle.game_rules.proofs.Lists.{chosen, cons_same}
use Rattle.game_rules.proofs.Numbers as numbers
use Rattle.game_rules.proofs.Numbers.{number_gives}
use Rattle.game_rules.specs.Board.{Board}
use Rattle.game_rules.specs.Letters.{is_letter, column_of}
use Rattle.plan_text.specs.Words.{◌>>=◌}
use Rattle.plan_text.specs.PlanLine.{members_of}
use Rattle.plan_text.proofs.Spaced.{bind_some, map_some, is_text, letter_read, letter_spelled}
use Rattle.plan_text.proofs.PlanLines.{members_read, members_spelled}
use Rattle.proof_text.specs.Lemma.{Cite, Reason, ByEnd, ByOne, ByAll, ByPlan, ByMirror, Lemma}
use Rattle.proof_text.specs.Spelling.{claim_word, cite_word, reason_words, lemma_words, verdict_words, greatest_number, longest_path, most_cites, IsNumber}
use Rattle.proof_text.specs.Spelling.{CiteFits, ReasonFits, Fits, VerdictFits}
use Rattle.proof_text.specs.Reading.{number_of, path_of, claim_of, letter_word, cite_of, cites_of, one_of, all_of, plan_of, mirror_of, only, reason_of}
use Rattle.proof_text.specs.Reading.{lemma_of, with_one}
use Rattle.proof_text.specs.Reading.{with_two, verdict_of}
use Rattle.proof_text.specs.declared.Claim.{Claim}
use Rattle.proof_text.specs.declared.Claim.TheVariants.{WhiteWins, WhiteFails, BlackWins, BlackFails}
use Rattle.proof_text.specs.declared.Verdict.{Verdict}
use Rattle.proof_text.specs.declared.Verdict.TheVariants.{Win, Loss, Draw, Unknown}

-- ---- numbers

small : (n : ℕ) → IsNumber n → n < 2 ^ 64
small n h = omega (arith, h.1)

pub number_read : (word : List ℕ) (n : ℕ) → number_of word ≡ Some n → (word ≡ decimal n) × IsNumber n
number_read word n h = let told = number_gives 1 greatest_number word n h in (told.2, (told.0, told.1))

pub number_spelled : (n : ℕ) → IsNumber n → number_of (decimal n) ≡ Some n
number_spelled n h = numbers.number_spelled 1 greatest_number n (decimal n) h.0 h.1 (small n h) refl

-- ---- paths

letters_read : (cols : ℕ) (word : List ℕ) → list_all (is_letter cols) word ≡ true → (word ≡ map letter_of (map column_of word))
    × AllByRecursion (λ column. column < cols) (map column_of word)
letters_read cols [] h = (refl, tt)
letters_read cols (byte ∷ word) h =
    let both = and_parts (is_letter cols byte) (list_all (is_letter cols) word) h in
    let first = letter_read cols byte both.0 in
    let rest = letters_read cols word both.1 in
    (cons_same byte (letter_of (column_of byte)) word (map letter_of (map column_of word)) first.0 rest.0, (first.1, rest.1))

pub path_read : (cols : ℕ) (word path : List ℕ) → path_of cols word ≡ Some path → (word ≡ move_list path) × (length path ≤ longest_path)
    × AllByRecursion (λ column. column < cols) path
path_read cols word path h = elim (chosen (bytes_eq word (codes "-")) (Some []) _ (Some path) h) [
  | inl dash ↦
      let same : [] ≡ path = cc in
      subst (λ path. (word ≡ move_list path) × (length path ≤ longest_path) × AllByRecursion (λ column. column < cols) path) same
      (is_text word (codes "-") dash.0, omega arith, tt)
  | inr other ↦ elim (chosen (nat_le 1 (length word) && nat_le (length word) longest_path && list_all (is_letter cols) word) (Some (map column_of word)) None
      (Some path) other.1) [
        | inr fails ↦ absurd (cc fails.1)
        | inl letters ↦
            let same : map column_of word ≡ path = cc in
            let both = and_parts (nat_le 1 (length word) && nat_le (length word) longest_path) (list_all (is_letter cols) word) letters.0 in
            let size = and_parts (nat_le 1 (length word)) (nat_le (length word) longest_path) both.0 in
            subst (λ path. (word ≡ move_list path) × (length path ≤ longest_path) × AllByRecursion (λ column. column < cols) path) same
            (some_letters word (leb-true 1 (length word) size.0) (leb-true (length word) longest_path size.1) (letters_read cols word both.1))
      ]
]
  where
    some_letters : (word : List ℕ) → 1 ≤ length word → length word ≤ longest_path → (word ≡ map letter_of (map column_of word))
        × AllByRecursion (λ column. column < cols) (map column_of word)
        → (word ≡ move_list (map column_of word)) × (length (map column_of word) ≤ longest_path) × AllByRecursion (λ column. column < cols) (map column_of word)
    some_letters [] some short h = absurd (omega arith)
    some_letters (byte ∷ word) some short h = (h.0, omega (arith, length-map word column_of), h.1)

pub path_spelled : (cols : ℕ) (path : List ℕ) → length path ≤ longest_path → AllByRecursion (λ column. column < cols) path
    → path_of cols (move_list path) ≡ Some path
path_spelled cols [] short within = refl
path_spelled cols (column ∷ columns) short within =
    let word = map letter_of (column ∷ columns) in
    let back = letters_spelled (column ∷ columns) within in
    let no_dash : ((97 + column) == 45) ≡ false = ne_eqb (97 + column) 45 (λ (e : 97 + column ≡ 45). omega arith) in
    let size : length word ≡ length (column ∷ columns) = length-map (column ∷ columns) letter_of in
    rw no_dash (found word (column ∷ columns)
    (and_from _ _ (and_from _ _ (le-leb 1 (length word) (omega arith)) (le-leb (length word) longest_path (omega arith))) back.0) back.1)
  where
    letters_spelled : (path : List ℕ) → AllByRecursion (λ column. column < cols) path → (list_all (is_letter cols) (map letter_of path) ≡ true)
        × (map column_of (map letter_of path) ≡ path)
    letters_spelled [] within = (refl, refl)
    letters_spelled (column ∷ path) within =
        let first = letter_spelled cols column within.0 in
        let rest = letters_spelled path within.1 in
        (and_from _ _ first.0 rest.0, cons_same (column_of (letter_of column)) column _ path first.1 rest.1)

    found : (word path : List ℕ) → (nat_le 1 (length word) && nat_le (length word) longest_path && list_all (is_letter cols) word) ≡ true
        → map column_of word ≡ path
        → (if nat_le 1 (length word) && nat_le (length word) longest_path && list_all (is_letter cols) word then Some (map column_of word) else None)
        ≡ Some path
    found word path h same = rw (h, same) refl

-- ---- claims

pub claim_read : (word : List ℕ) (claim : Claim) → claim_of word ≡ Some claim → word ≡ claim_word claim
claim_read word claim h = elim (chosen (bytes_eq word (codes "W+")) (Some WhiteWins) _ (Some claim) h) [
  | inl one ↦ at WhiteWins one.1 (is_text word _ one.0)
  | inr a ↦ elim (chosen (bytes_eq word (codes "W-")) (Some WhiteFails) _ (Some claim) a.1) [
    | inl two ↦ at WhiteFails two.1 (is_text word _ two.0)
    | inr b ↦ elim (chosen (bytes_eq word (codes "B+")) (Some BlackWins) _ (Some claim) b.1) [
      | inl three ↦ at BlackWins three.1 (is_text word _ three.0)
      | inr c ↦ elim (chosen (bytes_eq word (codes "B-")) (Some BlackFails) None (Some claim) c.1) [
        | inl four ↦ at BlackFails four.1 (is_text word _ four.0)
        | inr none ↦ absurd (cc none.1)
      ]
    ]
  ]
]
  where
    at : (found : Claim) → Some found ≡ Some claim → word ≡ claim_word found → word ≡ claim_word claim
    at found e same = let found_is : found ≡ claim = cc in same ∙ ap claim_word found_is

pub claim_spelled : (claim : Claim) → claim_of (claim_word claim) ≡ Some claim
claim_spelled WhiteWins = refl
claim_spelled WhiteFails = refl
claim_spelled BlackWins = refl
claim_spelled BlackFails = refl

-- ---- cites

letter_word_read : (cols : ℕ) (word : List ℕ) (column : ℕ) → letter_word cols word ≡ Some column → (word ≡ letter_of column ∷ []) × (column < cols)
letter_word_read cols [] column h = cc
letter_word_read cols (byte ∷ next ∷ word) column h = cc
letter_word_read cols (byte ∷ []) column h = elim (chosen (is_letter cols byte) (Some (column_of byte)) None (Some column) h) [
  | inr other ↦ absurd (cc other.1)
  | inl letter ↦
      let same : column_of byte ≡ column = cc in
      let read = letter_read cols byte letter.0 in
      (ap (λ b. b ∷ []) (read.0 ∙ ap letter_of same), subst (λ c. c < cols) same read.1)
]

letter_word_spelled : (cols column : ℕ) → column < cols → letter_word cols (letter_of column ∷ []) ≡ Some column
letter_word_spelled cols column h = let letter = letter_spelled cols column h in rw (letter.0, letter.1) refl

pub cite_read : (cols : ℕ) (word : List ℕ) (cite : Cite) → cite_of cols word ≡ Some cite → (word ≡ cite_word cite) × CiteFits cols cite
cite_read cols [] cite h = cc
cite_read cols (letter ∷ []) cite h = cc
cite_read cols (letter ∷ colon ∷ digits) cite h =
    elim (chosen (is_letter cols letter && colon == 58) (option_map (λ n. record { column = column_of letter; lemma = n }) (number_of digits)) None (Some cite)
    h) [
      | inr other ↦ absurd (cc other.1)
      | inl found ↦
          let both = and_parts (is_letter cols letter) (colon == 58) found.0 in
          let named = letter_read cols letter both.0 in
          let number = map_some (λ n. record { column = column_of letter; lemma = n }) (number_of digits) cite found.1 in
          let read = number_read digits number.0 number.1 in
          at number.0 number.2 named (eqb-true colon 58 both.1) read
    ]
  where
    at : (n : ℕ) → record { column = column_of letter; lemma = n } ≡ cite → (letter ≡ letter_of (column_of letter)) × (column_of letter < cols) → colon ≡ 58
        → (digits ≡ decimal n) × IsNumber n
        → (letter ∷ colon ∷ digits ≡ cite_word cite) × CiteFits cols cite
    at n same named colon_is read = subst (λ cite. (letter ∷ colon ∷ digits ≡ cite_word cite) × CiteFits cols cite) same
        (spelled (letter_of (column_of letter)) (decimal n) named.0 read.0, (named.1, read.1))
      where
        spelled : (first : ℕ) (rest : List ℕ) → letter ≡ first → digits ≡ rest → letter ∷ colon ∷ digits ≡ first ∷ (codes ":" ++ rest)
        spelled first rest e f = rw (e, colon_is, f) refl

pub cite_spelled : (cols : ℕ) (cite : Cite) → CiteFits cols cite → cite_of cols (cite_word cite) ≡ Some cite
cite_spelled cols cite h =
    let letter = letter_spelled cols cite.column h.0 in
    rw (letter.0, letter.1, number_spelled cite.lemma h.1) refl

pub cites_read : (cols : ℕ) (words : List (List ℕ)) (cites : List Cite) → cites_of cols words ≡ Some cites
    → (words ≡ map cite_word cites) × AllByRecursion (CiteFits cols) cites
cites_read cols [] cites h = let same : [] ≡ cites = cc in subst (λ cites. ([] ≡ map cite_word cites) × AllByRecursion (CiteFits cols) cites) same (refl, tt)
cites_read cols (word ∷ words) cites h =
    let first = bind_some (cite_of cols word) _ cites h in
    let rest = bind_some (cites_of cols words) (λ more. Some (first.0 ∷ more)) cites first.2 in
    let one = cite_read cols word first.0 first.1 in
    let more = cites_read cols words rest.0 rest.1 in
    let same : first.0 ∷ rest.0 ≡ cites = cc (rest.2) in
    subst (λ cites. (word ∷ words ≡ map cite_word cites) × AllByRecursion (CiteFits cols) cites) same
    (cons_same word (cite_word first.0) words (map cite_word rest.0) one.0 more.0, (one.1, more.1))

pub cites_spelled : (cols : ℕ) (cites : List Cite) → AllByRecursion (CiteFits cols) cites → cites_of cols (map cite_word cites) ≡ Some cites
cites_spelled cols [] h = refl
cites_spelled cols (cite ∷ cites) h =
    ap (λ found. found >>= λ cite. cites_of cols (map cite_word cites) >>= λ cites. Some (cite ∷ cites)) (cite_spelled cols cite h.0)
    ∙ ap (λ found. found >>= λ cites. Some (cite ∷ cites)) (cites_spelled cols cites h.1)

-- ---- reasons

one_read : (board : Board) (words : List (List ℕ)) (reason : Reason) → one_of board.cols words ≡ Some reason → (codes "one" ∷ words ≡ reason_words reason)
    × ReasonFits board reason
one_read board [] reason h = cc
one_read board (letter ∷ []) reason h = cc
one_read board (letter ∷ number ∷ more ∷ words) reason h = cc
one_read board (letter ∷ number ∷ []) reason h =
    let first = bind_some (letter_word board.cols letter) _ reason h in
    let rest = bind_some (number_of number) (λ n. Some (ByOne (record { column = first.0; lemma = n }))) reason first.2 in
    let column = letter_word_read board.cols letter first.0 first.1 in
    let n = number_read number rest.0 rest.1 in
    let same : ByOne (record { column = first.0; lemma = rest.0 }) ≡ reason = cc (rest.2) in
    subst (λ reason. (codes "one" ∷ letter ∷ number ∷ [] ≡ reason_words reason) × ReasonFits board reason) same
    (both (letter_of first.0 ∷ []) (decimal rest.0) column.0 n.0, (column.1, n.1))
  where
    both : (a b : List ℕ) → letter ≡ a → number ≡ b → codes "one" ∷ letter ∷ number ∷ [] ≡ codes "one" ∷ a ∷ b ∷ []
    both a b e f = rw (e, f) refl

all_read : (board : Board) (words : List (List ℕ)) (reason : Reason) → all_of board.cols words ≡ Some reason → (codes "all" ∷ words ≡ reason_words reason)
    × ReasonFits board reason
all_read board words reason h =
    elim (chosen (nat_le 1 (length words) && nat_le (length words) most_cites) (option_map ByAll (cites_of board.cols words)) None (Some reason) h) [
      | inr other ↦ absurd (cc other.1)
      | inl found ↦
          let size = and_parts (nat_le 1 (length words)) (nat_le (length words) most_cites) found.0 in
          let cites = map_some ByAll (cites_of board.cols words) reason found.1 in
          let read = cites_read board.cols words cites.0 cites.1 in
          let count : length words ≡ length cites.0 = ap length read.0 ∙ length-map cites.0 cite_word in
          let few : 1 ≤ length words = leb-true 1 (length words) size.0 in
          let many : length words ≤ most_cites = leb-true (length words) most_cites size.1 in
          subst (λ reason. (codes "all" ∷ words ≡ reason_words reason) × ReasonFits board reason) cites.2
          (ap (λ words. codes "all" ∷ words) read.0, (omega arith, omega arith, read.1))
    ]

plan_read : (board : Board) (words : List (List ℕ)) (reason : Reason) → plan_of board words ≡ Some reason → (codes "plan" ∷ words ≡ reason_words reason)
    × ReasonFits board reason
plan_read board words reason h =
    let found = map_some ByPlan (members_of board words) reason h in
    let read = members_read board words found.0 found.1 in
    subst (λ reason. (codes "plan" ∷ words ≡ reason_words reason) × ReasonFits board reason) found.2 (ap (λ words. codes "plan" ∷ words) read.0, read.1)

mirror_read : (board : Board) (words : List (List ℕ)) (reason : Reason) → mirror_of words ≡ Some reason
    → (codes "mirror" ∷ words ≡ reason_words reason) × ReasonFits board reason
mirror_read board [] reason h = cc
mirror_read board (number ∷ more ∷ words) reason h = cc
mirror_read board (number ∷ []) reason h =
    let found = map_some ByMirror (number_of number) reason h in
    let n = number_read number found.0 found.1 in
    subst (λ reason. (codes "mirror" ∷ number ∷ [] ≡ reason_words reason) × ReasonFits board reason) found.2
    (ap (λ word. codes "mirror" ∷ word ∷ []) n.0, n.1)

only_read : {X : Type 0} (x y : X) (words : List (List ℕ)) → only x words ≡ Some y → (words ≡ []) × (x ≡ y)
only_read x y [] h = (refl, cc)
only_read x y (word ∷ words) h = cc

pub reason_read : (board : Board) (words : List (List ℕ)) (reason : Reason) → reason_of board words ≡ Some reason
    → (words ≡ reason_words reason) × ReasonFits board reason
reason_read board [] reason h = cc
reason_read board (word ∷ words) reason h = elim (chosen (bytes_eq word (codes "end")) (only ByEnd words) _ (Some reason) h) [
  | inl end ↦
      let nothing = only_read ByEnd reason words end.1 in
      subst (λ reason. (word ∷ words ≡ reason_words reason) × ReasonFits board reason) nothing.1 (both (codes "end") [] (is_text word _ end.0) nothing.0, tt)
  | inr a ↦ elim (chosen (bytes_eq word (codes "one")) (one_of board.cols words) _ (Some reason) a.1) [
    | inl one ↦ let read = one_read board words reason one.1 in (ap (λ first. first ∷ words) (is_text word _ one.0) ∙ read.0, read.1)
    | inr b ↦ elim (chosen (bytes_eq word (codes "all")) (all_of board.cols words) _ (Some reason) b.1) [
      | inl all ↦ let read = all_read board words reason all.1 in (ap (λ first. first ∷ words) (is_text word _ all.0) ∙ read.0, read.1)
      | inr c ↦ elim (chosen (bytes_eq word (codes "plan")) (plan_of board words) _ (Some reason) c.1) [
        | inl plan ↦ let read = plan_read board words reason plan.1 in (ap (λ first. first ∷ words) (is_text word _ plan.0) ∙ read.0, read.1)
        | inr d ↦ elim (chosen (bytes_eq word (codes "mirror")) (mirror_of words) None (Some reason) d.1) [
          | inl image ↦ let read = mirror_read board words reason image.1 in (ap (λ first. first ∷ words) (is_text word _ image.0) ∙ read.0, read.1)
          | inr none ↦ absurd (cc none.1)
        ]
      ]
    ]
  ]
]
  where
    both : (first : List ℕ) (rest : List (List ℕ)) → word ≡ first → words ≡ rest → word ∷ words ≡ first ∷ rest
    both first rest e f = rw (e, f) refl

pub reason_spelled : (board : Board) (reason : Reason) → ReasonFits board reason → reason_of board (reason_words reason) ≡ Some reason
reason_spelled board ByEnd h = refl
reason_spelled board (ByOne cite) h =
    ap (λ found. found >>= λ column. number_of (decimal cite.lemma) >>= λ n. Some (ByOne (record { column = column; lemma = n })))
    (letter_word_spelled board.cols cite.column h.0)
    ∙ ap (λ found. found >>= λ n. Some (ByOne (record { column = cite.column; lemma = n }))) (number_spelled cite.lemma h.1)
reason_spelled board (ByAll cites) h =
    let size : length (map cite_word cites) ≡ length cites = length-map cites cite_word in
    found (and_from _ _ (le-leb 1 (length (map cite_word cites)) (omega arith)) (le-leb (length (map cite_word cites)) most_cites (omega arith)))
  where
    found : (nat_le 1 (length (map cite_word cites)) && nat_le (length (map cite_word cites)) most_cites) ≡ true
        → all_of board.cols (map cite_word cites) ≡ Some (ByAll cites)
    found e = rw e (ap (option_map ByAll) (cites_spelled board.cols cites h.2))
reason_spelled board (ByPlan ws) h = ap (option_map ByPlan) (members_spelled board ws h)
reason_spelled board (ByMirror n) h = ap (option_map ByMirror) (number_spelled n h)

-- ---- lemmas

pub lemma_read : (board : Board) (words : List (List ℕ)) (l : Lemma) → lemma_of board words ≡ Some l → (words ≡ lemma_words l) × Fits board l
lemma_read board [] l h = cc
lemma_read board (number ∷ []) l h = cc
lemma_read board (number ∷ path ∷ []) l h = cc
lemma_read board (number ∷ path ∷ claim ∷ reason) l h =
    let first = bind_some (number_of number) _ l h in
    let second = bind_some (path_of board.cols path) _ l first.2 in
    let third = bind_some (claim_of claim) _ l second.2 in
    let last = bind_some (reason_of board reason) (λ why. Some (record { number = first.0; path = second.0; claim = third.0; reason = why })) l third.2 in
    let n = number_read number first.0 first.1 in
    let moves = path_read board.cols path second.0 second.1 in
    let said = claim_read claim third.0 third.1 in
    let why = reason_read board reason last.0 last.1 in
    let same : record { number = first.0; path = second.0; claim = third.0; reason = last.0 } ≡ l = cc (last.2) in
    subst (λ l. (number ∷ path ∷ claim ∷ reason ≡ lemma_words l) × Fits board l) same (
      four (decimal first.0) (move_list second.0) (claim_word third.0) (reason_words last.0) n.0 moves.0 said why.0,
      record { number = n.1; short = moves.1; columns = moves.2; reason = why.1 },
    )
  where
    four : (a b c : List ℕ) (d : List (List ℕ)) → number ≡ a → path ≡ b → claim ≡ c → reason ≡ d → number ∷ path ∷ claim ∷ reason ≡ a ∷ b ∷ c ∷ d
    four a b c d e f g h = rw (e, f, g, h) refl

pub lemma_spelled : (board : Board) (l : Lemma) → Fits board l → lemma_of board (lemma_words l) ≡ Some l
lemma_spelled board l h =
    ap (λ found. found >>= λ n. path_of board.cols (move_list l.path) >>= λ moves. claim_of (claim_word l.claim) >>= λ said.
    reason_of board (reason_words l.reason) >>= λ why. Some (record { number = n; path = moves; claim = said; reason = why }))
    (number_spelled l.number h.number)
    ∙ ap (λ found. found >>= λ moves. claim_of (claim_word l.claim) >>= λ said. reason_of board (reason_words l.reason) >>= λ why.
    Some (record { number = l.number; path = moves; claim = said; reason = why })) (path_spelled board.cols l.path h.short h.columns)
    ∙ ap (λ found. found >>= λ said. reason_of board (reason_words l.reason) >>= λ why.
    Some (record { number = l.number; path = l.path; claim = said; reason = why })) (claim_spelled l.claim)
    ∙ ap (λ found. found >>= λ why. Some (record { number = l.number; path = l.path; claim = l.claim; reason = why })) (reason_spelled board l.reason h.reason)

-- ---- verdicts

one_verdict_read : (verdict : ℕ → Verdict) (words : List (List ℕ)) (v : Verdict) → with_one verdict words ≡ Some v
    → (n : ℕ) × (words ≡ decimal n ∷ []) × IsNumber n × (verdict n ≡ v)
one_verdict_read verdict [] v h = cc
one_verdict_read verdict (number ∷ more ∷ words) v h = cc
one_verdict_read verdict (number ∷ []) v h =
    let found = map_some verdict (number_of number) v h in
    let n = number_read number found.0 found.1 in
    (found.0, ap (λ word. word ∷ []) n.0, n.1, found.2)

two_verdict_read : (verdict : ℕ → ℕ → Verdict) (words : List (List ℕ)) (v : Verdict) → with_two verdict words ≡ Some v
    → (n m : ℕ) × (words ≡ decimal n ∷ decimal m ∷ []) × IsNumber n × IsNumber m × (verdict n m ≡ v)
two_verdict_read verdict [] v h = cc
two_verdict_read verdict (first ∷ []) v h = cc
two_verdict_read verdict (first ∷ second ∷ more ∷ words) v h = cc
two_verdict_read verdict (first ∷ second ∷ []) v h =
    let one = bind_some (number_of first) _ v h in
    let two = bind_some (number_of second) (λ m. Some (verdict one.0 m)) v one.2 in
    let n = number_read first one.0 one.1 in
    let m = number_read second two.0 two.1 in
    (one.0, two.0, both (decimal one.0) (decimal two.0) n.0 m.0, n.1, m.1, cc (two.2))
  where
    both : (a b : List ℕ) → first ≡ a → second ≡ b → first ∷ second ∷ [] ≡ a ∷ b ∷ []
    both a b e f = rw (e, f) refl

pub verdict_read : (words : List (List ℕ)) (v : Verdict) → verdict_of words ≡ Some v → (codes "value" ∷ words ≡ verdict_words v) × VerdictFits v
verdict_read [] v h = cc
verdict_read (word ∷ words) v h = elim (chosen (bytes_eq word (codes "win")) (with_one Win words) _ (Some v) h) [
  | inl win ↦
      let read = one_verdict_read Win words v win.1 in
      subst (λ v. (codes "value" ∷ word ∷ words ≡ verdict_words v) × VerdictFits v) read.3
      (both (codes "win") (decimal read.0 ∷ []) (is_text word _ win.0) read.1, read.2)
  | inr a ↦ elim (chosen (bytes_eq word (codes "loss")) (with_one Loss words) _ (Some v) a.1) [
    | inl loss ↦
        let read = one_verdict_read Loss words v loss.1 in
        subst (λ v. (codes "value" ∷ word ∷ words ≡ verdict_words v) × VerdictFits v) read.3
        (both (codes "loss") (decimal read.0 ∷ []) (is_text word _ loss.0) read.1, read.2)
    | inr b ↦ elim (chosen (bytes_eq word (codes "draw")) (with_two Draw words) _ (Some v) b.1) [
      | inl draw ↦
          let read = two_verdict_read Draw words v draw.1 in
          subst (λ v. (codes "value" ∷ word ∷ words ≡ verdict_words v) × VerdictFits v) read.5
          (both (codes "draw") (decimal read.0 ∷ decimal read.1 ∷ []) (is_text word _ draw.0) read.2, (read.3, read.4))
      | inr c ↦ elim (chosen (bytes_eq word (codes "unknown")) (only Unknown words) None (Some v) c.1) [
        | inl unknown ↦
            let nothing = only_read Unknown v words unknown.1 in
            subst (λ v. (codes "value" ∷ word ∷ words ≡ verdict_words v) × VerdictFits v) nothing.1
            (both (codes "unknown") [] (is_text word _ unknown.0) nothing.0, tt)
        | inr none ↦ absurd (cc none.1)
      ]
    ]
  ]
]
  where
    both : (first : List ℕ) (rest : List (List ℕ)) → word ≡ first → words ≡ rest → codes "value" ∷ word ∷ words ≡ codes "value" ∷ first ∷ rest
    both first rest e f = rw (e, f) refl

pub verdict_spelled : (v : Verdict) (words : List (List ℕ)) → VerdictFits v → codes "value" ∷ words ≡ verdict_words v → verdict_of words ≡ Some v
verdict_spelled (Win n) words h same = let rest : words ≡ codes "win" ∷ decimal n ∷ [] = cc in ap verdict_of rest ∙ ap (option_map Win) (number_spelled n h)
verdict_spelled (Loss n) words h same = let rest : words ≡ codes "loss" ∷ decimal n ∷ [] = cc in ap verdict_of rest ∙ ap (option_map Loss) (number_spelled n h)
verdict_spelled (Draw n m) words h same =
    let rest : words ≡ codes "draw" ∷ decimal n ∷ decimal m ∷ [] = cc in
    ap verdict_of rest ∙ ap (λ found. found >>= λ n. number_of (decimal m) >>= λ m. Some (Draw n m)) (number_spelled n h.0)
    ∙ ap (λ found. found >>= λ m. Some (Draw n m)) (number_spelled m h.1)
verdict_spelled Unknown words h same = let rest : words ≡ codes "unknown" ∷ [] = cc in ap verdict_of rest
