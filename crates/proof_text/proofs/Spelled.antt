-- A line is read exactly where it is in the grammar; no spelling has a line feed, and none is that of two lines.
use Rattle.std.proofs.Common.{◌≡◌, ℕ, ◌<◌, ◌≤◌, ◌^◌, Bool, true, false, ◌&&◌, ◌==◌, nat_le, cond, List, [], ◌∷◌, map, length, Option, Some, None, codes, refl}
use Rattle.std.proofs.Common.{sym, ap, ◌∙◌}
use Rattle.std.proofs.Common.{subst, inl, inr, arith, lit<, lit≤}
use Rattle.std.specs.List.{AllByRecursion, list_all}
use Rattle.std.specs.Str.{bytes_eq}
use Rattle.std.specs.Fmt.{decimal}
use Rattle.std.specs.Option.{option_map}
use Rattle.std.proofs.lemmas.Fmt.{decimal_nonempty}
use Rattle.std.proofs.lemmas.Option.{same_Some}
use Rattle.std.proofs.lemmas.Slice.Eq.{bytes_eq-Decides}
use Rattle.std.proofs.lemmas.Bool.{and_parts, leb-true, eqb-true, ne_eqb, false_from_ne_true}
use Rattle.game_rules.specs.Grammar.{letter_of, move_list}
use Rattle.game_rules.proofs.Lists.{chosen}
use Rattle.game_rules.specs.Board.{Board}
use Rattle.plan_rules.specs.Rules.{RuleInstance}
use Rattle.plan_text.specs.Words.{spaced, words_of}
use Rattle.plan_text.specs.Items.{instance_text, is_named}
use Rattle.plan_text.proofs.Spaced.{IsPlain, IsDigits, digits_decimal, plain_text, words_of_spaced, spaced_words, spaced_bytes, map_some, all_each}
use Rattle.plan_text.proofs.PlanLines.{member_plain}
use Rattle.proof_text.specs.Lemma.{Cite, Reason, ByEnd, ByOne, ByAll, ByPlan, ByMirror, Lemma, Line, ALemma, ARemark, AVerdict, allows}
use Rattle.proof_text.specs.Spelling.{claim_word, cite_word, reason_words, lemma_words, verdict_words, lemma_text, verdict_text, is_printable, is_remark}
use Rattle.proof_text.specs.Spelling.{IsNumber, CiteFits, ReasonFits, Fits, VerdictFits, IsAnyLine, IsLine, longest_line}
use Rattle.proof_text.specs.Reading.{lemma_of, verdict_of, line_of_words, read_any, in_version, read_line}
use Rattle.proof_text.proofs.Words.{lemma_read, lemma_spelled, verdict_read, verdict_spelled}
use Rattle.proof_text.specs.declared.Claim.{Claim}
use Rattle.proof_text.specs.declared.Claim.TheVariants.{WhiteWins, WhiteFails, BlackWins, BlackFails}
use Rattle.proof_text.specs.declared.Verdict.{Verdict}
use Rattle.proof_text.specs.declared.Version.{Version}
use Rattle.proof_text.specs.declared.Verdict.TheVariants.{Win, Loss, Draw, Unknown}
use Rattle.game_rules.specs.Squares.{widest}

-- ---- the bytes of words

number_small : (n : ℕ) → IsNumber n → n < 2 ^ 64
number_small n h = omega (arith, h.1)

pub plain_decimal : (n : ℕ) → IsNumber n → IsPlain (decimal n)
plain_decimal n h = all_each (λ byte. (48 ≤ byte) × (byte ≤ 57)) (λ byte. 43 ≤ byte) (decimal n) (λ byte digit. omega arith)
    (digits_decimal n (number_small n h))

plain_letters : (columns : List ℕ) → IsPlain (map letter_of columns)
plain_letters [] = tt
plain_letters (column ∷ columns) = (omega arith, plain_letters columns)

pub plain_moves : (path : List ℕ) → IsPlain (move_list path)
plain_moves [] = (lit< tt, tt)
plain_moves (column ∷ columns) = plain_letters (column ∷ columns)

plain_claim : (claim : Claim) → IsPlain (claim_word claim)
plain_claim WhiteWins = plain_text (codes "W+") refl
plain_claim WhiteFails = plain_text (codes "W-") refl
plain_claim BlackWins = plain_text (codes "B+") refl
plain_claim BlackFails = plain_text (codes "B-") refl

plain_cites : (cols : ℕ) (cites : List Cite) → AllByRecursion (CiteFits cols) cites → AllByRecursion IsPlain (map cite_word cites)
plain_cites cols [] h = tt
plain_cites cols (cite ∷ cites) h = ((omega arith, (lit≤ tt, plain_decimal cite.lemma h.0.1)), plain_cites cols cites h.1)

plain_reason : (board : Board) (reason : Reason) → ReasonFits board reason → AllByRecursion IsPlain (reason_words reason)
plain_reason board ByEnd h = (plain_text (codes "end") refl, tt)
plain_reason board (ByOne cite) h = (plain_text (codes "one") refl, ((omega arith, tt), (plain_decimal cite.lemma h.1, tt)))
plain_reason board (ByMirror n) h = (plain_text (codes "mirror") refl, (plain_decimal n h, tt))
plain_reason board (ByAll cites) h = (plain_text (codes "all") refl, plain_cites board.cols cites h.2)
plain_reason board (ByPlan ws) h = (plain_text (codes "plan") refl, plain_members board ws h.2)
  where
    plain_members : (board : Board) (ws : List RuleInstance) → AllByRecursion (λ w. is_named board w ≡ true) ws → AllByRecursion IsPlain (map instance_text ws)
    plain_members board [] h = tt
    plain_members board (w ∷ ws) h = (member_plain board w h.0, plain_members board ws h.1)

pub plain_lemma : (board : Board) (l : Lemma) → Fits board l → AllByRecursion IsPlain (lemma_words l)
plain_lemma board l h = (plain_decimal l.number h.number, (plain_moves l.path, (plain_claim l.claim, plain_reason board l.reason h.reason)))

pub plain_verdict : (v : Verdict) → VerdictFits v → AllByRecursion IsPlain (verdict_words v)
plain_verdict (Win n) h = (plain_text (codes "value") refl, (plain_text (codes "win") refl, (plain_decimal n h, tt)))
plain_verdict (Loss n) h = (plain_text (codes "value") refl, (plain_text (codes "loss") refl, (plain_decimal n h, tt)))
plain_verdict (Draw n m) h = (plain_text (codes "value") refl, (plain_text (codes "draw") refl, (plain_decimal n h.0, (plain_decimal m h.1, tt))))
plain_verdict Unknown h = (plain_text (codes "value") refl, (plain_text (codes "unknown") refl, tt))

-- ---- words and spaces

-- ---- the three kinds of lines

-- a row whose first word has a byte is no remark
no_remark : (word : List ℕ) (words : List (List ℕ)) → IsPlain word → 0 < length word → is_remark (spaced (word ∷ words)) ≡ false
no_remark [] words h some = absurd (omega arith)
no_remark (byte ∷ word) [] h some = rw (ne_eqb byte 35 (λ (e : byte ≡ 35). omega arith)) refl
no_remark (byte ∷ word) (next ∷ words) h some = rw (ne_eqb byte 35 (λ (e : byte ≡ 35). omega arith)) refl

-- a number isn't `value`
no_value : (word : List ℕ) → IsDigits word → bytes_eq word (codes "value") ≡ false
no_value word digits = false_from_ne_true (bytes_eq word (codes "value")) (λ same. letter word digits ((bytes_eq-Decides word (codes "value")).0 same))
  where
    letter : (word : List ℕ) → IsDigits word → word ≡ codes "value" → ⊥
    letter [] digits e = cc
    letter (byte ∷ word) digits e = let first : byte ≡ 118 = cc in omega arith

-- what is read is in the grammar
any_line_read : (board : Board) (bytes : List ℕ) (line : Line) → read_any board bytes ≡ Some line → IsAnyLine board bytes line
any_line_read board bytes line h = elim (chosen (is_remark bytes) (Some ARemark) (line_of_words board (words_of bytes)) (Some line) h) [
  | inl remark ↦ let same : ARemark ≡ line = cc in subst (IsAnyLine board bytes) same remark.0
  | inr words ↦ of_words (words_of bytes) refl words.1
]
  where
    of_words : (words : List (List ℕ)) → words_of bytes ≡ words → line_of_words board words ≡ Some line → IsAnyLine board bytes line
    of_words [] e h = cc
    of_words (word ∷ words) e h = elim
        (chosen (bytes_eq word (codes "value")) (option_map AVerdict (verdict_of words)) (option_map ALemma (lemma_of board (word ∷ words))) (Some line) h) [
          | inl value ↦
              let found = map_some AVerdict (verdict_of words) line value.1 in
              let read = verdict_read words found.0 found.1 in
              let first : word ≡ codes "value" = (bytes_eq-Decides word (codes "value")).0 value.0 in
              subst (IsAnyLine board bytes) found.2 (read.1, spaced_words bytes (word ∷ words) e ∙ ap spaced (ap (λ word. word ∷ words) first ∙ read.0))
          | inr other ↦
              let found = map_some ALemma (lemma_of board (word ∷ words)) line other.1 in
              let read = lemma_read board (word ∷ words) found.0 found.1 in
              subst (IsAnyLine board bytes) found.2 (read.1, spaced_words bytes (word ∷ words) e ∙ ap spaced read.0)
        ]

-- a lemma's spelling is read
pub lemma_text_read : (board : Board) (l : Lemma) → Fits board l → read_any board (lemma_text l) ≡ Some (ALemma l)
lemma_text_read board l h =
    let plain = plain_lemma board l h in
    let digits : IsDigits (decimal l.number) = digits_decimal l.number (number_small l.number h.number) in
    let some : 0 < length (decimal l.number) = decimal_nonempty l.number (number_small l.number h.number) in
    let rest = move_list l.path ∷ claim_word l.claim ∷ reason_words l.reason in
    rw (no_remark (decimal l.number) rest plain.0 some) (ap (line_of_words board) (words_of_spaced (decimal l.number) rest plain)
    ∙ of_number (decimal l.number) (no_value (decimal l.number) digits) refl)
  where
    of_number : (word : List ℕ) → bytes_eq word (codes "value") ≡ false → word ≡ decimal l.number
        → line_of_words board (word ∷ move_list l.path ∷ claim_word l.claim ∷ reason_words l.reason) ≡ Some (ALemma l)
    of_number word past e = rw past (ap (λ word. option_map ALemma (lemma_of board (word ∷ move_list l.path ∷ claim_word l.claim ∷ reason_words l.reason))) e
        ∙ ap (option_map ALemma) (lemma_spelled board l h))

-- and so is a verdict's
pub verdict_text_read : (board : Board) (v : Verdict) → VerdictFits v → read_any board (verdict_text v) ≡ Some (AVerdict v)
verdict_text_read board v h = of_words (verdict_words v) (rest v) refl
  where
    rest : (v : Verdict) → (words : List (List ℕ)) × (verdict_words v ≡ codes "value" ∷ words)
    rest (Win n) = (codes "win" ∷ decimal n ∷ [], refl)
    rest (Loss n) = (codes "loss" ∷ decimal n ∷ [], refl)
    rest (Draw n m) = (codes "draw" ∷ decimal n ∷ decimal m ∷ [], refl)
    rest Unknown = (codes "unknown" ∷ [], refl)

    value_plain : IsPlain (codes "value")
    value_plain = plain_text (codes "value") refl

    of_words : (words : List (List ℕ)) → (more : List (List ℕ)) × (words ≡ codes "value" ∷ more) → words ≡ verdict_words v
        → read_any board (spaced words) ≡ Some (AVerdict v)
    of_words words (more, e) same =
        let plain : AllByRecursion IsPlain (codes "value" ∷ more) = subst (AllByRecursion IsPlain) (sym same ∙ e) (plain_verdict v h) in
        ap (λ words. read_any board (spaced words)) e
        ∙ past (is_remark (spaced (codes "value" ∷ more))) (no_remark (codes "value") more value_plain (lit< tt))
        ∙ ap (line_of_words board) (words_of_spaced (codes "value") more plain)
        ∙ ap (option_map AVerdict) (verdict_spelled v more h (sym e ∙ same))
      where
        past : (remark : Bool) → remark ≡ false → cond remark (Some ARemark) (line_of_words board (words_of (spaced (codes "value" ∷ more))))
            ≡ line_of_words board (words_of (spaced (codes "value" ∷ more)))
        past remark e = rw e refl

-- what is in the grammar is read
any_line_spelled : (board : Board) (bytes : List ℕ) (line : Line) → IsAnyLine board bytes line → read_any board bytes ≡ Some line
any_line_spelled board bytes (ALemma l) h = ap (read_any board) h.1 ∙ lemma_text_read board l h.0
any_line_spelled board bytes ARemark h = rw h refl
any_line_spelled board bytes (AVerdict v) h = ap (read_any board) h.1 ∙ verdict_text_read board v h.0

-- ---- versions

in_version_is : (version : Version) (found : Option Line) (line : Line) → in_version version found ≡ Some line
    → (found ≡ Some line) × (allows version line ≡ true)
in_version_is version None line h = cc
in_version_is version (Some said) line h = elim (chosen (allows version said) (Some said) None (Some line) h) [
  | inl has ↦ (has.1, sym (ap (allows version) (same_Some said line has.1)) ∙ has.0)
  | inr not ↦ absurd (cc not.1)
]

pub line_read : (version : Version) (board : Board) (bytes : List ℕ) (line : Line) → read_line version board bytes ≡ Some line
    → IsLine version board bytes line
line_read version board bytes line h = let told = in_version_is version (read_any board bytes) line h in (told.1, any_line_read board bytes line told.0)

pub line_spelled : (version : Version) (board : Board) (bytes : List ℕ) (line : Line) → IsLine version board bytes line
    → read_line version board bytes ≡ Some line
line_spelled version board bytes line (has, any) = ap (in_version version) (any_line_spelled board bytes line any) ∙ rw has refl

-- ---- one spelling, and no line feed

-- bytes are a line in one way
pub one_line : (board : Board) (bytes : List ℕ) (line other : Line) → IsAnyLine board bytes line → IsAnyLine board bytes other → line ≡ other
one_line board bytes line other h g = let same : Some line ≡ Some other = sym (any_line_spelled board bytes line h) ∙ any_line_spelled board bytes other g
    in cc

-- no spelling is that of two lemmas, of two verdicts, or of a lemma and a verdict
pub one_lemma : (board : Board) (l m : Lemma) → Fits board l → Fits board m → lemma_text l ≡ lemma_text m → l ≡ m
one_lemma board l m h g e = let same : ALemma l ≡ ALemma m = one_line board (lemma_text l) (ALemma l) (ALemma m) (h, refl) (g, e) in cc

pub one_verdict : (v w : Verdict) → VerdictFits v → VerdictFits w → verdict_text v ≡ verdict_text w → v ≡ w
one_verdict v w h g e = let same : AVerdict v ≡ AVerdict w = one_line widest (verdict_text v) (AVerdict v) (AVerdict w) (h, refl) (g, e) in cc

pub lemma_no_verdict : (board : Board) (l : Lemma) (v : Verdict) → Fits board l → VerdictFits v → lemma_text l ≡ verdict_text v → ⊥
lemma_no_verdict board l v h g e = let same : ALemma l ≡ AVerdict v = one_line board (lemma_text l) (ALemma l) (AVerdict v) (h, refl) (g, e) in cc

-- no byte of a line is a line feed
pub line_bytes : (board : Board) (bytes : List ℕ) (line : Line) → IsAnyLine board bytes line → AllByRecursion (λ byte. 32 ≤ byte) bytes
line_bytes board bytes (ALemma l) h = subst (AllByRecursion (λ byte. 32 ≤ byte)) (sym h.1) (spaced_bytes (lemma_words l) (plain_lemma board l h.0))
line_bytes board bytes (AVerdict v) h = subst (AllByRecursion (λ byte. 32 ≤ byte)) (sym h.1) (spaced_bytes (verdict_words v) (plain_verdict v h.0))
line_bytes board [] ARemark h = tt
line_bytes board (byte ∷ bytes) ARemark h =
    let both = and_parts (byte == 35) (list_all is_printable bytes)
    (and_parts (byte == 35 && list_all is_printable bytes) (nat_le (length (byte ∷ bytes)) longest_line) h).0 in
    let hash : byte ≡ 35 = eqb-true byte 35 both.0 in
    (omega arith, printable bytes both.1)
  where
    printable : (bytes : List ℕ) → list_all is_printable bytes ≡ true → AllByRecursion (λ byte. 32 ≤ byte) bytes
    printable [] h = tt
    printable (byte ∷ bytes) h =
        let both = and_parts (is_printable byte) (list_all is_printable bytes) h in
        let bounds = and_parts (nat_le 32 byte) (nat_le byte 126) both.0 in
        (leb-true 32 byte bounds.0, printable bytes both.1)
