-- The lines behind a game are accepted exactly where they are lemmas, remarks and a verdict that are right.
use Rattle.std.proofs.Common.{◌≡◌, ℕ, ◌+◌, ◌≤◌, Bool, true, nat_le, List, [], ◌∷◌, ◌++◌, map, length, Option, Some, None, refl, sym, ap, ◌∙◌, subst, arith}
use Rattle.std.specs.List.{AllByRecursion}
use Rattle.std.proofs.lemmas.Bool.{leb-true, le-leb}
use Rattle.game_rules.specs.Board.{Board}
use Rattle.game_rules.specs.Position.{Position, played, board_of}
use Rattle.proof_text.specs.Lemma.{Lemma, Line, ALemma, ARemark, AVerdict}
use Rattle.proof_text.specs.Right.{Shown, AreRight, IsVerdict}
use Rattle.proof_text.specs.Checked.{Why, unless, CheckerState, line_refusal, shown_of, with_line}
use Rattle.proof_text.specs.Spelling.{lemma_text, verdict_text, VerdictFits, IsLine}
use Rattle.proof_text.specs.Reading.{read_line}
use Rattle.proof_text.specs.Texts.{most_lines, said_refusal, bytes_refusal, CheckAnswer, Accepted, verdict_answer, with_said, with_bytes, line_answer}
use Rattle.proof_text.specs.Texts.{check_from, lemmas_said, Entry, LemmaEntry, RemarkEntry, entry_text, lemmas_among, EntryFits}
use Rattle.proof_text.proofs.Refusals.{none_or, line_of_none, none_of_line, right_of_none, none_of_right, verdict_of_none, none_of_verdict}
use Rattle.proof_text.proofs.Spelled.{line_read, line_spelled}
use Rattle.proof_text.proofs.Fold.{bytes_of_none}
use Rattle.proof_text.specs.declared.Verdict.{Verdict}
use Rattle.proof_text.specs.declared.Version.{Version}
use Rattle.proof_text.specs.declared.Why.TheVariants.{BadLine}

-- ---- what is accepted is right

answer_parts : (r : Option Why) (at : ℕ) (later : CheckAnswer) (v : Verdict) (count : ℕ) → line_answer r at later ≡ Accepted v count
    → (r ≡ None) × (later ≡ Accepted v count)
answer_parts None at later v count h = (refl, h)
answer_parts (Some why) at later v count h = cc

pub shown_along : (root : Position) (l : Lemma) (p : Position) → played root l.path ≡ Some p → shown_of root l ≡ (p, l.claim) ∷ []
shown_along root l p h = rw h refl

-- what stands before the verdict
abbrev pub going : Position → List Shown → CheckerState
going root known = record { root = root; known = known; verdict = None }

-- The lines are right ones, from the number `at` on, behind what is known.
pub record AreAccepted (version : Version) (root : Position) (known : List Shown) (at : ℕ) (lines : List (List ℕ)) (v : Verdict) (count : ℕ) : Type 0 where
  pub entries : List Entry
  pub after : List Shown
  pub fit : AllByRecursion (EntryFits version (board_of root)) entries
  pub right : AreRight root known (lemmas_among entries) after
  pub verdict_fits : VerdictFits v
  pub verdict_right : IsVerdict root after v
  pub counted : count ≡ length after
  pub few : length entries + at ≤ most_lines
  pub spelled : lines ≡ map entry_text entries ++ verdict_text v ∷ []

module _ (version : Version) where
  -- nothing follows a verdict
  ended_lines : (s : CheckerState) (at : ℕ) (lines : List (List ℕ)) (w v : Verdict) (count : ℕ) → s.verdict ≡ Some w
      → check_from version s at lines ≡ Accepted v count
      → (lines ≡ []) × (w ≡ v) × (count ≡ length s.known)
  ended_lines s at [] w v count ended h =
      let same : verdict_answer at (length s.known) (Some w) ≡ Accepted v count = sym (ap (verdict_answer at (length s.known)) ended) ∙ h in
      (refl, cc, cc)
  ended_lines s at (line ∷ lines) w v count ended h =
      let parts = answer_parts (bytes_refusal version s at line) at _ v count h in
      let found = bytes_of_none version s at line parts.0 in
      let none = (line_of_none s found.0 found.2).0 in
      cc (none, ended)

  -- one more line at the start
  with_first : (root : Position) (known : List Shown) (at : ℕ) (bytes : List ℕ) (lines : List (List ℕ)) (v : Verdict) (count : ℕ) (line : Line)
      → at ≤ most_lines → IsLine version (board_of root) bytes line → line_refusal (going root known) line ≡ None
      → check_from version (with_line (going root known) line) (at + 1) lines ≡ Accepted v count
      → ((known : List Shown) → check_from version (going root known) (at + 1) lines ≡ Accepted v count → AreAccepted version root known (at + 1) lines v count)
      → AreAccepted version root known at (bytes ∷ lines) v count
  with_first root known at bytes lines v count (ALemma l) within is_line none rest later =
      let one = right_of_none root known l (line_of_none (going root known) (ALemma l) none).1 in
      let shown : known ++ shown_of root l ≡ known ++ (one.0, l.claim) ∷ [] = ap (λ more. known ++ more) (shown_along root l one.0 one.1.along) in
      let more = later (known ++ (one.0, l.claim) ∷ []) (sym (ap (λ known. check_from version (going root known) (at + 1) lines) shown) ∙ rest) in
      record {
        entries = LemmaEntry l ∷ more.entries;
        after = more.after;
        fit = ((is_line.0, is_line.1.0), more.fit);
        right = (one.0, one.1, more.right);
        verdict_fits = more.verdict_fits;
        verdict_right = more.verdict_right;
        counted = more.counted;
        few = let fewer : length more.entries + (at + 1) ≤ most_lines = more.few in omega arith;
        spelled = ap (λ first. first ∷ lines) is_line.1.1 ∙ ap (λ lines. lemma_text l ∷ lines) more.spelled;
      }
  with_first root known at bytes lines v count ARemark within is_line none rest later =
      let more = later known rest in
      record {
        entries = RemarkEntry bytes ∷ more.entries;
        after = more.after;
        fit = (is_line.1, more.fit);
        right = more.right;
        verdict_fits = more.verdict_fits;
        verdict_right = more.verdict_right;
        counted = more.counted;
        few = let fewer : length more.entries + (at + 1) ≤ most_lines = more.few in omega arith;
        spelled = ap (λ lines. bytes ∷ lines) more.spelled;
      }
  with_first root known at bytes lines v count (AVerdict w) within is_line none rest later =
      let right : IsVerdict root known w = verdict_of_none root known w (line_of_none (going root known) (AVerdict w) none).1 in
      let end = ended_lines (record { root = root; known = known; verdict = Some w }) (at + 1) lines w v count refl rest in
      record {
        entries = [];
        after = known;
        fit = tt;
        right = refl;
        verdict_fits = subst VerdictFits end.1 is_line.1.0;
        verdict_right = subst (IsVerdict root known) end.1 right;
        counted = end.2;
        few = omega arith;
        spelled = ap (λ first. first ∷ lines) (is_line.1.1 ∙ ap verdict_text end.1) ∙ ap (λ lines. verdict_text v ∷ lines) end.0;
      }

  pub accepted_lines : (root : Position) (known : List Shown) (at : ℕ) (lines : List (List ℕ)) (v : Verdict) (count : ℕ)
      → check_from version (going root known) at lines ≡ Accepted v count → AreAccepted version root known at lines v count
  accepted_lines root known at [] v count h = cc
  accepted_lines root known at (bytes ∷ lines) v count h =
      let s = going root known in
      let parts = answer_parts (bytes_refusal version s at bytes) at (check_from version (with_bytes version s bytes) (at + 1) lines) v count h in
      let found = bytes_of_none version s at bytes parts.0 in
      let rest : check_from version (with_line s found.0) (at + 1) lines
      ≡ Accepted v count = sym (ap (λ said. check_from version (with_said s said) (at + 1) lines) found.1)
      ∙ parts.1 in
      with_first root known at bytes lines v count found.0 (leb-true at most_lines found.3)
      (line_read version (board_of root) bytes found.0 found.1) found.2 rest
      (λ known accepted. accepted_lines root known (at + 1) lines v count accepted)

  -- ---- what is right is accepted

  -- a right line isn't refused
  none_of_bytes : (s : CheckerState) (at : ℕ) (bytes : List ℕ) (line : Line) → at ≤ most_lines → read_line version (board_of s.root) bytes ≡ Some line
      → line_refusal s line ≡ None → bytes_refusal version s at bytes ≡ None
  none_of_bytes s at bytes line within read none =
      none_or (unless (nat_le at most_lines) BadLine) (said_refusal s (read_line version (board_of s.root) bytes))
      (passed (nat_le at most_lines) (le-leb at most_lines within))
      (ap (said_refusal s) read ∙ none)
    where
      passed : (b : Bool) → b ≡ true → unless b BadLine ≡ None
      passed b e = rw e refl

  -- the answer goes on behind a right line
  past_line : (s : CheckerState) (at : ℕ) (bytes : List ℕ) (lines : List (List ℕ)) (line : Line) → at ≤ most_lines
      → read_line version (board_of s.root) bytes ≡ Some line
      → line_refusal s line ≡ None
      → check_from version s at (bytes ∷ lines) ≡ check_from version (with_line s line) (at + 1) lines
  past_line s at bytes lines line within read none =
      ap (λ r. line_answer r at (check_from version (with_bytes version s bytes) (at + 1) lines)) (none_of_bytes s at bytes line within read none)
      ∙ ap (λ said. check_from version (with_said s said) (at + 1) lines) read

  pub lines_accepted : (root : Position) (known : List Shown) (at : ℕ) (entries : List Entry) (after : List Shown) (v : Verdict)
      → AllByRecursion (EntryFits version (board_of root)) entries → AreRight root known (lemmas_among entries) after → VerdictFits v → IsVerdict root after v
      → length entries + at ≤ most_lines
      → check_from version (going root known) at (map entry_text entries ++ verdict_text v ∷ []) ≡ Accepted v (length after)
  lines_accepted root known at [] after v fit right verdict_fits verdict_right few =
      past_line (going root known) at (verdict_text v) [] (AVerdict v) (omega arith)
      (line_spelled version (board_of root) (verdict_text v) (AVerdict v) (refl, (verdict_fits, refl)))
      (none_of_line (going root known) (AVerdict v) refl (none_of_verdict root known v (subst (λ known. IsVerdict root known v) right verdict_right)))
      ∙ ap (λ known. Accepted v (length known)) (sym right)
  lines_accepted root known at (LemmaEntry l ∷ entries) after v fit (p, one, rest) verdict_fits verdict_right few =
      past_line (going root known) at (lemma_text l) (map entry_text entries ++ verdict_text v ∷ []) (ALemma l) (omega arith)
      (line_spelled version (board_of root) (lemma_text l) (ALemma l) (fit.0.0, (fit.0.1, refl)))
      (none_of_line (going root known) (ALemma l) refl (none_of_right root known l p one))
      ∙ ap (λ more. check_from version (going root (known ++ more)) (at + 1) (map entry_text entries ++ verdict_text v ∷ [])) (shown_along root l p one.along)
      ∙ lines_accepted root (known ++ (p, l.claim) ∷ []) (at + 1) entries after v fit.1 rest verdict_fits verdict_right (omega arith)
  lines_accepted root known at (RemarkEntry bytes ∷ entries) after v fit right verdict_fits verdict_right few =
      past_line (going root known) at bytes (map entry_text entries ++ verdict_text v ∷ []) ARemark (omega arith)
      (line_spelled version (board_of root) bytes ARemark (refl, fit.0))
      (none_of_line (going root known) ARemark refl refl)
      ∙ lines_accepted root known (at + 1) entries after v fit.1 right verdict_fits verdict_right (omega arith)

-- ---- line by line

-- the root stays
pub with_bytes_root : (version : Version) (s : CheckerState) (bytes : List ℕ) → (with_bytes version s bytes).root ≡ s.root
with_bytes_root version s bytes = of_line (read_line version (board_of s.root) bytes)
  where
    of_line : (line : Option Line) → (with_said s line).root ≡ s.root
    of_line None = refl
    of_line (Some (ALemma l)) = refl
    of_line (Some ARemark) = refl
    of_line (Some (AVerdict v)) = refl

-- ---- the lemmas that lines say

-- a line says its own, and then come those of the others
pub said_first : (version : Version) (board : Board) (line : List ℕ) (lines : List (List ℕ))
    → lemmas_said version board (line ∷ lines) ≡ lemmas_said version board (line ∷ []) ++ lemmas_said version board lines
said_first version board line lines = of_read (read_line version board line) refl
  where
    of_read : (said : Option Line) → read_line version board line ≡ said
        → lemmas_said version board (line ∷ lines) ≡ lemmas_said version board (line ∷ []) ++ lemmas_said version board lines
    of_read None e = rw e refl
    of_read (Some (ALemma l)) e = rw e refl
    of_read (Some ARemark) e = rw e refl
    of_read (Some (AVerdict v)) e = rw e refl

-- those of entries are theirs
pub said_entries : (version : Version) (board : Board) (entries : List Entry) (v : Verdict) → AllByRecursion (EntryFits version board) entries → VerdictFits v
    → lemmas_said version board (map entry_text entries ++ verdict_text v ∷ []) ≡ lemmas_among entries
said_entries version board [] v fit verdict_fits =
    rw (line_spelled version board (verdict_text v) (AVerdict v) (refl, (verdict_fits, refl))) refl
said_entries version board (LemmaEntry l ∷ entries) v fit verdict_fits =
    rw (line_spelled version board (lemma_text l) (ALemma l) (fit.0.0, (fit.0.1, refl)))
    (ap (λ ls. l ∷ ls) (said_entries version board entries v fit.1 verdict_fits))
said_entries version board (RemarkEntry bytes ∷ entries) v fit verdict_fits =
    rw (line_spelled version board bytes ARemark (refl, fit.0)) (said_entries version board entries v fit.1 verdict_fits)
