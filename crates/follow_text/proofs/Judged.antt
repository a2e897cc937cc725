-- A proof is judged line by line up to its verdict: what comes of the lines is what comes of those behind the first, or the
-- first is refused.
use Rattle.std.proofs.lemmas.Slice.Eq.{bytes_eq-Decides}
use Rattle.std.proofs.Common.{◌≡◌, ℕ, suc, ◌+◌, ◌-◌, Bool, true, false, cond, List, [], ◌∷◌, ◌++◌, take, drop, Option, Some, None, refl, sym, ap, ◌∙◌, arith}
use Rattle.std.proofs.Common.{append_assoc}
use Rattle.game_rules.specs.Board.{Board}
use Rattle.game_rules.specs.Position.{Position, board_of}
use Rattle.game_rules.specs.Text.{game_at}
use Rattle.game_rules.specs.declared.Side.{Side}
use Rattle.proof_text.specs.Lemma.{Lemma, Line, ALemma, ARemark, AVerdict}
use Rattle.proof_text.specs.Checked.{Why, CheckerState}
use Rattle.proof_text.specs.Reading.{read_line}
use Rattle.proof_text.specs.Texts.{pieces, game_of, behind_game, first_line, version_of, named_by, bytes_refusal, line_answer, with_said, with_bytes}
use Rattle.proof_text.specs.Texts.{check_from, lemmas_said, start, first_number}
use Rattle.proof_text.specs.declared.Verdict.{Verdict}
use Rattle.proof_text.specs.declared.Version.{Version}
use Rattle.proof_text.specs.declared.Version.TheVariants.{One, Two}
use Rattle.proof_text.specs.declared.Why.TheVariants.{BadLine, EndedEarly}
use Rattle.proof_text.proofs.Accepted.{with_bytes_root, said_first}
use Rattle.proof_text.proofs.First.{unread}
use Rattle.proof_text.proofs.Fold.{answer_by_lines}
use Rattle.play_text.specs.Play as ends
use Rattle.play_text.specs.Play.{Played, ended}
use Rattle.follow_text.specs.Follow.{is_verdict, lines_to_verdict, follow_answer, judged_cut, judged_behind, judged_from, follow_cut, follow_game}
use Rattle.follow_text.specs.Follow.{follow_pieces, follow_of}

module _ (holder : Side) (version : Version) where
  -- where lines end without a verdict
  pub judged_ended : (s : CheckerState) (ls : List Lemma) (at : ℕ) → s.verdict ≡ None
      → judged_from holder version s ls at [] ≡ ended (ends.Refused at EndedEarly)
  judged_ended s ls at free = rw free refl

  -- so many lines are the proof's, the first of which isn't refused
  cut_after : (s : CheckerState) (ls : List Lemma) (at : ℕ) (line : List ℕ) (lines : List (List ℕ)) (count : ℕ)
      → bytes_refusal version s at line ≡ None
      → judged_cut holder version s ls at (line ∷ lines) (suc count)
      ≡ follow_answer (ls ++ lemmas_said version (board_of s.root) (line ∷ take count lines)) holder s.root (at + suc count - 1) (drop count lines)
      (check_from version (with_bytes version s line) (at + 1) (take count lines))
  cut_after s ls at line lines count stands =
      ap (λ refusal. follow_answer (ls ++ lemmas_said version (board_of s.root) (line ∷ take count lines)) holder s.root (at + suc count - 1) (drop count lines)
      (line_answer refusal at (check_from version (with_bytes version s line) (at + 1) (take count lines)))) stands

  cut_refused : (s : CheckerState) (ls : List Lemma) (at : ℕ) (line : List ℕ) (lines : List (List ℕ)) (count : ℕ) (why : Why)
      → bytes_refusal version s at line ≡ Some why → judged_cut holder version s ls at (line ∷ lines) (suc count) ≡ ended (ends.Refused at why)
  cut_refused s ls at line lines count why refused =
      ap (λ refusal. follow_answer (ls ++ lemmas_said version (board_of s.root) (line ∷ take count lines)) holder s.root (at + suc count - 1) (drop count lines)
      (line_answer refusal at (check_from version (with_bytes version s line) (at + 1) (take count lines)))) refused

  -- what comes of a verdict that none or one is
  behind_none : (s : CheckerState) (ls : List Lemma) (at : ℕ) (lines : List (List ℕ)) → s.verdict ≡ None
      → judged_from holder version s ls at lines ≡ judged_cut holder version s ls at lines (lines_to_verdict version (board_of s.root) lines)
  behind_none s ls at lines free = ap (judged_behind holder version s ls at lines) free

  -- how many lines are the proof's, by the first
  first_verdict : (s : CheckerState) (line : List ℕ) (lines : List (List ℕ)) (is : Bool) → is_verdict (read_line version (board_of s.root) line) ≡ is
      → lines_to_verdict version (board_of s.root) (line ∷ lines) ≡ cond is 1 (suc (lines_to_verdict version (board_of s.root) lines))
  first_verdict s line lines is e = ap (λ is. cond is 1 (suc (lines_to_verdict version (board_of s.root) lines))) e

  -- a line that is refused ends it
  pub judged_refused : (s : CheckerState) (ls : List Lemma) (at : ℕ) (line : List ℕ) (lines : List (List ℕ)) (why : Why) → s.verdict ≡ None
      → bytes_refusal version s at line ≡ Some why → judged_from holder version s ls at (line ∷ lines) ≡ ended (ends.Refused at why)
  judged_refused s ls at line lines why free refused =
      behind_none s ls at (line ∷ lines) free ∙ of_read (is_verdict (read_line version (board_of s.root) line)) refl
    where
      of_read : (is : Bool) → is_verdict (read_line version (board_of s.root) line) ≡ is
          → judged_cut holder version s ls at (line ∷ lines) (lines_to_verdict version (board_of s.root) (line ∷ lines)) ≡ ended (ends.Refused at why)
      of_read true e = ap (judged_cut holder version s ls at (line ∷ lines)) (first_verdict s line lines true e)
          ∙ cut_refused s ls at line lines 0 why refused
      of_read false e = ap (judged_cut holder version s ls at (line ∷ lines)) (first_verdict s line lines false e)
          ∙ cut_refused s ls at line lines (lines_to_verdict version (board_of s.root) lines) why refused

  -- a line that isn't goes on with those behind it
  module _ (s : CheckerState) (ls : List Lemma) (at : ℕ) (line : List ℕ) (lines : List (List ℕ)) (free : s.verdict ≡ None)
      (stands : bytes_refusal version s at line ≡ None) where
    abbrev board : Board
    board = board_of s.root

    abbrev said : List Lemma
    said = lemmas_said version (board_of s.root) (line ∷ [])

    abbrev next : CheckerState
    next = with_bytes version s line

    abbrev GoesOn : Type 0
    GoesOn = judged_from holder version s ls at (line ∷ lines)
        ≡ judged_from holder version (with_bytes version s line) (ls ++ lemmas_said version (board_of s.root) (line ∷ [])) (at + 1) lines

    -- behind a verdict play begins
    to_verdict : (v : Verdict) → read_line version (board_of s.root) line ≡ Some (AVerdict v) → GoesOn
    to_verdict v e =
        let place : at + 1 - 1 ≡ at = omega arith in
        let said_next : next ≡ with_said s (Some (AVerdict v)) = ap (with_said s) e in
        let left : judged_from holder version s ls at (line ∷ lines)
        ≡ follow_answer (ls ++ said) holder s.root (at + 1 - 1) lines (check_from version next (at + 1) []) =
        behind_none s ls at (line ∷ lines) free ∙ ap (judged_cut holder version s ls at (line ∷ lines)) (first_verdict s line lines true (ap is_verdict e))
        ∙ cut_after s ls at line lines 0 stands in
        left ∙ ap (λ t. follow_answer (ls ++ said) holder s.root (at + 1 - 1) lines (check_from version t (at + 1) [])) said_next
        ∙ ap (λ t. judged_from holder version t (ls ++ said) (at + 1) lines) (sym said_next)

    abbrev count : ℕ
    count = lines_to_verdict version (board_of s.root) lines

    abbrev rest : List (List ℕ)
    rest = take count lines

    abbrev answer_with : List Lemma → ℕ → Played
    answer_with ms number = follow_answer ms holder s.root number (drop count lines) (check_from version next (at + 1) rest)

    -- what comes of the other lines, by the position that the proof begins at
    abbrev behind_root : Position → Played
    behind_root root = follow_answer ((ls ++ said) ++ lemmas_said version (board_of root) (take (lines_to_verdict version (board_of root) lines) lines))
        holder root (at + 1 + lines_to_verdict version (board_of root) lines - 1) (drop (lines_to_verdict version (board_of root) lines) lines)
        (check_from version next (at + 1) (take (lines_to_verdict version (board_of root) lines) lines))

    -- before it the proof goes on
    to_line : next.verdict ≡ None → is_verdict (read_line version (board_of s.root) line) ≡ false → GoesOn
    to_line still other = left ∙ ap (λ ms. answer_with ms (at + suc count - 1)) lemmas
        ∙ ap (answer_with ((ls ++ said) ++ lemmas_said version (board_of s.root) rest)) place
        ∙ ap behind_root (sym (with_bytes_root version s line)) ∙ sym (behind_none next (ls ++ said) (at + 1) lines still)
      where
        left : judged_from holder version s ls at (line ∷ lines) ≡ answer_with (ls ++ lemmas_said version (board_of s.root) (line ∷ rest)) (at + suc count - 1)
        left = behind_none s ls at (line ∷ lines) free ∙ ap (judged_cut holder version s ls at (line ∷ lines)) (first_verdict s line lines false other)
            ∙ cut_after s ls at line lines count stands

        lemmas : ls ++ lemmas_said version (board_of s.root) (line ∷ rest) ≡ (ls ++ said) ++ lemmas_said version (board_of s.root) rest
        lemmas = ap (λ more. ls ++ more) (said_first version (board_of s.root) line rest)
            ∙ sym (append_assoc ls said (lemmas_said version (board_of s.root) rest))

        place : at + suc count - 1 ≡ at + 1 + count - 1
        place = omega arith

    pub judged_step : judged_from holder version s ls at (line ∷ lines)
        ≡ judged_from holder version (with_bytes version s line) (ls ++ lemmas_said version (board_of s.root) (line ∷ [])) (at + 1) lines
    judged_step = of_read (read_line version (board_of s.root) line) refl
      where
        of_read : (read : Option Line) → read_line version (board_of s.root) line ≡ read → GoesOn
        of_read None e = absurd (cc (sym stands ∙ unread version s at line e))
        of_read (Some (ALemma l)) e = to_line (ap (λ read. (with_said s read).verdict) e ∙ free) (ap is_verdict e)
        of_read (Some ARemark) e = to_line (ap (λ read. (with_said s read).verdict) e ∙ free) (ap is_verdict e)
        of_read (Some (AVerdict v)) e = to_verdict v e

  -- the whole, from the first line behind the game
  pub judged_whole : (root : Position) (lines : List (List ℕ))
      → follow_cut holder version root lines (lines_to_verdict version (board_of root) lines) ≡ judged_from holder version (start root) [] first_number lines
  judged_whole root lines =
      let count = lines_to_verdict version (board_of root) lines in
      let ls = lemmas_said version (board_of root) (take count lines) in
      let place : count + (first_number - 1) ≡ first_number + count - 1 = omega arith in
      ap (follow_answer ls holder root (count + (first_number - 1)) (drop count lines)) (answer_by_lines version root (take count lines))
      ∙ ap (λ number. follow_answer ls holder root number (drop count lines) (check_from version (start root) first_number (take count lines))) place

-- ---- the first line

-- a first line that names a version
version_first : (version : Version) (more : List (List ℕ)) (bytes : List ℕ) → pieces bytes ≡ first_line version ∷ more → version_of bytes ≡ version
version_first One more bytes cut = ap named_by cut
version_first Two more bytes cut = ap named_by cut

pieces_headed : (holder : Side) (version : Version) (more : List (List ℕ))
    → follow_pieces holder version (first_line version ∷ more) ≡ follow_game holder version (game_at (game_of more)) (behind_game more)
pieces_headed holder version more =
    ap (λ named. cond named (follow_game holder version (game_at (game_of more)) (behind_game more)) (ended (ends.Refused 1 BadLine)))
    ((bytes_eq-Decides (first_line version) (first_line version)).1 refl)

pub headed : (holder : Side) (version : Version) (bytes : List ℕ) (more : List (List ℕ)) → pieces bytes ≡ first_line version ∷ more
    → follow_of holder bytes ≡ follow_game holder version (game_at (game_of more)) (behind_game more)
unfolding follow_of
headed holder version bytes more cut =
    ap (λ named. follow_pieces holder named (pieces bytes)) (version_first version more bytes cut)
    ∙ ap (follow_pieces holder version) cut ∙ pieces_headed holder version more
