-- Looking for the first line that fails is going through the lines one by one.
use Rattle.std.proofs.Common.{◌≡◌, ℕ, ◌+◌, Bool, true, false, nat_le, List, [], ◌∷◌, ◌++◌, length, Option, Some, None, refl, sym, ap, ◌∙◌, append_assoc}
use Rattle.std.proofs.Common.{append-nil, arith}
use Rattle.std.specs.List.{range_with_len, filter_map, slice_index_or}
use Rattle.std.proofs.lemmas.List.{length-append}
use Rattle.std.proofs.lemmas.List.Elements.{filter_map-append}
use Rattle.std.proofs.Math.Seq.{take-append_seam}
use Rattle.game_rules.specs.Position.{Position, board_of}
use Rattle.proof_text.specs.Lemma.{Line, ALemma, ARemark, AVerdict}
use Rattle.proof_text.specs.Right.{Shown}
use Rattle.proof_text.specs.Checked.{Why, first_verdict, unless, CheckerState, line_refusal, shown_of, with_line}
use Rattle.proof_text.specs.Reading.{read_line}
use Rattle.proof_text.specs.Texts.{most_lines, first_number, shown_by, state_after, said_refusal, bytes_refusal, refusal_at, first_or, first_some}
use Rattle.proof_text.specs.Texts.{verdict_answer, lines_answer, with_said, with_bytes, line_answer, check_from, start, answer_of}
use Rattle.proof_text.proofs.Refusals.{or_none, line_of_none}
use Rattle.proof_text.specs.declared.Verdict.{Verdict}
use Rattle.proof_text.specs.declared.Version.{Version}
use Rattle.proof_text.specs.declared.Why.TheVariants.{BadLine}

-- ---- what stands after one more line

shown_push : (root : Position) (said : List Line) (line : Line) → shown_by root (said ++ line ∷ []) ≡ shown_by root said ++ shown_by root (line ∷ [])
shown_push root [] line = refl
shown_push root (ALemma l ∷ said) line = ap (λ more. shown_of root l ++ more) (shown_push root said line)
    ∙ sym (append_assoc (shown_of root l) (shown_by root said) (shown_by root (line ∷ [])))
shown_push root (ARemark ∷ said) line = shown_push root said line
shown_push root (AVerdict v ∷ said) line = shown_push root said line

verdict_push : (said : List Line) (line : Line) → first_verdict said ≡ None → first_verdict (said ++ line ∷ []) ≡ first_verdict (line ∷ [])
verdict_push [] line h = refl
verdict_push (ALemma l ∷ said) line h = verdict_push said line h
verdict_push (ARemark ∷ said) line h = verdict_push said line h
verdict_push (AVerdict v ∷ said) line h = cc

abbrev stand : Position → List Shown → Option Verdict → CheckerState
stand root known verdict = record { root = root; known = known; verdict = verdict }

-- a line that is said, behind no verdict
said_push : (root : Position) (said : List Line) (line : Line) → first_verdict said ≡ None
    → stand root (shown_by root (said ++ line ∷ [])) (first_verdict (said ++ line ∷ [])) ≡ with_line (stand root (shown_by root said) (first_verdict said)) line
said_push root said line h =
    ap (λ known. stand root known (first_verdict (said ++ line ∷ []))) (shown_push root said line)
    ∙ ap (λ verdict. stand root (shown_by root said ++ shown_by root (line ∷ [])) verdict) (verdict_push said line h) ∙ of_line line
  where
    of_line : (line : Line) → stand root (shown_by root said ++ shown_by root (line ∷ [])) (first_verdict (line ∷ []))
        ≡ with_line (stand root (shown_by root said) (first_verdict said)) line
    of_line (ALemma l) = ap (λ more. stand root (shown_by root said ++ more) None) (append-nil (shown_of root l))
        ∙ ap (λ verdict. stand root (shown_by root said ++ shown_of root l) verdict) (sym h)
    of_line ARemark = ap (λ known. stand root known None) (append-nil (shown_by root said)) ∙ ap (λ verdict. stand root (shown_by root said) verdict) (sym h)
    of_line (AVerdict v) = ap (λ known. stand root known (Some v)) (append-nil (shown_by root said))

-- ---- the first line that fails

pub index_seam : (before : List (List ℕ)) (line : List ℕ) (rest : List (List ℕ)) → slice_index_or (before ++ line ∷ rest) (length before) [] ≡ line
index_seam [] line rest = refl
index_seam (first ∷ before) line rest = index_seam before line rest

module _ (version : Version) where
  -- a line that isn't refused is one, within the bounds, and stands behind no verdict
  pub bytes_of_none : (s : CheckerState) (at : ℕ) (bytes : List ℕ) → bytes_refusal version s at bytes ≡ None
      → (line : Line) × (read_line version (board_of s.root) bytes ≡ Some line) × (line_refusal s line ≡ None) × (nat_le at most_lines ≡ true)
  bytes_of_none s at bytes h =
      let both = or_none (unless (nat_le at most_lines) BadLine) (said_refusal s (read_line version (board_of s.root) bytes)) h in
      said (read_line version (board_of s.root) bytes) refl both.1 (bound (nat_le at most_lines) both.0)
    where
      bound : (b : Bool) → unless b BadLine ≡ None → b ≡ true
      bound true h = refl
      bound false h = cc

      said : (line : Option Line) → read_line version (board_of s.root) bytes ≡ line → said_refusal s line ≡ None → nat_le at most_lines ≡ true
          → (line : Line) × (read_line version (board_of s.root) bytes ≡ Some line) × (line_refusal s line ≡ None) × (nat_le at most_lines ≡ true)
      said None e h bounds = cc
      said (Some line) e h bounds = (line, e, h, bounds)

  -- what stands after one more line that isn't refused
  pub state_after_push : (root : Position) (before : List (List ℕ)) (at : ℕ) (bytes : List ℕ)
      → bytes_refusal version (state_after version root before) at bytes ≡ None
      → state_after version root (before ++ bytes ∷ []) ≡ with_bytes version (state_after version root before) bytes
  state_after_push root before at bytes h =
      let found = bytes_of_none (state_after version root before) at bytes h in
      let board = board_of root in
      let said = filter_map (read_line version board) before in
      let more : filter_map (read_line version board) (before ++ bytes ∷ [])
      ≡ said ++ found.0 ∷ [] = filter_map-append (read_line version board) before (bytes ∷ [])
      ∙ ap (λ more. said ++ more) (one (read_line version board bytes) found.0 found.1) in
      ap (λ said. stand root (shown_by root said) (first_verdict said)) more
      ∙ said_push root said found.0 (line_of_none (state_after version root before) found.0 found.2).0
      ∙ ap (with_said (state_after version root before)) (sym found.1)
    where
      one : (read : Option Line) (line : Line) → read ≡ Some line → filter_map (λ (bytes : List ℕ). read) (bytes ∷ []) ≡ line ∷ []
      one read line e = rw e refl

  fold_from : (root : Position) (rest before : List (List ℕ))
      → lines_answer version root (before ++ rest) (first_some (refusal_at version root (before ++ rest)) (range_with_len (length before) (length rest)))
      ≡ check_from version (state_after version root before) (length before + first_number) rest
  fold_from root [] before = ap
      (λ lines. verdict_answer (length lines + first_number) (length (state_after version root lines).known) (state_after version root lines).verdict)
      (append-nil before)
  fold_from root (line ∷ rest) before = of_refusal (bytes_refusal version (state_after version root before) (length before + first_number) line) refl
      (fold_from root rest (before ++ line ∷ []))
    where
      whole : List (List ℕ)
      whole = before ++ line ∷ rest

      here : refusal_at version root (before ++ line ∷ rest) (length before)
          ≡ bytes_refusal version (state_after version root before) (length before + first_number) line
      here = ap (λ prefix. bytes_refusal version (state_after version root prefix) (length before + first_number)
          (slice_index_or (before ++ line ∷ rest) (length before) []))
          (take-append_seam before (line ∷ rest))
          ∙ ap (bytes_refusal version (state_after version root before) (length before + first_number)) (index_seam before line rest)

      longer : length (before ++ line ∷ []) ≡ length before + 1
      longer = length-append before (line ∷ [])

      of_refusal : (r : Option Why) → bytes_refusal version (state_after version root before) (length before + first_number) line ≡ r
          → lines_answer version root ((before ++ line ∷ []) ++ rest)
          (first_some (refusal_at version root ((before ++ line ∷ []) ++ rest)) (range_with_len (length (before ++ line ∷ [])) (length rest)))
          ≡ check_from version (state_after version root (before ++ line ∷ [])) (length (before ++ line ∷ []) + first_number) rest
          → lines_answer version root (before ++ line ∷ rest)
          (first_or (refusal_at version root (before ++ line ∷ rest) (length before)) (length before)
          (first_some (refusal_at version root (before ++ line ∷ rest)) (range_with_len (length before + 1) (length rest))))
          ≡ line_answer (bytes_refusal version (state_after version root before) (length before + first_number) line) (length before + first_number)
          (check_from version (with_bytes version (state_after version root before) line) (length before + first_number + 1) rest)
      of_refusal (Some why) e later = rw (here, e) refl
      of_refusal None e later = rw (here, e) (
          ap (λ lines. lines_answer version root lines (first_some (refusal_at version root lines) (range_with_len (length before + 1) (length rest))))
          (sym (append_assoc before (line ∷ []) rest))
          ∙ ap (λ n. lines_answer version root ((before ++ line ∷ []) ++ rest)
          (first_some (refusal_at version root ((before ++ line ∷ []) ++ rest)) (range_with_len n (length rest)))) (sym longer)
          ∙ later
          ∙ ap (λ s. check_from version s (length (before ++ line ∷ []) + first_number) rest)
          (state_after_push root before (length before + first_number) line e)
          ∙ ap (λ n. check_from version (with_bytes version (state_after version root before) line) n rest) (omega (arith, longer)))

  -- the answer to the lines behind a game is that of going through them
  pub answer_by_lines : (root : Position) (lines : List (List ℕ)) → answer_of version root lines ≡ check_from version (start root) first_number lines
  answer_by_lines root lines = fold_from root lines []
