-- What lines that stand say of a game that is followed: what comes of the bytes goes on behind them, or how it ends.
use Rattle.std.proofs.Common.{◌≡◌, ℕ, ◌+◌, ◌-◌, ◌<◌, Bool, true, false, cond, List, [], ◌∷◌, ◌++◌, length, Some, None, Result, Ok, Err}
use Rattle.std.proofs.Common.{refl, sym, ap, ◌∙◌, inl, inr, arith, append_assoc, append-nil}
use Rattle.std.specs.Str.{bytes_eq}
use Rattle.game_rules.specs.Position.{Position, board_of, side_to_move}
use Rattle.game_rules.specs.Text.{game_at}
use Rattle.game_rules.specs.declared.Side.{Side}
use Rattle.game_rules.specs.declared.InputFault.{InputFault}
use Rattle.game_rules.proofs.Games.{game_is_read}
use Rattle.io_ports.specs.Reading.{PassesLines}
use Rattle.proof_text.specs.Checked.{Why, CheckerState}
use Rattle.proof_text.specs.Lemma.{Lemma}
use Rattle.proof_text.specs.Texts as answers
use Rattle.proof_text.specs.Texts.{pieces, lines_in, game_of, behind_game, first_number, first_line, version_of, start, check_of, check_in, game_answer}
use Rattle.proof_text.specs.Texts.{answer_of, pieces_answer, named_by, check_from, verdict_answer, lemmas_said, bytes_refusal, with_bytes, line_answer}
use Rattle.proof_text.specs.declared.Verdict.{Verdict}
use Rattle.proof_text.specs.declared.Version.{Version}
use Rattle.proof_text.specs.declared.Version.TheVariants.{One, Two}
use Rattle.proof_text.specs.declared.Why.TheVariants.{BadLine, EndedEarly}
use Rattle.proof_text.proofs.Accepted.{with_bytes_root, said_first}
use Rattle.proof_text.proofs.First.{only_no_game, refused_first}
use Rattle.proof_text.proofs.Fold.{answer_by_lines, bytes_of_none}
use Rattle.proof_text.proofs.Pieces.{pieces_some}
use Rattle.proof_text.proofs.Refusals.{line_of_none}
use Rattle.run_proof.specs.Checking.{why_of}
use Rattle.play_text.specs.Play as ends
use Rattle.play_text.specs.Play.{ended}
use Rattle.follow_text.specs.Follow.{named_for, follow_named, follow_game, follow_pieces, follow_of, judged_behind, judged_from}
use Rattle.follow_text.proofs.Judged.{headed, judged_whole, judged_ended, judged_refused, judged_step}
use Rattle.run_frame.specs.declared.game_input.InputStop.TheVariants as inputs
use Rattle.run_proof.specs.Heads.{StopsBy, IsFirstStop, head_lines}
use Rattle.run_proof.specs.Lines.{Stand, Progress, said, HasLines, IsRefused, StopsIn}
use Rattle.run_proof.specs.declared.head.Head.{Head}
use Rattle.run_proof.specs.declared.stop.ProofStop.{ProofStop}
use Rattle.run_proof.specs.declared.stop.ProofStop.TheVariants as stops
use Rattle.run_proof.proofs.Stand.{stand_answer}
use Rattle.run_follow.specs.Begun.{HasVerdict}
use Rattle.run_follow.specs.Reading.{StopsProof}

-- ---- the first line

-- a game that is none is so for `check` and for `follow`
no_game : (holder : Side) (bytes : List ℕ) (fault : InputFault) → check_of bytes ≡ answers.NoGame fault → follow_of holder bytes ≡ ended (ends.NoGame fault)
unfolding check_of
no_game holder bytes fault is =
    let found = only_no_game (version_of bytes) bytes fault is in
    headed holder (version_of bytes) bytes found.0 found.1
    ∙ ap (λ game. follow_game holder (version_of bytes) game (behind_game found.0)) found.2

-- what is refused at the first line names no version
refused_there : (holder : Side) (version : Version) (first : List ℕ) (more : List (List ℕ)) (at : ℕ) (why : Why) → at ≡ 1
    → pieces_answer version (first ∷ more) ≡ answers.Refused at why → follow_pieces holder version (first ∷ more) ≡ ended (ends.Refused at why)
refused_there holder version first more at why one is = of_first (bytes_eq first (first_line version)) refl is
  where
    not_game : (game : Result Position InputFault) → game_answer version game (behind_game more) ≡ answers.Refused at why → ⊥
    not_game (Err fault) is = cc
    not_game (Ok root) is = elim (refused_first version root (behind_game more) at why is) [
      | inl line ↦ absurd (omega (arith, one, line.2))
      | inr end ↦ absurd (omega (arith, one, end.0))
    ]

    of_first : (named : Bool) → bytes_eq first (first_line version) ≡ named
        → cond named (game_answer version (game_at (game_of more)) (behind_game more)) (answers.Refused 1 BadLine) ≡ answers.Refused at why
        → cond named (follow_game holder version (game_at (game_of more)) (behind_game more)) (ended (ends.Refused 1 BadLine))
        ≡ ended (ends.Refused at why)
    of_first true e is = absurd (not_game (game_at (game_of more)) is)
    of_first false e is = let number : 1 ≡ at = cc in let name : BadLine ≡ why = cc in cc (number, name)

refused_first_line : (holder : Side) (bytes : List ℕ) (at : ℕ) (why : Why) → at ≡ 1 → check_of bytes ≡ answers.Refused at why
    → follow_of holder bytes ≡ ended (ends.Refused at why)
unfolding check_of check_in follow_of
refused_first_line holder bytes at why one is =
    let some = pieces_some bytes in
    ap (follow_pieces holder (version_of bytes)) some.2
    ∙ refused_there holder (version_of bytes) some.0 some.1 at why one (sym (ap (pieces_answer (version_of bytes)) some.2) ∙ is)

-- ---- where the verdict stands

-- a proof has a line, and stands behind the first line and the game
first_lines : (bytes : List ℕ) (root : Position) (ls : List Lemma) (v : Verdict) (at : ℕ) (moves : List (List ℕ)) → HasVerdict bytes root ls v at moves → 3 < at
first_lines bytes root ls v at moves has = of_proof has.proof refl
  where
    of_proof : (proof : List (List ℕ)) → has.proof ≡ proof → 3 < at
    of_proof [] none =
        let never : answers.Refused first_number EndedEarly ≡ answers.Accepted v has.count =
        sym (answer_by_lines has.version root []) ∙ sym (ap (answer_of has.version root) none) ∙ has.accepted in
        absurd (cc never)
    of_proof (line ∷ proof) some = omega (arith, has.number, ap length some)

-- the first line names one version
same_version : (version other : Version) (more others : List (List ℕ)) → first_line version ∷ more ≡ first_line other ∷ others → version ≡ other
same_version version other more others is = sym (named version more) ∙ ap named_by is ∙ named other others
  where
    named : (version : Version) (more : List (List ℕ)) → named_by (first_line version ∷ more) ≡ version
    named One more = refl
    named Two more = refl

-- ---- lines that stand

module _ (version : Version) where
  -- none stands behind a verdict
  none_behind : (s : CheckerState) (at : ℕ) (line : List ℕ) → bytes_refusal version s at line ≡ None → s.verdict ≡ None
  none_behind s at line stands = let found = bytes_of_none version s at line stands in (line_of_none s found.0 found.2).0

  -- what comes of further lines is what comes of those behind them
  stand_judged : (holder : Side) (s t : CheckerState) (ls : List Lemma) (at : ℕ) (lines more : List (List ℕ)) → Stand version s at lines t
      → judged_from holder version s ls at (lines ++ more) ≡ judged_from holder version t (ls ++ said version s lines) (at + length lines) more
  stand_judged holder s t ls at [] more stand =
      let same : at ≡ at + length {A = List ℕ} [] = omega arith in
      ap (λ s. judged_from holder version s ls at more) (sym stand) ∙ ap (λ n. judged_from holder version t ls n more) same
      ∙ ap (λ ls. judged_from holder version t ls (at + length {A = List ℕ} []) more) (sym (append-nil ls))
  stand_judged holder s t ls at (x ∷ xs) more stand =
      let here = said version s (x ∷ []) in
      let moved : at + 1 + length xs ≡ at + length (x ∷ xs) = omega arith in
      judged_step holder version s ls at x (xs ++ more) (none_behind s at x stand.0) stand.0
      ∙ stand_judged holder (with_bytes version s x) t (ls ++ here) (at + 1) xs more stand.1
      ∙ ap (λ (root : Position). judged_from holder version t ((ls ++ here) ++ lemmas_said version (board_of root) xs) (at + 1 + length xs) more)
      (with_bytes_root version s x)
      ∙ ap (λ ls. judged_from holder version t ls (at + 1 + length xs) more)
      (append_assoc ls here (said version s xs) ∙ ap (λ more. ls ++ more) (sym (said_first version (board_of s.root) x xs)))
      ∙ ap (λ n. judged_from holder version t (ls ++ said version s (x ∷ xs)) n more) moved

  -- a proof ends in a verdict, so it has a line where none stands
  proof_goes : (s : CheckerState) (at : ℕ) (v : Verdict) (count : ℕ) → s.verdict ≡ None → check_from version s at [] ≡ answers.Accepted v count → ⊥
  proof_goes s at v count free is =
      let never : answers.Refused at EndedEarly ≡ answers.Accepted v count = sym (ap (verdict_answer at (length s.known)) free) ∙ is in cc never

  -- where there is none behind them, it stands behind more lines
  stand_open : (s t : CheckerState) (at : ℕ) (lines more proof moves : List (List ℕ)) (v : Verdict) (count : ℕ) → Stand version s at lines t → t.verdict ≡ None
      → lines ++ more ≡ proof ++ moves → check_from version s at proof ≡ answers.Accepted v count → length lines < length proof
  stand_open s t at [] more [] moves v count stand free cut is = absurd (proof_goes s at v count (sym (ap (λ s. s.verdict) stand) ∙ free) is)
  stand_open s t at [] more (y ∷ ys) moves v count stand free cut is = omega arith
  stand_open s t at (x ∷ xs) more [] moves v count stand free cut is = absurd (proof_goes s at v count (none_behind s at x stand.0) is)
  stand_open s t at (x ∷ xs) more (y ∷ ys) moves v count stand free cut is =
      let same : x ≡ y = cc cut in
      let rest : xs ++ more ≡ ys ++ moves = cc cut in
      let goes : check_from version s at (x ∷ ys) ≡ check_from version (with_bytes version s x) (at + 1) ys =
      ap (λ refusal. line_answer refusal at (check_from version (with_bytes version s x) (at + 1) ys)) stand.0 in
      omega (
        arith,
        stand_open (with_bytes version s x) t (at + 1) xs more ys moves v count stand.1 free rest
            (sym goes ∙ ap (λ x. check_from version s at (x ∷ ys)) same ∙ is),
      )

  -- the next line is refused
  refused_next : (holder : Side) (s : CheckerState) (ls : List Lemma) (at : ℕ) (lines : List (List ℕ)) (why : Why) → s.verdict ≡ None
      → IsRefused version s at lines why → judged_from holder version s ls at lines ≡ ended (ends.Refused at why)
  refused_next holder s ls at [] why free is = judged_ended holder version s ls at free ∙ ap (λ why. ended (ends.Refused at why)) (sym is.1)
  refused_next holder s ls at (line ∷ lines) why free is = judged_refused holder version s ls at line lines why free is

-- ---- behind a head

module _ (head : Head) (t : Progress) (bytes : List ℕ) (more : List (List ℕ)) (has : HasLines None head t bytes more) where
  abbrev root : Position
  root = head.game.position

  game : game_at (game_of has.more) ≡ Ok root
  game = game_is_read (game_of has.more) head.game has.text

  lines_followed : (holder : Side) → follow_of holder bytes ≡ judged_from holder head.version t.stands t.lemmas t.next more
  lines_followed holder =
      headed holder head.version bytes has.more has.cut
      ∙ ap (λ game. follow_game holder head.version game (behind_game has.more)) game
      ∙ ap (follow_game holder head.version (Ok root)) has.all
      ∙ judged_whole holder head.version root (has.lines ++ more)
      ∙ stand_judged head.version holder (start root) t.stands [] first_number has.lines more has.passes.stand
      ∙ ap (λ ls. judged_from holder head.version t.stands ls (first_number + length has.lines) more) (sym has.passes.say)
      ∙ ap (λ n. judged_from holder head.version t.stands t.lemmas n more) (sym has.passes.counted)

  module _ (v : Verdict) (at : ℕ) (is_verdict : t.stands.verdict ≡ Some v) (end : t.next ≡ at + 1) (is_root : t.stands.root ≡ root) where
    -- the lines are a proof that the verdict ends
    pub has_verdict : HasVerdict bytes root t.lemmas v at more
    has_verdict = record {
      version = head.version;
      more = has.more;
      first = has.cut;
      game = game;
      proof = has.lines;
      behind = has.all;
      count = length t.stands.known;
      accepted = answer_by_lines head.version root has.lines ∙ ap (check_from head.version (start root) first_number) (sym (append-nil has.lines))
          ∙ stand_answer head.version (start root) t.stands first_number has.lines [] has.passes.stand
          ∙ ap (verdict_answer (first_number + length has.lines) (length t.stands.known)) is_verdict;
      says = has.passes.say;
      number = omega (arith, has.passes.counted, end);
    }

    -- behind it play goes on
    pub verdict_followed : (holder : Side) → follow_of holder bytes ≡ follow_named t.lemmas holder root at more (named_for holder (side_to_move root) v)
    verdict_followed holder =
        let same : t.next - 1 ≡ at = omega (arith, end) in
        lines_followed holder ∙ ap (judged_behind holder head.version t.stands t.lemmas t.next more) is_verdict
        ∙ ap (λ root. follow_named t.lemmas holder root (t.next - 1) more (named_for holder (side_to_move root) v)) is_root
        ∙ ap (λ at. follow_named t.lemmas holder root at more (named_for holder (side_to_move root) v)) same

  -- what stops the reading behind them
  pub lines_stop : (rest : List ℕ) (before after : ℕ) (stop : ProofStop) → t.stands.verdict ≡ None → StopsIn head.version t.stands t.next more stop
      → StopsBy None bytes before after stop → (stop ≡ stops.Input inputs.Read → PassesLines (t.next - 1) bytes rest) → StopsProof bytes rest before after stop
  lines_stop rest before after (stops.Input (inputs.NoGame fault)) free stopped by passes = absurd stopped
  lines_stop rest before after stops.Memory free stopped by passes = by
  lines_stop rest before after (stops.Refused r) free stopped by passes = λ holder.
      lines_followed holder ∙ refused_next head.version holder t.stands t.lemmas t.next more (why_of r.why) free stopped.1
      ∙ ap (λ at. ended (ends.Refused at (why_of r.why))) (sym stopped.0)
  lines_stop rest before after (stops.Input inputs.Read) free stopped by passes = (by, (t.next - 1, passes refl, later))
    where
      later : (other : Position) (ls : List Lemma) (v : Verdict) (at : ℕ) (moves : List (List ℕ)) → HasVerdict bytes other ls v at moves
          → t.next - 1 < at
      later other ls v at moves verdict =
          let same : first_line head.version ∷ has.more ≡ first_line verdict.version ∷ verdict.more = sym has.cut ∙ verdict.first in
          let version_is : head.version ≡ verdict.version = same_version head.version verdict.version has.more verdict.more same in
          let more_is : has.more ≡ verdict.more = cc same in
          let read : Ok root ≡ Ok other = sym game ∙ ap (λ more. game_at (game_of more)) more_is ∙ verdict.game in
          let root_is : root ≡ other = cc read in
          let accepted : check_from head.version (start root) first_number verdict.proof ≡ answers.Accepted v verdict.count =
          ap (λ version. check_from version (start root) first_number verdict.proof) version_is
          ∙ ap (λ root. check_from verdict.version (start root) first_number verdict.proof) root_is
          ∙ sym (answer_by_lines verdict.version other verdict.proof) ∙ verdict.accepted in
          let fewer = stand_open head.version (start root) t.stands first_number has.lines more verdict.proof moves v verdict.count has.passes.stand free
          (sym has.all ∙ ap behind_game more_is ∙ verdict.behind) accepted in
          omega (arith, has.passes.counted, verdict.number, fewer)

-- what stops it in the head
pub head_stop : (bytes rest : List ℕ) (before after : ℕ) (stop : ProofStop) → IsFirstStop stop → StopsBy None bytes before after stop
    → PassesLines (head_lines stop) bytes rest → StopsProof bytes rest before after stop
head_stop bytes rest before after (stops.Input (inputs.NoGame fault)) first by passes = λ holder. no_game holder bytes fault by
head_stop bytes rest before after (stops.Input inputs.Read) first by passes =
    (by, (3, passes, λ root ls v at moves has. omega (arith, first_lines bytes root ls v at moves has)))
head_stop bytes rest before after (stops.Refused r) first by passes = λ holder. refused_first_line holder bytes r.at (why_of r.why) first by
head_stop bytes rest before after stops.Memory first by passes = absurd first
