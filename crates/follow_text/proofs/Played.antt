-- An input whose proof is accepted and names a lemma for the holder, with legal moves behind it, is played to its end.
use Rattle.std.proofs.Common.{◌≡◌, ℕ, suc, ◌+◌, ◌-◌, true, false, List, [], ◌∷◌, ◌++◌, map, length, drop, Option, Some, None, Ok, refl, sym, ap, ◌∙◌, subst}
use Rattle.std.proofs.Common.{append_assoc}
use Rattle.std.specs.List.{AllByRecursion}
use Rattle.std.proofs.lemmas.Bool.{and_parts}
use Rattle.std.proofs.lemmas.Option.{same_Some}
use Rattle.std.proofs.Math.Seq.{take-append_seam, drop-append_seam}
use Rattle.game_rules.specs.Board.{Board}
use Rattle.game_rules.specs.Position.{Position, board_of, side_to_move, end_of, is_legal, after_move}
use Rattle.game_rules.specs.Text.{game_at}
use Rattle.game_rules.specs.declared.Side.{Side}
use Rattle.game_rules.specs.declared.End.{End}
use Rattle.plan_rules.specs.Plan.{is_nil}
use Rattle.proof_text.specs.Lemma.{Lemma, ALemma, ARemark, AVerdict}
use Rattle.proof_text.specs.Right.{Shown, Shows, AreRight}
use Rattle.proof_text.specs.Spelling.{lemma_text, verdict_text, VerdictFits}
use Rattle.proof_text.specs.Texts.{pieces, game_of, behind_game, first_number, first_line, lemmas_said, answer_of, Accepted, Entry, LemmaEntry, RemarkEntry}
use Rattle.proof_text.specs.Texts.{entry_text, EntryFits}
use Rattle.proof_text.specs.declared.Claim.{Claim}
use Rattle.proof_text.specs.declared.Verdict.{Verdict}
use Rattle.proof_text.specs.declared.Version.{Version}
use Rattle.proof_text.proofs.Accepted.{AreAccepted, accepted_lines, said_entries}
use Rattle.proof_text.proofs.Fold.{answer_by_lines}
use Rattle.proof_text.proofs.Spelled.{line_spelled}
use Rattle.play_text.specs.Play.{AllPlayed, move_line, turns_from}
use Rattle.play_text.proofs.Turned.{legal_line, legal_unrefused}
use Rattle.follow_text.specs.Following.{Following, at_lemma, own_move_at, answer_to, are_legal, is_game_by}
use Rattle.follow_text.specs.Follow.{answered_with, follow_turn, follow_at, named_for, follow_named, follow_answer, lines_to_verdict, follow_cut, follow_game}
use Rattle.follow_text.specs.Follow.{follow_of}
use Rattle.follow_text.proofs.Games.{names_move, names_none, turn_passed}
use Rattle.follow_text.proofs.Judged.{headed}
use Rattle.follow_text.proofs.Moves.{own_answer}
use Rattle.follow_text.proofs.Steps.{Stands, answered_by, named_serves}

-- ---- the moves

nil_is : (columns : List ℕ) → is_nil columns ≡ true → columns ≡ []
nil_is [] is = refl
nil_is (column ∷ columns) is = cc is

module _ (root : Position) (ls : List Lemma) (after : List Shown) (claim : Claim) (right : AreRight root [] ls after) (holder : Side) where
  -- behind a turn the other columns are legal
  later_legal : (x next : Following × Position) (column : ℕ) (columns line : List ℕ) → follow_turn ls holder x column ≡ Some (line, next)
      → are_legal ls x.0 x.1 (column ∷ columns) ≡ true → are_legal ls next.0 next.1 columns ≡ true
  later_legal (s, q) next column columns line made legal = of_end (end_of (after_move q column)) refl
    where
      of_answer : (answer : Option (ℕ × Following)) → end_of (after_move q column) ≡ None → answer_to ls s q column ≡ answer
          → are_legal ls next.0 next.1 columns ≡ true
      of_answer None going e =
          let none : follow_turn ls holder (s, q) column ≡ None = rw (going, e) refl in
          let never : None ≡ Some (line, next) = sym none ∙ made in
          absurd (cc never)
      of_answer (Some answer) going e =
          let one : follow_turn ls holder (s, q) column ≡ Some (answered_with holder q column answer) = rw (going, e) refl in
          let turn = same_Some (answered_with holder q column answer) (line, next) (sym one ∙ made) in
          let here : are_legal ls answer.1 (after_move (after_move q column) answer.0) columns ≡ true =
          rw (going, e) at (and_parts (is_legal q column) _ legal).1 in
          ap (λ (turn : List ℕ × (Following × Position)). are_legal ls turn.1.0 turn.1.1 columns) (sym turn) ∙ here

      of_end : (end : Option End) → end_of (after_move q column) ≡ end → are_legal ls next.0 next.1 columns ≡ true
      of_end None going = of_answer (answer_to ls s q column) going refl
      of_end (Some e) ended =
          let none : is_nil columns ≡ true = rw ended at (and_parts (is_legal q column) _ legal).1 in
          rw (nil_is columns none) refl

  -- legal columns are all played
  turns_played : (columns : List ℕ) (x : Following × Position) (at : ℕ) → Stands root ls after claim right x.0 x.1 → are_legal ls x.0 x.1 columns ≡ true
      → (turns_from (λ x. x.1) (follow_turn ls holder) x at (map move_line columns)).end ≡ AllPlayed
  turns_played [] x at stands legal = refl
  turns_played (column ∷ columns) x at stands legal =
      let here = (and_parts (is_legal x.1 column) _ legal).0 in
      let has = answered_by root ls after claim right holder x column stands here in
      let later = turns_played columns has.next (at + 1) has.kept (later_legal x has.next column columns has.line has.made legal) in
      rw (legal_line x.1 column here, legal_unrefused x.1 column here, has.made) later

  -- the same from a lemma at the root
  begun_played : (n at : ℕ) (columns : List ℕ) → Shows after n root claim → is_game_by ls root n columns ≡ true
      → (follow_at ls holder root n at (map move_line columns)).end ≡ AllPlayed
  begun_played n at columns shows legal = of_found (own_move_at ls (length root.columns) n false) refl
    where
      of_found : (found : Option (ℕ × Following)) → own_move_at ls (length root.columns) n false ≡ found
          → (follow_at ls holder root n at (map move_line columns)).end ≡ AllPlayed
      of_found None is =
          let rest : are_legal ls (at_lemma n false) root columns ≡ true = rw is at legal in
          rw is (turns_played columns (at_lemma n false, root) at
          (λ going. (shows, names_none root ls after claim right n false root shows is going)) rest)
      of_found (Some found) is =
          let turn = names_move root ls after claim right n false root found shows is in
          let has = own_answer root ls after claim right n false root shows turn.1 turn.0 in
          let rest : are_legal ls has.next (after_move root has.column) columns ≡ true = rw has.is at legal in
          rw has.is (turns_played columns (has.next, after_move root has.column) at
          (λ on. (has.follows, turn_passed claim root has.column turn.1 has.legal)) rest)

-- ---- the proof

-- the verdict of an accepted proof is the first line that reads as one
verdict_first : (version : Version) (board : Board) (entries : List Entry) (v : Verdict) (rest : List (List ℕ))
    → AllByRecursion (EntryFits version board) entries → VerdictFits v
    → lines_to_verdict version board (map entry_text entries ++ verdict_text v ∷ rest) ≡ length (map entry_text entries ++ verdict_text v ∷ [])
verdict_first version board [] v rest fit fits = rw (line_spelled version board (verdict_text v) (AVerdict v) (refl, (fits, refl))) refl
verdict_first version board (LemmaEntry l ∷ entries) v rest fit fits =
    rw (line_spelled version board (lemma_text l) (ALemma l) (fit.0.0, (fit.0.1, refl))) (ap suc (verdict_first version board entries v rest fit.1 fits))
verdict_first version board (RemarkEntry bytes ∷ entries) v rest fit fits =
    rw (line_spelled version board bytes ARemark (refl, fit.0)) (ap suc (verdict_first version board entries v rest fit.1 fits))

pub legal_input_played : (holder : Side) (version : Version) (bytes : List ℕ) (more : List (List ℕ)) (root : Position) (proof : List (List ℕ))
    (columns : List ℕ) (v : Verdict) (count n : ℕ) → pieces bytes ≡ first_line version ∷ more → game_at (game_of more) ≡ Ok root
    → behind_game more ≡ proof ++ map move_line columns → answer_of version root proof ≡ Accepted v count
    → named_for holder (side_to_move root) v ≡ Some n → is_game_by (lemmas_said version (board_of root) proof) root n columns ≡ true
    → (follow_of holder bytes).end ≡ AllPlayed
legal_input_played holder version bytes more root proof columns v count n first game lines answer named legal =
    let moves = map move_line columns in
    let ls = lemmas_said version (board_of root) proof in
    let accepted : AreAccepted version root [] first_number proof v count =
    accepted_lines version root [] first_number proof v count (sym (answer_by_lines version root proof) ∙ answer) in
    let said = ap (lemmas_said version (board_of root)) accepted.spelled
    ∙ said_entries version (board_of root) accepted.entries v accepted.fit accepted.verdict_fits in
    let right : AreRight root [] ls accepted.after = subst (λ ls. AreRight root [] ls accepted.after) (sym said) accepted.right in
    let serves = named_serves root accepted.after holder v n accepted.verdict_right named in
    let split : proof ++ moves ≡ map entry_text accepted.entries ++ verdict_text v ∷ moves =
    ap (λ proof. proof ++ moves) accepted.spelled ∙ append_assoc (map entry_text accepted.entries) (verdict_text v ∷ []) moves in
    let until : lines_to_verdict version (board_of root) (proof ++ moves) ≡ length proof =
    ap (lines_to_verdict version (board_of root)) split ∙ verdict_first version (board_of root) accepted.entries v moves accepted.fit accepted.verdict_fits
    ∙ ap length (sym accepted.spelled) in
    let at = length proof + (first_number - 1) in
    ap (λ played. played.end) (headed holder version bytes more first
    ∙ ap (λ game. follow_game holder version game (behind_game more)) game
    ∙ ap (follow_game holder version (Ok root)) lines
    ∙ ap (follow_cut holder version root (proof ++ moves)) until
    ∙ ap (λ proof_lines. follow_answer (lemmas_said version (board_of root) proof_lines) holder root at (drop (length proof) (proof ++ moves))
    (answer_of version root proof_lines)) (take-append_seam proof moves)
    ∙ ap (λ rest. follow_answer ls holder root at rest (answer_of version root proof)) (drop-append_seam proof moves)
    ∙ ap (follow_answer ls holder root at moves) answer
    ∙ ap (follow_named ls holder root at moves) named)
    ∙ begun_played root ls accepted.after serves.0 right holder n (at + 1) columns serves.1 legal
