-- What a whole input gives tells a game in which the holder is served.
use Rattle.std.proofs.Common.{◌≡◌, ℕ, ◌+◌, ◌-◌, Bool, true, false, List, [], ◌∷◌, take, drop, ◌++◌, length, Option, Some, None, Result, Ok, Err, refl, sym, ap}
use Rattle.std.proofs.Common.{◌∙◌, subst}
use Rattle.std.specs.Str.{bytes_eq}
use Rattle.std.proofs.lemmas.List.{take-append-drop}
use Rattle.std.proofs.lemmas.Option.{same_Some}
use Rattle.std.proofs.lemmas.Slice.Eq.{bytes_eq-Decides}
use Rattle.game_rules.specs.Position.{Position, board_of, side_to_move, end_of, after_move}
use Rattle.game_rules.specs.Text.{game_at}
use Rattle.game_rules.specs.declared.Side.{Side}
use Rattle.game_rules.specs.declared.End.{End}
use Rattle.game_rules.specs.declared.InputFault.{InputFault}
use Rattle.game_rules.proofs.Ends.{legal_parts}
use Rattle.game_rules.proofs.Grammar.{game_along}
use Rattle.proof_text.specs.Lemma.{Lemma, claims_win}
use Rattle.proof_text.specs.Right.{Shows, AreRight}
use Rattle.proof_text.specs.Texts as texts
use Rattle.proof_text.specs.Texts.{pieces, game_of, behind_game, first_number, first_line, version_of, lemmas_said, answer_of, CheckAnswer}
use Rattle.proof_text.specs.declared.Claim.{Claim}
use Rattle.proof_text.specs.declared.Verdict.{Verdict}
use Rattle.proof_text.specs.declared.Version.{Version}
use Rattle.proof_text.proofs.Accepted.{AreAccepted, accepted_lines, said_entries}
use Rattle.proof_text.proofs.Fold.{answer_by_lines}
use Rattle.proof_text.proofs.Pieces.{pieces_some}
use Rattle.play_text.specs.Play.{Played}
use Rattle.play_text.proofs.Steps.{told_so}
use Rattle.play_text.proofs.Turned.{AreTurns, GoesInTurns, played_in_turns}
use Rattle.follow_text.specs.Following.{served_by, Following, at_lemma, own_move_at, answer_to, are_legal, is_game_by, HasMove}
use Rattle.follow_text.specs.Follow.{first_text, over_text, answered_with, follow_turn, follow_from, begin_by, follow_at, named_for, follow_named}
use Rattle.follow_text.specs.Follow.{follow_answer, lines_to_verdict, follow_cut, follow_game, follow_pieces, follow_of, is_won}
use Rattle.follow_text.specs.Told.{TellsTurns, TellsFrom, TellsFollow, IsTold}
use Rattle.follow_text.proofs.Games.{names_move, names_none, turn_passed, game_served}
use Rattle.follow_text.proofs.Moves.{own_answer}
use Rattle.follow_text.proofs.Steps.{Makes, Stands, answered_by, named_serves}

-- ---- turns

module _ (ls : List Lemma) (holder : Side) where
  tells_turns : (x : Following × Position) (moves lines : List (List ℕ)) (columns : List ℕ) → AreTurns (λ x. x.1) (Makes ls holder) x moves lines columns
      → TellsTurns ls holder x moves lines columns
  tells_turns x moves [] [] turns = tt
  tells_turns x [] (line ∷ lines) columns turns = absurd turns
  tells_turns x (move ∷ moves) (line ∷ lines) [] turns = absurd turns
  tells_turns x [] [] (column ∷ columns) turns = absurd turns
  tells_turns x (move ∷ moves) [] (column ∷ columns) turns = absurd turns
  tells_turns x (move ∷ moves) (line ∷ lines) (column ∷ columns) (next, one, later) =
      (next, one.letter, one.legal, one.fact, tells_turns next moves lines columns later)

  -- behind a game that has ended there is no turn
  none_behind : (x : Following × Position) (e : End) (moves lines : List (List ℕ)) (columns : List ℕ) → end_of x.1 ≡ Some e
      → AreTurns (λ x. x.1) (Makes ls holder) x moves lines columns → columns ≡ []
  none_behind x e moves lines [] ended turns = refl
  none_behind x e [] (line ∷ lines) (column ∷ columns) ended turns = absurd turns
  none_behind x e [] [] (column ∷ columns) ended turns = absurd turns
  none_behind x e (move ∷ moves) [] (column ∷ columns) ended turns = absurd turns
  none_behind x e (move ∷ moves) (line ∷ lines) (column ∷ columns) ended (next, one, later) =
      let on : None ≡ Some e = sym (legal_parts x.1 column one.legal).0 ∙ ended in
      absurd (cc on)

  -- the columns of turns are legal, each at its turn
  turns_legal : (x : Following × Position) (moves lines : List (List ℕ)) (columns : List ℕ) → AreTurns (λ x. x.1) (Makes ls holder) x moves lines columns
      → are_legal ls x.0 x.1 columns ≡ true
  turns_legal x moves [] [] turns = refl
  turns_legal x [] (line ∷ lines) columns turns = absurd turns
  turns_legal x (move ∷ moves) (line ∷ lines) [] turns = absurd turns
  turns_legal x [] [] (column ∷ columns) turns = absurd turns
  turns_legal x (move ∷ moves) [] (column ∷ columns) turns = absurd turns
  turns_legal (s, q) (move ∷ moves) (line ∷ lines) (column ∷ columns) (next, one, later) =
      of_end (end_of (after_move q column)) refl one.fact (turns_legal next moves lines columns later)
    where
      of_answer : (answer : Option (ℕ × Following)) → end_of (after_move q column) ≡ None → answer_to ls s q column ≡ answer
          → follow_turn ls holder (s, q) column ≡ Some (line, next) → are_legal ls next.0 next.1 columns ≡ true → are_legal ls s q (column ∷ columns) ≡ true
      of_answer None going e made behind = absurd (cc (rw (going, e) at made))
      of_answer (Some answer) going e made behind =
          let is : Some (answered_with holder q column answer) ≡ Some (line, next) = rw (going, e) at made in
          let turn = same_Some (answered_with holder q column answer) (line, next) is in
          let further : are_legal ls answer.1 (after_move (after_move q column) answer.0) columns ≡ true =
          ap (λ (turn : List ℕ × (Following × Position)). are_legal ls turn.1.0 turn.1.1 columns) turn ∙ behind in
          rw (one.legal, going, e) further

      of_end : (end : Option End) → end_of (after_move q column) ≡ end → follow_turn ls holder (s, q) column ≡ Some (line, next)
          → are_legal ls next.0 next.1 columns ≡ true → are_legal ls s q (column ∷ columns) ≡ true
      of_end None going made behind = of_answer (answer_to ls s q column) going refl made behind
      of_end (Some e) ended made behind =
          let over : follow_turn ls holder (s, q) column ≡ Some (over_text holder q column, (s, after_move q column)) = rw ended refl in
          let turn = same_Some (over_text holder q column, (s, after_move q column)) (line, next) (sym over ∙ made) in
          let there : end_of next.1 ≡ Some e = ap (λ (turn : List ℕ × (Following × Position)). end_of turn.1.1) (sym turn) ∙ ended in
          rw (one.legal, ended, none_behind next e moves lines columns there later) refl

-- ---- whole inputs

module _ (holder : Side) (bytes : List ℕ) where
  abbrev pub Told : Played → Type 0
  Told played = IsTold holder bytes played.lines played.end

  -- an accepted proof that names a lemma for the holder
  module _ (version : Version) (more : List (List ℕ)) (first : pieces bytes ≡ first_line version ∷ more) (root : Position)
      (game : game_at (game_of more) ≡ Ok root) (proof moves : List (List ℕ)) (parts : behind_game more ≡ proof ++ moves) (v : Verdict) (count : ℕ)
      (answer : answer_of version root proof ≡ texts.Accepted v count) (n : ℕ) (named : named_for holder (side_to_move root) v ≡ Some n) (at : ℕ) where
    abbrev pub ls : List Lemma
    ls = lemmas_said version (board_of root) proof

    accepted : AreAccepted version root [] first_number proof v count
    accepted = accepted_lines version root [] first_number proof v count (sym (answer_by_lines version root proof) ∙ answer)

    right : AreRight root [] ls accepted.after
    right =
        let said = ap (lemmas_said version (board_of root)) accepted.spelled
        ∙ said_entries version (board_of root) accepted.entries v accepted.fit accepted.verdict_fits in
        subst (λ ls. AreRight root [] ls accepted.after) (sym said) accepted.right

    serves : (claim : Claim) × Shows accepted.after n root claim × (served_by claim ≡ holder) × (claims_win claim ≡ is_won v)
    serves = named_serves root accepted.after holder v n accepted.verdict_right named

    goes : (x : Following × Position) → Stands root ls accepted.after serves.0 right x.0 x.1
        → GoesInTurns (λ x. x.1) (Makes ls holder) x moves (follow_from ls holder x.0 x.1 at moves)
    goes x stands = played_in_turns (λ x. x.1) (follow_turn ls holder) (Makes ls holder) (λ x. Stands root ls accepted.after serves.0 right x.0 x.1)
        (answered_by root ls accepted.after serves.0 right holder) x at moves stands

    -- the game is told, by what was written before the turns
    tells : (lines : List (List ℕ)) (columns : List ℕ) → TellsFrom ls holder root n (own_move_at ls (length root.columns) n false) moves lines columns
        → is_game_by ls root n columns ≡ true → TellsFollow holder bytes lines
    tells lines columns told legal =
        let along = game_along (game_of more) root game in
        record {
          version = version;
          more = more;
          first = first;
          root = root;
          game = game;
          proof = proof;
          moves = moves;
          behind = parts;
          verdict = v;
          count = count;
          accepted = answer;
          lemma = n;
          named = named;
          columns = columns;
          tells = told;
          claim = serves.0;
          serves = serves.2;
          wins = serves.3;
          legal = legal;
          served = game_served along.0 along.1 root ls accepted.after n serves.0 columns along.3 right serves.1 legal;
        }

    of_none : own_move_at ls (length root.columns) n false ≡ None → Told (begin_by ls holder root n at moves None)
    of_none is =
        let x : Following × Position = (at_lemma n false, root) in
        let going = goes x (λ on. (serves.1, names_none root ls accepted.after serves.0 right n false root serves.1 is on)) in
        let lines = (follow_from ls holder (at_lemma n false) root at moves).lines in
        let told = tells lines going.columns (rw is (tells_turns ls holder x moves lines going.columns going.turns))
        (rw is (turns_legal ls holder x moves lines going.columns going.turns)) in
        told_so (λ x. x.1) (follow_turn ls holder) (IsTold holder bytes lines) (λ fault. told) told x at moves going.answered

    of_move : HasMove accepted.after serves.0 root (own_move_at ls (length root.columns) n false) → side_to_move root ≡ served_by serves.0
        → Told (begin_by ls holder root n at moves (own_move_at ls (length root.columns) n false))
    of_move has turn =
        let x : Following × Position = (has.next, after_move root has.column) in
        let going = goes x (λ on. (has.follows, turn_passed serves.0 root has.column turn has.legal)) in
        let lines = first_text holder root has.column ∷ (follow_from ls holder has.next (after_move root has.column) at moves).lines in
        let told = tells lines going.columns (rw has.is (refl, tells_turns ls holder x moves _ going.columns going.turns))
        (rw has.is (turns_legal ls holder x moves _ going.columns going.turns)) in
        rw has.is (told_so (λ x. x.1) (follow_turn ls holder) (IsTold holder bytes lines) (λ fault. told) told x at moves going.answered)

    pub named_told : Told (follow_at ls holder root n at moves)
    named_told = of_found (own_move_at ls (length root.columns) n false) refl
      where
        of_found : (found : Option (ℕ × Following)) → own_move_at ls (length root.columns) n false ≡ found
            → Told (begin_by ls holder root n at moves (own_move_at ls (length root.columns) n false))
        of_found None is = rw is (of_none is)
        of_found (Some found) is =
            let turn = names_move root ls accepted.after serves.0 right n false root found serves.1 is in
            of_move (own_answer root ls accepted.after serves.0 right n false root serves.1 turn.1 turn.0) turn.1

  -- so many of the lines behind the game are the proof's
  cut_told : (version : Version) (more : List (List ℕ)) → pieces bytes ≡ first_line version ∷ more → (root : Position) → game_at (game_of more) ≡ Ok root
      → (lines : List (List ℕ)) → behind_game more ≡ lines → (count : ℕ) → Told (follow_cut holder version root lines count)
  cut_told version more first root game lines all count = of_answer (answer_of version root (take count lines)) refl
    where
      at : ℕ
      at = count + (first_number - 1)

      of_named : (v : Verdict) (lemmas : ℕ) → answer_of version root (take count lines) ≡ texts.Accepted v lemmas → (named : Option ℕ)
          → named_for holder (side_to_move root) v ≡ named
          → Told (follow_named (lemmas_said version (board_of root) (take count lines)) holder root at (drop count lines) named)
      of_named v lemmas e None f = refl
      of_named v lemmas e (Some n) f =
          named_told version more first root game (take count lines) (drop count lines) (all ∙ sym (take-append-drop count lines)) v lemmas e n f (at + 1)

      of_answer : (answer : CheckAnswer) → answer_of version root (take count lines) ≡ answer
          → Told (follow_answer (lemmas_said version (board_of root) (take count lines)) holder root at (drop count lines)
          (answer_of version root (take count lines)))
      of_answer (texts.NoGame fault) e = rw e refl
      of_answer (texts.Refused line why) e = rw e refl
      of_answer (texts.Accepted v lemmas) e = rw e (of_named v lemmas e (named_for holder (side_to_move root) v) refl)

  game_told : (version : Version) (more : List (List ℕ)) → pieces bytes ≡ first_line version ∷ more → (game : Result Position InputFault)
      → game_at (game_of more) ≡ game
      → Told (follow_game holder version game (behind_game more))
  game_told version more first (Err fault) e = refl
  game_told version more first (Ok root) e =
      cut_told version more first root e (behind_game more) refl (lines_to_verdict version (board_of root) (behind_game more))

  pub follow_is_told : IsTold holder bytes (follow_of holder bytes).lines (follow_of holder bytes).end
  unfolding follow_of
  follow_is_told = let some = pieces_some bytes in
      subst (λ cut. Told (follow_pieces holder (version_of bytes) cut)) (sym some.2) (of_pieces (version_of bytes) some.0 some.1 some.2)
    where
      of_pieces : (version : Version) (first : List ℕ) (more : List (List ℕ)) → pieces bytes ≡ first ∷ more → Told (follow_pieces holder version (first ∷ more))
      of_pieces version first more cut = named (bytes_eq first (first_line version)) refl
        where
          named : (is : Bool) → bytes_eq first (first_line version) ≡ is → Told (follow_pieces holder version (first ∷ more))
          named false e = rw e refl
          named true e =
              let same = (bytes_eq-Decides first (first_line version)).0 e in
              rw e (game_told version more (cut ∙ ap (λ first. first ∷ more) same) (game_at (game_of more)) refl)
