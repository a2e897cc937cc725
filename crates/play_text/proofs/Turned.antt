-- The lines of play go in turns, whoever answers: what is known of each turn is known of each line that is written.
use Rattle.std.proofs.Common.{◌≡◌, ◌≢◌, ℕ, zero, suc, ◌+◌, ◌*◌, Bool, true, false, cond, List, [], ◌∷◌, map, length, Option, Some, None, refl, ap, ◌∙◌}
use Rattle.std.proofs.Common.{subst, arith}
use Rattle.std.specs.Bool.{⊤}
use Rattle.std.specs.List.{slice_get}
use Rattle.std.proofs.lemmas.Option.{same_Some}
use Rattle.game_rules.specs.Board.{Board}
use Rattle.game_rules.specs.Grammar.{letter_of}
use Rattle.game_rules.specs.Letters.{is_letter, column_of}
use Rattle.game_rules.specs.Position.{Position, board_of, has_room, end_of, is_legal, after_move}
use Rattle.game_rules.specs.declared.End.{End}
use Rattle.game_rules.proofs.Ends.{legal_parts}
use Rattle.game_rules.proofs.Moves.{room_column}
use Rattle.plan_text.proofs.Spaced.{letter_read, letter_spelled}
use Rattle.play_text.specs.Play.{AllPlayed, NoReply, move_line, Played, column_in, move_refusal, Turn, turns_from}
use Rattle.play_text.specs.declared.PlayKind.{PlayKind}

-- ---- one line

-- a line that names a column is its letter
column_letter : (board : Board) (line : List ℕ) (column : ℕ) → column_in board line ≡ Some column → line ≡ letter_of column ∷ []
column_letter board [] column h = cc
column_letter board (letter ∷ []) column h = of_letter (is_letter board.cols letter) refl h
  where
    of_letter : (is : Bool) → is_letter board.cols letter ≡ is → cond is (Some (column_of letter)) None ≡ Some column → letter ∷ [] ≡ letter_of column ∷ []
    of_letter true e h = ap (λ byte. byte ∷ []) ((letter_read board.cols letter e).0 ∙ ap letter_of (same_Some (column_of letter) column h))
    of_letter false e h = cc
column_letter board (letter ∷ next ∷ more) column h = cc

-- a column that isn't refused is legal
pub unrefused_legal : (q : Position) (column : ℕ) → move_refusal q (Some column) ≡ None → is_legal q column ≡ true
unrefused_legal q column h = of_parts (end_of q) (has_room q column) refl refl h
  where
    of_parts : (end : Option End) (room : Bool) → end_of q ≡ end → has_room q column ≡ room → move_refusal q (Some column) ≡ None → is_legal q column ≡ true
    of_parts None true e f h = rw (e, f) refl
    of_parts None false e f h = absurd (cc (rw (e, f) at h))
    of_parts (Some end) room e f h = absurd (cc (rw e at h))

-- and a legal one isn't refused
pub legal_unrefused : (q : Position) (column : ℕ) → is_legal q column ≡ true → move_refusal q (Some column) ≡ None
legal_unrefused q column legal = let parts = legal_parts q column legal in rw (parts.0, parts.1) refl

pub legal_line : (q : Position) (column : ℕ) → is_legal q column ≡ true → column_in (board_of q) (move_line column) ≡ Some column
legal_line q column legal =
    let letter = letter_spelled (length q.columns) column (room_column q column (legal_parts q column legal).1) in
    rw letter.0 (ap (λ column. Some column) letter.1)

-- ---- turns

-- One turn: the other side's line, its column, and what is known of it, of the line that is written, and of the player after it.
pub record IsPlayed {X : Type 0} (stands : X → Position) (Fact : X → ℕ → List ℕ → X → Type 0)
    (x : X) (move line : List ℕ) (column : ℕ) (next : X) : Type 0 where
  pub letter : move ≡ letter_of column ∷ []
  pub legal : is_legal (stands x) column ≡ true
  pub fact : Fact x column line next

-- the first lines of the other side's are turns one after another, with these columns
abbrev pub AreTurns : {X : Type 0} → (X → Position) → (X → ℕ → List ℕ → X → Type 0) → X → List (List ℕ) → List (List ℕ) → List ℕ → Type 0
AreTurns stands Fact x moves [] [] = ⊤
AreTurns stands Fact x [] (line ∷ lines) columns = ⊥
AreTurns stands Fact x (move ∷ moves) (line ∷ lines) [] = ⊥
AreTurns stands Fact x moves [] (column ∷ columns) = ⊥
AreTurns {X} stands Fact x (move ∷ moves) (line ∷ lines) (column ∷ columns) =
    (next : X) × IsPlayed stands Fact x move line column next × AreTurns stands Fact next moves lines columns

-- what is played goes in turns, and never lacks an answer
pub record GoesInTurns {X : Type 0} (stands : X → Position) (Fact : X → ℕ → List ℕ → X → Type 0) (x : X)
    (moves : List (List ℕ)) (played : Played) : Type 0 where
  pub columns : List ℕ
  pub turns : AreTurns stands Fact x moves played.lines columns
  pub answered : played.end ≢ NoReply

-- a legal move has an answer, of which this is known, and something is kept
pub record HasTurn {X : Type 0} (turn : X → ℕ → Turn X) (Fact : X → ℕ → List ℕ → X → Type 0) (Kept : X → Type 0) (x : X) (column : ℕ) : Type 0 where
  pub line : List ℕ
  pub next : X
  pub made : turn x column ≡ Some (line, next)
  pub fact : Fact x column line next
  pub kept : Kept next

-- what is known of turns makes lists of columns playable, and a duel of their positions
pub record AreDuels {X : Type 0} (stands : X → Position) (Fact : X → ℕ → List ℕ → X → Type 0) (playable : X → List ℕ → Bool)
    (duel : X → List ℕ → List Position) : Type 0 where
  pub none : (x : X) → playable x [] ≡ true
  pub first : (x : X) (column : ℕ) (columns : List ℕ) → playable x (column ∷ columns) ≡ true → is_legal (stands x) column ≡ true
  pub later : (x : X) (column : ℕ) (columns line : List ℕ) (next : X) → Fact x column line next → playable x (column ∷ columns) ≡ true
      → playable next columns ≡ true
  pub more : (x : X) (column : ℕ) (columns line : List ℕ) (next : X) → is_legal (stands x) column ≡ true → Fact x column line next
      → playable next columns ≡ true → playable x (column ∷ columns) ≡ true
  pub opens : (x : X) (column : ℕ) (columns line : List ℕ) (next : X) → is_legal (stands x) column ≡ true → Fact x column line next
      → duel x (column ∷ columns) ≡ stands x ∷ after_move (stands x) column ∷ duel next columns

-- the turn at a place: its position stands at twice the place in the duel
pub record IsTurnTold {X : Type 0} (stands : X → Position) (Fact : X → ℕ → List ℕ → X → Type 0) (duel : X → List ℕ → List Position) (x : X)
    (columns : List ℕ) (i : ℕ) (line : List ℕ) : Type 0 where
  pub column : ℕ
  pub is_column : slice_get columns i ≡ Some column
  pub now : X
  pub next : X
  pub is_now : slice_get (duel x columns) (2 * i) ≡ Some (stands now)
  pub fact : Fact now column line next

module _ {X : Type 0} (stands : X → Position) (turn : X → ℕ → Turn X) (Fact : X → ℕ → List ℕ → X → Type 0) (Kept : X → Type 0)
    (answers : (x : X) (column : ℕ) → Kept x → is_legal (stands x) column ≡ true → HasTurn turn Fact Kept x column) where
  pub played_in_turns : (x : X) (at : ℕ) (moves : List (List ℕ)) → Kept x → GoesInTurns stands Fact x moves (turns_from stands turn x at moves)
  played_in_turns x at [] kept = record { columns = []; turns = tt; answered = λ same. cc }
  played_in_turns x at (move ∷ moves) kept =
      of_column (column_in (board_of (stands x)) move) (move_refusal (stands x) (column_in (board_of (stands x)) move)) refl refl
      (λ next kept. played_in_turns next (at + 1) moves kept)
    where
      of_column : (column : Option ℕ) (refusal : Option PlayKind) → column_in (board_of (stands x)) move ≡ column
          → move_refusal (stands x) (column_in (board_of (stands x)) move) ≡ refusal
          → ((next : X) → Kept next → GoesInTurns stands Fact next moves (turns_from stands turn next (at + 1) moves))
          → GoesInTurns stands Fact x (move ∷ moves) (turns_from stands turn x at (move ∷ moves))
      of_column column (Some kind) e f later = rw f (record { columns = []; turns = tt; answered = λ same. cc })
      of_column None None e f later = absurd (cc (rw e at f))
      of_column (Some column) None e f later =
          let unrefused : move_refusal (stands x) (Some column) ≡ None = rw e at f in
          let legal = unrefused_legal (stands x) column unrefused in
          let has = answers x column kept legal in
          let behind = later has.next has.kept in
          rw (f, e, has.made) (record {
            columns = column ∷ behind.columns;
            turns = (
              has.next,
              record { letter = column_letter (board_of (stands x)) move column e; legal = legal; fact = has.fact },
              behind.turns,
            );
            answered = behind.answered;
          })

  -- the lines of columns that are all legal are all played
  pub legal_played : (playable : X → List ℕ → Bool) (duel : X → List ℕ → List Position) → AreDuels stands Fact playable duel → (x : X) (at : ℕ)
      (columns : List ℕ) → Kept x → playable x columns ≡ true → (turns_from stands turn x at (map move_line columns)).end ≡ AllPlayed
  legal_played playable duel laws x at [] kept is = refl
  legal_played playable duel laws x at (column ∷ columns) kept is =
      let legal = laws.first x column columns is in
      let has = answers x column kept legal in
      let later = legal_played playable duel laws has.next (at + 1) columns has.kept (laws.later x column columns has.line has.next has.fact is) in
      rw (legal_line (stands x) column legal, legal_unrefused (stands x) column legal, has.made) later

-- ---- the duel of some turns

module _ {X : Type 0} (stands : X → Position) (Fact : X → ℕ → List ℕ → X → Type 0) where
  pub turns_as_many : (x : X) (moves lines : List (List ℕ)) (columns : List ℕ) → AreTurns stands Fact x moves lines columns → length lines ≡ length columns
  turns_as_many x moves [] [] turns = refl
  turns_as_many x [] (line ∷ lines) columns turns = absurd turns
  turns_as_many x (move ∷ moves) (line ∷ lines) [] turns = absurd turns
  turns_as_many x [] [] (column ∷ columns) turns = absurd turns
  turns_as_many x (move ∷ moves) [] (column ∷ columns) turns = absurd turns
  turns_as_many x (move ∷ moves) (line ∷ lines) (column ∷ columns) (next, one, later) = ap suc (turns_as_many next moves lines columns later)

  pub turns_named : (x : X) (moves lines : List (List ℕ)) (columns : List ℕ) → AreTurns stands Fact x moves lines columns → (i column : ℕ)
      → slice_get columns i ≡ Some column → slice_get moves i ≡ Some (letter_of column ∷ [])
  turns_named x moves [] [] turns i column at = cc
  turns_named x [] (line ∷ lines) columns turns i column at = absurd turns
  turns_named x (move ∷ moves) (line ∷ lines) [] turns i column at = absurd turns
  turns_named x [] [] (first ∷ columns) turns i column at = absurd turns
  turns_named x (move ∷ moves) [] (first ∷ columns) turns i column at = absurd turns
  turns_named x (move ∷ moves) (line ∷ lines) (first ∷ columns) (next, one, later) zero column at =
      ap (λ move. Some move) (one.letter ∙ ap (λ column. letter_of column ∷ []) (same_Some first column at))
  turns_named x (move ∷ moves) (line ∷ lines) (first ∷ columns) (next, one, later) (suc i) column at =
      turns_named next moves lines columns later i column at

  module _ (playable : X → List ℕ → Bool) (duel : X → List ℕ → List Position) (laws : AreDuels stands Fact playable duel) where
    pub turns_playable : (x : X) (moves lines : List (List ℕ)) (columns : List ℕ) → AreTurns stands Fact x moves lines columns → playable x columns ≡ true
    turns_playable x moves [] [] turns = laws.none x
    turns_playable x [] (line ∷ lines) columns turns = absurd turns
    turns_playable x (move ∷ moves) (line ∷ lines) [] turns = absurd turns
    turns_playable x [] [] (column ∷ columns) turns = absurd turns
    turns_playable x (move ∷ moves) [] (column ∷ columns) turns = absurd turns
    turns_playable x (move ∷ moves) (line ∷ lines) (column ∷ columns) (next, one, later) =
        laws.more x column columns line next one.legal one.fact (turns_playable next moves lines columns later)

    pub turns_told : (x : X) (moves lines : List (List ℕ)) (columns : List ℕ) → AreTurns stands Fact x moves lines columns
        → (i : ℕ) (line : List ℕ) → slice_get lines i ≡ Some line → IsTurnTold stands Fact duel x columns i line
    turns_told x moves [] columns turns i line at = absurd (cc at)
    turns_told x [] (first ∷ lines) columns turns i line at = absurd turns
    turns_told x (move ∷ moves) (first ∷ lines) [] turns i line at = absurd turns
    turns_told x (move ∷ moves) (first ∷ lines) (column ∷ columns) (next, one, later) zero line at = record {
      column = column;
      is_column = refl;
      now = x;
      next = next;
      is_now = ap (λ positions. slice_get positions 0) (laws.opens x column columns first next one.legal one.fact);
      fact = subst (λ line. Fact x column line next) (same_Some first line at) one.fact;
    }
    turns_told x (move ∷ moves) (first ∷ lines) (column ∷ columns) (next, one, later) (suc i) line at =
        let told = turns_told next moves lines columns later i line at in
        record {
          column = told.column;
          is_column = told.is_column;
          now = told.now;
          next = told.next;
          is_now = ap (λ positions. slice_get positions (2 * suc i)) (laws.opens x column columns first next one.legal one.fact)
              ∙ ap (slice_get (stands x ∷ after_move (stands x) column ∷ duel next columns))
              (let place : 2 * suc i ≡ suc (suc (2 * i)) = omega arith in place) ∙ told.is_now;
          fact = told.fact;
        }
