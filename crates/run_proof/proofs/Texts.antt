-- The text of a right proof, as it was read: its head is the one that was read, and its lemmas are those that it says.
use Rattle.std.proofs.Common.{◌≡◌, ℕ, ◌+◌, ◌≤◌, Bool, true, false, ◌==◌, List, [], ◌∷◌, ◌++◌, length, take, map, Option, Some, None, refl, sym, ap, ◌∙◌}
use Rattle.std.proofs.Common.{append_assoc, append-nil, arith, codes}
use Rattle.std.specs.List.{join_with_byte}
use Rattle.std.proofs.lemmas.Bool.{ne_eqb}
use Rattle.std.proofs.lemmas.List.{length-append, length-take, take_all}
use Rattle.std.proofs.lemmas.List.Folds.{flat_map-map}
use Rattle.game_rules.specs.Board.{Board}
use Rattle.game_rules.specs.Game.{Game, board_played, IsTextOf}
use Rattle.game_rules.specs.Grammar.{letter_of, move_list, board_line, moves_line, last_feed, game_text}
use Rattle.game_rules.specs.Position.{board_of}
use Rattle.game_rules.proofs.Games.{game_is_read}
use Rattle.game_rules.proofs.Prefix.{game_short}
use Rattle.proof_text.specs.Spelling.{verdict_text, as_line}
use Rattle.proof_text.specs.Texts.{pieces, game_prefix, first_number, game_of, behind_game, first_line, game_answer, Accepted}
use Rattle.proof_text.specs.Texts.{Entry, entry_text, entry_lines, lemmas_among, head_of, IsRightText}
use Rattle.proof_text.specs.declared.Verdict.{Verdict}
use Rattle.proof_text.specs.declared.Version.{Version}
use Rattle.proof_text.specs.declared.Version.TheVariants.{One, Two}
use Rattle.proof_text.proofs.Accepted.{AreAccepted, accepted_lines, said_entries}
use Rattle.proof_text.proofs.Fold.{answer_by_lines}
use Rattle.proof_text.proofs.Pieces.{joined, joined_lines}
use Rattle.proof_text.proofs.Whole.{shown_count}
use Rattle.run_proof.specs.Judged.{HasHead}
use Rattle.run_proof.specs.Taken.{lemmas_said, game_lemmas, version_lemmas, pieces_lemmas, text_lemmas}
use Rattle.run_proof.specs.Whole.{judged, version_named}
use Rattle.run_proof.proofs.Named.{head_answer}

pub version_first : (version : Version) → version_named None (first_line version) ≡ Some version
version_first One = refl
version_first Two = refl

-- ---- a text whose last byte is a line feed

abbrev is_fed : List ℕ → Bool
is_fed [] = false
is_fed (byte ∷ []) = byte == 10
is_fed (byte ∷ next ∷ bytes) = is_fed (next ∷ bytes)

fed_behind : (xs : List ℕ) (y : ℕ) (ys : List ℕ) → is_fed (xs ++ y ∷ ys) ≡ is_fed (y ∷ ys)
fed_behind [] y ys = refl
fed_behind (x ∷ []) y ys = refl
fed_behind (x ∷ next ∷ xs) y ys = fed_behind (next ∷ xs) y ys

letters_unfed : (column : ℕ) (columns : List ℕ) → is_fed (map letter_of (column ∷ columns)) ≡ false
letters_unfed column [] = ne_eqb (97 + column) 10 (λ (e : 97 + column ≡ 10). absurd (omega (arith, e)))
letters_unfed column (next ∷ columns) = letters_unfed next columns

moves_unfed : (columns : List ℕ) → is_fed (moves_line columns) ≡ false
moves_unfed [] = refl
moves_unfed (column ∷ columns) = fed_behind (codes "moves ") (letter_of column) (map letter_of columns) ∙ letters_unfed column columns

-- the two lines of a game end with a line feed where they are read so
ends_fed : (first second : List ℕ) (board : Board) (columns : List ℕ) (ended : Bool) → first ++ 10 ∷ as_line second ≡ game_text board columns ended
    → first ++ 10 ∷ as_line second ≡ game_text board columns true
ends_fed first second board columns true same = same
ends_fed first second board columns false same =
    let fed : is_fed (first ++ 10 ∷ as_line second) ≡ true = fed_behind first 10 (as_line second) ∙ fed_behind (10 ∷ second) 10 [] in
    let unfed : is_fed (game_text board columns false) ≡ false =
    ap (λ moves. is_fed (board_line board ++ 10 ∷ moves)) (append-nil (moves_line columns))
    ∙ fed_behind (board_line board) 10 (moves_line columns) ∙ fed_behind (10 ∷ []) 109 (codes "oves " ++ move_list columns) ∙ moves_unfed columns in
    absurd (cc (sym fed ∙ ap is_fed same ∙ unfed))

-- ---- what was read

-- there is a line, at least that of the verdict
some_lines : (entries : List Entry) (v : Verdict) → [] ≡ map entry_text entries ++ verdict_text v ∷ [] → ⊥
some_lines [] v e = cc
some_lines (entry ∷ entries) v e = cc

module _ (version : Version) (game : Game) where
  -- the lines of the game, of which the prefixes are its text
  lines_whole : (first second next : List ℕ) (more : List (List ℕ)) → IsTextOf (game_of (first ∷ second ∷ next ∷ more)) game
      → first ++ 10 ∷ as_line second ≡ game_text (board_played game) game.moves true
  lines_whole first second next more text =
      let prefixes = take game_prefix first ++ 10 ∷ as_line (take game_prefix second) in
      let short : length prefixes ≤ 121 = game_short prefixes game.position (game_is_read prefixes game text) in
      let size = length-append (take game_prefix first) (10 ∷ as_line (take game_prefix second)) in
      let rest = length-append (take game_prefix second) (10 ∷ []) in
      let one : length first ≤ game_prefix = omega (arith, short, size, rest, length-take game_prefix first) in
      let two : length second ≤ game_prefix = omega (arith, short, size, rest, length-take game_prefix second) in
      ends_fed first second (board_played game) game.moves text.ended
      (sym (ap (λ bytes. bytes ++ 10 ∷ as_line (take game_prefix second)) (take_all game_prefix first one)
      ∙ ap (λ bytes. first ++ 10 ∷ as_line bytes) (take_all game_prefix second two)) ∙ text.spelled)

  -- the bytes are the head, and then the lines behind it
  bytes_whole : (bytes : List ℕ) (more : List (List ℕ)) (entries : List Entry) (v : Verdict) → pieces bytes ≡ first_line version ∷ more
      → IsTextOf (game_of more) game → behind_game more ≡ map entry_text entries ++ verdict_text v ∷ []
      → (ended : Bool) × (bytes ≡ head_of version (board_played game) game.moves ++ (entry_lines entries ++ (verdict_text v ++ last_feed ended)))
  bytes_whole bytes [] entries v cut text spelled = absurd (some_lines entries v spelled)
  bytes_whole bytes (first ∷ []) entries v cut text spelled = absurd (some_lines entries v spelled)
  bytes_whole bytes (first ∷ second ∷ []) entries v cut text spelled = absurd (some_lines entries v spelled)
  bytes_whole bytes (first ∷ second ∷ next ∷ more) entries v cut text spelled =
      let tail = joined_lines (next ∷ more) (map entry_text entries) (verdict_text v) spelled in
      let rest = join_with_byte 10 (next ∷ more) in (
        tail.0,
        sym (joined bytes) ∙ ap (join_with_byte 10) cut
            ∙ ap (λ text. first_line version ++ 10 ∷ text)
            (sym (append_assoc first (10 ∷ as_line second) rest ∙ ap (λ text. first ++ 10 ∷ text) (append_assoc second (10 ∷ []) rest)))
            ∙ sym (append_assoc (first_line version) (10 ∷ (first ++ 10 ∷ as_line second)) rest)
            ∙ ap (λ text. (first_line version ++ 10 ∷ text) ++ rest) (lines_whole first second next more text)
            ∙ ap (λ rest. head_of version (board_played game) game.moves ++ rest)
            (tail.1 ∙ ap (λ lines. lines ++ (verdict_text v ++ last_feed tail.0)) (flat_map-map as_line entry_text entries)),
      )

module _ (asked : Option Version) (bytes : List ℕ) (version : Version) (game : Game) (named : version_named asked (first_line version) ≡ Some version)
    (head : HasHead bytes version game) (v : Verdict) (count : ℕ) (accepted : judged asked bytes ≡ Accepted v count) where
  pub lines : AreAccepted version game.position [] first_number (behind_game head.more) v count
  lines = accepted_lines version game.position [] first_number (behind_game head.more) v count
      (sym (answer_by_lines version game.position (behind_game head.more))
      ∙ sym (head_answer asked version bytes (first_line version) head.more head.cut named
      ∙ ap (λ r. game_answer version r (behind_game head.more)) (game_is_read (game_of head.more) game head.text))
      ∙ accepted)

  pub whole : (ended : Bool) × (bytes ≡ head_of version (board_played game) game.moves ++ (entry_lines lines.entries ++ (verdict_text v ++ last_feed ended)))
  whole = bytes_whole version game bytes head.more lines.entries v head.cut head.text lines.spelled

  -- what was accepted is right, with the head that was read
  unfoldable pub text_read : IsRightText version bytes v count
  text_read = record {
    board = board_played game;
    columns = game.moves;
    root = game.position;
    entries = lines.entries;
    after = lines.after;
    ended = whole.0;
    has_board = head.text.has_board;
    has_moves = head.text.has_moves;
    fit = lines.fit;
    right = lines.right;
    verdict_fits = lines.verdict_fits;
    verdict_right = lines.verdict_right;
    counted = lines.counted ∙ shown_count game.position (lemmas_among lines.entries) lines.after lines.right;
    few = lines.few;
    spelled = whole.1;
  }

  pub head_read : head_of version (board_played game) game.moves ≡ head_of version text_read.board text_read.columns
  unfolding text_read
  head_read = refl

  -- and has the lemmas that it says
  pub lemmas_read : text_lemmas asked bytes ≡ lemmas_among text_read.entries
  unfolding text_lemmas text_read lines
  lemmas_read =
      ap (pieces_lemmas asked) head.cut
      ∙ ap (λ named. version_lemmas named head.more) named
      ∙ ap (λ root. game_lemmas version root (behind_game head.more)) (game_is_read (game_of head.more) game head.text)
      ∙ ap (lemmas_said version (board_of game.position)) lines.spelled
      ∙ said_entries version (board_of game.position) lines.entries v lines.fit lines.verdict_fits
