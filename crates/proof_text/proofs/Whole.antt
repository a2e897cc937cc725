-- A whole text is accepted exactly where it is right.
use Rattle.std.proofs.Common.{◌≡◌, ℕ, suc, ◌+◌, ◌≤◌, Bool, true, false, ◌||◌, ◌==◌, nat_le, List, [], ◌∷◌, ◌++◌, map, length, take, Some, Result, Ok, Err}
use Rattle.std.proofs.Common.{codes, refl, sym, ap, ◌∙◌, subst, append_assoc, append-nil, inl, inr, arith}
use Rattle.std.specs.List.{AllByRecursion, list_all, join_with_byte, flat_map}
use Rattle.std.specs.Str.{bytes_eq}
use Rattle.std.specs.Fmt.{decimal}
use Rattle.std.proofs.lemmas.List.{length-append, length-take, take_all, length-replicate}
use Rattle.std.proofs.lemmas.List.Folds.{flat_map-map}
use Rattle.std.proofs.lemmas.Slice.Eq.{bytes_eq-Decides}
use Rattle.std.proofs.lemmas.Bool.{and_parts, leb-true, or_cases, eqb-true}
use Rattle.game_rules.specs.Board.{Board, is_board, is_cols, is_rows}
use Rattle.game_rules.specs.declared.Length.{Length}
use Rattle.game_rules.specs.declared.Length.TheVariants.{Four, Five}
use Rattle.game_rules.specs.Position.{Position, empty_position, played, board_of}
use Rattle.game_rules.specs.Text.{game_at}
use Rattle.game_rules.specs.Grammar.{move_list, length_text, board_line, moves_line, last_feed, game_text}
use Rattle.game_rules.proofs.Lists.{chosen}
use Rattle.game_rules.proofs.Prefix.{game_short}
use Rattle.game_rules.proofs.Grammar.{read_in_grammar, grammar_read, board_along}
use Rattle.game_rules.specs.declared.InputFault.{InputFault}
use Rattle.proof_text.specs.Lemma.{Lemma, ALemma, ARemark, AVerdict}
use Rattle.proof_text.specs.Right.{Shown, AreRight}
use Rattle.proof_text.specs.Spelling.{lemma_text, verdict_text, as_line, VerdictFits}
use Rattle.proof_text.specs.Texts.{pieces, last_line, lines_in, game_prefix, first_number, game_of, behind_game, Refused, Accepted, answer_of, game_answer}
use Rattle.proof_text.specs.Texts.{first_line, pieces_answer, check_in, version_of, check_of, Entry, LemmaEntry, RemarkEntry, entry_text, entry_lines}
use Rattle.proof_text.specs.Texts.{lemmas_among, EntryFits}
use Rattle.proof_text.specs.Texts.{head_of, IsRightText, start, check_from}
use Rattle.plan_text.proofs.Spaced.{all_append, all_each}
use Rattle.proof_text.proofs.Append.{length_shown}
use Rattle.proof_text.proofs.Spelled.{plain_decimal, plain_moves, line_bytes}
use Rattle.proof_text.proofs.Pieces.{IsFeedless, feedless_high, pieces_line, pieces_last, pieces_feedless, pieces_some, joined, cut_lines, lines_append}
use Rattle.proof_text.proofs.Pieces.{joined_lines}
use Rattle.proof_text.proofs.Fold.{answer_by_lines}
use Rattle.proof_text.proofs.First.{with_head, by_version, answer_named}
use Rattle.proof_text.proofs.Accepted.{AreAccepted, accepted_lines, lines_accepted}
use Rattle.proof_text.specs.declared.Verdict.{Verdict}
use Rattle.proof_text.specs.declared.Version.{Version}
use Rattle.proof_text.specs.declared.Version.TheVariants.{One, Two}
use Rattle.proof_text.specs.declared.Verdict.TheVariants.{Win, Loss, Draw, Unknown}
use Rattle.proof_text.specs.declared.Why.TheVariants.{BadLine}

-- ---- the lines of a game

-- no byte is below the space
abbrev IsHigh : List ℕ → Type 0
IsHigh bytes = AllByRecursion (λ byte. 32 ≤ byte) bytes

high_text : (bytes : List ℕ) → list_all (nat_le 32) bytes ≡ true → IsHigh bytes
high_text [] h = tt
high_text (byte ∷ bytes) h = let both = and_parts (nat_le 32 byte) (list_all (nat_le 32) bytes) h in (leb-true 32 byte both.0, high_text bytes both.1)

high_append : (xs ys : List ℕ) → IsHigh xs → IsHigh ys → IsHigh (xs ++ ys)
high_append xs ys h g = all_append (λ byte. 32 ≤ byte) xs ys h g

high_decimal : (n : ℕ) → 1 ≤ n → n ≤ 10 → IsHigh (decimal n)
high_decimal n low high = all_each (λ byte. 43 ≤ byte) (λ byte. 32 ≤ byte) (decimal n) (λ byte low. omega arith) (plain_decimal n (low, omega arith))

rows_small : (n : ℕ) → is_rows n ≡ true → (1 ≤ n) × (n ≤ 10)
rows_small n h = elim (or_cases (n == 4 || n == 6 || n == 8) (n == 10) h) [
  | inr ten ↦ let same : n ≡ 10 = eqb-true n 10 ten in (omega arith, omega arith)
  | inl less ↦ elim (or_cases (n == 4 || n == 6) (n == 8) less) [
    | inr eight ↦ let same : n ≡ 8 = eqb-true n 8 eight in (omega arith, omega arith)
    | inl least ↦ elim (or_cases (n == 4) (n == 6) least) [
      | inl four ↦ let same : n ≡ 4 = eqb-true n 4 four in (omega arith, omega arith)
      | inr six ↦ let same : n ≡ 6 = eqb-true n 6 six in (omega arith, omega arith)
    ]
  ]
]

high_length : (len : Length) → IsHigh (length_text len)
high_length Four = high_text [] refl
high_length Five = high_text (codes " 5") refl

high_first : (version : Version) → IsHigh (first_line version)
high_first One = high_text (codes "victor 1") refl
high_first Two = high_text (codes "victor 2") refl

feedless_board : (board : Board) → is_board board ≡ true → IsFeedless (board_line board)
feedless_board board h =
    let both = and_parts (is_cols board.cols) (is_rows board.rows) h in
    let wide = and_parts (nat_le 4 board.cols) (nat_le board.cols 10) both.0 in
    let rows = rows_small board.rows both.1 in
    let low : 4 ≤ board.cols = leb-true 4 board.cols wide.0 in
    let rows_on : List ℕ = decimal board.rows ++ length_text board.len in
    feedless_high (board_line board) (high_append (codes "board ") (decimal board.cols ++ (codes " " ++ rows_on)) (high_text (codes "board ") refl)
    (high_append (decimal board.cols) (codes " " ++ rows_on) (high_decimal board.cols (omega arith) (leb-true board.cols 10 wide.1))
    (high_append (codes " ") rows_on (high_text (codes " ") refl)
    (high_append (decimal board.rows) (length_text board.len) (high_decimal board.rows rows.0 rows.1) (high_length board.len)))))

feedless_moves : (columns : List ℕ) → IsFeedless (moves_line columns)
feedless_moves columns =
    feedless_high (moves_line columns) (high_append (codes "moves ") (move_list columns) (high_text (codes "moves ") refl)
    (all_each (λ byte. 43 ≤ byte) (λ byte. 32 ≤ byte) (move_list columns) (λ byte low. omega arith) (plain_moves columns)))

-- the two lines that a game was read from are its lines, whole
lines_of_game : (first second : List ℕ) (root : Position) → IsFeedless first → IsFeedless second
    → game_at (take game_prefix first ++ 10 ∷ as_line (take game_prefix second)) ≡ Ok root
    → (board : Board) × (columns : List ℕ) × (is_board board ≡ true) × (played (empty_position board) columns ≡ Some root) × (first ≡ board_line board)
    × (second ≡ moves_line columns)
lines_of_game first second root one two h =
    let text = take game_prefix first ++ 10 ∷ as_line (take game_prefix second) in
    let short : length text ≤ 121 = game_short text root h in
    let size : length text ≡ length (take game_prefix first) + length (10 ∷ as_line (take game_prefix second)) = length-append (take game_prefix first)
    (10 ∷ as_line (take game_prefix second)) in
    let more : length (as_line (take game_prefix second)) ≡ length (take game_prefix second) + 1 = length-append (take game_prefix second) (10 ∷ []) in
    let first_short : length first ≤ game_prefix = omega (arith, length-take game_prefix first) in
    let second_short : length second ≤ game_prefix = omega (arith, length-take game_prefix second) in
    let whole : text ≡ first ++ 10 ∷ as_line second = ap (λ bytes. bytes ++ 10 ∷ as_line (take game_prefix second)) (take_all game_prefix first first_short)
    ∙ ap (λ bytes. first ++ 10 ∷ as_line bytes) (take_all game_prefix second second_short) in
    let game = read_in_grammar text root h in
    let spelled : first ++ 10 ∷ as_line second ≡ game_text game.board game.columns game.ended = sym whole ∙ game.spelled in
    let cut : pieces (first ++ 10 ∷ as_line second) ≡ first ∷ second ∷ [] ∷ [] = pieces_line first (as_line second) one
    ∙ ap (λ more. first ∷ more) (pieces_line second [] two) in
    let also : pieces (game_text game.board game.columns game.ended) ≡ board_line game.board ∷ pieces (moves_line game.columns ++ last_feed game.ended) =
    pieces_line (board_line game.board) (moves_line game.columns ++ last_feed game.ended) (feedless_board game.board game.has_board) in
    let same : first ∷ second ∷ [] ∷ [] ≡ board_line game.board ∷ pieces (moves_line game.columns ++ last_feed game.ended) = sym cut ∙ ap pieces spelled
    ∙ also in
    let rest : second ∷ [] ∷ [] ≡ pieces (moves_line game.columns ++ last_feed game.ended) = cc in
    (game.board, game.columns, game.has_board, game.has_moves, cc, last game.columns game.ended rest)
  where
    last : (columns : List ℕ) (ended : Bool) → second ∷ [] ∷ [] ≡ pieces (moves_line columns ++ last_feed ended) → second ≡ moves_line columns
    last columns true e = let cut : second ∷ [] ∷ [] ≡ moves_line columns ∷ pieces [] = e ∙ pieces_line (moves_line columns) [] (feedless_moves columns) in cc
    last columns false e =
        let cut : second ∷ [] ∷ [] ≡ moves_line columns ∷ [] = e ∙ ap pieces (append-nil (moves_line columns))
        ∙ pieces_last (moves_line columns) (feedless_moves columns) in
        cc

-- and the other way round
game_of_lines : (board : Board) (columns : List ℕ) (root : Position) (next : List ℕ) (more : List (List ℕ)) → is_board board ≡ true
    → played (empty_position board) columns ≡ Some root
    → game_at (game_of (board_line board ∷ moves_line columns ∷ next ∷ more)) ≡ Ok root
game_of_lines board columns root next more has_board has_moves =
    let text = game_text board columns true in
    let read : game_at text ≡ Ok root =
    grammar_read text root (record { board = board; columns = columns; ended = true; has_board = has_board; has_moves = has_moves; spelled = refl }) in
    let short : length text ≤ 121 = game_short text root read in
    let size : length text ≡ length (board_line board) + suc (length (moves_line columns ++ 10 ∷ [])) =
    length-append (board_line board) (10 ∷ (moves_line columns ++ 10 ∷ [])) in
    let rest : length (moves_line columns ++ 10 ∷ []) ≡ length (moves_line columns) + 1 = length-append (moves_line columns) (10 ∷ []) in
    let first : take game_prefix (board_line board) ≡ board_line board = take_all game_prefix (board_line board) (omega arith) in
    let second : take game_prefix (moves_line columns) ≡ moves_line columns = take_all game_prefix (moves_line columns) (omega arith) in
    ap game_at (ap (λ bytes. bytes ++ 10 ∷ as_line (take game_prefix (moves_line columns))) first ∙ ap (λ bytes. board_line board ++ 10 ∷ as_line bytes) second)
    ∙ read

pub board_of_root : (board : Board) (columns : List ℕ) (root : Position) → played (empty_position board) columns ≡ Some root → board_of root ≡ board
board_of_root board columns root h = board_along columns (empty_position board) root h
    ∙ ap (λ n. record { cols = n; rows = board.rows; len = board.len }) (length-replicate board.cols [])

-- each lemma shows one thing
pub shown_count : (root : Position) (ls : List Lemma) (after : List Shown) → AreRight root [] ls after → length after ≡ length ls
shown_count root ls after right = omega (arith, length_shown root [] ls after right)

-- ---- what is accepted is right

entry_lines_map : (entries : List Entry) → flat_map as_line (map entry_text entries) ≡ entry_lines entries
entry_lines_map entries = flat_map-map as_line entry_text entries

module _ (version : Version) where
  regrouped : (board moves text : List ℕ)
      → first_line version ++ 10 ∷ (board ++ 10 ∷ (moves ++ 10 ∷ text)) ≡ (first_line version ++ 10 ∷ (board ++ 10 ∷ (moves ++ 10 ∷ [])))
      ++ text
  regrouped board moves text =
      ap (λ more. first_line version ++ 10 ∷ more)
      (sym (append_assoc board (10 ∷ (moves ++ 10 ∷ [])) text ∙ ap (λ more. board ++ 10 ∷ more) (append_assoc moves (10 ∷ []) text)))
      ∙ sym (append_assoc (first_line version) (10 ∷ (board ++ 10 ∷ (moves ++ 10 ∷ []))) text)

  accepted_game : (r : Result Position InputFault) (lines : List (List ℕ)) (v : Verdict) (count : ℕ) → game_answer version r lines ≡ Accepted v count
      → (root : Position) × (r ≡ Ok root) × (answer_of version root lines ≡ Accepted v count)
  accepted_game (Err fault) lines v count h = cc
  accepted_game (Ok root) lines v count h = (root, refl, h)

  -- no lines are accepted only behind a verdict
  some_lines : (root : Position) (v : Verdict) (count : ℕ) → AreAccepted version root [] first_number [] v count → ⊥
  some_lines root v count h = none h.entries h.spelled
    where
      none : (entries : List Entry) → [] ≡ map entry_text entries ++ verdict_text v ∷ [] → ⊥
      none [] e = cc
      none (entry ∷ entries) e = cc

  pub whole_accepted : (bytes : List ℕ) (v : Verdict) (count : ℕ) → check_in version bytes ≡ Accepted v count → IsRightText version bytes v count
  unfolding check_in
  whole_accepted bytes v count h =
      let some = pieces_some bytes in
      of_pieces some.0 some.1 some.2 (subst (AllByRecursion IsFeedless) some.2 (pieces_feedless bytes)) (sym (ap (pieces_answer version) some.2) ∙ h)
    where
      of_game : (more : List (List ℕ)) (root : Position) → pieces bytes ≡ first_line version ∷ more → AllByRecursion IsFeedless more
          → game_at (game_of more) ≡ Ok root
          → AreAccepted version root [] first_number (behind_game more) v count → IsRightText version bytes v count
      of_game [] root cut feedless game lines = absurd (some_lines root v count lines)
      of_game (first ∷ []) root cut feedless game lines = absurd (some_lines root v count lines)
      of_game (first ∷ second ∷ []) root cut feedless game lines = absurd (some_lines root v count lines)
      of_game (first ∷ second ∷ next ∷ more) root cut feedless game lines =
          let read = lines_of_game first second root feedless.0 feedless.1.0 game in
          let text = joined_lines (next ∷ more) (map entry_text lines.entries) (verdict_text v) lines.spelled in
          record {
            board = read.0;
            columns = read.1;
            root = root;
            entries = lines.entries;
            after = lines.after;
            ended = text.0;
            has_board = read.2;
            has_moves = read.3;
            fit = subst (λ board. AllByRecursion (EntryFits version board) lines.entries) (board_of_root read.0 read.1 root read.3) lines.fit;
            right = lines.right;
            verdict_fits = lines.verdict_fits;
            verdict_right = lines.verdict_right;
            counted = lines.counted ∙ shown_count root (lemmas_among lines.entries) lines.after lines.right;
            few = lines.few;
            spelled = sym (joined bytes) ∙ ap (join_with_byte 10) cut
                ∙ whole (board_line read.0) (moves_line read.1) (join_with_byte 10 (next ∷ more))
                (entry_lines lines.entries ++ (verdict_text v ++ last_feed text.0)) read.4 read.5
                (text.1 ∙ ap (λ prefix. prefix ++ (verdict_text v ++ last_feed text.0)) (entry_lines_map lines.entries));
          }
        where
          whole : (board moves rest text : List ℕ) → first ≡ board → second ≡ moves → rest ≡ text
              → first_line version ++ 10 ∷ (first ++ 10 ∷ (second ++ 10 ∷ rest)) ≡ (first_line version ++ 10 ∷ (board ++ 10 ∷ (moves ++ 10 ∷ []))) ++ text
          whole board moves rest text e f g = rw (e, f, g) (regrouped board moves text)

      of_pieces : (first : List ℕ) (more : List (List ℕ)) → pieces bytes ≡ first ∷ more → AllByRecursion IsFeedless (first ∷ more)
          → pieces_answer version (first ∷ more) ≡ Accepted v count → IsRightText version bytes v count
      of_pieces first more cut feedless h =
          elim (chosen (bytes_eq first (first_line version)) (game_answer version (game_at (game_of more)) (behind_game more)) (Refused 1 BadLine)
          (Accepted v count) h) [
            | inr other ↦ absurd (cc other.1)
            | inl named ↦
                let game = accepted_game (game_at (game_of more)) (behind_game more) v count named.1 in
                of_game more game.0 (cut ∙ ap (λ first. first ∷ more) ((bytes_eq-Decides first (first_line version)).0 named.0)) feedless.1 game.1
                (accepted_lines version game.0 [] first_number (behind_game more) v count (sym (answer_by_lines version game.0 (behind_game more)) ∙ game.2))
          ]

  -- ---- what is right is accepted

  -- the lines of entries that fit have no line feed
  feedless_entries : (board : Board) (entries : List Entry) → AllByRecursion (EntryFits version board) entries
      → AllByRecursion IsFeedless (map entry_text entries)
  feedless_entries board [] h = tt
  feedless_entries board (LemmaEntry l ∷ entries) h =
      (feedless_high (lemma_text l) (line_bytes board (lemma_text l) (ALemma l) (h.0.1, refl)), feedless_entries board entries h.1)
  feedless_entries board (RemarkEntry bytes ∷ entries) h = (feedless_high bytes (line_bytes board bytes ARemark h.0), feedless_entries board entries h.1)

  -- the lines behind the game are the entries' and the verdict's, the last line feed or not
  lines_behind : (board : Board) (entries : List Entry) (v : Verdict) (ended : Bool) → AllByRecursion (EntryFits version board) entries → VerdictFits v
      → lines_in (pieces (entry_lines entries ++ (verdict_text v ++ last_feed ended))) ≡ map entry_text entries ++ verdict_text v ∷ []
  lines_behind board entries v ended fit verdict_fits =
      ap (λ prefix. lines_in (pieces (prefix ++ (verdict_text v ++ last_feed ended)))) (sym (entry_lines_map entries))
      ∙ ap lines_in (cut_lines (map entry_text entries) (verdict_text v ++ last_feed ended) (feedless_entries board entries fit)) ∙ of_feed ended
    where
      feedless : IsFeedless (verdict_text v)
      feedless = feedless_high (verdict_text v) (line_bytes board (verdict_text v) (AVerdict v) (verdict_fits, refl))

      some : (v : Verdict) → last_line (verdict_text v) ≡ verdict_text v ∷ []
      some (Win n) = refl
      some (Loss n) = refl
      some (Draw n m) = refl
      some Unknown = refl

      of_feed : (ended : Bool) → lines_in (map entry_text entries ++ pieces (verdict_text v ++ last_feed ended)) ≡ map entry_text entries ++ verdict_text v ∷ []
      of_feed true =
          ap (λ ps. lines_in (map entry_text entries ++ ps)) (pieces_line (verdict_text v) [] feedless)
          ∙ ap lines_in (sym (append_assoc (map entry_text entries) (verdict_text v ∷ []) ([] ∷ [])))
          ∙ lines_append (map entry_text entries ++ verdict_text v ∷ []) [] ∙ append-nil (map entry_text entries ++ verdict_text v ∷ [])
      of_feed false =
          ap (λ ps. lines_in (map entry_text entries ++ ps)) (ap pieces (append-nil (verdict_text v)) ∙ pieces_last (verdict_text v) feedless)
          ∙ lines_append (map entry_text entries) (verdict_text v) ∙ ap (λ last. map entry_text entries ++ last) (some v)

  -- a text with a head is cut into its lines and those behind it
  text_cut : (board : Board) (columns : List ℕ) (text : List ℕ) → is_board board ≡ true
      → pieces (head_of version board columns ++ text) ≡ first_line version ∷ board_line board ∷ moves_line columns ∷ pieces text
  text_cut board columns text has_board =
      ap pieces (sym (regrouped (board_line board) (moves_line columns) text))
      ∙ pieces_line (first_line version) (board_line board ++ 10 ∷ (moves_line columns ++ 10 ∷ text)) (feedless_high (first_line version) (high_first version))
      ∙ ap (λ more. first_line version ∷ more) (pieces_line (board_line board) (moves_line columns ++ 10 ∷ text) (feedless_board board has_board)
      ∙ ap (λ more. board_line board ∷ more) (pieces_line (moves_line columns) text (feedless_moves columns)))

  -- a text with a game is answered by the lines behind it
  pub text_answer : (board : Board) (columns : List ℕ) (root : Position) (text : List ℕ) → is_board board ≡ true
      → played (empty_position board) columns ≡ Some root
      → check_in version (head_of version board columns ++ text) ≡ check_from version (start root) first_number (lines_in (pieces text))
  text_answer board columns root text has_board has_moves =
      with_head version (head_of version board columns ++ text) (board_line board ∷ moves_line columns ∷ pieces text) (text_cut board columns text has_board)
      ∙ of_pieces (pieces_some text)
    where
      of_pieces : (next : List ℕ) × (more : List (List ℕ)) × (pieces text ≡ next ∷ more)
          → game_answer version (game_at (game_of (board_line board ∷ moves_line columns ∷ pieces text)))
          (behind_game (board_line board ∷ moves_line columns ∷ pieces text))
          ≡ check_from version (start root) first_number (lines_in (pieces text))
      of_pieces (next, more, e) =
          rw e (ap (λ r. game_answer version r (lines_in (next ∷ more))) (game_of_lines board columns root next more has_board has_moves)
          ∙ answer_by_lines version root (lines_in (next ∷ more)))

  pub right_accepted : (bytes : List ℕ) (v : Verdict) (count : ℕ) → IsRightText version bytes v count → check_in version bytes ≡ Accepted v count
  right_accepted bytes v count text =
      let same : board_of text.root ≡ text.board = board_of_root text.board text.columns text.root text.has_moves in
      let fit : AllByRecursion (EntryFits version (board_of text.root)) text.entries = subst (λ board. AllByRecursion (EntryFits version board) text.entries)
      (sym same) text.fit
      in
      ap (check_in version) text.spelled
      ∙ text_answer text.board text.columns text.root (entry_lines text.entries ++ (verdict_text v ++ last_feed text.ended)) text.has_board text.has_moves
      ∙ ap (check_from version (start text.root) first_number) (lines_behind text.board text.entries v text.ended text.fit text.verdict_fits)
      ∙ lines_accepted version text.root [] first_number text.entries text.after v fit text.right text.verdict_fits text.verdict_right text.few
      ∙ ap (Accepted v) (shown_count text.root (lemmas_among text.entries) text.after text.right ∙ sym text.counted)

-- ---- the version that a text names

pub accepted_right : (bytes : List ℕ) (v : Verdict) (count : ℕ) → check_of bytes ≡ Accepted v count → (version : Version) × IsRightText version bytes v count
accepted_right bytes v count h = (version_of bytes, whole_accepted (version_of bytes) bytes v count (sym (by_version bytes) ∙ h))

-- a right text names its version
pub right_named : (version : Version) (bytes : List ℕ) (v : Verdict) (count : ℕ) → IsRightText version bytes v count → check_of bytes ≡ check_in version bytes
right_named version bytes v count text =
    answer_named version bytes (board_line text.board ∷ moves_line text.columns ∷ pieces (entry_lines text.entries ++ (verdict_text v ++ last_feed text.ended)))
    (ap pieces text.spelled
    ∙ text_cut version text.board text.columns (entry_lines text.entries ++ (verdict_text v ++ last_feed text.ended)) text.has_board)

pub named_accepted : (version : Version) (bytes : List ℕ) (v : Verdict) (count : ℕ) → IsRightText version bytes v count → check_of bytes ≡ Accepted v count
named_accepted version bytes v count text = right_named version bytes v count text ∙ right_accepted version bytes v count text
