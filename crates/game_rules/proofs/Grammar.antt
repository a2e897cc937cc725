-- What is read as a game is spelled as one, and what is spelled so is read.
use Rattle.std.proofs.Common.{◌≡◌, ℕ, ◌+◌, ◌≤◌, Bool, true, false, ◌==◌, List, [], ◌∷◌, ◌++◌, map, length, Some, None, Result, Ok, Err, codes, refl, sym, ap}
use Rattle.std.proofs.Common.{◌∙◌, subst, append_assoc, inl, inr, arith}
use Rattle.std.proofs.lemmas.Bool.{eqb-true, ne_eqb}
use Rattle.std.proofs.lemmas.List.{length-replicate}
use Rattle.game_rules.specs.Board.{Board, is_board}
use Rattle.game_rules.specs.Position.{Position, board_of, empty_position, after_move, is_legal, played, empty_count, IsStacked}
use Rattle.game_rules.specs.Text.{stop, ◌>>=◌, letter_read, at_end, letters_from, after_dash, moves_at, board_at, read_game, placed, game_at}
use Rattle.game_rules.specs.declared.Stop.{Stop}
use Rattle.game_rules.specs.Grammar.{letter_of, move_list, board_line, last_feed, IsGameText}
use Rattle.game_rules.proofs.Lists.{chosen}
use Rattle.game_rules.proofs.Moves.{board_moved}
use Rattle.game_rules.proofs.Ends.{kept_along, stacked_along}
use Rattle.game_rules.proofs.Readers.{bind_ok, letter_moves, letter_of_move}
use Rattle.game_rules.proofs.BoardLine.{board_gives, board_of_spelling, empty_count_within}

-- ---- what is read

at_end_gives : (p q : Position) (bytes : List ℕ) → at_end p bytes ≡ Ok q → (p ≡ q) × (bytes ≡ [])
at_end_gives p q [] h = (cc, refl)
at_end_gives p q (byte ∷ bytes) h = cc

-- the bytes are letters of moves that are legal one after the other, up to q, and then a line feed or none
abbrev AreLetters : List ℕ → Position → Position → Type 0
AreLetters bytes p q = (columns : List ℕ) × (ended : Bool) × (played p columns ≡ Some q) × (bytes ≡ map letter_of columns ++ last_feed ended)

-- a letter and more of them
one_letter : (byte : ℕ) (bytes : List ℕ) (p q : Position) → (letter_read p byte (length (byte ∷ bytes)) >>= λ next. letters_from next bytes) ≡ Ok q
    → ((next : Position) → letters_from next bytes ≡ Ok q → AreLetters bytes next q)
    → (column : ℕ) × (columns : List ℕ) × (ended : Bool) × (played p (column ∷ columns) ≡ Some q)
    × (byte ∷ bytes ≡ map letter_of (column ∷ columns) ++ last_feed ended)
one_letter byte bytes p q h later =
    let read = bind_ok (letter_read p byte (length (byte ∷ bytes))) (λ next. letters_from next bytes) q h in
    let letter = letter_moves p read.0 byte (length (byte ∷ bytes)) read.1 in
    let rest = later read.0 read.2 in (
      letter.0,
      rest.0,
      rest.1,
      one_more letter.0 rest.0 letter.2 (subst (λ next. played next rest.0 ≡ Some q) letter.3 rest.2),
      ap (λ b. b ∷ bytes) letter.1
          ∙ ap (λ more. letter_of letter.0 ∷ more) rest.3,
    )
  where
    one_more : (column : ℕ) (columns : List ℕ) → is_legal p column ≡ true → played (after_move p column) columns ≡ Some q → played p (column ∷ columns) ≡ Some q
    one_more column columns legal h = rw legal h

-- letters that were read are legal moves
letters_give : (bytes : List ℕ) (p q : Position) → letters_from p bytes ≡ Ok q → AreLetters bytes p q
letters_give [] p q h = ([], false, cc, refl)
letters_give (byte ∷ bytes) p q h = elim (chosen (byte == 10) (at_end p bytes) _ (Ok q) h) [
  | inl feed ↦
      let rest = at_end_gives p q bytes feed.1 in
      ([], true, ap Some rest.0, rw (eqb-true byte 10 feed.0, rest.1) refl)
  | inr other ↦ let all = one_letter byte bytes p q other.1 (λ next read. letters_give bytes next q read) in (all.0 ∷ all.1, all.2, all.3, all.4)
]

moves_give : (bytes : List ℕ) (p q : Position) → moves_at p bytes ≡ Ok q
    → (columns : List ℕ) × (ended : Bool) × (played p columns ≡ Some q) × (bytes ≡ move_list columns ++ last_feed ended)
moves_give [] p q h = cc
moves_give (byte ∷ bytes) p q h = elim (chosen (byte == 45) (after_dash p bytes) _ (Ok q) h) [
  | inl dash ↦ behind_dash bytes dash.1 (eqb-true byte 45 dash.0)
  | inr other ↦ let all = one_letter byte bytes p q other.1 (λ next read. letters_give bytes next q read) in (all.0 ∷ all.1, all.2, all.3, all.4)
]
  where
    behind_dash : (bytes : List ℕ) → after_dash p bytes ≡ Ok q → byte ≡ 45
        → (columns : List ℕ) × (ended : Bool) × (played p columns ≡ Some q) × (byte ∷ bytes ≡ move_list columns ++ last_feed ended)
    behind_dash [] h dash = ([], false, cc, rw dash refl)
    behind_dash (next ∷ bytes) h dash = elim (chosen (next == 10) (at_end p bytes) (stop _ (length (next ∷ bytes))) (Ok q) h) [
      | inl feed ↦ let rest = at_end_gives p q bytes feed.1 in ([], true, ap Some rest.0, rw (dash, eqb-true next 10 feed.0, rest.1) refl)
      | inr other ↦ absurd (cc other.1)
    ]

-- what is read is in the grammar
pub read_in_grammar : (bytes : List ℕ) (p : Position) → game_at bytes ≡ Ok p → IsGameText bytes p
unfolding game_at read_game
read_in_grammar bytes p h =
    let read = bind_ok (board_at bytes) (λ line. moves_at (empty_position line.0) line.1) p (unplaced (read_game bytes) h) in
    let line = board_gives bytes read.0 read.1 in
    let moves = moves_give read.0.1 (empty_position read.0.0) p read.2 in
    record {
      board = read.0.0;
      columns = moves.0;
      ended = moves.1;
      has_board = line.0;
      has_moves = moves.2;
      spelled = line.1 ∙ ap (λ rest. board_line read.0.0 ++ (10 ∷ (codes "moves " ++ rest))) moves.3
          ∙ ap (λ rest. board_line read.0.0 ++ (10 ∷ rest)) (sym (append_assoc (codes "moves ") (move_list moves.0) (last_feed moves.1)));
    }
  where
    unplaced : (r : Result Position Stop) → placed (length bytes) r ≡ Ok p → r ≡ Ok p
    unplaced (Ok q) h = cc
    unplaced (Err s) h = cc

-- ---- what is spelled

letters_of_moves : (columns : List ℕ) (ended : Bool) (p q : Position) → played p columns ≡ Some q
    → letters_from p (map letter_of columns ++ last_feed ended) ≡ Ok q
letters_of_moves [] true p q h = let same : p ≡ q = cc in ap Ok same
letters_of_moves [] false p q h = let same : p ≡ q = cc in ap Ok same
letters_of_moves (column ∷ columns) ended p q h = elim (chosen (is_legal p column) (played (after_move p column) columns) None (Some q) h) [
  | inr illegal ↦ absurd (cc illegal.1)
  | inl legal ↦
      let past : ((97 + column) == 10) ≡ false = ne_eqb (97 + column) 10 (λ (e : 97 + column ≡ 10). omega arith) in
      rw past (ap (λ r. r >>= λ next. letters_from next (map letter_of columns ++ last_feed ended)) (letter_of_move p column _ legal.0)
      ∙ letters_of_moves columns ended (after_move p column) q legal.1)
]

moves_of_list : (columns : List ℕ) (ended : Bool) (p q : Position) → played p columns ≡ Some q → moves_at p (move_list columns ++ last_feed ended) ≡ Ok q
moves_of_list [] true p q h = let same : p ≡ q = cc in ap Ok same
moves_of_list [] false p q h = let same : p ≡ q = cc in ap Ok same
moves_of_list (column ∷ columns) ended p q h = elim (chosen (is_legal p column) (played (after_move p column) columns) None (Some q) h) [
  | inr illegal ↦ absurd (cc illegal.1)
  | inl legal ↦
      let past : ((97 + column) == 45) ≡ false = ne_eqb (97 + column) 45 (λ (e : 97 + column ≡ 45). omega arith) in
      rw past (ap (λ r. r >>= λ next. letters_from next (map letter_of columns ++ last_feed ended)) (letter_of_move p column _ legal.0)
      ∙ letters_of_moves columns ended (after_move p column) q legal.1)
]

-- what is in the grammar is read
pub grammar_read : (bytes : List ℕ) (p : Position) → IsGameText bytes p → game_at bytes ≡ Ok p
unfolding game_at read_game
grammar_read bytes p text =
    let split : bytes ≡ board_line text.board ++ (10 ∷ (codes "moves " ++ (move_list text.columns ++ last_feed text.ended))) =
    text.spelled ∙ ap (λ rest. board_line text.board ++ (10 ∷ rest)) (append_assoc (codes "moves ") (move_list text.columns) (last_feed text.ended)) in
    ap (placed (length bytes))
    (ap (λ r. r >>= λ line. moves_at (empty_position line.0) line.1)
    (ap board_at split ∙ board_of_spelling text.board (move_list text.columns ++ last_feed text.ended) text.has_board)
    ∙ moves_of_list text.columns text.ended (empty_position text.board) p text.has_moves)

-- ---- the position

pub board_along : (columns : List ℕ) (p q : Position) → played p columns ≡ Some q → board_of q ≡ board_of p
board_along columns p q h = kept_along (λ r. board_of r ≡ board_of p) (λ r column same legal. board_moved r column ∙ same) columns p q refl h

-- the position of a text is one of legal moves from an empty board
pub game_along : (bytes : List ℕ) (p : Position) → game_at bytes ≡ Ok p
    → (board : Board) × (columns : List ℕ) × (is_board board ≡ true) × (played (empty_position board) columns ≡ Some p)
game_along bytes p h = let text = read_in_grammar bytes p h in (text.board, text.columns, text.has_board, text.has_moves)

pub game_board : (bytes : List ℕ) (p : Position) → game_at bytes ≡ Ok p → is_board (board_of p) ≡ true
game_board bytes p h =
    let text = read_in_grammar bytes p h in
    ap is_board (board_along text.columns (empty_position text.board) p text.has_moves
    ∙ ap (λ n. record { cols = n; rows = text.board.rows; len = text.board.len }) (length-replicate text.board.cols []))
    ∙ text.has_board

pub game_stacked : (bytes : List ℕ) (p : Position) → game_at bytes ≡ Ok p → IsStacked p
game_stacked bytes p h = let text = read_in_grammar bytes p h in stacked_along text.board text.columns p text.has_moves

pub game_empty : (bytes : List ℕ) (p : Position) → game_at bytes ≡ Ok p → empty_count p ≤ 100
game_empty bytes p h = empty_count_within p (game_board bytes p h)
