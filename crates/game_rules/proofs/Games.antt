-- Games as they are played and as their texts spell them.
use Rattle.std.proofs.Common.{◌≡◌, ℕ, ◌+◌, ◌-◌, ◌<◌, Bool, true, false, ◌==◌, cond, List, [], ◌∷◌, ◌++◌, map, length, Some, None, Ok, codes, refl, sym, ap, ◌∙◌}
use Rattle.std.proofs.Common.{append_assoc, arith}
use Rattle.std.proofs.lemmas.Bool.{ne_eqb}
use Rattle.std.proofs.lemmas.List.{length-replicate}
use Rattle.game_rules.specs.Board.{Board, is_board}
use Rattle.game_rules.specs.Position.{Position, board_of, empty_position, after_move, has_room, is_legal, played}
use Rattle.game_rules.specs.Text.{board_at, game_at}
use Rattle.game_rules.specs.Grammar.{letter_of, move_list, board_line, last_feed, game_text, IsGameText}
use Rattle.game_rules.specs.Game.{Game, board_played, new_game, IsPlayed, IsTextOf, letters_in, moves_in, moves_behind, moves_of}
use Rattle.game_rules.proofs.Moves.{board_moved}
use Rattle.game_rules.proofs.Values.{empty_count_room}
use Rattle.game_rules.proofs.BoardLine.{first_empty, board_of_spelling}
use Rattle.game_rules.proofs.Grammar.{board_along, read_in_grammar, grammar_read}
use Rattle.game_rules.proofs.Played.{played_more, played_fill}

-- ---- how games are played

empty_board : (board : Board) → board_of (empty_position board) ≡ board
empty_board board = ap (λ n. record { cols = n; rows = board.rows; len = board.len }) (length-replicate board.cols [])

pub new_is_played : (board : Board) → IsPlayed (new_game board)
new_is_played board = ap (λ b. Some (empty_position b)) (empty_board board)

pub move_is_played : (game : Game) (column : ℕ) → IsPlayed game → is_legal game.position column ≡ true
    → IsPlayed (record { position = after_move game.position column; moves = game.moves ++ column ∷ [] })
move_is_played game column h legal =
    ap (λ board. played (empty_position board) (game.moves ++ column ∷ [])) (board_moved game.position column)
    ∙ played_more (empty_position (board_played game)) game.position game.moves column h
    ∙ ap (λ b. cond b (Some (after_move game.position column)) None) legal

-- while a column has room, fewer moves were made than a board has squares
pub moves_few : (game : Game) (column : ℕ) → IsPlayed game → is_board (board_played game) ≡ true → has_room game.position column ≡ true
    → length game.moves < 100
moves_few game column h board room =
    let fill = played_fill game.moves (empty_position (board_played game)) game.position h in
    let most = first_empty (board_played game) board in
    omega (arith, fill, most.1, empty_count_room game.position column room)

-- ---- how their texts are spelled

letters_spelled : (columns : List ℕ) (ended : Bool) → letters_in (map letter_of columns ++ last_feed ended) ≡ columns
letters_spelled [] true = refl
letters_spelled [] false = refl
letters_spelled (column ∷ columns) ended =
    let past : ((97 + column) == 10) ≡ false = ne_eqb (97 + column) 10 (λ (e : 97 + column ≡ 10). omega arith) in
    let back : (97 + column) - 97 ≡ column = omega arith in
    rw (past, back) (ap (λ more. column ∷ more) (letters_spelled columns ended))

moves_spelled : (columns : List ℕ) (ended : Bool) → moves_in (move_list columns ++ last_feed ended) ≡ columns
moves_spelled [] ended = refl
moves_spelled (column ∷ columns) ended =
    let past : ((97 + column) == 45) ≡ false = ne_eqb (97 + column) 45 (λ (e : 97 + column ≡ 45). omega arith) in
    let back : (97 + column) - 97 ≡ column = omega arith in
    rw (past, back) (ap (λ more. column ∷ more) (letters_spelled columns ended))

text_moves : (bytes : List ℕ) (p : Position) (text : IsGameText bytes p) → moves_of bytes ≡ text.columns
text_moves bytes p text =
    let split : bytes ≡ board_line text.board ++ (10 ∷ (codes "moves " ++ (move_list text.columns ++ last_feed text.ended))) =
    text.spelled ∙ ap (λ rest. board_line text.board ++ (10 ∷ rest)) (append_assoc (codes "moves ") (move_list text.columns) (last_feed text.ended)) in
    ap moves_behind (ap board_at split ∙ board_of_spelling text.board (move_list text.columns ++ last_feed text.ended) text.has_board)
    ∙ moves_spelled text.columns text.ended

-- the moves that were read, and the position behind them, are those of the text
pub text_of_game : (bytes : List ℕ) (game : Game) → game_at bytes ≡ Ok game.position → game.moves ≡ moves_of bytes → IsTextOf bytes game
text_of_game bytes game read moves =
    let text = read_in_grammar bytes game.position read in
    let same : game.moves ≡ text.columns = moves ∙ text_moves bytes game.position text in
    let board : board_played game ≡ text.board = board_along text.columns (empty_position text.board) game.position text.has_moves ∙ empty_board text.board in
    record {
      ended = text.ended;
      has_board = ap is_board board ∙ text.has_board;
      has_moves = ap (λ b. played (empty_position b) game.moves) board ∙ ap (played (empty_position text.board)) same ∙ text.has_moves;
      spelled = text.spelled ∙ sym (ap (λ b. game_text b game.moves text.ended) board ∙ ap (λ moves. game_text text.board moves text.ended) same);
    }

-- a game's text in the words of the grammar
abbrev pub game_in_grammar : (bytes : List ℕ) (game : Game) → IsTextOf bytes game → IsGameText bytes game.position
game_in_grammar bytes game text = record {
  board = board_played game;
  columns = game.moves;
  ended = text.ended;
  has_board = text.has_board;
  has_moves = text.has_moves;
  spelled = text.spelled;
}

pub game_is_read : (bytes : List ℕ) (game : Game) → IsTextOf bytes game → game_at bytes ≡ Ok game.position
game_is_read bytes game text = grammar_read bytes game.position (game_in_grammar bytes game text)
