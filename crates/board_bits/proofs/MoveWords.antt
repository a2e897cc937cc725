-- What a move does to the words of the men, and the words of the empty position.
use Rattle.std.proofs.Common.{◌≡◌, ℕ, ◌+◌, ◌-◌, ◌*◌, ◌%◌, ◌^◌, ◌≤◌, true, ◌||◌, List, [], length, Some, refl, sym, ap, ◌∙◌, subst, inl, inr, arith, bit_or}
use Rattle.std.proofs.lemmas.Bool.{false_from_ne_true}
use Rattle.std.proofs.lemmas.List.{length-replicate}
use Rattle.std.proofs.lemmas.List.Elements.{All-replicate}
use Rattle.game_rules.specs.Board.{Board, Square, is_board, on_board}
use Rattle.game_rules.specs.Position.{Position, board_of, empty_position, height, is_man, has_man, other, side_to_move, has_room, after_move, IsStacked}
use Rattle.game_rules.specs.Squares.{same_square, widest}
use Rattle.game_rules.specs.declared.Side.{Side}
use Rattle.game_rules.specs.declared.Side.TheVariants.{White, Black}
use Rattle.game_rules.proofs.Ends.{cases_square, on_board_from, other_kept, empty_no_man}
use Rattle.game_rules.proofs.Moves.{room_column, room_height, placed, unchanged, board_moved, stacked_moved}
use Rattle.game_rules.proofs.Squares.{same_square_refl, same_square_is, where_same}
use Rattle.board_squares.specs.Words.{has_bit, word_of}
use Rattle.board_bits.specs.MenWords.{side_word}
use Rattle.board_bits.specs.PositionFields.{men_of, fields_of, IsSound}
use Rattle.board_bits.specs.declared.position.Position.TheInside.{Inside}
use Rattle.board_squares.proofs.Words.{word_is_word, word_back, word_has}
use Rattle.board_squares.proofs.Masks.{zero_word, no_bit, more, more_word, more_bit}
use Rattle.board_bits.proofs.Positions.{on_widest, kept_sound, kept_men}

module _ (p : Position) (board : is_board (board_of p) ≡ true) (stacked : IsStacked p) (c : ℕ) (room : has_room p c ≡ true) where
  abbrev lowest : Square
  lowest = (c, height p c + 1)

  lowest_on : on_board widest lowest ≡ true
  lowest_on =
      let low = room_height p c room in
      on_widest p board stacked lowest (on_board_from (board_of p) c (height p c + 1) (room_column p c room) (omega arith) (omega (arith, low)))

  -- the square of the man is one more bit of the mover's
  pub mover_word : (side : Side) → side_to_move p ≡ side → side_word (after_move p c) side ≡ bit_or (side_word p side) (1 * 2 ^ (11 * c + height p c) % 2 ^ 128)
  mover_word side moves =
      ap word_of (where_same (has_man (after_move p c) side) (has_bit (more (side_word p side) lowest)) (λ u on.
      at u ∙ ap (λ b. same_square u lowest || b) (sym (word_has (has_man p side) u on)) ∙ sym (more_bit (side_word p side) lowest lowest_on u on)))
      ∙ word_back (more (side_word p side) lowest) (more_word (side_word p side) lowest lowest_on (word_is_word (has_man p side)))
      ∙ ap (λ i. bit_or (side_word p side) (1 * 2 ^ i % 2 ^ 128)) (let e : 11 * c + (height p c + 1) - 1 ≡ 11 * c + height p c = omega arith in e)
    where
      own : (side : Side) → is_man side (Some side) ≡ true
      own White = refl
      own Black = refl

      at : (u : Square) → has_man (after_move p c) side u ≡ (same_square u lowest || has_man p side u)
      at u = elim (cases_square u lowest) [
        | inl here ↦
            ap (has_man (after_move p c) side) here
            ∙ ap (is_man side) (placed p c (room_column p c room) ∙ ap Some moves) ∙ own side
            ∙ ap (λ b. b || has_man p side u) (sym (same_square_refl lowest) ∙ ap (λ v. same_square v lowest) (sym here))
        | inr apart ↦
            ap (is_man side) (unchanged p c u.0 u.1 (room_column p c room) apart)
            ∙ ap (λ b. b || has_man p side u) (sym (false_from_ne_true (same_square u lowest) (λ same.
            let here = same_square_is u lowest same in apart (ap (λ (v : Square). v.0) here) (ap (λ (v : Square). v.1) here))))
      ]

  pub other_word : side_word (after_move p c) (other (side_to_move p)) ≡ side_word p (other (side_to_move p))
  other_word = ap word_of (where_same (has_man (after_move p c) (other (side_to_move p))) (has_man p (other (side_to_move p))) (λ u on. other_kept p c room u))

  pub white_moved : (a : Inside) → fields_of p ≡ a → side_to_move p ≡ White
      → fields_of (after_move p c) ≡ record a { white = bit_or a.white (1 * 2 ^ (11 * c + height p c) % 2 ^ 128) }
  white_moved a is moves =
      ap (λ b. record { size = b; white = side_word (after_move p c) White; black = side_word (after_move p c) Black }) (board_moved p c)
      ∙ ap (λ n. record { size = board_of p; white = n; black = side_word (after_move p c) Black }) (mover_word White moves)
      ∙ ap (λ n. record { size = board_of p; white = bit_or (side_word p White) (1 * 2 ^ (11 * c + height p c) % 2 ^ 128); black = n })
      (ap (λ side. side_word (after_move p c) (other side)) (sym moves) ∙ other_word ∙ ap (λ side. side_word p (other side)) moves)
      ∙ ap (λ (b : Inside). record b { white = bit_or b.white (1 * 2 ^ (11 * c + height p c) % 2 ^ 128) }) is

  pub black_moved : (a : Inside) → fields_of p ≡ a → side_to_move p ≡ Black
      → fields_of (after_move p c) ≡ record a { black = bit_or a.black (1 * 2 ^ (11 * c + height p c) % 2 ^ 128) }
  black_moved a is moves =
      ap (λ b. record { size = b; white = side_word (after_move p c) White; black = side_word (after_move p c) Black }) (board_moved p c)
      ∙ ap (λ n. record { size = board_of p; white = side_word (after_move p c) White; black = n }) (mover_word Black moves)
      ∙ ap (λ n. record { size = board_of p; white = n; black = bit_or (side_word p Black) (1 * 2 ^ (11 * c + height p c) % 2 ^ 128) })
      (ap (λ side. side_word (after_move p c) (other side)) (sym moves) ∙ other_word ∙ ap (λ side. side_word p (other side)) moves)
      ∙ ap (λ (b : Inside). record b { black = bit_or b.black (1 * 2 ^ (11 * c + height p c) % 2 ^ 128) }) is

  pub board_after : is_board (board_of (after_move p c)) ≡ true
  board_after = ap is_board (board_moved p c) ∙ board

  pub stacked_after : IsStacked (after_move p c)
  stacked_after = stacked_moved p c stacked room

-- the fields after a move
module _ (a : Inside) (p : Position) (shown : men_of a ≡ p) (sound : IsSound a) (c n : ℕ) (room : has_room p c ≡ true) (place : n ≡ 11 * c + height p c) where
  fields_is : fields_of p ≡ a
  fields_is = ap fields_of (sym shown) ∙ sound.fields_back

  board_is : is_board (board_of p) ≡ true
  board_is = ap (λ (b : Inside). is_board b.size) fields_is ∙ sound.board

  stacked_is : IsStacked p
  stacked_is = subst IsStacked shown sound.stacked

  white_fields : side_to_move p ≡ White → fields_of (after_move p c) ≡ record a { white = bit_or a.white (1 * 2 ^ n % 2 ^ 128) }
  white_fields moves = white_moved p board_is stacked_is c room a fields_is moves ∙ ap (λ i. record a { white = bit_or a.white (1 * 2 ^ i % 2 ^ 128) })
      (sym place)

  black_fields : side_to_move p ≡ Black → fields_of (after_move p c) ≡ record a { black = bit_or a.black (1 * 2 ^ n % 2 ^ 128) }
  black_fields moves = black_moved p board_is stacked_is c room a fields_is moves ∙ ap (λ i. record a { black = bit_or a.black (1 * 2 ^ i % 2 ^ 128) })
      (sym place)

  pub white_sound : side_to_move p ≡ White → IsSound (record a { white = bit_or a.white (1 * 2 ^ n % 2 ^ 128) })
  white_sound moves = kept_sound (after_move p c) (board_after p board_is stacked_is c room) (stacked_after p board_is stacked_is c room) _ (white_fields moves)

  pub white_men : side_to_move p ≡ White → men_of (record a { white = bit_or a.white (1 * 2 ^ n % 2 ^ 128) }) ≡ after_move p c
  white_men moves = kept_men (after_move p c) (board_after p board_is stacked_is c room) (stacked_after p board_is stacked_is c room) _ (white_fields moves)

  pub black_sound : side_to_move p ≡ Black → IsSound (record a { black = bit_or a.black (1 * 2 ^ n % 2 ^ 128) })
  black_sound moves = kept_sound (after_move p c) (board_after p board_is stacked_is c room) (stacked_after p board_is stacked_is c room) _ (black_fields moves)

  pub black_men : side_to_move p ≡ Black → men_of (record a { black = bit_or a.black (1 * 2 ^ n % 2 ^ 128) }) ≡ after_move p c
  black_men moves = kept_men (after_move p c) (board_after p board_is stacked_is c room) (stacked_after p board_is stacked_is c room) _ (black_fields moves)

-- ---- the empty position

pub empty_board : (b : Board) → board_of (empty_position b) ≡ b
empty_board b = ap (λ n. record b { cols = n }) (length-replicate b.cols [])

pub empty_stacked : (b : Board) → IsStacked (empty_position b)
empty_stacked b = All-replicate (λ (men : List Side). length men ≤ b.rows) b.cols [] (omega arith)

empty_side : (b : Board) (side : Side) → side_word (empty_position b) side ≡ 0
empty_side b side = ap word_of (where_same (has_man (empty_position b) side) (has_bit 0) (λ u on. empty_no_man b side u ∙ sym (no_bit u)))
    ∙ word_back 0 zero_word

pub empty_fields : (b : Board) → fields_of (empty_position b) ≡ record { size = b; white = 0; black = 0 }
empty_fields b =
    ap (λ c. record { size = c; white = side_word (empty_position b) White; black = side_word (empty_position b) Black }) (empty_board b)
    ∙ ap (λ n. record { size = b; white = n; black = side_word (empty_position b) Black }) (empty_side b White)
    ∙ ap (λ n. record { size = b; white = 0; black = n }) (empty_side b Black)

pub empty_sound : (b : Board) → is_board b ≡ true → IsSound (record { size = b; white = 0; black = 0 })
empty_sound b is = kept_sound (empty_position b) (ap is_board (empty_board b) ∙ is) (empty_stacked b) _ (empty_fields b)

pub empty_men : (b : Board) → is_board b ≡ true → men_of (record { size = b; white = 0; black = 0 }) ≡ empty_position b
empty_men b is = kept_men (empty_position b) (ap is_board (empty_board b) ∙ is) (empty_stacked b) _ (empty_fields b)
