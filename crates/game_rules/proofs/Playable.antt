-- The playable squares of a board are, column by column, the lowest empty one of each column that has room.
use Rattle.std.proofs.Common.{◌≡◌, ◌≢◌, ℕ, Bool, zero, suc, ◌+◌, ◌<◌, ◌≤◌, cond, ◌==◌, [], ◌∷◌, length, map, filter, refl, ap, ◌∙◌, inl, inr, arith}
use Rattle.std.specs.List.{range_with_len}
use Rattle.std.proofs.lemmas.Bool.{cases_Bool, cases_eq, cases_lt, and_parts, and_from, eq-eqb, eqb-true, ne_eqb}
use Rattle.game_rules.specs.Board.{Square, on_board}
use Rattle.game_rules.specs.Position.{Position, board_of, height, has_room}
use Rattle.game_rules.specs.Squares.{is_playable, squares_in_column}
use Rattle.game_rules.proofs.Ends.{on_board_from}
use Rattle.game_rules.proofs.Moves.{room_from, room_height}
use Rattle.game_rules.proofs.Squares.{agree}

-- of a column's squares one alone passes a test, that at place k from the bottom
module _ (test : Square → Bool) (rows c k : ℕ) (only : (i : ℕ) → i < rows → test (c, i + 1) ≡ (i == k)) where
  abbrev square_in : ℕ → Square
  square_in i = (c, i + 1)

  none_among : (m a : ℕ) → a + m ≤ rows → ((i : ℕ) → a ≤ i → i < a + m → i ≢ k) → filter test (map square_in (range_with_len a m)) ≡ []
  none_among zero a most apart = refl
  none_among (suc m) a most apart = rw (only a (omega arith) ∙ ne_eqb a k (apart a (omega arith) (omega arith)))
      (none_among m (a + 1) (omega arith) (λ i low high. apart i (omega arith) (omega arith)))

  one_among : (m a : ℕ) → a + m ≤ rows → a ≤ k → k < a + m → filter test (map square_in (range_with_len a m)) ≡ square_in k ∷ []
  one_among zero a most low high = absurd (omega arith)
  one_among (suc m) a most low high = elim (cases_eq a k) [
    | inl here ↦
        rw (only a (omega arith) ∙ eq-eqb a k here)
        (ap (λ us. square_in a ∷ us) (none_among m (a + 1) (omega arith) (λ i low high same. omega (arith, low, same, here))) ∙ ap (λ i. square_in i ∷ []) here)
    | inr before ↦ rw (only a (omega arith) ∙ ne_eqb a k before) (one_among m (a + 1) (omega arith) (omega arith) (omega arith))
  ]

  pub column_with_one : k < rows → filter test (squares_in_column rows c) ≡ (c, k + 1) ∷ []
  column_with_one low = one_among rows 0 (omega arith) (omega arith) (omega arith)

  pub column_with_none : rows ≤ k → filter test (squares_in_column rows c) ≡ []
  column_with_none high = none_among rows 0 (omega arith) (λ i low within same. omega (arith, within, same, high))

module _ (p : Position) (c : ℕ) (within : c < length p.columns) where
  -- of a column's squares the one on top of its men is playable
  pub on_top : (i : ℕ) → i < p.rows → is_playable p (c, i + 1) ≡ (i == height p c)
  on_top i low = agree _ _
      (λ h. let both = and_parts (on_board (board_of p) (c, i + 1)) ((i + 1) == (height p c + 1)) h in let same = eqb-true (i + 1) (height p c + 1) both.1 in
      eq-eqb i (height p c) (omega arith))
      (λ h. let same = eqb-true i (height p c) h in and_from _ _ (on_board_from (board_of p) c (i + 1) within (omega arith) (omega arith))
      (eq-eqb (i + 1) (height p c + 1) (omega arith)))

  -- a column's lowest empty square, if it has room
  pub column_playables : filter (is_playable p) (squares_in_column p.rows c) ≡ cond (has_room p c) ((c, height p c + 1) ∷ []) []
  column_playables = elim (cases_lt (height p c) p.rows) [
    | inl room ↦ rw (room_from p c within room) (column_with_one (is_playable p) p.rows c (height p c) on_top room)
    | inr full ↦ elim (cases_Bool (has_room p c)) [
      | inl room ↦ absurd (let under = room_height p c room in omega arith)
      | inr none ↦ rw none (column_with_none (is_playable p) p.rows c (height p c) on_top (omega arith))
    ]
  ]
