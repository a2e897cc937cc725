-- The squares of a board, column by column.
use Rattle.std.proofs.Common.{◌≡◌, ℕ, zero, suc, ◌+◌, ◌*◌, ◌<◌, ◌≤◌, List, [], ◌∷◌, ◌++◌, cond, length, filter, Some, None, inl, inr, ap, ◌∙◌, arith, add-one}
use Rattle.std.proofs.Common.{length-append}
use Rattle.std.specs.List.{flat_map, range_with_len}
use Rattle.std.proofs.lemmas.List.{append-nil}
use Rattle.std.proofs.lemmas.List.FromFn.{length-map-range_with_len}
use Rattle.std.proofs.Math.Nat.{add-mul, mul-le-mul}
use Rattle.std.proofs.lemmas.Grind.{flat_map-append}
use Rattle.std.proofs.lemmas.List.Elements.{filter-append}
use Rattle.std.proofs.lemmas.Option.{cond_some}
use Rattle.std.proofs.lemmas.Bool.{cases_Bool}
use Rattle.game_rules.specs.Board.{Board, Square, below}
use Rattle.game_rules.specs.Position.{Position, height, has_room, lowest_empty}
use Rattle.game_rules.specs.Squares.{is_playable, squares_in_column, squares_of_board}
use Rattle.game_rules.proofs.Playable.{column_playables}

range_more : (a n j : ℕ) → a + n ≡ j → range_with_len a (n + 1) ≡ range_with_len a n ++ j ∷ []
range_more a n j e = rw (add-one n) (at a n e)
  where
    at : (a n : ℕ) → a + n ≡ j → range_with_len a (suc n) ≡ range_with_len a n ++ j ∷ []
    at a zero e = ap (λ k. k ∷ []) (omega arith)
    at a (suc n) e = ap (λ ks. a ∷ ks) (at (a + 1) n (omega arith))

pub columns_more : (rows i : ℕ) → flat_map (squares_in_column rows) (below (i + 1)) ≡ flat_map (squares_in_column rows) (below i) ++ squares_in_column rows i
columns_more rows i =
    ap (flat_map (squares_in_column rows)) (range_more 0 i i (omega arith))
    ∙ flat_map-append (squares_in_column rows) (below i) (i ∷ [])
    ∙ ap (λ us. flat_map (squares_in_column rows) (below i) ++ us) (append-nil (squares_in_column rows i))

pub columns_all : (b : Board) (i : ℕ) → i ≡ b.cols → flat_map (squares_in_column b.rows) (below i) ≡ squares_of_board b
unfolding squares_of_board
columns_all b i last = ap (λ n. flat_map (squares_in_column b.rows) (below n)) last

pub rows_more : (rows i column : ℕ) (us : List Square) → length us ≡ i * rows → length (us ++ squares_in_column rows column) ≡ (i + 1) * rows
rows_more rows i column us count =
    length-append us (squares_in_column rows column) ∙ ap (λ n. length us + n) (length-map-range_with_len (λ r. (column, r + 1)) 0 rows)
    ∙ ap (λ n. n + rows) count
    ∙ omega (arith, add-mul i 1 rows)

-- a further column has room among ten of ten squares each
pub rows_room : (i cols rows : ℕ) → i < cols → cols ≤ 10 → rows ≤ 10 → i * rows + rows ≤ 100
rows_room i cols rows within wide high =
    let most : (i + 1) * rows ≤ 10 * 10 = mul-le-mul {n₁ = i + 1} {m₁ = rows} {n₂ = 10} {m₂ = 10} (omega arith) high in
    omega (arith, add-mul i 1 rows)

module _ (p : Position) (i : ℕ) (within : i < length p.columns) where
  abbrev pub playables_below : ℕ → List Square
  playables_below n = filter (is_playable p) (flat_map (squares_in_column p.rows) (below n))

  playables_more : playables_below (i + 1) ≡ playables_below i ++ cond (has_room p i) ((i, height p i + 1) ∷ []) []
  playables_more =
      ap (filter (is_playable p)) (columns_more p.rows i)
      ∙ filter-append (is_playable p) (flat_map (squares_in_column p.rows) (below i)) (squares_in_column p.rows i)
      ∙ ap (λ us. playables_below i ++ us) (column_playables p i within)

  -- one more column has room
  pub playables_some : (u : Square) → lowest_empty p i ≡ Some u → playables_below (i + 1) ≡ playables_below i ++ u ∷ []
  playables_some u h =
      let got = cond_some (has_room p i) (i, height p i + 1) u h in
      playables_more ∙ ap (λ b. playables_below i ++ cond b ((i, height p i + 1) ∷ []) []) got.0 ∙ ap (λ v. playables_below i ++ v ∷ []) got.1

  -- it has none
  pub playables_none : lowest_empty p i ≡ None → playables_below (i + 1) ≡ playables_below i
  playables_none h = elim (cases_Bool (has_room p i)) [
    | inl room ↦ absurd (cc (rw room at h))
    | inr full ↦ playables_more ∙ ap (λ b. playables_below i ++ cond b ((i, height p i + 1) ∷ []) []) full ∙ append-nil (playables_below i)
  ]
