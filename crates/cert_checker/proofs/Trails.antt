-- A path and the positions along it, one move longer.
use Rattle.std.proofs.Common.{◌≡◌, ℕ, ◌+◌, ◌<◌, ◌≤◌, cond, List, [], ◌∷◌, ◌++◌, take, drop, set, get_or, Option, Some, None, length, sym, ap, ◌∙◌}
use Rattle.std.proofs.Common.{inl, inr, arith}
use Rattle.std.specs.List.{slice_get}
use Rattle.std.proofs.lemmas.Bool.{cases_eq}
use Rattle.std.proofs.lemmas.List.{take-append-drop, take_more, take-set-le, take_more_set, get_or-set_same, get_or-set_other, length-set}
use Rattle.std.proofs.lemmas.Option.{slice_get-get_or}
use Rattle.game_rules.specs.Position.{Position, board_of, after_move, is_legal, played}
use Rattle.game_rules.proofs.Lists.{chosen}
use Rattle.game_rules.proofs.Moves.{board_moved}
use Rattle.game_rules.proofs.Played.{barred_more, played_more}

-- one more move from the position kept after the path
pub one_more : (root last : Position) (columns : List ℕ) (positions : List Position) (moves column : ℕ) (r : Option Position) → moves < length positions
    → slice_get positions moves ≡ played root (take moves columns)
    → r ≡ cond (is_legal (get_or positions moves last) column) (Some (after_move (get_or positions moves last) column)) None
    → played root (take moves columns ++ column ∷ []) ≡ r
one_more root last columns positions moves column r within kept is =
    played_more root (get_or positions moves last) (take moves columns) column (sym kept ∙ slice_get-get_or positions moves last within) ∙ sym is

-- a path of which a prefix with one move more isn't legal
pub barred_at : (root : Position) (path : List ℕ) (i column : ℕ) → i < length path → column ≡ get_or path i column
    → played root (take i path ++ column ∷ []) ≡ None → played root path ≡ None
barred_at root path i column within is barred =
    ap (played root) (sym (take-append-drop (i + 1) path)
    ∙ ap (λ xs. xs ++ drop (i + 1) path) (take_more path i column within ∙ ap (λ c. take i path ++ c ∷ []) (sym is)))
    ∙ barred_more root (take i path ++ column ∷ []) (drop (i + 1) path) barred

-- with one move more each position is still that after so many moves
pub reached_more : (root next : Position) (columns : List ℕ) (positions : List Position) (moves column : ℕ) → moves < length columns
    → moves + 1 < length positions
    → ((i : ℕ) → i ≤ moves → slice_get positions i ≡ played root (take i columns)) → played root (take moves columns ++ column ∷ []) ≡ Some next
    → (i : ℕ) → i ≤ moves + 1 → slice_get (set positions (moves + 1) next) i ≡ played root (take i (set columns moves column))
reached_more root next columns positions moves column room place before legal i low = elim (cases_eq i (moves + 1)) [
  | inl here ↦
      ap (slice_get (set positions (moves + 1) next)) here
      ∙ slice_get-get_or (set positions (moves + 1) next) (moves + 1) next (omega (arith, length-set positions (moves + 1) next))
      ∙ ap Some (get_or-set_same positions (moves + 1) next next place)
      ∙ sym legal
      ∙ ap (played root) (sym (take_more_set columns moves column room) ∙ ap (λ n. take n (set columns moves column)) (sym here))
  | inr apart ↦
      let below : i ≤ moves = omega arith in
      let kept : i < length positions = omega arith in
      slice_get-get_or (set positions (moves + 1) next) i next (omega (arith, length-set positions (moves + 1) next))
      ∙ ap Some (get_or-set_other positions (moves + 1) i next next apart)
      ∙ sym (slice_get-get_or positions i next kept)
      ∙ before i below
      ∙ ap (played root) (sym (take-set-le i columns moves column below))
]

-- legal moves keep the board
board_played : (p q : Position) (path : List ℕ) → played p path ≡ Some q → board_of q ≡ board_of p
board_played p q [] h = let same : p ≡ q = cc in ap board_of (sym same)
board_played p q (x ∷ xs) h = elim (chosen (is_legal p x) (played (after_move p x) xs) None (Some q) h) [
  | inl legal ↦ board_played (after_move p x) q xs legal.1 ∙ board_moved p x
  | inr barred ↦ absurd (cc barred.1)
]

pub board_kept : (root last : Position) (columns : List ℕ) (positions : List Position) (moves : ℕ) → moves < length positions
    → slice_get positions moves ≡ played root (take moves columns)
    → board_of (get_or positions moves last) ≡ board_of root
board_kept root last columns positions moves within kept = board_played root (get_or positions moves last) (take moves columns)
    (sym kept ∙ slice_get-get_or positions moves last within)
