-- Lists of moves that are played from a position: with one move more, and how many squares they fill.
use Rattle.std.proofs.Common.{◌≡◌, ℕ, ◌+◌, cond, List, [], ◌∷◌, ◌++◌, Some, None, length, ap, ◌∙◌, inl, inr, arith}
use Rattle.game_rules.specs.Position.{Position, after_move, is_legal, played, empty_count}
use Rattle.game_rules.proofs.Lists.{chosen}
use Rattle.game_rules.proofs.Moves.{empty_count_moved}
use Rattle.game_rules.proofs.Ends.{legal_parts}

-- a path with a move that isn't legal leads nowhere, whatever follows
pub barred_more : (p : Position) (xs ys : List ℕ) → played p xs ≡ None → played p (xs ++ ys) ≡ None
barred_more p [] ys h = absurd (cc h)
barred_more p (x ∷ xs) ys h = elim (chosen (is_legal p x) (played (after_move p x) xs) None None h) [
  | inl legal ↦ ap (λ b. cond b (played (after_move p x) (xs ++ ys)) None) legal.0 ∙ barred_more (after_move p x) xs ys legal.1
  | inr barred ↦ ap (λ b. cond b (played (after_move p x) (xs ++ ys)) None) barred.0
]

same_end : {p q : Position} → Some p ≡ Some q → p ≡ q
same_end h = cc

-- the position after one more move
pub played_more : (p q : Position) (xs : List ℕ) (column : ℕ) → played p xs ≡ Some q
    → played p (xs ++ column ∷ []) ≡ cond (is_legal q column) (Some (after_move q column)) None
played_more p q [] column h = ap (λ p. cond (is_legal p column) (Some (after_move p column)) None) (same_end h)
played_more p q (x ∷ xs) column h = elim (chosen (is_legal p x) (played (after_move p x) xs) None (Some q) h) [
  | inl legal ↦ ap (λ b. cond b (played (after_move p x) (xs ++ column ∷ [])) None) legal.0 ∙ played_more (after_move p x) q xs column legal.1
  | inr barred ↦ absurd (cc barred.1)
]

-- each move fills a square
pub played_fill : (columns : List ℕ) (p q : Position) → played p columns ≡ Some q → length columns + empty_count q ≡ empty_count p
played_fill [] p q h = omega (arith, ap empty_count (same_end h))
played_fill (column ∷ columns) p q h = elim (chosen (is_legal p column) (played (after_move p column) columns) None (Some q) h) [
  | inl legal ↦ omega (arith, played_fill columns (after_move p column) q legal.1, empty_count_moved p column (legal_parts p column legal.0).1)
  | inr barred ↦ absurd (cc barred.1)
]
