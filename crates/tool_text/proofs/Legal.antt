-- Moves of a game that are legal one after the other: the first of them, one at a place, and a part of them.
use Rattle.std.proofs.Common.{◌≡◌, ℕ, ◌+◌, ◌<◌, true, false, List, [], ◌∷◌, ◌++◌, length, take, drop, get_or, Option, Some, None, IsSome, sym, ap}
use Rattle.std.proofs.Common.{◌∙◌, subst, inl, inr}
use Rattle.std.proofs.Common.{refl}
use Rattle.std.proofs.lemmas.Bool.{cases_Bool}
use Rattle.std.proofs.lemmas.List.{take_more, drop_more}
use Rattle.game_rules.specs.Position.{Position, after_move, is_legal, played}

played_on : (p : Position) (column : ℕ) (rest : List ℕ) → is_legal p column ≡ true → played p (column ∷ rest) ≡ played (after_move p column) rest
played_on p column rest legal = rw legal refl

played_off : (p : Position) (column : ℕ) (rest : List ℕ) → is_legal p column ≡ false → played p (column ∷ rest) ≡ None
played_off p column rest illegal = rw illegal refl

first_legal : (p : Position) (column : ℕ) (rest : List ℕ) → IsSome (played p (column ∷ rest))
    → (is_legal p column ≡ true) × IsSome (played (after_move p column) rest)
first_legal p column rest some = elim (cases_Bool (is_legal p column)) [
  | inl legal ↦ (legal, subst IsSome (played_on p column rest legal) some)
  | inr illegal ↦ absurd (no_some (played p (column ∷ rest)) (played_off p column rest illegal) some)
]
  where
    no_some : (o : Option Position) → o ≡ None → IsSome o → ⊥
    no_some o none some = cc

-- the move at a place, of those that are left
pub next_legal : (p : Position) (columns : List ℕ) (i column : ℕ) → i < length columns → column ≡ get_or columns i column → IsSome (played p (drop i columns))
    → (is_legal p column ≡ true) × IsSome (played (after_move p column) (drop (i + 1) columns))
next_legal p columns i column low at some =
    first_legal p column (drop (i + 1) columns)
    (subst (λ columns. IsSome (played p columns)) (drop_more columns i column low ∙ ap (λ c. c ∷ drop (i + 1) columns) (sym at)) some)

-- the moves up to it
pub next_taken : (columns : List ℕ) (i column : ℕ) → i < length columns → column ≡ get_or columns i column
    → take (i + 1) columns ≡ take i columns ++ column ∷ []
next_taken columns i column low at = take_more columns i column low ∙ ap (λ c. take i columns ++ c ∷ []) (sym at)

pub played_parts : (p : Position) (xs ys : List ℕ) → IsSome (played p (xs ++ ys)) → IsSome (played p xs)
    × ((q : Position) → played p xs ≡ Some q → IsSome (played q ys))
played_parts p [] ys some = (some_here p, λ q same. subst (λ p. IsSome (played p ys)) (same_end same) some)
  where
    some_here : (p : Position) → IsSome (played p [])
    some_here p = cc

    same_end : {p q : Position} → Some p ≡ Some q → p ≡ q
    same_end h = cc
played_parts p (x ∷ xs) ys some =
    let first = first_legal p x (xs ++ ys) some in
    let rest = played_parts (after_move p x) xs ys first.1 in (
      subst IsSome (sym (played_on p x xs first.0)) rest.0,
      λ q along. rest.1 q (sym (played_on p x xs first.0) ∙ along),
    )
