-- Squares, lists of squares and members of lists.
use Rattle.std.proofs.Common.{◌≡◌, ◌≢◌, ◌⊎◌, ℕ, zero, suc, ◌+◌, ◌<◌, Bool, true, false, ◌||◌, List, [], ◌∷◌, ◌++◌, Some, refl, sym, ap, ◌∙◌, subst, inl, inr}
use Rattle.std.proofs.Common.{arith}
use Rattle.std.specs.List.{list_any, slice_get, find}
use Rattle.std.proofs.lemmas.Bool.{cases_Bool, and_left, and_right, ne_eqb, cond-true, cond-false}
use Rattle.game_rules.specs.Board.{Square}
use Rattle.game_rules.specs.Squares.{same_square, has_square}
use Rattle.game_rules.proofs.Lists.{Among, Among-append_cases, Among-append_left, Among-append_right}
use Rattle.game_rules.proofs.Squares.{has_gives, has_from}
use Rattle.plan_rules.specs.Squares.{above, column_up}

pub other_column : (u v : Square) → u.0 ≢ v.0 → same_square u v ≡ false
other_column u v apart = and_left _ _ (ne_eqb u.0 v.0 apart)

pub other_row : (u v : Square) → u.1 ≢ v.1 → same_square u v ≡ false
other_row u v apart = and_right _ _ (ne_eqb u.1 v.1 apart)

pub has_append : (us vs : List Square) (u : Square) → has_square (us ++ vs) u ≡ true → (has_square us u ≡ true) ⊎ (has_square vs u ≡ true)
has_append us vs u h = elim (Among-append_cases u us vs (has_gives (us ++ vs) u h)) [
  | inl left ↦ inl (has_from us u left)
  | inr right ↦ inr (has_from vs u right)
]

pub has_left : (us vs : List Square) (u : Square) → has_square us u ≡ true → has_square (us ++ vs) u ≡ true
has_left us vs u h = has_from (us ++ vs) u (Among-append_left u us vs (has_gives us u h))

pub has_right : (us vs : List Square) (u : Square) → has_square vs u ≡ true → has_square (us ++ vs) u ≡ true
has_right us vs u h = has_from (us ++ vs) u (Among-append_right u us vs (has_gives vs u h))

-- squares of one column and one row are the same
pub same_place : (u v : Square) → u.0 ≡ v.0 → u.1 ≡ v.1 → u ≡ v
same_place (a, b) (c, r) column row = rw (column, row) refl

-- ---- members of a list by their place

pub Among-get : {X : Type 0} (xs : List X) (x : X) → Among x xs → (i : ℕ) × (slice_get xs i ≡ Some x)
Among-get [] x among = absurd among
Among-get (y ∷ xs) x (inl same) = (0, ap (λ z. Some z) same)
Among-get (y ∷ xs) x (inr later) = let rest = Among-get xs x later in (suc rest.0, rest.1)

pub get-Among : {X : Type 0} (xs : List X) (i : ℕ) (x : X) → slice_get xs i ≡ Some x → Among x xs
get-Among [] i x h = absurd (cc h)
get-Among (y ∷ xs) zero x h = inl (cc)
get-Among (y ∷ xs) (suc i) x h = inr (get-Among xs i x h)

-- the first that passes, with its place
pub find_one : {X : Type 0} (test : X → Bool) (xs : List X) → list_any test xs ≡ true → (i : ℕ) × (x : X) × (slice_get xs i ≡ Some x) × (test x ≡ true)
    × (find test xs ≡ Some x)
find_one test [] h = absurd (cc h)
find_one test (y ∷ xs) h = elim (cases_Bool (test y)) [
  | inl passes ↦ (0, y, refl, passes, cond-true (test y) (Some y) (find test xs) passes)
  | inr fails ↦
      let rest = find_one test xs (later (test y) fails h) in
      (suc rest.0, rest.1, rest.2, rest.3, cond-false (test y) (Some y) (find test xs) fails ∙ rest.4)
]
  where
    later : (b : Bool) → b ≡ false → (b || list_any test xs) ≡ true → list_any test xs ≡ true
    later true fails h = absurd (cc fails)
    later false fails h = h

-- ---- a column of squares

pub column_gives : (u : Square) (size : ℕ) (v : Square) → Among v (column_up u size) → (i : ℕ) × (i < size) × (v ≡ (u.0, u.1 + i))
column_gives u zero v among = absurd among
column_gives u (suc size) v (inl same) = (0, omega arith, sym same ∙ start u)
  where
    start : (u : Square) → u ≡ (u.0, u.1 + 0)
    start u = ap (λ r. (u.0, r)) (omega arith)
column_gives u (suc size) v (inr later) =
    let rest = column_gives (above u) size v later in
    (rest.0 + 1, omega (arith, rest.1), rest.2 ∙ ap (λ r. (u.0, r)) (omega arith))

pub column_from : (u : Square) (size i : ℕ) → i < size → Among (u.0, u.1 + i) (column_up u size)
column_from u zero i low = absurd (omega arith)
column_from u (suc size) zero low = inl (start u)
  where
    start : (u : Square) → u ≡ (u.0, u.1 + 0)
    start u = ap (λ r. (u.0, r)) (omega arith)
column_from u (suc size) (suc i) low = inr (subst (λ r. Among (u.0, r) (column_up (above u) size)) (omega arith) (column_from (above u) size i (omega arith)))
