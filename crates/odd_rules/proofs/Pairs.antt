-- Even and odd numbers, what a pair is, and the other square of a pair.
use Rattle.std.proofs.Common.{◌≡◌, ◌≢◌, ◌⊎◌, ℕ, zero, suc, ◌%◌, ◌<◌, true, false, cond, List, [], ◌∷◌, Some, None, refl, sym, ap, ◌∙◌, inl, inr, ◌==◌, subst}
use Rattle.std.proofs.lemmas.Bool.{both_ways, and_parts, or_cases, or_left, or_right, not-true, eqb-true, eq-eqb, ltb-true}
use Rattle.std.proofs.lemmas.Option.{same_Some}
use Rattle.game_rules.specs.Board.{Square}
use Rattle.game_rules.specs.Position.{Position, board_of, height}
use Rattle.game_rules.specs.Squares.{same_square, is_playable}
use Rattle.game_rules.proofs.Lists.{chosen}
use Rattle.game_rules.proofs.Squares.{same_square_refl, same_square_is}
use Rattle.plan_rules.specs.Squares.{is_even, is_odd}
use Rattle.plan_rules.specs.Rules.{baseinverse, is_shaped, fits_besides}
use Rattle.odd_rules.specs.Threat.{Pair, is_in_column, share_column, is_pair, is_of_pair, IsPairAt}
use Rattle.odd_rules.specs.Duel.{partner}

-- ---- parity

pub even_gives : (n : ℕ) → is_even n ≡ true → n % 2 ≡ 0
even_gives n h = eqb-true (n % 2) 0 h

pub odd_gives : (n : ℕ) → is_odd n ≡ true → n % 2 ≡ 1
odd_gives n h = eqb-true (n % 2) 1 h

pub even_from : (n : ℕ) → n % 2 ≡ 0 → is_even n ≡ true
even_from n h = eq-eqb (n % 2) 0 h

pub odd_from : (n : ℕ) → n % 2 ≡ 1 → is_odd n ≡ true
odd_from n h = eq-eqb (n % 2) 1 h

-- ---- a pair

-- what a pair is at a position, with a target
pub record PairParts (p : Position) (t : Square) (x : Pair) : Type 0 where
  pub order : x.0.0 < x.1.0
  pub left : is_playable p x.0 ≡ true
  pub right : is_playable p x.1 ≡ true
  pub left_apart : x.0.0 ≢ t.0
  pub right_apart : x.1.0 ≢ t.0
  pub left_odd : height p x.0.0 % 2 ≡ 1
  pub right_odd : height p x.1.0 % 2 ≡ 1

pub pair_parts : (p : Position) (t : Square) (x : Pair) → is_pair p t x ≡ true → PairParts p t x
pair_parts p t x h =
    let right = and_parts _ (is_odd (height p x.1.0)) h in
    let left = and_parts _ (is_odd (height p x.0.0)) right.0 in
    let apart = and_parts _ _ left.0 in
    let fit = and_parts _ (fits_besides (baseinverse x.0 x.1) p) apart.0 in
    let shape = and_parts (is_shaped (baseinverse x.0 x.1) (board_of p)) _ fit.0 in
    let both = and_parts (is_playable p x.0) (is_playable p x.1) fit.1 in
    let columns : is_in_column t.0 x ≡ false = not-true _ apart.1 in
    record {
      order = ltb-true x.0.0 x.1.0 (and_parts _ _ shape.0).1;
      left = both.0;
      right = both.1;
      left_apart = λ same. both_ways (is_in_column t.0 x) columns (or_left _ _ (eq-eqb x.0.0 t.0 same));
      right_apart = λ same. both_ways (is_in_column t.0 x) columns (or_right _ _ (eq-eqb x.1.0 t.0 same));
      left_odd = odd_gives (height p x.0.0) left.1;
      right_odd = odd_gives (height p x.1.0) right.1;
    }

-- ---- columns of two pairs

pub in_gives : (c : ℕ) (x : Pair) → is_in_column c x ≡ true → (x.0.0 ≡ c) ⊎ (x.1.0 ≡ c)
in_gives c x h = elim (or_cases _ _ h) [
  | inl left ↦ inl (eqb-true x.0.0 c left)
  | inr right ↦ inr (eqb-true x.1.0 c right)
]

same_column : (u v : Square) → u ≡ v → (u.0 == v.0) ≡ true
same_column u v same = eq-eqb u.0 v.0 (ap (λ (w : Square). w.0) same)

pub left_in : (x : Pair) → is_in_column x.0.0 x ≡ true
left_in x = or_left _ _ (eq-eqb x.0.0 x.0.0 refl)

pub right_in : (x : Pair) → is_in_column x.1.0 x ≡ true
right_in x = or_right _ _ (eq-eqb x.1.0 x.1.0 refl)

-- two pairs share a column exactly where one column is in both
pub share_gives : (x y : Pair) → share_column x y ≡ true → (c : ℕ) × (is_in_column c x ≡ true) × (is_in_column c y ≡ true)
share_gives x y h = elim (or_cases _ _ h) [
  | inl left ↦ (x.0.0, left_in x, left)
  | inr right ↦ (x.1.0, right_in x, right)
]

pub share_from : (x y : Pair) (c : ℕ) → is_in_column c x ≡ true → is_in_column c y ≡ true → share_column x y ≡ true
share_from x y c in_x in_y = elim (in_gives c x in_x) [
  | inl left ↦ or_left _ _ (ap (λ n. is_in_column n y) left ∙ in_y)
  | inr right ↦ or_right _ _ (ap (λ n. is_in_column n y) right ∙ in_y)
]

pub apart_columns : (x y : Pair) → share_column x y ≡ false → (c : ℕ) → is_in_column c x ≡ true → is_in_column c y ≡ true → ⊥
apart_columns x y apart c in_x in_y = both_ways (share_column x y) apart (share_from x y c in_x in_y)

-- ---- the other square of a pair

-- the two squares are those of the pair, in this order or the other
abbrev pub AreIts : Pair → Square → Square → Type 0
AreIts x u v = ((x.0 ≡ u) × (x.1 ≡ v)) ⊎ ((x.1 ≡ u) × (x.0 ≡ v))

-- they are those of a pair of the list
pub record ArePair (pairs : List Pair) (u v : Square) : Type 0 where
  pub place : ℕ
  pub pair : Pair
  pub is_at : IsPairAt pairs place pair
  pub squares : AreIts pair u v

pub of_pair : (x : Pair) (u v : Square) → AreIts x u v → (is_of_pair u x ≡ true) × ((x.0 ≡ v) ⊎ (x.1 ≡ v))
of_pair x u v (inl both) = (or_left _ _ (subst (λ w. same_square u w ≡ true) (sym both.0) (same_square_refl u)), inr both.1)
of_pair x u v (inr both) = (or_right _ _ (subst (λ w. same_square u w ≡ true) (sym both.0) (same_square_refl u)), inl both.1)

-- its columns are theirs
pub columns_of : (x : Pair) (u v : Square) → AreIts x u v → (c : ℕ) → is_in_column c x ≡ true → (c ≡ u.0) ⊎ (c ≡ v.0)
columns_of x u v are c in_x = by are (in_gives c x in_x)
  where
    column : (w z : Square) → w.0 ≡ c → w ≡ z → c ≡ z.0
    column w z at same = sym at ∙ ap (λ (y : Square). y.0) same

    by : AreIts x u v → (x.0.0 ≡ c) ⊎ (x.1.0 ≡ c) → (c ≡ u.0) ⊎ (c ≡ v.0)
    by (inl both) (inl at) = inl (column x.0 u at both.0)
    by (inl both) (inr at) = inr (column x.1 v at both.1)
    by (inr both) (inl at) = inr (column x.0 v at both.1)
    by (inr both) (inr at) = inl (column x.1 u at both.0)

pub in_columns : (x : Pair) (u v : Square) → AreIts x u v → (is_in_column u.0 x ≡ true) × (is_in_column v.0 x ≡ true)
in_columns x u v (inl both) = (or_left _ _ (same_column x.0 u both.0), or_right _ _ (same_column x.1 v both.1))
in_columns x u v (inr both) = (or_right _ _ (same_column x.1 u both.0), or_left _ _ (same_column x.0 v both.1))

pub partner_gives : (pairs : List Pair) (u v : Square) → partner pairs u ≡ Some v → ArePair pairs u v
partner_gives [] u v h = absurd (cc h)
partner_gives (x ∷ xs) u v h = elim (chosen (same_square u x.0) (Some x.1) (cond (same_square u x.1) (Some x.0) (partner xs u)) (Some v) h) [
  | inl first ↦ record { place = 0; pair = x; is_at = refl; squares = inl (sym (same_square_is u x.0 first.0), same_Some x.1 v first.1) }
  | inr other ↦ elim (chosen (same_square u x.1) (Some x.0) (partner xs u) (Some v) other.1) [
    | inl second ↦ record { place = 0; pair = x; is_at = refl; squares = inr (sym (same_square_is u x.1 second.0), same_Some x.0 v second.1) }
    | inr later ↦ let rest = partner_gives xs u v later.1 in
        record { place = suc rest.place; pair = rest.pair; is_at = rest.is_at; squares = rest.squares }
  ]
]

-- a square without a partner is in no pair
pub no_partner : (pairs : List Pair) (u : Square) → partner pairs u ≡ None → (i : ℕ) (x : Pair) → IsPairAt pairs i x
    → (same_square u x.0 ≡ false) × (same_square u x.1 ≡ false)
no_partner [] u h i x at = absurd (cc at)
no_partner (y ∷ ys) u h i x at = elim (chosen (same_square u y.0) (Some y.1) (cond (same_square u y.1) (Some y.0) (partner ys u)) None h) [
  | inl first ↦ absurd (cc first.1)
  | inr other ↦ elim (chosen (same_square u y.1) (Some y.0) (partner ys u) None other.1) [
    | inl second ↦ absurd (cc second.1)
    | inr later ↦ here i other.0 later.0 (λ j at. no_partner ys u later.1 j x at) at
  ]
]
  where
    here : (i : ℕ) → same_square u y.0 ≡ false → same_square u y.1 ≡ false
        → ((j : ℕ) → IsPairAt ys j x → (same_square u x.0 ≡ false) × (same_square u x.1 ≡ false))
        → IsPairAt (y ∷ ys) i x → (same_square u x.0 ≡ false) × (same_square u x.1 ≡ false)
    here zero left right rest at =
        let same : y ≡ x = same_Some y x at in
        (ap (λ (z : Pair). same_square u z.0) (sym same) ∙ left, ap (λ (z : Pair). same_square u z.1) (sym same) ∙ right)
    here (suc j) left right rest at = rest j at
