-- The first elements of a list that pass or fail a test, by their places, and the zones of a list of instances. The list
-- may be of instances as they are written, or of whatever stands for them.
use Rattle.std.specs.Prelude.{◌≡◌, ◌⊎◌, ℕ, ◌+◌, ◌<◌, Bool, true, false, not, nat_lt, if◌then◌else◌, List, [], ◌∷◌, filter, Option, Some, None, slice_get}
use Rattle.std.specs.List.{enumerate_from, position_from}
use Rattle.std.specs.Option.{option_map, option_or}
use Rattle.plan_rules.specs.Rules.{RuleInstance, owns_no_zone}

-- The least two places of two elements that fail a test of two, with the list's first place given: the least first one,
-- and then the least second one.
abbrev pub first_two_from : {X : Type 0} → (X → X → Bool) → ℕ → List X → Option (ℕ × ℕ)
first_two_from test n [] = None
first_two_from test n (x ∷ xs) = option_or (option_map (λ j. (n, j)) (position_from (λ y. not (test x y)) (n + 1) xs)) (first_two_from test (n + 1) xs)

-- of two pairs of places the one with the less first place, and at equal ones the left
abbrev pub lesser_two : Option (ℕ × ℕ) → Option (ℕ × ℕ) → Option (ℕ × ℕ)
lesser_two None new = new
lesser_two (Some old) None = Some old
lesser_two (Some old) (Some new) = if nat_lt new.0 old.0 then Some new else Some old

-- zone rules own squares, and standing rules none
abbrev pub owns_zone : RuleInstance → Bool
owns_zone w = not (owns_no_zone w)

-- the elements that own a zone, each with its place
abbrev pub zones_from : {X : Type 0} → (X → Bool) → ℕ → List X → List (ℕ × X)
zones_from owns n xs = filter (λ zone. owns zone.1) (enumerate_from n xs)

-- ---- the same in words

-- the element at this place, counted from n, passes a test, and none before it does
pub record IsFirstAt {X : Type 0} (test : X → Bool) (n : ℕ) (xs : List X) (place : ℕ) : Type 0 where
  pub index : ℕ
  pub counted : place ≡ n + index
  pub element : X
  pub at : slice_get xs index ≡ Some element
  pub passes : test element ≡ true
  pub earlier : (i : ℕ) (x : X) → i < index → slice_get xs i ≡ Some x → test x ≡ false

-- The elements at these two places, counted from n, fail a test of two; and none do of which the first one is less, or
-- the same and the second one less.
pub record IsLeastTwo {X : Type 0} (test : X → X → Bool) (n : ℕ) (xs : List X) (first second : ℕ) : Type 0 where
  pub left : ℕ
  pub right : ℕ
  pub first_counted : first ≡ n + left
  pub second_counted : second ≡ n + right
  pub order : left < right
  pub left_element : X
  pub right_element : X
  pub at_left : slice_get xs left ≡ Some left_element
  pub at_right : slice_get xs right ≡ Some right_element
  pub fails : test left_element right_element ≡ false
  pub earlier : (i j : ℕ) (x y : X) → i < j → (i < left) ⊎ ((i ≡ left) × (j < right)) → slice_get xs i ≡ Some x → slice_get xs j ≡ Some y → test x y ≡ true
