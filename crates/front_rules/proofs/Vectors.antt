-- The front, computed at positions whose numbers are known from outside.
use Rattle.std.proofs.Common.{◌≡◌, ℕ, Bool, true, false, List, [], ◌∷◌, Option, Some, refl}
use Rattle.game_rules.specs.Squares.{squares_of_board}
use Rattle.game_rules.specs.Groups.{groups_of}
use Rattle.game_rules.specs.declared.Side.{Side}
use Rattle.game_rules.specs.declared.Side.TheVariants.{White}
use Rattle.game_rules.proofs.Samples.{after_moves}
use Rattle.walk_rules.specs.Walk.{walk_within, walk_from}
use Rattle.front_rules.specs.Front.{Row, node_count, root_number, asked, is_settled, front_within, front}
use Rattle.front_rules.specs.declared.Count.{Count}
use Rattle.front_rules.specs.declared.Count.TheVariants.{Finite, Infinite}

-- what is seen of a tree: the root's proof number and disproof number, how many nodes there are, and whether the root is
-- settled
record Seen : Type 0 where
  proof : Count
  disproof : Count
  nodes : ℕ
  settled : Bool

abbrev seen : Count → Count → ℕ → Bool → Seen
seen proof disproof nodes settled = record { proof = proof; disproof = disproof; nodes = nodes; settled = settled }

abbrev seen_of : Side → Row → Seen
seen_of side tree = seen (root_number side true tree) (root_number side false tree) (node_count tree) (is_settled side tree)

-- the tree on the board of 4 columns and 4 rows, after some moves from its empty board
abbrev after : {X : Type 0} → (Row → X) → List ℕ → Side → ℕ → ℕ → Option X
after f moves side k n = after_moves (λ p. f (front p side k n)) 4 4 moves

-- four squares of the left column are empty, and the third of them wins for White
left_column : List ℕ
left_column = 3 ∷ 2 ∷ 2 ∷ 1 ∷ 1 ∷ 3 ∷ 1 ∷ 1 ∷ 3 ∷ 3 ∷ 2 ∷ 2 ∷ []

-- with three slots the front is full after two expansions
left_column_after_two : after (seen_of White) left_column White 1000 2 ≡ Some (seen (Finite 1) (Finite 1) 3 false)
unfolding left_column squares_of_board groups_of walk_within walk_from front_within front
left_column_after_two = refl

left_column_asks : after (asked White) left_column White 1000 2 ≡ Some 1
unfolding left_column squares_of_board groups_of walk_within walk_from front_within front
left_column_asks = refl

-- with four it settles the root by the third
left_column_after_three : after (seen_of White) left_column White 1000 3 ≡ Some (seen (Finite 0) Infinite 1 true)
unfolding left_column squares_of_board groups_of walk_within walk_from front_within front
left_column_after_three = refl

-- without plans: with five slots the front is full after one expansion, and with nine after two
empty_board_after_one : after (seen_of White) [] White 0 1 ≡ Some (seen (Finite 1) (Finite 4) 5 false)
unfolding front_within front
empty_board_after_one = refl

empty_board_after_two : after (seen_of White) [] White 0 2 ≡ Some (seen (Finite 1) (Finite 4) 9 false)
unfolding front_within front
empty_board_after_two = refl

empty_board_asks : (after (asked White) [] White 0 1 ≡ Some 4) × (after (asked White) [] White 0 2 ≡ Some 4)
unfolding front_within front
empty_board_asks = (refl, refl)
