-- A front as its callers see it: a tree, the side that is asked about, the reach of the plans, and the number of slots.
use Rattle.std.specs.Prelude.{◌≡◌, ◌↔◌, ℕ, ◌-◌, nat_lt, ◌≤◌, List, [], length, Option, Some, Bool, true, false}
use Rattle.game_rules.specs.Position.{Position}
use Rattle.game_rules.specs.declared.Side.{Side}
use Rattle.front_rules.specs.Counts.{is_zero}
use Rattle.front_rules.specs.Front.{Row, nothing, leaf, inner, node_count, root_number, is_settled, asked, front}
use Rattle.node_pool.specs.declared.pool.TheConstants.{MOST_SLOTS}
use Rattle.proof_front.specs.Rows.{Placed, row_of, Lies, row_at}
use Rattle.proof_front.specs.declared.front.Grown.{Grown}
use Rattle.proof_front.specs.declared.front.Grown.TheVariants as grows
use Rattle.proof_front.specs.declared.node.Node.{Node}

pub record FrontState : Type 0 where
  pub side : Side
  pub reach : ℕ
  pub slots : List (Option Node)
  pub root : ℕ

abbrev pub tree_of : FrontState → Row
tree_of f = row_at f.slots (Some f.root)

-- how many slots the front has
abbrev pub slot_count : FrontState → ℕ
slot_count f = length f.slots

-- the row beside the first node
abbrev pub beside : Row → Row
beside nothing = nothing
beside (leaf p v rest) = rest
beside (inner p kids rest) = rest

-- A tree of one root lies in the pool, and nothing beside it; no inner node is settled.
pub record IsFront (side : Side) (slots : List (Option Node)) (root : ℕ) : Type 0 where
  pub tree : Placed
  pub lies : Lies side slots (Some root) tree []
  pub alone : beside (row_of tree) ≡ nothing
  pub few : length slots ≤ MOST_SLOTS

-- the most-proving leaf has more moves than there are free slots
abbrev pub is_full : Side → ℕ → Row → Bool
is_full side slots tree = nat_lt (slots - node_count tree) (asked side tree)

-- The front of a position for a side, after so many expansions.
pub record IsFrontOf (p : Position) (side : Side) (reach n slots : ℕ) (f : FrontState) : Type 0 where
  pub tree : tree_of f ≡ front p side reach n
  pub same_side : f.side ≡ side
  pub same_reach : f.reach ≡ reach
  pub same_slots : slot_count f ≡ slots

-- What a front answers that is to grow: whether the side wins exactly where its root is settled, and else whether there is
-- too little room.
pub record IsAnswer (f : FrontState) (answer : Grown) : Type 0 where
  pub yes : (answer ≡ grows.Settled true) ↔ (is_zero (root_number f.side true (tree_of f)) ≡ true)
  pub no : (answer ≡ grows.Settled false) ↔ (is_zero (root_number f.side false (tree_of f)) ≡ true)
  pub full : (answer ≡ grows.Full) ↔ ((is_settled f.side (tree_of f) ≡ false) × (is_full f.side (slot_count f) (tree_of f) ≡ true))
