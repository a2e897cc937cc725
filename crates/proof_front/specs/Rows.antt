-- How a row of nodes lies in the slots of a pool: each node has the slot of its first child and of the node beside it.
use Rattle.std.specs.Prelude.{◌≡◌, ℕ, zero, suc, List, [], ◌∷◌, ◌++◌, length, Option, Some, None, ⊤}
use Rattle.game_rules.specs.Position.{Position, end_of}
use Rattle.game_rules.specs.declared.Side.{Side}
use Rattle.front_rules.specs.Front.{Row, nothing, leaf, inner, verdict_by_numbers}
use Rattle.front_rules.specs.Path.{IsClean}
use Rattle.front_rules.specs.declared.LeafVerdict.{LeafVerdict}
use Rattle.front_rules.specs.declared.LeafVerdict.TheVariants.{Unsettled}
use Rattle.node_pool.specs.Slots.{held}
use Rattle.proof_front.specs.Cells.{Cell, Owns}
use Rattle.proof_front.specs.Numbers.{leaf_numbers, node_numbers}
use Rattle.proof_front.specs.declared.node.Node.{Node}

-- ---- rows with their slots

-- a row in which each node has its slot
pub data Placed : Type 0 where
  end : Placed
  leaf_at : ℕ → Position → LeafVerdict → Placed → Placed
  inner_at : ℕ → Position → Placed → Placed → Placed

abbrev pub row_of : Placed → Row
row_of end = nothing
row_of (leaf_at i p v rest) = leaf p v (row_of rest)
row_of (inner_at i p kids rest) = inner p (row_of kids) (row_of rest)

-- the slot of the first node
abbrev pub first_of : Placed → Option ℕ
first_of end = None
first_of (leaf_at i p v rest) = Some i
first_of (inner_at i p kids rest) = Some i

-- the row's slots, and what is in them
abbrev pub cells_of : Side → Placed → List (Cell Node)
cells_of side end = []
cells_of side (leaf_at i p v rest) = (i, record { position = p; first = None; next = first_of rest; numbers = leaf_numbers v }) ∷ cells_of side rest
cells_of side (inner_at i p kids rest) =
    (i, record { position = p; first = first_of kids; next = first_of rest; numbers = node_numbers side p (row_of kids) }) ∷ (cells_of side kids ++ cells_of side rest)

-- each leaf that isn't settled is a position at which the game goes on
abbrev pub AreGoing : Row → Type 0
AreGoing nothing = ⊤
AreGoing (leaf p v rest) = (v ≡ Unsettled → end_of p ≡ None) × AreGoing rest
AreGoing (inner p kids rest) = AreGoing kids × AreGoing rest

-- The row lies in the pool from this slot on, beside other cells. No inner node of it is settled, and no leaf that isn't
-- settled has ended.
pub record Lies (side : Side) (slots : List (Option Node)) (at : Option ℕ) (row : Placed) (others : List (Cell Node)) : Type 0 where
  pub owns : Owns slots (cells_of side row ++ others)
  pub first : first_of row ≡ at
  pub clean : IsClean side (row_of row)
  pub going : AreGoing (row_of row)

-- some row lies there
pub record IsRowAt (side : Side) (slots : List (Option Node)) (at : Option ℕ) : Type 0 where
  pub row : Placed
  pub others : List (Cell Node)
  pub lies : Lies side slots at row others

-- ---- reading a row

abbrev pub row_beside : Node → Option ℕ → (below beside : Row) → Row
row_beside node None below beside = leaf node.position (verdict_by_numbers node.numbers.proof node.numbers.disproof) beside
row_beside node (Some i) below beside = inner node.position below beside

abbrev pub row_held : (Option ℕ → Row) → Option Node → Row
row_held read None = nothing
row_held read (Some node) = row_beside node node.first (read node.first) (read node.next)

-- the row from a slot on; so many steps serve
unfoldable pub row_within : ℕ → List (Option Node) → Option ℕ → Row
row_within zero slots at = nothing
row_within (suc n) slots None = nothing
row_within (suc n) slots (Some i) = row_held (row_within n slots) (held slots i)

abbrev pub row_at : List (Option Node) → Option ℕ → Row
row_at slots at = row_within (length slots) slots at
