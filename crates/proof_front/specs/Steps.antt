-- What an expansion rests on and what it leaves, node by node.
use Rattle.std.specs.List.{filter}
use Rattle.std.specs.Prelude.{◌≡◌, ◌≢◌, ◌↔◌, ℕ, ◌<◌, false, List, [], ◌∷◌, ◌++◌, length, map, Option, Some, None, Bool, true}
use Rattle.game_rules.specs.Position.{Position, has_room, after_move, end_of}
use Rattle.game_rules.specs.declared.Side.{Side}
use Rattle.front_rules.specs.Counts.{is_zero, is_infinite}
use Rattle.front_rules.specs.Front.{Row, row_number, verdict_on, leaves, moves_out, planned, asked_in}
use Rattle.front_rules.specs.Path.{IsClean, updated}
use Rattle.front_rules.specs.declared.Count.{Count}
use Rattle.front_rules.specs.declared.LeafVerdict.{LeafVerdict}
use Rattle.front_rules.specs.declared.LeafVerdict.TheVariants.{Unsettled, Yes, No}
use Rattle.node_pool.specs.Slots.{free_slots}
use Rattle.proof_front.specs.Numbers.{node_numbers}
use Rattle.proof_front.specs.Cells.{Cell, Owns}
use Rattle.proof_front.specs.Rows.{Placed, row_of, first_of, cells_of, AreGoing, Lies}
use Rattle.proof_front.specs.declared.growing.Step.{Step}
use Rattle.proof_front.specs.declared.growing.Step.TheVariants as steps
use Rattle.proof_front.specs.declared.node.Node.{Node}

-- A row lies from this slot on whose least number is this one, neither 0 nor infinite.
pub record IsAsked (side : Side) (slots : List (Option Node)) (at : ℕ) (proof : Bool) (least : Count) : Type 0 where
  pub row : Placed
  pub others : List (Cell Node)
  pub lies : Lies side slots (Some at) row others
  pub number : row_number side proof true (row_of row) ≡ least
  pub unsettled : is_zero least ≡ false
  pub finite : is_infinite least ≡ false

-- A node lies in this slot, and from `first` on a row for its children, beside other cells.
pub record LiesBelow (side : Side) (slots : List (Option Node)) (at : ℕ) (first : Option ℕ) (node : Node) (kids : Placed)
    (others : List (Cell Node)) : Type 0 where
  pub owns : Owns slots ((at, node) ∷ (cells_of side kids ++ others))
  pub begins : first_of kids ≡ first
  pub clean : IsClean side (row_of kids)
  pub going : AreGoing (row_of kids)

pub record IsBelow (side : Side) (slots : List (Option Node)) (at : ℕ) (first : Option ℕ) : Type 0 where
  pub node : Node
  pub kids : Placed
  pub others : List (Cell Node)
  pub lies : LiesBelow side slots at first node kids others

-- the cells of a node whose numbers were looked at again, and of its children, which it has no more where it is settled
abbrev pub kept_below : LeafVerdict → ℕ → Node → (kids : Option ℕ) → List (Cell Node) → List (Cell Node)
kept_below Unsettled at node first cells = (at, record node { first = first }) ∷ cells
kept_below Yes at node first cells = (at, record node { first = None }) ∷ []
kept_below No at node first cells = (at, record node { first = None }) ∷ []

abbrev pub renewed : Side → ℕ → Node → Placed → List (Cell Node)
renewed side at node kids =
    kept_below (verdict_on side node.position (row_of kids)) at (record node { numbers = node_numbers side node.position (row_of kids) }) (first_of kids)
    (cells_of side kids)

-- a node lies in this slot at whose position the game goes on
pub record IsGoingLeaf (slots : List (Option Node)) (at : ℕ) : Type 0 where
  pub node : Node
  pub others : List (Cell Node)
  pub owns : Owns slots ((at, node) ∷ others)
  pub going : end_of node.position ≡ None

-- A row lies from the slot `first` on, beside other cells, with a leaf for each of the columns that has room.
pub record LeavesLie (p : Position) (side : Side) (closed : Side → Position → Bool) (slots : List (Option Node)) (columns : List ℕ) (first : Option ℕ)
    (others : List (Cell Node)) : Type 0 where
  pub row : Placed
  pub is : row_of row ≡ leaves side closed (map (after_move p) (filter (has_room p) columns))
  pub going : AreGoing (row_of row)
  pub begins : first_of row ≡ first
  pub owns : Owns slots (cells_of side row ++ others)

-- A row of these nodes lies from this slot on.
pub record Grew (side : Side) (slots : List (Option Node)) (at : ℕ) (row : Row) (others : List (Cell Node)) : Type 0 where
  pub placed : Placed
  pub is : row_of placed ≡ row
  pub lies : Lies side slots (Some at) placed others

-- ---- what an expansion did, step by step

-- A node was looked at again, whose children lie beside other cells.
pub record IsRenewed (side : Side) (slots : List (Option Node)) (at : ℕ) (node : Node) (kids : Placed) (others : List (Cell Node)) (step : Step) : Type 0 where
  pub owns : Owns slots (renewed side at node kids ++ others)
  pub numbers : step ≡ steps.Same → node.numbers ≡ node_numbers side node.position (row_of kids)

-- A leaf got a child for each of its moves, or there was too little room.
pub record IsExpanded (side : Side) (reach : ℕ) (old new : List (Option Node)) (at : ℕ) (node : Node) (others : List (Cell Node)) (step : Step) : Type 0 where
  pub full : step ≡ steps.Full ↔ (free_slots old < length (moves_out node.position))
  pub grown : step ≢ steps.Full
      → (kids : Placed) × (row_of kids ≡ leaves side (planned reach) (moves_out node.position)) × AreGoing (row_of kids) × Owns new (renewed side at node kids ++ others)
  pub numbers : step ≡ steps.Same → node.numbers ≡ node_numbers side node.position (leaves side (planned reach) (moves_out node.position))

-- A row grew by its most-proving leaf, or there was too little room; where its first number stays, all of them do.
pub record IsGrown (side : Side) (reach : ℕ) (old new : List (Option Node)) (at : ℕ) (proof : Bool) (least : Count) (row : Placed) (others : List (Cell Node))
    (step : Step) : Type 0 where
  pub full : step ≡ steps.Full ↔ (free_slots old < asked_in side proof least (row_of row))
  pub grown : step ≢ steps.Full → Grew side new at (updated side (planned reach) proof least (row_of row)) others
  pub numbers : step ≡ steps.Same
      → (b smallest : Bool) → row_number side b smallest (updated side (planned reach) proof least (row_of row)) ≡ row_number side b smallest (row_of row)
