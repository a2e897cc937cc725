-- The front: a tree of positions for the question whether a side wins, and the two numbers of each node. A leaf that is
-- looked at gets its moves as children, and a node whose answer is known becomes a leaf. By proof numbers, after Allis.
use Rattle.std.specs.Prelude.{◌≡◌, ℕ, zero, suc, ◌+◌, ◌<◌, Bool, true, false, not, ◌||◌, if◌then◌else◌, List, [], ◌∷◌, map, filter, length, Option, Some, None}
use Rattle.game_rules.specs.Position.{Position, side_to_move, same_side, is_legal, after_move, end_of}
use Rattle.game_rules.specs.Value.{win_of, same_end}
use Rattle.game_rules.specs.Cost.{centre_out}
use Rattle.game_rules.specs.declared.Side.{Side}
use Rattle.game_rules.specs.declared.Side.TheVariants.{White, Black}
use Rattle.game_rules.specs.declared.End.{End}
use Rattle.walk_rules.specs.Walk.{solved}
use Rattle.front_rules.specs.Counts.{plus, least, same_count, is_zero}
use Rattle.front_rules.specs.declared.Count.{Count}
use Rattle.front_rules.specs.declared.Count.TheVariants.{Finite, Infinite}
use Rattle.front_rules.specs.declared.LeafVerdict.{LeafVerdict}
use Rattle.front_rules.specs.declared.LeafVerdict.TheVariants.{Unsettled, Yes, No}

-- ---- the tree

-- Nodes side by side, from the left: each is a leaf, or an inner node with its children. A tree is a row of one node.
pub data Row : Type 0 where
  nothing : Row
  leaf : Position → LeafVerdict → Row → Row
  inner : Position → Row → Row → Row

-- how many nodes there are, with those below them
abbrev pub node_count : Row → ℕ
node_count nothing = 0
node_count (leaf p v rest) = 1 + node_count rest
node_count (inner p kids rest) = 1 + (node_count kids + node_count rest)

-- the positions after each legal move, from the middle outwards
abbrev pub moves_out : Position → List Position
moves_out p = map (after_move p) (filter (is_legal p) (centre_out (length p.columns)))

-- ---- the numbers, for the question whether the side wins

-- Which of a node's two numbers is meant is told by a Bool: true for the proof number, false for the disproof number.

-- a leaf has (0, infinite) where the side wins, (infinite, 0) where it doesn't, and (1, 1) where it isn't settled
abbrev pub leaf_number : Bool → LeafVerdict → Count
leaf_number proof Unsettled = Finite 1
leaf_number true Yes = Finite 0
leaf_number false Yes = Infinite
leaf_number true No = Infinite
leaf_number false No = Finite 0

-- the least of two numbers, or their sum
abbrev pub joined : Bool → Count → Count → Count
joined true m n = least m n
joined false m n = plus m n

-- the least of no numbers, and the sum of none
abbrev pub of_none : Bool → Count
of_none true = Infinite
of_none false = Finite 0

-- what two numbers settle
abbrev pub verdict_by_numbers : Count → Count → LeafVerdict
verdict_by_numbers proof disproof = if is_zero proof then Yes else (if is_zero disproof then No else Unsettled)

-- the node, as a leaf without a subtree where it is settled
abbrev pub node_as : LeafVerdict → Position → Row → Row → Row
node_as Unsettled p kids rest = inner p kids rest
node_as Yes p kids rest = leaf p Yes rest
node_as No p kids rest = leaf p No rest

module _ (side : Side) where
  -- the side is to move
  abbrev pub is_own : Position → Bool
  is_own p = same_side side (side_to_move p)

  -- A node's number is the least of its children's, or their sum: the least is its proof number where the side is to
  -- move, and its disproof number where the other side is.
  abbrev pub takes_least : Bool → Position → Bool
  takes_least true p = is_own p
  takes_least false p = not (is_own p)

  -- the least of the numbers of the nodes in a row, or their sum
  abbrev pub row_number : (proof smallest : Bool) → Row → Count
  row_number proof smallest nothing = of_none smallest
  row_number proof smallest (leaf p v rest) = joined smallest (leaf_number proof v) (row_number proof smallest rest)
  row_number proof smallest (inner p kids rest) = joined smallest (row_number proof (takes_least proof p) kids) (row_number proof smallest rest)

  -- a number of an inner node, by its children
  abbrev pub node_number : Bool → Position → Row → Count
  node_number proof p kids = row_number proof (takes_least proof p) kids

  -- a number of a tree's root
  abbrev pub root_number : Bool → Row → Count
  root_number proof tree = row_number proof true tree

  -- ---- what becomes of a tree

  -- how an inner node stands
  abbrev pub verdict_on : Position → Row → LeafVerdict
  verdict_on p kids = verdict_by_numbers (node_number true p kids) (node_number false p kids)

  -- each inner node with a number 0 becomes a settled leaf
  abbrev pub collapsed : Row → Row
  collapsed nothing = nothing
  collapsed (leaf p v rest) = leaf p v (collapsed rest)
  collapsed (inner p kids rest) = node_as (verdict_on p kids) p (collapsed kids) (collapsed rest)

  -- The set `closed` has the positions at which the question is answered without a move, with no.
  module _ (closed : Side → Position → Bool) where
    -- how a position stands that no move was looked at from
    abbrev pub end_verdict : Option End → Bool → LeafVerdict
    end_verdict (Some end) known = if same_end (win_of side) end then Yes else No
    end_verdict None known = if known then No else Unsettled

    abbrev pub verdict_at : Position → LeafVerdict
    verdict_at p = end_verdict (end_of p) (closed side p)

    -- a leaf for each position
    abbrev pub leaves : List Position → Row
    leaves [] = nothing
    leaves (p ∷ ps) = leaf p (verdict_at p) (leaves ps)

    -- The most-proving leaf, below the first node of a row whose number is n: from there on it goes to the first child
    -- with the node's number, the proof number where the side is to move, and else the disproof number. That leaf gets
    -- its moves as children.
    abbrev pub expanded : Bool → Count → Row → Row
    expanded proof n nothing = nothing
    expanded proof n (leaf p v rest) =
        if same_count (leaf_number proof v) n then inner p (leaves (moves_out p)) rest else leaf p v (expanded proof n rest)
    expanded proof n (inner p kids rest) =
        if same_count (node_number proof p kids) n
        then inner p (expanded (is_own p) (row_number (is_own p) true kids) kids) rest
        else inner p kids (expanded proof n rest)

    -- the tree after its most-proving leaf was expanded
    abbrev pub grown : Row → Row
    grown tree = collapsed (expanded true (root_number true tree) tree)

    -- the tree after n expansions
    unfoldable pub front_within : Position → ℕ → Row
    front_within p zero = leaves (p ∷ [])
    front_within p (suc n) = grown (front_within p n)

  -- how many moves the leaf has that would be expanded
  abbrev pub asked_in : Bool → Count → Row → ℕ
  asked_in proof n nothing = 0
  asked_in proof n (leaf p v rest) = if same_count (leaf_number proof v) n then length (moves_out p) else asked_in proof n rest
  asked_in proof n (inner p kids rest) =
      if same_count (node_number proof p kids) n
      then asked_in (is_own p) (row_number (is_own p) true kids) kids
      else asked_in proof n rest

  abbrev pub asked : Row → ℕ
  asked tree = asked_in true (root_number true tree) tree

  -- the root is settled
  abbrev pub is_settled : Row → Bool
  is_settled tree = is_zero (root_number true tree) || is_zero (root_number false tree)

-- ---- the front with a reach

-- where White is asked about and a plan is chosen among the first k sets, White doesn't win
abbrev pub planned : ℕ → Side → Position → Bool
planned k White p = solved p k
planned k Black p = false

-- The front for a position, a side and a reach, after n expansions. It is the front of the game where no root was settled
-- before an expansion.
unfoldable pub front : Position → Side → ℕ → ℕ → Row
front p side k n = front_within side (planned k) p n

-- before each of the n expansions the root wasn't settled
abbrev pub IsGrowing : Position → Side → ℕ → ℕ → Type 0
IsGrowing p side k n = (m : ℕ) → m < n → is_settled side (front p side k m) ≡ false
