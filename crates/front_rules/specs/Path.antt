-- A tree that is changed along one path: the numbers are computed again at the nodes from the leaf up to the root alone.
use Rattle.std.specs.Prelude.{◌≡◌, Bool, true, if◌then◌else◌, ⊤}
use Rattle.game_rules.specs.Position.{Position}
use Rattle.game_rules.specs.declared.Side.{Side}
use Rattle.front_rules.specs.Counts.{same_count}
use Rattle.front_rules.specs.Front.{Row, nothing, leaf, inner, moves_out, leaf_number, is_own, row_number, node_number, verdict_on, node_as, leaves}
use Rattle.front_rules.specs.declared.Count.{Count}
use Rattle.front_rules.specs.declared.LeafVerdict.TheVariants.{Unsettled}

module _ (side : Side) where
  -- no inner node is settled
  abbrev pub IsClean : Row → Type 0
  IsClean nothing = ⊤
  IsClean (leaf p v rest) = IsClean rest
  IsClean (inner p kids rest) = (verdict_on side p kids ≡ Unsettled) × IsClean kids × IsClean rest

  module _ (closed : Side → Position → Bool) where
    -- The most-proving leaf is expanded, and on the way back each node of the path becomes a leaf where it is settled.
    abbrev pub updated : Bool → Count → Row → Row
    updated proof n nothing = nothing
    updated proof n (leaf p v rest) =
        if same_count (leaf_number proof v) n
        then node_as (verdict_on side p (leaves side closed (moves_out p))) p (leaves side closed (moves_out p)) rest
        else leaf p v (updated proof n rest)
    updated proof n (inner p kids rest) =
        if same_count (node_number side proof p kids) n
        then node_as
        (verdict_on side p (updated (is_own side p) (row_number side (is_own side p) true kids) kids))
        p
        (updated (is_own side p) (row_number side (is_own side p) true kids) kids)
        rest
        else inner p kids (updated proof n rest)
