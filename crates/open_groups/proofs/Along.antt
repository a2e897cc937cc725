-- The groups of one direction by their anchors, and the room for those of all four.
use Rattle.std.proofs.Common.{◌≡◌, ◌+◌, ◌≤◌, true, List, ◌++◌, length, map, filter, ap, ◌∙◌, arith, length-append}
use Rattle.std.proofs.lemmas.List.{append-nil}
use Rattle.game_rules.specs.Board.{Board, Square, is_board, is_line}
use Rattle.game_rules.specs.Groups.{Group, group_on, groups_along, groups_of}
use Rattle.game_rules.proofs.Groups.{groups_fit}
use Rattle.game_rules.specs.declared.Way.{Way}
use Rattle.game_rules.specs.declared.Way.TheVariants.{H, V, U, D}
use Rattle.game_rules.specs.declared.TheConstants.{MOST_GROUPS}

-- the groups with their anchors in a list of squares
abbrev pub anchored_in : Board → Way → List Square → List Group
anchored_in b way us = map (group_on b way) (filter (is_line b way) us)

pub groups_by_way : (b : Board) → groups_of b ≡ groups_along b H ++ (groups_along b V ++ (groups_along b U ++ groups_along b D))
unfolding groups_of
groups_by_way b = ap (λ gs. groups_along b H ++ (groups_along b V ++ (groups_along b U ++ gs))) (append-nil (groups_along b D))

pub ways_fit : (b : Board) → is_board b ≡ true
    → length (groups_along b H) + (length (groups_along b V) + (length (groups_along b U) + length (groups_along b D))) ≤ MOST_GROUPS
ways_fit b h =
    omega (
      arith,
      groups_fit b h,
      ap length (groups_by_way b),
      length-append (groups_along b H) (groups_along b V ++ (groups_along b U ++ groups_along b D)),
      length-append (groups_along b V) (groups_along b U ++ groups_along b D),
      length-append (groups_along b U) (groups_along b D),
    )

-- a list with more behind it is longer by as much
pub length_behind : {X : Type 0} (old more : List X) {new : List X} → new ≡ old ++ more → length new ≡ length old + length more
length_behind old more h = ap length h ∙ length-append old more
