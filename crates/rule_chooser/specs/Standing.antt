-- The first standing instance that answers a group, over facts and a set of squares.
use Rattle.std.specs.Prelude.{◌==◌, Bool, not, ◌&&◌, ◌||◌, List, length, map, Option, is_some}
use Rattle.std.specs.List.{list_all, list_any, find}
use Rattle.std.specs.Option.{option_map, option_or}
use Rattle.game_rules.specs.Board.{Square}
use Rattle.game_rules.specs.Position.{Position, board_of}
use Rattle.game_rules.specs.Squares.{same_square, has_square}
use Rattle.game_rules.specs.Groups.{groups_of}
use Rattle.plan_rules.specs.Rules.{RuleInstance, Facts, vertical, aftereven, before, specialbefore, fits, barred, is_supported}
use Rattle.plan_rules.specs.Listing.{squares_at, playable_squares, each_with}
use Rattle.rule_chooser.specs.declared.groups.OpenGroup.{OpenGroup}

-- it fits, is supported by the facts, and bars the squares
abbrev pub does_answer : Position → Facts → (Square → Bool) → RuleInstance → Bool
does_answer p facts part w = fits w p && (is_supported w facts && barred w facts part)

-- the first of those that are written with some elements
abbrev pub first_of : {X : Type 0} → Position → Facts → (Square → Bool) → (X → RuleInstance) → List X → Option RuleInstance
first_of p facts part written xs = option_map written (find (λ x. does_answer p facts part (written x)) xs)

abbrev pub first_special : Position → Facts → (Square → Bool) → Option RuleInstance
first_special p facts part =
    first_of p facts part (λ three. specialbefore three.0 three.1.0 three.1.1) (each_with (groups_of (board_of p)) (each_with (playable_squares p) (playable_squares p)))

-- the first of all, kind by kind
abbrev pub first_standing : Position → Facts → (Square → Bool) → Option RuleInstance
first_standing p facts part =
    option_or (option_or (option_or (first_of p facts part vertical (squares_at p)) (first_of p facts part aftereven (groups_of (board_of p))))
    (first_of p facts part before (groups_of (board_of p)))) (first_special p facts part)

-- a group with an empty square, of which the set has all empty squares
abbrev pub is_open_within : List Square → OpenGroup → Bool
is_open_within us group = not (length group.empty == 0) && list_all (has_square us) group.empty

-- one of the instances bars the squares
abbrev pub some_bars : Facts → (Square → Bool) → List RuleInstance → Bool
some_bars facts part ws = list_any (λ w. barred w facts part) ws

-- one of two twins
abbrev pub is_of_twin : List (Square × Square) → Square → Bool
is_of_twin twins u = list_any (λ twin. same_square u twin.0 || same_square u twin.1) twins

-- a playable square of a twin, among the squares
abbrev pub is_outside : Position → Facts → (Square → Bool) → Square → Bool
is_outside p facts part u = has_square (playable_squares p) u && (is_of_twin facts.twin u && part u)

-- the first along some groups
abbrev pub special_along : Position → Facts → (Square → Bool) → List OpenGroup → Option RuleInstance
special_along p facts part groups =
    first_of p facts part (λ three. specialbefore three.0 three.1.0 three.1.1) (each_with (map (λ group. group.id) groups) (each_with (playable_squares p) (playable_squares p)))

-- one of the instances or a standing instance answers the group with these empty squares
abbrev pub is_answered_by : Position → Facts → List RuleInstance → List Square → Bool
is_answered_by p facts ws us = some_bars facts (has_square us) ws || is_some (first_standing p facts (has_square us))
