-- What a set of the walk is tested by, as a search asks it: whether squares are open, where a zone begins, and the first
-- standing instance that answers a group, one rule after another.
use Rattle.std.specs.Prelude.{Bool, true, false, ◌&&◌, List, [], ◌∷◌, Option, Some}
use Rattle.std.specs.List.{find}
use Rattle.std.specs.Option.{option_map}
use Rattle.game_rules.specs.Board.{Square}
use Rattle.game_rules.specs.Position.{Position}
use Rattle.game_rules.specs.Squares.{same_square, has_square}
use Rattle.game_rules.specs.Groups.{Group}
use Rattle.plan_rules.specs.Rules.{RuleInstance, zone_of, facts_of, fits, barred, is_supported}
use Rattle.plan_rules.specs.Plan.{empty_part}

-- ---- squares

abbrev pub is_none_of : List Square → Bool
is_none_of [] = true
is_none_of (u ∷ us) = false

-- the first of some squares that the instance owns
abbrev pub least_of : List Square → RuleInstance → Option Square
least_of us w = find (has_square (zone_of w)) us

-- the squares begin with this one
abbrev pub starts_at : Option Square → List Square → Bool
starts_at (Some u) (v ∷ vs) = same_square u v
starts_at u vs = false

-- ---- answers

-- an instance answers a group, by what the set gives
abbrev pub bars : Position → List RuleInstance → Group → RuleInstance → Bool
bars p set g w = barred w (facts_of p set) (empty_part p g)

-- a standing instance fits, is supported by the set, and answers the group
abbrev pub is_answer : Position → List RuleInstance → Group → RuleInstance → Bool
is_answer p set g w = fits w p && (is_supported w (facts_of p set) && bars p set g w)

-- the first answer of those that are written with some elements
abbrev pub first_written : {X : Type 0} → Position → List RuleInstance → Group → (X → RuleInstance) → List X → Option RuleInstance
first_written p set g written xs = option_map written (find (λ x. is_answer p set g (written x)) xs)
