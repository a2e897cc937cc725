-- The walk over sets of zones, the plan that a set gives, and what is chosen among the first sets of the walk. The
-- order of the walk is this project's own choice.
use Rattle.std.specs.Prelude.{ℕ, zero, suc, Bool, true, false, not, ◌&&◌, ◌||◌, if◌then◌else◌, List, [], ◌∷◌, ◌++◌, length, filter, take, Option, Some, None, is_none}
use Rattle.std.specs.List.{list_all, list_any, flat_map, find}
use Rattle.game_rules.specs.Board.{Square}
use Rattle.game_rules.specs.Position.{Position, board_of, has_man, side_to_move, same_side, end_of}
use Rattle.game_rules.specs.Squares.{has_square, is_empty}
use Rattle.game_rules.specs.Groups.{Group, squares_of, groups_of}
use Rattle.game_rules.specs.declared.Side.TheVariants.{White, Black}
use Rattle.plan_rules.specs.Rules.{RuleInstance, zone_of, facts_of, barred, is_supported, together}
use Rattle.plan_rules.specs.Listing.{squares_at, listed, has_instance}
use Rattle.plan_rules.specs.Plan.{has_owner, empty_part, is_barred, is_plan}
use Rattle.plan_rules.specs.declared.Kind.TheVariants.{Claimeven, Baseinverse, Lowinverse, Highinverse, Baseclaim, Vertical, Aftereven, Before, Specialbefore}

-- ---- what a walk is made of

-- all fitting instances of the zone rules, and of the standing rules: rule after rule, each in the order of its list
abbrev pub fitting_zones : Position → List RuleInstance
fitting_zones p = listed Claimeven p ++ listed Baseinverse p ++ listed Lowinverse p ++ listed Highinverse p ++ listed Baseclaim p

abbrev pub fitting_standing : Position → List RuleInstance
fitting_standing p = listed Vertical p ++ listed Aftereven p ++ listed Before p ++ listed Specialbefore p

-- ---- the walk

-- the empty squares that no zone of the set owns, in square order
abbrev pub open_squares : Position → List RuleInstance → List Square
open_squares p set = filter (λ u. is_empty p u && not (has_owner set u)) (squares_at p)

abbrev pub owns_first : RuleInstance → List Square → Bool
owns_first w [] = false
owns_first w (u ∷ us) = has_square (zone_of w) u

-- the instance owns the first open square, and may stand with each of the set
abbrev pub may_follow : Position → List RuleInstance → RuleInstance → Bool
may_follow p set w = owns_first w (open_squares p set) && list_all (λ v. together v w) set

-- a set, and then what comes after each instance that may follow it, where at most n follow one another
unfoldable pub walk_within : Position → List RuleInstance → ℕ → List RuleInstance → List (List RuleInstance)
walk_within p zones zero set = set ∷ []
walk_within p zones (suc n) set = set ∷ flat_map (λ w. walk_within p zones n (set ++ w ∷ [])) (filter (may_follow p set) zones)

-- each zone owns at least a square more, so this many are enough
unfoldable pub walk_from : Position → List RuleInstance → List (List RuleInstance)
walk_from p set = walk_within p (fitting_zones p) (length (open_squares p set)) set

-- White is to move and the game goes on
abbrev pub is_plan_position : Position → Bool
is_plan_position p = same_side White (side_to_move p) && is_none (end_of p)

-- all sets of zones, beginning with the empty one, depth first
abbrev pub walk : Position → List (List RuleInstance)
walk p = if is_plan_position p then walk_from p [] else []

-- ---- the plan that a set gives

-- the standing instances that the set supports
abbrev pub supported_by : Position → List RuleInstance → List RuleInstance
supported_by p set = filter (λ w. is_supported w (facts_of p set)) (fitting_standing p)

-- the set with all of them
abbrev pub with_all : Position → List RuleInstance → List RuleInstance
with_all p set = set ++ supported_by p set

-- a group of which White can still own every square, and which no zone of the set answers
abbrev pub is_left : Position → List RuleInstance → Group → Bool
is_left p set g = not (list_any (has_man p Black) (squares_of g) || is_barred p set g)

-- the first standing instance that answers a group
abbrev pub answer_to : Position → List RuleInstance → Group → Option RuleInstance
answer_to p set g = find (λ w. barred w (facts_of p set) (empty_part p g)) (supported_by p set)

-- one more, unless it is listed already
abbrev pub with_one : List RuleInstance → Option RuleInstance → List RuleInstance
with_one ws None = ws
with_one ws (Some w) = if has_instance ws w then ws else ws ++ w ∷ []

-- the first answer to each group that is left, none twice
abbrev pub answers : Position → List RuleInstance → List Group → List RuleInstance → List RuleInstance
answers p set [] ws = ws
answers p set (g ∷ gs) ws = answers p set gs (if is_left p set g then with_one ws (answer_to p set g) else ws)

-- the zones in the order of adding, then the answers group by group
abbrev pub given : Position → List RuleInstance → List RuleInstance
given p set = set ++ answers p set (groups_of (board_of p)) []

-- ---- what is chosen

-- the set, with all standing instances that it supports, is a plan
abbrev pub gives_plan : Position → List RuleInstance → Bool
gives_plan p set = is_plan p (with_all p set)

-- one of the first k sets of the walk gives a plan
abbrev pub solved : Position → ℕ → Bool
solved p k = list_any (gives_plan p) (take k (walk p))

pub data Chosen : Type 0 where
  gave : List RuleInstance → Chosen
  no_plan : Chosen
  spent : Chosen

-- the plan that the first set gives that gives one, among the first k; no plan where no set is left; and else spent
abbrev pub choice_among : Position → ℕ → List (List RuleInstance) → Chosen
choice_among p k [] = no_plan
choice_among p zero (set ∷ sets) = spent
choice_among p (suc k) (set ∷ sets) = if is_plan p (given p set) then gave (given p set) else choice_among p k sets

abbrev pub choice_of : Position → ℕ → Chosen
choice_of p k = choice_among p k (walk p)

abbrev pub is_given : Chosen → Bool
is_given (gave ws) = true
is_given no_plan = false
is_given spent = false
