-- The text that explains the plan chosen at a position: the line of the plan, a line for each instance with the squares that it
-- owns, and a line for each group of White's with the instance that answers it. The text is this project's own.
use Rattle.std.specs.Prelude.{ℕ, Bool, not, List, [], ◌∷◌, ◌++◌, filter, flat_map, find, Option, codes}
use Rattle.std.specs.List.{list_any}
use Rattle.std.specs.Option.{option_map_or}
use Rattle.game_rules.specs.Board.{Square}
use Rattle.game_rules.specs.Position.{Position, board_of, has_man}
use Rattle.game_rules.specs.Squares.{has_square, squares_where}
use Rattle.game_rules.specs.Groups.{Group, squares_of, groups_of}
use Rattle.game_rules.specs.declared.Side.TheVariants.{Black}
use Rattle.plan_rules.specs.Rules.{RuleInstance, zone_of, facts_of, barred}
use Rattle.plan_rules.specs.Plan.{empty_part}
use Rattle.plan_text.specs.Items.{square_text, group_text, instance_text}
use Rattle.plan_text.specs.PlanLine.{plan_text}
use Rattle.proof_text.specs.Spelling.{as_line}
use Rattle.walk_rules.specs.Walk.{Chosen, gave, no_plan, spent, choice_of}

-- ---- what each instance owns

-- each square with a space before it, and a hyphen where there is none
abbrev pub squares_text : List Square → List ℕ
squares_text [] = codes " -"
squares_text (u ∷ us) = flat_map (λ v. 32 ∷ square_text v) (u ∷ us)

-- the instance and the squares of its zone, in square order
abbrev pub owns_line : RuleInstance → List ℕ
owns_line w = as_line (instance_text w ++ (codes " owns" ++ squares_text (squares_where (has_square (zone_of w)))))

-- ---- what answers each group

-- the group has no man of Black's
abbrev pub is_white : Position → Group → Bool
is_white p g = not (list_any (has_man p Black) (squares_of g))

-- the first instance of the list that bars the empty squares of a group
abbrev pub answerer : Position → List RuleInstance → Group → Option RuleInstance
answerer p ws g = find (λ w. barred w (facts_of p ws) (empty_part p g)) ws

-- the group and the instance that answers it; in a plan there is one
abbrev pub answer_line : Position → List RuleInstance → Group → List ℕ
answer_line p ws g = as_line (group_text g ++ (codes " by " ++ option_map_or instance_text (answerer p ws g) []))

-- ---- the text

abbrev pub owns_lines : List RuleInstance → List ℕ
owns_lines ws = flat_map owns_line ws

-- for each group of White's, in group order
abbrev pub answer_lines : Position → List RuleInstance → List Group → List ℕ
answer_lines p ws gs = flat_map (answer_line p ws) (filter (is_white p) gs)

abbrev pub plan_explained : Position → List RuleInstance → List ℕ
plan_explained p ws = as_line (plan_text ws) ++ (owns_lines ws ++ answer_lines p ws (groups_of (board_of p)))

abbrev pub chosen_text : Position → Chosen → List ℕ
chosen_text p (gave ws) = plan_explained p ws
chosen_text p no_plan = as_line (codes "no plan")
chosen_text p spent = as_line (codes "no plan within reach")

-- what is written of a position and a number of sets
abbrev pub explanation : Position → ℕ → List ℕ
explanation p reach = chosen_text p (choice_of p reach)
