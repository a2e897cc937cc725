-- A plan that is chosen has a line: each of its instances has a text, and there are neither none nor too many.
use Rattle.std.proofs.Common.{◌≡◌, ℕ, ◌≤◌, true, List, length, Some, refl, subst, arith, sym}
use Rattle.game_rules.specs.Board.{is_board}
use Rattle.game_rules.specs.Position.{Position, board_of}
use Rattle.plan_rules.specs.Rules.{RuleInstance}
use Rattle.plan_rules.specs.Plan.{is_plan}
use Rattle.plan_text.specs.PlanLine.{plan_text, PlanFits, read_plan}
use Rattle.plan_text.proofs.PlanLines.{plan_spelled}
use Rattle.proof_text.proofs.Fitting.{plan_fits}
use Rattle.plan_rules.proofs.Squares.{get-Among}
use Rattle.walk_rules.specs.Walk.{gave, choice_of, walk}
use Rattle.walk_rules.proofs.Choices.{choice_words, walk_sets}
use Rattle.walk_rules.proofs.Given.{given_bound}

-- a list that is chosen is a plan, and short
pub chosen_plan : (p : Position) (reach : ℕ) (ws : List RuleInstance) → choice_of p reach ≡ gave ws → is_plan p ws ≡ true
chosen_plan p reach ws h = ((choice_words p reach (gave ws)).0 h).is_plan_now

pub chosen_short : (p : Position) (reach : ℕ) (ws : List RuleInstance) → is_board (board_of p) ≡ true → choice_of p reach ≡ gave ws → length ws ≤ 288
chosen_short p reach ws board h =
    let first = (choice_words p reach (gave ws)).0 h in
    subst (λ ws. length ws ≤ 288) (sym first.is_given)
    (given_bound p first.set board (walk_sets p first.set (get-Among (walk p) first.place first.set first.is_set)))

pub chosen_fits : (p : Position) (reach : ℕ) (ws : List RuleInstance) → is_board (board_of p) ≡ true → choice_of p reach ≡ gave ws → PlanFits (board_of p) ws
chosen_fits p reach ws board h = plan_fits p ws board (omega (arith, chosen_short p reach ws board h)) (chosen_plan p reach ws h)

pub chosen_read : (p : Position) (reach : ℕ) (ws : List RuleInstance) → is_board (board_of p) ≡ true → choice_of p reach ≡ gave ws
    → read_plan (board_of p) (plan_text ws) ≡ Some ws
chosen_read p reach ws board h = plan_spelled (board_of p) (plan_text ws) ws (chosen_fits p reach ws board h, refl)
