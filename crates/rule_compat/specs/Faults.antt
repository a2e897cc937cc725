-- The fault of the definitions that a fault is, and what the position alone is refused for.
use Rattle.std.specs.Prelude.{not, if◌then◌else◌, Option, Some, None, is_some, Result, Ok, Err}
use Rattle.game_rules.specs.Position.{Position, side_to_move, same_side, end_of}
use Rattle.game_rules.specs.declared.Side.TheVariants.{White}
use Rattle.plan_rules.specs.Refusal.{PlanFault as Fault, not_white_to_move, ended, misfit, clash, uncovered, unsupported, unanswered}
use Rattle.rule_compat.specs.declared.fault.PlanFault.{PlanFault}
use Rattle.rule_compat.specs.declared.fault.PlanFault.TheVariants as faults

abbrev pub fault_of : PlanFault → Fault
fault_of faults.NotWhiteToMove = not_white_to_move
fault_of faults.Ended = ended
fault_of (faults.Misfit i) = misfit i
fault_of (faults.Clash i j) = clash i j
fault_of (faults.Uncovered u) = uncovered u
fault_of (faults.Unsupported i) = unsupported i
fault_of (faults.Unanswered g) = unanswered g

-- what a check refuses for, if anything
abbrev pub refusal_of : {X : Type 0} → Result X PlanFault → Option Fault
refusal_of (Ok x) = None
refusal_of (Err fault) = Some (fault_of fault)

-- Black is to move, or the game has ended
abbrev pub position_refusal : Position → Option Fault
position_refusal p = if not (same_side White (side_to_move p)) then Some not_white_to_move else (if is_some (end_of p) then Some ended else None)
