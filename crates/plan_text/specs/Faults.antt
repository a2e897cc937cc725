-- The text of each reason for which a list of instances is no plan.
use Rattle.std.specs.Prelude.{ℕ, List, ◌∷◌, ◌++◌, codes, decimal}
use Rattle.plan_rules.specs.Refusal.{PlanFault, not_white_to_move, ended, misfit, clash, uncovered, unsupported, unanswered}
use Rattle.plan_text.specs.Items.{square_text, group_text}

abbrev pub plan_fault_text : PlanFault → List ℕ
plan_fault_text not_white_to_move = codes "NotWhiteToMove"
plan_fault_text ended = codes "Ended"
plan_fault_text (misfit i) = codes "Misfit " ++ decimal i
plan_fault_text (clash i j) = codes "Clash " ++ (decimal i ++ (32 ∷ decimal j))
plan_fault_text (uncovered u) = codes "Uncovered " ++ square_text u
plan_fault_text (unsupported i) = codes "Unsupported " ++ decimal i
plan_fault_text (unanswered g) = codes "Unanswered " ++ group_text g
