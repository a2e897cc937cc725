-- The names by which reports call verdicts, and why a line is refused.
use Rattle.std.specs.Prelude.{ℕ, List, ◌++◌, codes}
use Rattle.proof_text.specs.declared.Verdict.{Verdict}
use Rattle.proof_text.specs.declared.Verdict.TheVariants.{Win, Loss, Draw, Unknown}
use Rattle.plan_rules.specs.Refusal.{PlanFault}
use Rattle.plan_text.specs.Faults.{plan_fault_text}
use Rattle.proof_text.specs.declared.Why.{Why}
use Rattle.proof_text.specs.declared.Why.TheVariants.{BadLine, BadPath, NoSuchLemma, WrongPosition, WrongClaim, MissingMove, BadPlan, BadVerdict, EndedEarly}

abbrev pub verdict_word : Verdict → List ℕ
verdict_word (Win n) = codes "win"
verdict_word (Loss n) = codes "loss"
verdict_word (Draw n m) = codes "draw"
verdict_word Unknown = codes "unknown"

abbrev pub why_word : {F : Type 0} → Why F → List ℕ
why_word BadLine = codes "BadLine"
why_word BadPath = codes "BadPath"
why_word NoSuchLemma = codes "NoSuchLemma"
why_word WrongPosition = codes "WrongPosition"
why_word WrongClaim = codes "WrongClaim"
why_word MissingMove = codes "MissingMove"
why_word (BadPlan fault) = codes "BadPlan"
why_word BadVerdict = codes "BadVerdict"
why_word EndedEarly = codes "EndedEarly"

-- why a line is refused, with what is said of a plan
abbrev pub why_text : Why PlanFault → List ℕ
why_text (BadPlan fault) = codes "BadPlan " ++ plan_fault_text fault
why_text why = why_word why
