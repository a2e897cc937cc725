-- A front in use, and what its remark leaves in a sink.
use Rattle.std.specs.Prelude.{◌≤◌, ℕ, Bool, List, Option, Some, None, ⊤}
use Rattle.device_rules.specs.Devices.{AppendsPrefix}
use Rattle.game_rules.specs.Position.{Position}
use Rattle.game_rules.specs.declared.Side.{Side}
use Rattle.node_pool.specs.declared.pool.TheConstants.{MOST_SLOTS}
use Rattle.proof_front.specs.Fronts.{IsFrontOf}
use Rattle.proof_text.specs.Written.{IsRemarkLine, remark_line}
use Rattle.run_questions.specs.Remarks.{IsFrontRemark}
use Rattle.run_questions.specs.declared.fronts.SizedFront.{SizedFront}

-- how many slots a front may have
abbrev pub AreSlots : ℕ → Type 0
AreSlots n = (1 ≤ n) × (n ≤ MOST_SLOTS)

-- the number of slots, where there is a front
abbrev pub slots_of : Option SizedFront → Option ℕ
slots_of None = None
slots_of (Some sized) = Some sized.slots

-- the front, if there is one, is that of the position for a side, after n expansions
abbrev pub IsAfter : Position → Side → (reach n : ℕ) → Option SizedFront → Type 0
IsAfter root side reach n None = ⊤
IsAfter root side reach n (Some sized) = IsFrontOf root side reach n sized.slots sized.front

-- some number of expansions was made
abbrev pub IsAfterSome : Position → Side → (reach : ℕ) → Option SizedFront → Type 0
IsAfterSome root side reach sized = (n : ℕ) × IsAfter root side reach n sized

-- Behind the bytes that were there stands the remark of a question with its line feed, or, where it doesn't stand whole, a
-- prefix of it. Without a front, it is empty.
pub record LeavesRemark (slots : Option ℕ) (reach : ℕ) (root : Position) (side : Side) (whole : Bool) (old new : Option (List ℕ)) : Type 0 where
  pub remark : Option (List ℕ)
  pub right : IsFrontRemark slots reach root side remark
  pub line : IsRemarkLine remark
  pub text : AppendsPrefix whole old new (remark_line remark)
