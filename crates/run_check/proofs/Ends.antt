-- How a run of `check` ends.
use Rattle.std.specs.Bool.{⊤}
use Rattle.std.proofs.Common.{◌≡◌, ℕ, true, false, List, Option, None, Ok, Err, refl, sym, ◌∙◌, inl, inr}
use Rattle.device_rules.specs.Devices.{AppendsPrefix}
use Rattle.run_frame.specs.Streams.{Streams, StillHolds}
use Rattle.run_frame.specs.declared.game_input.InputStop.TheVariants as inputs
use Rattle.run_frame.specs.declared.run_stop.RunStop.{RunStop}
use Rattle.run_frame.specs.declared.run_stop.RunStop.TheVariants.{Own, Write}
use Rattle.run_frame.proofs.Owed.{owed}
use Rattle.run_frame.proofs.Inputs.{of_each, IfSome_more, kept_still, appended_still, cut_still}
use Rattle.run_proof.specs.Judged.{Judges}
use Rattle.run_proof.specs.declared.reading.ProofRead.{ProofRead}
use Rattle.run_proof.specs.declared.stop.ProofStop.{ProofStop}
use Rattle.run_proof.specs.declared.stop.ProofStop.TheVariants as stops
use Rattle.run_proof.proofs.Judging.{put_behind}
use Rattle.run_check.specs.Checks.{accepted_line, Checked, checked_status, Checks, CheckCompletes, CheckOwes}

module _ (s : Streams) where
  pub checks_done : (mid : Option (List ℕ)) (proof : ProofRead) → Judges None (λ root ls. ⊤) (record s { new = mid }) (Ok proof)
      → AppendsPrefix true mid s.new (accepted_line proof.accepted.verdict proof.accepted.lemmas) → Checks s (Ok tt)
  checks_done mid proof judged put = record {
    taken = judged.taken;
    gave = judged.gave;
    few = judged.few;
    holds = ((proof.accepted.verdict, proof.accepted.lemmas, judged.holds.0.0.0, put_behind true s.old mid s.new _ judged.holds.0.1 put), judged.holds.1);
  }

  pub checks_cut : (mid : Option (List ℕ)) (proof : ProofRead) → Judges None (λ root ls. ⊤) (record s { new = mid }) (Ok proof)
      → AppendsPrefix false mid s.new (accepted_line proof.accepted.verdict proof.accepted.lemmas) → Checks s (Err Write)
  checks_cut mid proof judged put = record {
    taken = judged.taken;
    gave = judged.gave;
    few = judged.few;
    holds = ((proof.accepted.verdict, proof.accepted.lemmas, judged.holds.0.0.0, put_behind false s.old mid s.new _ judged.holds.0.1 put), judged.holds.1);
  }

  pub checks_stop : (stop : RunStop ProofStop) → Judges None (λ root ls. ⊤) s (Err stop) → Checks s (Err stop)
  checks_stop (Own stop) judged = record { taken = judged.taken; gave = judged.gave; few = judged.few; holds = judged.holds }
  checks_stop Write judged = absurd judged.holds.0.0

pub check_completes : (s : Streams) (end : Checked) → Checks s end → (checked_status end ≡ 6 → ⊥) → (checked_status end ≡ 7 → ⊥)
    → CheckCompletes s.input (checked_status end)
check_completes s (Ok done) o unread unwritten = of_each s.input _ (λ bytes v count right. inl refl)
check_completes s (Err (Own stops.Memory)) o unread unwritten = of_each s.input _ (λ bytes v count right. inr refl)
check_completes s (Err (Own (stops.Input (inputs.NoGame fault)))) o unread unwritten = IfSome_more s.input _ _ o.holds.0.0.0.1
    (λ bytes refused v count right. absurd (cc (sym right ∙ refused)))
check_completes s (Err (Own (stops.Refused refusal))) o unread unwritten = IfSome_more s.input _ _ o.holds.0.0.0.1
    (λ bytes refused v count right. absurd (cc (sym right ∙ refused)))
check_completes s (Err (Own (stops.Input inputs.Read))) o unread unwritten = absurd (unread refl)
check_completes s (Err Write) o unread unwritten = absurd (unwritten refl)

-- however it ends, what the sink held stands there still
pub check_held : (s : Streams) (end : Checked) → Checks s end → StillHolds s.old s.new
check_held s (Ok done) o = appended_still s.old s.new _ o.holds.0.3
check_held s (Err Write) o = cut_still s.old s.new _ o.holds.0.3
check_held s (Err (Own stop)) o = kept_still s.old s.new o.holds.0.1

pub check_owes : (s : Streams) (unread unwritten : Type 0) (end : Checked) → Checks s end → (checked_status end ≡ 6 → unread)
    → (checked_status end ≡ 7 → unwritten) → CheckOwes s unread unwritten end
check_owes s unread unwritten end = owed checked_status Checks CheckCompletes s unread unwritten end (check_held s end) (check_completes s end)
