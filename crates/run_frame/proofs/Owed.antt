-- What a command owes of a run follows from what it promises by the run's end, and from the causes of faults.
use Rattle.std.proofs.Common.{◌≡◌, ℕ, List, Option, refl}
use Rattle.run_frame.specs.Ended.{Owes}
use Rattle.run_frame.specs.Streams.{Streams, StillHolds}
use Rattle.run_frame.specs.Texts.{stop_status}
use Rattle.run_frame.specs.declared.game_input.InputStop.{InputStop}
use Rattle.run_frame.specs.declared.game_input.InputStop.TheVariants.{NoGame, Read}

pub owed : {E : Type 0} (status_of : E → ℕ) (Promises : Streams → E → Type 0) (Completes : Option (List ℕ) → ℕ → Type 0)
    (s : Streams) (unread unwritten : Type 0) (end : E) → (Promises s end → StillHolds s.old s.new)
    → (Promises s end → (status_of end ≡ 6 → ⊥) → (status_of end ≡ 7 → ⊥) → Completes s.input (status_of end))
    → Promises s end → (status_of end ≡ 6 → unread) → (status_of end ≡ 7 → unwritten) → Owes status_of Promises Completes s unread unwritten end
owed status_of Promises Completes s unread unwritten end held completes outcome read_fault write_fault = record {
  outcome = outcome;
  held = held outcome;
  read_fault = read_fault;
  write_fault = write_fault;
  complete = λ sound_source sound_sink. completes outcome (λ is. sound_source (read_fault is)) (λ is. sound_sink (write_fault is));
}

-- where no game was read, the status tells whether the source failed, and the sink didn't
pub read_status : (stop : InputStop) → stop_status stop ≡ 6 → stop ≡ Read
read_status (NoGame fault) is = absurd (cc is)
read_status Read is = refl

pub unwritten_status : (stop : InputStop) → stop_status stop ≡ 7 → ⊥
unwritten_status (NoGame fault) is = cc is
unwritten_status Read is = cc is
