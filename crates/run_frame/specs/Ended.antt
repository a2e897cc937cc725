-- How a run ended, as its caller sees it.
use Rattle.std.specs.Prelude.{◌≡◌, ℕ, List, Option}
use Rattle.run_frame.specs.Streams.{Streams, StillHolds}

-- There is an ending of which this holds, and the status and the text are those of it.
pub record EndsBy {E : Type 0} (status_of : E → ℕ) (text_of : E → List ℕ) (Holds : E → Type 0) (status : ℕ) (text : List ℕ) : Type 0 where
  pub ending : E
  pub status_is : status ≡ status_of ending
  pub text_is : text ≡ text_of ending
  pub holds : Holds ending

-- What a command owes of each run. By how it ends, this is promised of its streams. However it ends, what the sink held stands
-- there still. With the status of a stream that failed it ends only where the stream's count of faults rose; and where neither
-- did, it completes so, from all of its input, where the source tells it.
pub record Owes {E : Type 0} (status_of : E → ℕ) (Promises : Streams → E → Type 0) (Completes : Option (List ℕ) → (status : ℕ) → Type 0)
    (s : Streams) (unread unwritten : Type 0) (end : E) : Type 0 where
  pub outcome : Promises s end
  pub held : StillHolds s.old s.new
  pub read_fault : status_of end ≡ 6 → unread
  pub write_fault : status_of end ≡ 7 → unwritten
  pub complete : (unread → ⊥) → (unwritten → ⊥) → Completes s.input (status_of end)
