-- Words are read as the one form that they are, so that what holds of the form that was read holds of that one.
use Rattle.std.proofs.Common.{◌≡◌, ℕ, List, Option, Some, None, ap, subst}
use Rattle.victor_words.specs.Words.{IsReadAs, IsWritten}
use Rattle.victor_words.specs.declared.form.Form.{Form}
use Rattle.victor_words.proofs.Written.{one_form}
use Rattle.run_frame.specs.Streams.{Streams}
use Rattle.victor_run.specs.Outcome.{Outcome, Completes}

pub for_form : (words : List (List ℕ)) (read form : Form) → IsReadAs words (Some read) → IsWritten words form → (P : Form → Type 0) → P read → P form
for_form words read form is_read written P holds = subst P (one_form words read form is_read written) holds

is_the_form : (words : List (List ℕ)) (read : Option Form) (form : Form) → IsReadAs words read → IsWritten words form → read ≡ Some form
is_the_form words None form read written = absurd (read form written)
is_the_form words (Some other) form read written = ap Some (one_form words other form read written)

pub by_form : (words : List (List ℕ)) (read : Option Form) (form : Form) (s : Streams) (status : ℕ) (text : List ℕ) → IsReadAs words read
    → IsWritten words form → Outcome read s status text → Outcome (Some form) s status text
by_form words read form s status text is_read written outcome =
    subst (λ read. Outcome read s status text) (is_the_form words read form is_read written) outcome

-- what a command owes where no stream failed, `run` owes of its form, with the status that was reported
pub completes_as : (form same : Form) (unread unwritten : Type 0) (input : Option (List ℕ)) (status told : ℕ) → form ≡ same → told ≡ status
    → Completes same unread unwritten input status → Completes form unread unwritten input told
completes_as form same unread unwritten input status told is reported owes = rw (is, reported) owes
