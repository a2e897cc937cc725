-- What holds of the bytes that were pending holds of those that were taken from the first step on, and of all of the input.
use Rattle.std.proofs.Common.{◌≡◌, ℕ, ◌≤◌, true, false, List, [], ◌++◌, length, Option, Some, None, IfSome, refl, sym, ap, ◌∙◌, subst, arith}
use Rattle.std.specs.Io.KnownBytes.{Consumes, IsAtEnd}
use Rattle.std.proofs.lemmas.List.{append-nil}
use Rattle.io_ports.specs.Lines.{Cutting, HoldsFew, IsUndecided, behind_lines}
use Rattle.io_ports.specs.declared.line_reader.LineGot.TheVariants.{Done}
use Rattle.run_frame.specs.Streams.{TakesLines, WaitsBehind}
use Rattle.io_ports.specs.Reading.{Pending, pending, Reads, PassesLines}

-- nothing was read yet
abbrev pub fresh : Option (List ℕ) → ℕ → Pending
fresh left last_read = record { ended = false; ahead = []; left = left; last_read = last_read }

pub from_fresh : (left : Option (List ℕ)) (last_read : ℕ) (lines : Cutting) (last : Pending) (Fact : List ℕ → List ℕ → Type 0)
    → lines ≡ record { ended = false; ahead = []; text = []; fed = false }
    → Reads (pending lines left last_read) last Fact → Reads (fresh left last_read) last Fact
from_fresh left last_read lines last Fact new reads =
    let P : Cutting → Type 0 = λ lines. Reads (pending lines left last_read) last Fact in
    subst P new reads

module _ (old : Option (List ℕ)) (begun : ℕ) (last : Pending) (n most : ℕ) (Holds : List ℕ → Type 0)
    (reads : Reads (fresh old begun) last (λ bytes rest. PassesLines n bytes rest × Holds bytes)) where
  pub of_taken : Holds reads.taken
  of_taken = subst Holds (append-nil reads.taken) (reads.fact [] (λ _. refl)).1

  pub of_input : IfSome old Holds
  of_input = by old last.left reads.gave (reads.last (λ never. absurd (cc never))) reads.fact
    where
      by : (old left : Option (List ℕ)) → Consumes old left reads.taken → (last.ended ≡ true → IsAtEnd left)
          → ((later : List ℕ) → (last.ended ≡ true → later ≡ []) → PassesLines n (reads.taken ++ later) (last.ahead ++ later) × Holds (reads.taken ++ later))
          → IfSome old Holds
      by None left gave ended fact = tt
      by (Some bytes) None gave ended fact = absurd gave
      by (Some bytes) (Some rest) gave ended fact = subst Holds (sym gave) (fact rest ended).1

  -- the bytes that were taken and not given stand behind the lines that were passed
  of_passed : (m : ℕ) × (m ≤ n) × (last.ahead ≡ behind_lines m reads.taken)
  of_passed =
      let passed = (reads.fact [] (λ _. refl)).0 in
      (passed.0, passed.1, sym (append-nil last.ahead) ∙ passed.2 ∙ ap (behind_lines passed.0) (append-nil reads.taken))

  pub of_lines : n ≤ most → TakesLines most last.last_read reads.taken
  of_lines few = (
    of_passed.0,
    omega (arith, of_passed.1, few),
    subst (HoldsFew last.last_read) of_passed.2 (reads.few (Done, refl)),
    omega (arith, ap length of_passed.2, reads.held (omega arith)),
  )

  pub of_waiting : IsUndecided last.ahead → n ≤ most → WaitsBehind most reads.taken
  of_waiting waits few = (of_passed.0, omega (arith, of_passed.1, few), subst IsUndecided of_passed.2 waits)
