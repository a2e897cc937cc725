-- How many bytes some lines are.
use Rattle.std.proofs.Common.{◌≡◌, ℕ, zero, suc, ◌+◌, ◌*◌, ◌≤◌, List, [], ◌++◌, length, Bool, true, false, refl, sym, ap, ◌∙◌, arith, append_assoc}
use Rattle.std.proofs.Common.{length-append}
use Rattle.io_ports.specs.Lines.{longest_line, next_line, behind_lines, feed, most_held, IsCut}
use Rattle.io_ports.specs.declared.line_reader.LineGot.{LineGot}
use Rattle.io_ports.specs.declared.line_reader.LineGot.TheVariants.{Line, Long, Done, Failed}
use Rattle.io_ports.proofs.LineLemmas.{each_text_is_cut}
use Rattle.run_frame.specs.Streams.{TakesLines}

-- a line with its line feed, or nothing
record HasPrefix (most : ℕ) (bytes rest : List ℕ) : Type 0 where
  prefix : List ℕ
  short : length prefix ≤ most
  whole : bytes ≡ prefix ++ rest

line_prefix : (bytes text : List ℕ) (got : LineGot) (fed : Bool) (rest : List ℕ) → IsCut bytes got text fed rest → HasPrefix (longest_line + 1) bytes rest
line_prefix bytes text Line fed rest cut = record {
  prefix = text ++ feed fed;
  short = omega (arith, length-append text (feed fed), cut.short, feed_short fed);
  whole = cut.whole;
}
  where
    feed_short : (fed : Bool) → length (feed fed) ≤ 1
    feed_short true = omega arith
    feed_short false = omega arith
line_prefix bytes text Long fed rest cut = record { prefix = []; short = omega arith; whole = sym cut.stays }
line_prefix bytes text Done fed rest cut = record { prefix = []; short = omega arith; whole = cut.0 ∙ sym cut.2 }
line_prefix bytes text Failed fed rest cut = absurd cut

lines_prefix : (n : ℕ) (bytes : List ℕ) → HasPrefix (n * (longest_line + 1)) bytes (behind_lines n bytes)
lines_prefix zero bytes = record { prefix = []; short = omega arith; whole = refl }
lines_prefix (suc n) bytes =
    let cut = next_line bytes in
    let first = line_prefix bytes cut.text cut.got cut.fed cut.rest (each_text_is_cut bytes) in
    let more = lines_prefix n cut.rest in
    record {
      prefix = first.prefix ++ more.prefix;
      short = omega (arith, length-append first.prefix more.prefix, first.short, more.short);
      whole = first.whole ∙ ap (λ l. first.prefix ++ l) more.whole ∙ sym (append_assoc first.prefix more.prefix (behind_lines n cut.rest));
    }

pub takes_bytes : (most last_read : ℕ) (taken : List ℕ) → TakesLines most last_read taken → length taken ≤ most * (longest_line + 1) + most_held
takes_bytes most last_read taken takes =
    let passed = lines_prefix takes.0 taken in
    omega (arith, ap length passed.whole, length-append passed.prefix (behind_lines takes.0 taken), passed.short, takes.1, takes.3)
