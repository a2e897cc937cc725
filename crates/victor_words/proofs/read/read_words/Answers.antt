use Rattle.std.proofs.Common.{None, map, string_bytes, sym, ap, ◌∙◌}
use Rattle.plan_text.specs.Words.{◌>>=◌}
use Rattle.victor_words.specs.Reading.{form_with}
use Rattle.victor_words.proofs.Written.{reads, read_ranges, first_word}
use Rattle.victor_words.proofs.read.read_words.Goals as goal

pub returns-in_err-found_in-clause-value : goal.returns-in_err-found_in-clause-value
returns-in_err-found_in-clause-value c =
    let whole = first_word string_bytes c.args.words.now c.command-item.result c.deref.result.now c.in-len1-up.len_at_least c.command-item.is c.deref.ensures in
    rw c.from_residual.ensures (reads _ c.deref.result.now _ None whole (ap (λ found. found >>= form_with c.deref.result.now) (sym c.in_err-found_in.ensures)))

pub returns-clause-value : goal.returns-clause-value
returns-clause-value c =
    let whole = first_word string_bytes c.args.words.now c.command-item.result c.deref.result.now c.in-len1-up.len_at_least c.command-item.is c.deref.ensures in
    reads _ c.deref.result.now _ c.form_with.result whole
    (ap (λ found. found >>= form_with c.deref.result.now) (sym c.in_ok-found_in.ensures) ∙ sym c.form_with.ensures)

pub returns-clause-ranges : goal.returns-clause-ranges
returns-clause-ranges c = read_ranges (map string_bytes c.args.words.now) c.form_with.result (returns-clause-value c)
