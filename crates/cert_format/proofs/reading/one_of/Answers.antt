use Rattle.std.proofs.Common.{◌-◌, ◌∷◌, [], get_or, length, take, drop, Some, None, sym, ap, ◌∙◌, rules}
use Rattle.std.specs.Option.{option_map}
use Rattle.proof_text.specs.Lemma.{ByOne}
use Rattle.proof_lines.specs.Shape.{cite_of}
use Rattle.cert_format.proofs.Words.{one_letter_none, letter_apart, letter_and_number}
use Rattle.cert_format.proofs.reading.one_of.Goals as goal
use Rattle.cert_format.proofs.reading.one_of.Goals.{in_default-via-then-bytes-lt2, in_default-via-else-bytes-lt2+in_default-1}

pub returns-in_default : goal.returns-in_default
returns-in_default c = sym (one_letter_none c.args.size.cols c.args.bytes.now (λ long mark. elim c.in_default.branch [
  | in_default-via-then-bytes-lt2 w ↦ search rules
  | in_default-via-else-bytes-lt2+in_default-1 w ↦ search rules
]))

pub returns-in_err-number_of : goal.returns-in_err-number_of
returns-in_err-number_of c =
    let bytes = c.args.bytes.now in let cols = c.args.size.cols in
    let named = sym c.column_named.ensures.value ∙ c.in_ok-column_named.was in
    ap (option_map (λ cite. ByOne (cite_of cite))) c.from_residual-in_err-number_of.ensures
    ∙ sym (letter_and_number cols bytes (get_or bytes 0 0 ∷ []) (take (length bytes - 2) (drop 2 bytes)) (Some c.in_ok-column_named.field-0) None
    (letter_apart cols c.in_ok-column_named.field-0 bytes c.in-32.len_at_least (search rules) named) named (sym c.number_of.ensures ∙ c.in_err-number_of.was))

pub returns : goal.returns
returns c =
    let bytes = c.args.bytes.now in let cols = c.args.size.cols in
    let named = sym c.column_named.ensures.value ∙ c.in_ok-column_named.was in
    sym (letter_and_number cols bytes (get_or bytes 0 0 ∷ []) (take (length bytes - 2) (drop 2 bytes)) (Some c.in_ok-column_named.field-0)
    (Some c.in_ok-number_of.field-0) (letter_apart cols c.in_ok-column_named.field-0 bytes c.in-32.len_at_least (search rules) named) named
    (sym c.number_of.ensures ∙ c.in_ok-number_of.was))
