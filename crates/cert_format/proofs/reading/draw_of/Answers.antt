use Rattle.std.proofs.Common.{◌≡◌, ◌∷◌, Some, None, sym, ◌∙◌}
use Rattle.std.proofs.lemmas.Option.{MatchOption-at_some}
use Rattle.proof_text.specs.Reading.{words_of}
use Rattle.cert_format.proofs.Words.{two_numbers}
use Rattle.cert_format.proofs.reading.draw_of.Goals as goal

pub returns-in_err-number_of-2 : goal.returns-in_err-number_of-2
returns-in_err-number_of-2 c =
    let white = c.split_word.result.0.now in let black = c.in_ok-black.field-0 in
    let cut : words_of c.args.bytes.now ≡ white ∷ words_of black.now = MatchOption-at_some _ _ black c.in_ok-black.was c.split_word.ensures.words in
    c.from_residual-in_err-number_of-2.ensures
    ∙ sym (two_numbers c.args.bytes.now white black.now (Some c.in_ok-number_of.field-0) None cut (sym c.number_of.ensures ∙ c.in_ok-number_of.was)
    (sym c.number_of-2.ensures ∙ c.in_err-number_of-2.was))

pub returns : goal.returns
returns c =
    let white = c.split_word.result.0.now in let black = c.in_ok-black.field-0 in
    let cut : words_of c.args.bytes.now ≡ white ∷ words_of black.now = MatchOption-at_some _ _ black c.in_ok-black.was c.split_word.ensures.words in
    sym (two_numbers c.args.bytes.now white black.now (Some c.in_ok-number_of.field-0) (Some c.in_ok-number_of-2.field-0) cut
    (sym c.number_of.ensures ∙ c.in_ok-number_of.was) (sym c.number_of-2.ensures ∙ c.in_ok-number_of-2.was))
