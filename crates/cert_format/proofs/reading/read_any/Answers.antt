use Rattle.std.proofs.Common.{◌≡◌, ◌≢◌, List, ℕ, ◌++◌, Some, None, codes, sym, ap, subst, ◌∙◌}
use Rattle.std.specs.Option.{option_map}
use Rattle.std.specs.Result.{result_ok}
use Rattle.std.proofs.lemmas.Option.{MatchOption-at_none}
use Rattle.std.proofs.lemmas.Result.{err_from_is_err_and}
use Rattle.proof_text.specs.Lemma.{ALemma}
use Rattle.proof_text.specs.Reading.{read_any}
use Rattle.cert_format.specs.Rooms.{lemma_in, ReadsInto}
use Rattle.cert_format.proofs.Words.{lemma_line_read, no_line_read}
use Rattle.cert_format.proofs.reading.read_any.Goals as goal

pub returns-in_err-ok_or : goal.returns-in_err-ok_or
returns-in_err-ok_or c =
    let room = c.read_lemma.new.room in let bytes = c.args.bytes.now in
    let none : c.read_lemma.result ≡ None = c.ok_or.ensures.ok_part ∙ ap result_ok c.in_err-ok_or.was in
    let err = err_from_is_err_and _ c.from_residual.ensures.1 in
    subst (λ result. ReadsInto room result (read_any c.args.size bytes)) (sym err.1)
    (lemma_line_read c.args.size bytes c.in-Some.number c.in-Some.rest c.in-Some.ensures.number
    ∙ ap (option_map ALemma) (sym c.read_lemma.ensures ∙ ap (option_map (λ _. lemma_in room)) none))

pub returns-in-Some : goal.returns-in-Some
returns-in-Some c =
    let some : c.read_lemma.result ≡ Some c.in_ok-ok_or.field-0 = c.ok_or.ensures.ok_part ∙ ap result_ok c.in_ok-ok_or.was in
    lemma_line_read c.args.size c.args.bytes.now c.in-Some.number c.in-Some.rest c.in-Some.ensures.number
    ∙ ap (option_map ALemma) (sym c.read_lemma.ensures ∙ ap (option_map (λ _. lemma_in c.read_lemma.new.room)) some)

pub returns-in_err-verdict : goal.returns-in_err-verdict
returns-in_err-verdict c =
    let bytes = c.args.bytes.now in
    let none : c.behind.result ≡ None = c.ok_or-2.ensures.ok_part ∙ ap result_ok c.in_err-verdict.was in
    let never : (rest : List ℕ) → bytes ≢ codes "value " ++ rest = MatchOption-at_none _ _ none c.behind.ensures in
    let err = err_from_is_err_and _ c.from_residual-in_err-verdict.ensures.1 in
    subst (λ result. ReadsInto c.args.room.now result (read_any c.args.size bytes)) (sym err.1)
    (no_line_read c.args.size bytes c.in_default.ensures.number (sym c.is_remark.ensures ∙ c.if-is_remark.false) never)
