use Rattle.std.proofs.Common.{◌≡◌, ◌<◌, ◌≤◌, ◌++◌, map, length, Some, ap, sym, ◌∙◌, arith}
use Rattle.std.proofs.lemmas.Bool.{eqb-true}
use Rattle.std.proofs.lemmas.List.{append-nil}
use Rattle.proof_text.specs.Reading.{◌>>=◌, words_of, cites_of}
use Rattle.proof_lines.specs.Shape.{cite_of}
use Rattle.cert_format.proofs.Words.{all_too_many, all_read}
use Rattle.text_words.proofs.Words.{words_left, words_some}
use Rattle.cert_format.proofs.reading.all_of.Goals as goal

pub returns-then-is_full : goal.returns-then-is_full
returns-then-is_full c =
    let left : length (words_left c.loop-left.left) ≡ length (words_of c.in-Some.words.now) = ap (λ left. length (words_left left)) c.in-Some.is in
    let full : length c.loop-left.cites.items ≡ 10 = eqb-true _ 10 (sym c.if-is_full.ensures.value) in
    let many : 10 < length (words_of c.args.bytes.now) = omega (arith, c.loop-left.invariant.counted, words_some c.in-Some.words.now) in
    sym (all_too_many c.args.size.cols (words_of c.args.bytes.now) many)

pub returns : goal.returns
returns c =
    let none : length (words_left c.loop-left.left) ≡ 0 = ap (λ left. length (words_left left)) c.in_default.is in
    let few : length (words_of c.args.bytes.now) ≤ 10 = omega (arith, c.loop-left.invariant.counted, c.loop-left.invariant.few) in
    let all = map cite_of c.loop-left.cites.items in
    sym (all_read c.args.size.cols c.args.bytes.now all few
    (c.loop-left.invariant.cites ∙ ap (λ left. cites_of c.args.size.cols (words_left left) >>= (λ more. Some (all ++ more))) c.in_default.is
    ∙ ap Some (append-nil all)))
