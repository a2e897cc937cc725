use Rattle.std.proofs.Common.{◌++◌, decimal, ap, ◌∙◌}
use Rattle.game_rules.specs.Grammar.{move_list}
use Rattle.proof_text.specs.Lemma.{Lemma}
use Rattle.proof_lines.specs.Shape.{reason_viewed}
use Rattle.cert_format.specs.Printed.{behind_word}
use Rattle.cert_format.proofs.Spaced.{lemma_pieces}
use Rattle.cert_format.proofs.back_line.BackLine.make_lemma.Goals as goal

pub returns : goal.returns
returns c =
    let l : Lemma = record { number = c.args.number; path = c.args.path.now; claim = c.args.claim; reason = reason_viewed c.args.reason.now } in
    let tail = behind_word (reason_viewed c.args.reason.now) in
    let said = c.put_text.ensures.line ∙ ap (λ word. word ++ c.put_reason.new.self) c.claim_word.ensures.word in
    let path = c.put_path.ensures.line ∙ ap (λ rest. move_list l.path ++ rest) c.put_byte.ensures in
    ap (λ text. text ++ tail) (c.put_number.ensures.line ∙ ap (λ rest. decimal l.number ++ rest) c.put_byte-2.ensures)
    ∙ lemma_pieces l tail c.put_reason.new.self c.put_text.new.self c.put_path.new.self c.put_reason.ensures.line said path
