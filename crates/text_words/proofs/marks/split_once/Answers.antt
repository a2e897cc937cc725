use Rattle.std.proofs.Common.{sym}
use Rattle.text_words.proofs.Cuts.{mark_nowhere, mark_found}
use Rattle.text_words.proofs.marks.split_once.Goals as goal

pub returns-in_err-end : goal.returns-in_err-end
returns-in_err-end c = rw c.from_residual.ensures (sym (mark_nowhere c.args.mark c.args.bytes.now c.in_err-end.ensures))

pub returns : goal.returns
returns c = sym (mark_found c.args.mark c.args.bytes.now c.in_ok-end.end c.in_ok-end.ensures)
