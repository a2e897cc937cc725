use Rattle.std.proofs.Common.{◌≡◌, ap, ◌∙◌}
use Rattle.tool_text.specs.Trim.{numbers_named}
use Rattle.proof_tools.specs.Reach.{marked, all_passed}
use Rattle.proof_tools.proofs.Agreeing.{marks_tested}
use Rattle.proof_tools.proofs.reach.mark_reached.Goals as goal

pub returns : goal.returns
returns c =
    c.mark_all.ensures ∙ ap (λ marks. all_passed marks c.args.book.now) (c.mark_named.ensures
    ∙ ap (λ marks. marked marks (numbers_named c.args.verdict.now)) c.requires.none)
    ∙ marks_tested c.args.verdict.now c.args.book.now c.requires.earlier c.requires.named
