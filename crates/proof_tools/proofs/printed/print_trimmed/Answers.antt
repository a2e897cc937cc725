use Rattle.std.proofs.Common.{false, is_ok, sym, ap, ◌∙◌, subst}
use Rattle.std.specs.Io.KnownBytes.{Appends}
use Rattle.std.proofs.lemmas.Result.{err_from_is_err_and}
use Rattle.device_rules.specs.Devices.{AppendsPrefix}
use Rattle.device_rules.proofs.DeviceLaws.{AppendsPrefix_take, AppendsPrefix_more}
use Rattle.proof_text.specs.Spelling.{lines_of, verdict_line}
use Rattle.tool_text.specs.Trim.{numbers_named, trimmed, trimmed_verdict}
use Rattle.proof_tools.specs.Printed.{AreMarked, IsClosedReach}
use Rattle.proof_tools.proofs.Printing.{reach_closed, named_marked, trimmed_same, named_same}
use Rattle.proof_tools.proofs.printed.print_trimmed.Goals as goal

pub print_reached-requires-clause-closed : goal.print_reached-requires-clause-closed
print_reached-requires-clause-closed g c =
    subst (λ marks. IsClosedReach marks c.args.book.now) (sym c.requires.made) (reach_closed c.args.verdict.now c.args.book.now c.requires.earlier)

pub verdict_anew-verdict-requires : goal.verdict_anew-verdict-requires
verdict_anew-verdict-requires g c =
    subst (λ marks. AreMarked marks (numbers_named c.args.verdict.now)) (sym c.requires.made)
    (named_marked c.args.verdict.now c.args.book.now c.requires.earlier c.requires.named)

pub returns-in_err-print_reached-clause-written : goal.returns-in_err-print_reached-clause-written
returns-in_err-print_reached-clause-written g c =
    let same = err_from_is_err_and c.from_residual.result c.from_residual.ensures.1 in
    let ls = c.args.book.now in
    let v = c.args.verdict.now in
    let lines = trimmed_same c.args.reach.now v ls c.requires.earlier c.requires.made in
    rw same.1 (AppendsPrefix_take _ _ (lines_of (trimmed ls v)) (verdict_line (trimmed_verdict ls v))
    (subst (AppendsPrefix false _ _) lines c.in_err-print_reached.ensures.written))

pub returns-clause-written : goal.returns-clause-written
returns-clause-written g c =
    let ls = c.args.book.now in
    let v = c.args.verdict.now in
    let lines = trimmed_same c.args.reach.now v ls c.requires.earlier c.requires.made in
    let verdict = c.verdict_anew-verdict.ensures ∙ named_same c.args.reach.now v ls c.requires.earlier c.requires.made c.requires.named in
    AppendsPrefix_more (is_ok c.print_line.result) _ _ _ (lines_of (trimmed ls v)) (verdict_line (trimmed_verdict ls v))
    (subst (Appends _ _) lines c.in_ok-print_reached.ensures.written)
    (subst (AppendsPrefix (is_ok c.print_line.result) _ _) (ap verdict_line verdict) c.print_line.ensures.written)
