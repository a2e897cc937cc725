use Rattle.std.proofs.Common.{is_ok}
use Rattle.std.proofs.KnownBytes.{Appends-kept}
use Rattle.proof_text.specs.Spelling.{verdict_line}
use Rattle.device_rules.proofs.DeviceLaws.{AppendsPrefix_all}
use Rattle.run_prove.proofs.writing.write_verdict.Goals as goal

pub returns-in_err-flush-clause-written : goal.returns-in_err-flush-clause-written
returns-in_err-flush-clause-written g c = AppendsPrefix_all (is_ok c.from_residual-in_err-flush.result) _ _ (verdict_line c.args.verdict)
    (Appends-kept _ _ _ (verdict_line c.args.verdict) c.in_ok-print_line.ensures.written c.flush.ensures.bytes)
