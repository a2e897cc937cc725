use Rattle.std.proofs.Common.{is_ok}
use Rattle.std.proofs.KnownBytes.{Appends-kept}
use Rattle.proof_text.specs.Spelling.{verdict_line}
use Rattle.device_rules.proofs.DeviceLaws.{AppendsPrefix_all}
use Rattle.run_upgrade.proofs.writing.put_verdict.Goals as goal

pub returns-clause-written : goal.returns-clause-written
returns-clause-written g c = AppendsPrefix_all (is_ok c.flush.result) _ _ (verdict_line c.args.verdict)
    (Appends-kept _ _ _ (verdict_line c.args.verdict) c.in_ok-print_line.ensures.written c.flush.ensures.bytes)
