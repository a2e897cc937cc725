use Rattle.std.proofs.Common.{is_ok}
use Rattle.std.proofs.KnownBytes.{Appends-kept}
use Rattle.device_rules.proofs.DeviceLaws.{AppendsPrefix_all}
use Rattle.run_frame.proofs.output.put_line.Goals as goal

pub returns-clause-written : goal.returns-clause-written
returns-clause-written g c = AppendsPrefix_all (is_ok c.flush.result) _ _ c.args.line.now
    (Appends-kept _ _ _ c.args.line.now c.in_ok-put_all.ensures.bytes c.flush.ensures.bytes)
