use Rattle.cert_format.proofs.Words.{claim_none}
use Rattle.cert_format.proofs.reading.split_claim.Goals as goal

pub returns : goal.returns
returns c = claim_none c.args.bytes.now c.in_default.ensures c.in_default-behind.ensures c.in_default-behind-2.ensures c.in_default-behind-3.ensures
