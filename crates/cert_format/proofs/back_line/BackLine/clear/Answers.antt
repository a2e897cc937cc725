use Rattle.std.proofs.Common.{arith}
use Rattle.std.proofs.lemmas.List.{drop_all}
use Rattle.cert_format.proofs.back_line.BackLine.clear.Goals as goal

pub returns : goal.returns
returns c = drop_all 288 c.self.inside.bytes (omega (arith, c.self.told))
