use Rattle.cert_format.proofs.Names.{below_named}
use Rattle.cert_format.proofs.path_room.read_letters.Goals as goal

pub returns-in_err-column_named-clause-below : goal.returns-in_err-column_named-clause-below
returns-in_err-column_named-clause-below c = below_named c.args.size.cols c.loop-letter.path.items _ c.loop-letter.invariant.named

pub returns-clause-below : goal.returns-clause-below
returns-clause-below c = below_named c.args.size.cols c.loop-letter.path.items _ c.loop-letter.invariant.named
