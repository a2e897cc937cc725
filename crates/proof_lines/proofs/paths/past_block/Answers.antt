use Rattle.std.proofs.Common.{◌+◌, arith}
use Rattle.proof_lines.proofs.Shared.{same_up_to}
use Rattle.proof_lines.proofs.paths.past_block.Goals as goal

pub returns-then-is_same_block-clause-same : goal.returns-then-is_same_block-clause-same
returns-then-is_same_block-clause-same g c = same_up_to c.args.at (c.args.at + g.row.N) c.args.left.now c.args.right.now (omega arith) c.requires.same
    (c.is_same_block.ensures c.if-is_same_block.true)
