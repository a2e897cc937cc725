use Rattle.std.proofs.Common.{◌+◌, arith}
use Rattle.cert_format.proofs.Names.{letters_up_to}
use Rattle.cert_format.proofs.named_moves.past_block.Goals as goal

pub returns-then-block_is_named-clause-named : goal.returns-then-block_is_named-clause-named
returns-then-block_is_named-clause-named g c = letters_up_to c.args.at (c.args.at + g.row.N) c.args.moves.now c.args.letters.now (omega arith)
    c.requires.named (c.block_is_named.ensures c.if-block_is_named.true)
