use Rattle.text_words.proofs.Words.{no_spaces_more, space_there, no_space}
use Rattle.text_words.proofs.first_word.first_space.Goals as goal

pub returns-then-bytes-at-eq32-clause-first : goal.returns-then-bytes-at-eq32-clause-first
returns-then-bytes-at-eq32-clause-first c = space_there c.args.bytes.now c.loop-at.at c.loop-at.invariant c.if-bytes-at-eq32.true c.loop-at-test.true

pub loop-at-preserved : goal.loop-at-preserved
loop-at-preserved c = no_spaces_more c.args.bytes.now c.loop-at.at c.loop-at.invariant c.if-bytes-at-eq32.false

pub returns-clause-first : goal.returns-clause-first
returns-clause-first c = no_space c.args.bytes.now c.loop-at.at c.loop-at.invariant c.loop-at-test.false
