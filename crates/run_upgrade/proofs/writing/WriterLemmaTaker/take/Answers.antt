use Rattle.run_proof.specs.Shape.{lemma_viewed}
use Rattle.run_upgrade.proofs.Written.{lemma_taken}
use Rattle.run_upgrade.proofs.writing.WriterLemmaTaker.take.Goals as goal

pub returns-clause-taken : goal.returns-clause-taken
returns-clause-taken g c = λ root ls has behind.
    lemma_taken root ls (lemma_viewed c.args.lemma.now) c.args.position.now c.args.self.now.index c.args.self.now.lemmas has behind
    c.put.new.self.index c.put.new.self.lemmas _ _ c.put.result c.put.ensures.written c.put.ensures.counted c.put.ensures.memory
