use Rattle.rule_chooser.proofs.full.has_answer.Goals as goal

pub is_barred-requires : goal.is_barred-requires
is_barred-requires c = (c.args.p.now, c.requires.set)
