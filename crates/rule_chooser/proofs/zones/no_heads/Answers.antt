use Rattle.std.proofs.lemmas.List.{get_or-replicate}
use Rattle.rule_chooser.proofs.zones.no_heads.Goals as goal

pub returns : goal.returns
returns c = λ place low. get_or-replicate 110 place c.args.zones 0 low
