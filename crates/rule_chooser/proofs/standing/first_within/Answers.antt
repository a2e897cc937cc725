use Rattle.std.proofs.Common.{sym, ap, ◌∙◌}
use Rattle.std.specs.Option.{option_map}
use Rattle.rule_chooser.specs.declared.groups.OpenGroup.{OpenGroup}
use Rattle.rule_chooser.proofs.BlackGroups.{none_within}
use Rattle.rule_chooser.proofs.standing.first_within.Goals as goal

pub returns-then-is_empty : goal.returns-then-is_empty
returns-then-is_empty c = sym (ap (option_map (λ (group : OpenGroup). group.id))
    (none_within c.args.set c.args.groups.now (sym c.is_empty.ensures ∙ c.if-is_empty.true)))
