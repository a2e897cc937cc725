use Rattle.std.proofs.Common.{◌≡◌, drop}
use Rattle.std.specs.List.{list_all}
use Rattle.rule_law.specs.KeptFacts.{facts_in}
use Rattle.rule_compat.specs.Written.{written_list}
use Rattle.rule_chooser.specs.declared.groups.OpenGroup.{OpenGroup}
use Rattle.rule_chooser.specs.Standing.{is_answered_by}
use Rattle.rule_chooser.proofs.full.is_answered.Given as goal

abbrev pub invariant-loop-group : goal.invariant-loop-group
invariant-loop-group l =
    list_all (λ (group : OpenGroup). is_answered_by l.p (facts_in l.kept) (written_list l.list.items) group.empty) (drop l.group-index l.group-items)
    ≡ list_all (λ (group : OpenGroup). is_answered_by l.p (facts_in l.kept) (written_list l.list.items) group.empty) l.group-items
