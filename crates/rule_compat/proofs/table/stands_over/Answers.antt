use Rattle.std.proofs.Common.{not, sym, ap, ◌∙◌, arith}
use Rattle.plan_rules.specs.Rules.{zone_of, is_over, stands_over}
use Rattle.plan_rules.proofs.TableBySets.{over_by_sets}
use Rattle.rule_compat.specs.Written.{written}
use Rattle.rule_compat.proofs.table.stands_over.Goals as goal

pub returns-in-Claimeven : goal.returns-in-Claimeven
returns-in-Claimeven c =
    let us = zone_of (written c.args.lower.now) in
    ap not c.meets.ensures
    ∙ sym (over_by_sets c.lower.result us c.args.zone.now c.upwards.result (0, 10) c.requires c.upwards.ensures (omega arith))
    ∙ ap (λ x. is_over x us) c.lower.ensures.value
    ∙ ap (λ upper. stands_over (written upper) (written c.args.lower.now)) (sym c.in-Claimeven.is)
