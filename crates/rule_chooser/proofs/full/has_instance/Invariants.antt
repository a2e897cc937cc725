use Rattle.std.proofs.Common.{◌≡◌, drop}
use Rattle.plan_rules.specs.Listing.{has_instance}
use Rattle.rule_compat.specs.Written.{written, written_list}
use Rattle.rule_chooser.proofs.full.has_instance.Given as goal

abbrev pub invariant-loop-member : goal.invariant-loop-member
invariant-loop-member l = has_instance (written_list (drop l.member-index l.list)) (written l.instance)
    ≡ has_instance (written_list l.list) (written l.instance)
