-- The instance of the definitions that an instance is.
use Rattle.std.specs.Prelude.{List, map}
use Rattle.plan_rules.specs.Rules.{RuleInstance, claimeven, baseinverse, lowinverse, highinverse, baseclaim, vertical, aftereven, before, specialbefore}
use Rattle.rule_compat.specs.declared.instance.Instance.{Instance}
use Rattle.rule_compat.specs.declared.instance.Instance.TheVariants as instances

abbrev pub written : Instance → RuleInstance
written (instances.Claimeven x) = claimeven x
written (instances.Baseinverse x) = baseinverse x.0 x.1
written (instances.Lowinverse x) = lowinverse x.0 x.1 x.2 x.3
written (instances.Highinverse x) = highinverse x.0 x.1
written (instances.Baseclaim x) = baseclaim x.0 x.1 x.2
written (instances.Vertical x) = vertical x
written (instances.Aftereven x) = aftereven x
written (instances.Before x) = before x
written (instances.Specialbefore x) = specialbefore x.0 x.1 x.2

abbrev pub written_list : List Instance → List RuleInstance
written_list list = map written list
