-- The laws of one instance, together.
use Rattle.plan_rules.specs.Rules.{RuleInstance, zone_of, black_group_of, fits, reply_to, upper_of, pair_of, twin_of, barred, is_supported}
use Rattle.plan_rules.specs.Calm.{is_calm}
use Rattle.plan_rules.specs.Laws.{StartLaw, LocalLaw, StepLaw, FactLaw, BarLaw}

pub record Lawful (w : RuleInstance) : Type 0 where
  pub starts : StartLaw (fits w) (is_calm w) (black_group_of w)
  pub is_local : LocalLaw (zone_of w) (is_calm w)
  pub steps : StepLaw (zone_of w) (fits w) (is_calm w) (reply_to w)
  pub keeps : FactLaw (fits w) (is_calm w) (upper_of w) (pair_of w) (twin_of w)
  pub bars : BarLaw (fits w) (is_supported w) (is_calm w) (barred w) (black_group_of w)
