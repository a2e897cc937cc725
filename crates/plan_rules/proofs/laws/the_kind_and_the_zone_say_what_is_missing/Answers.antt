use Rattle.plan_rules.proofs.Replies.{missing_by_kind, twins_by_kind}
use Rattle.plan_rules.proofs.laws.the_kind_and_the_zone_say_what_is_missing.Goals as goal

pub returns-clause-reply : goal.returns-clause-reply
returns-clause-reply c = missing_by_kind

pub returns-clause-twin : goal.returns-clause-twin
returns-clause-twin c = twins_by_kind
