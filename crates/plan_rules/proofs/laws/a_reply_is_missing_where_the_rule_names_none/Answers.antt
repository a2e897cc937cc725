use Rattle.plan_rules.proofs.Replies.{reply_named}
use Rattle.plan_rules.proofs.laws.a_reply_is_missing_where_the_rule_names_none.Goals as goal

pub returns : goal.returns
returns c = reply_named
