use Rattle.std.proofs.Common.{is_some, sym, ap, ◌∙◌, subst}
use Rattle.group_rules.specs.KeptFacts.{facts_in}
use Rattle.rule_compat.specs.Planned.{IsKeptWith}
use Rattle.rule_compat.proofs.Played.{IsAnswer, zone_answer, zones_find, what_zones_find}
use Rattle.rule_compat.proofs.plan.Plan.reply.Goals as goal
use Rattle.rule_compat.proofs.plan.Plan.reply.Goals.{After-unwrap}

pub unwrap-requires : goal.unwrap-requires
unwrap-requires c =
    let zones = c.self.inside.zones.items in let facts = facts_in c.self.inside.kept in
    let kept = subst (λ plan. IsKeptWith plan zones facts) c.self.view_is c.self.invariant in
    let found = zones_find c.args.self.now zones facts c.args.now.now c.args.last kept c.requires in
    ap is_some (c.zone_reply.ensures ∙ ap (λ zones. zone_answer zones c.args.now.now c.args.last) c.as_slice.ensures.value ∙ found.1)

answer : (c : After-unwrap) → IsAnswer c.args.self.now c.args.now.now c.args.last c.unwrap.result
answer c =
    let zones = c.self.inside.zones.items in let facts = facts_in c.self.inside.kept in
    let kept = subst (λ plan. IsKeptWith plan zones facts) c.self.view_is c.self.invariant in
    let found = sym (c.zone_reply.ensures ∙ ap (λ zones. zone_answer zones c.args.now.now c.args.last) c.as_slice.ensures.value) ∙ c.unwrap.ensures in
    what_zones_find c.args.self.now zones facts c.args.now.now c.args.last c.unwrap.result kept c.requires found

pub returns-clause-reply : goal.returns-clause-reply
returns-clause-reply c = (answer c).is_reply

pub returns-clause-playable : goal.returns-clause-playable
returns-clause-playable c = (answer c).playable

pub returns-clause-next : goal.returns-clause-next
returns-clause-next c = (answer c).next
