use Rattle.std.proofs.Common.{◌≡◌, ◌++◌, sym, ap, ◌∙◌, subst}
use Rattle.std.specs.Result.{OnOk}
use Rattle.group_rules.specs.KeptFacts.{facts_in}
use Rattle.rule_compat.specs.Planned.{IsKeptWith}
use Rattle.rule_compat.proofs.plan.Plan.of.Goals as goal

pub invariant_of-result : goal.invariant_of-result
invariant_of-result c =
    let copied = subst (λ result. OnOk result (c.try_extend_from_slice.new.self.items ≡ c.new-copy.result.items ++ c.args.list.now)) c.unwrap.ensures
    c.try_extend_from_slice.ensures.ok in
    let items : c.try_extend_from_slice.new.self.items ≡ c.args.list.now = copied ∙ ap (λ before. before ++ c.args.list.now) c.new-copy.ensures in
    subst (λ list. IsKeptWith (record { at = c.args.p.now; list = list }) c.args.zones.items (facts_in c.args.kept)) (sym items)
    (record { is_one = c.requires.plan; zones_are = c.requires.zones; facts_are = c.requires.kept })
