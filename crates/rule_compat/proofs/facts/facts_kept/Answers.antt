use Rattle.std.proofs.Common.{ap, ◌∙◌}
use Rattle.std.proofs.Math.Path.{fun_ext}
use Rattle.game_rules.specs.Squares.{has_square}
use Rattle.plan_rules.specs.Rules.{facts_of}
use Rattle.rule_compat.specs.Written.{written_list}
use Rattle.rule_compat.proofs.facts.facts_kept.Goals as goal

pub returns : goal.returns
returns c =
    let facts = facts_of c.args.p.now (written_list c.args.list.now) in
    ap (λ empty. record { empty = empty; upper = has_square c.uppers.result; pair = has_square c.pairs.result; twin = c.twins.result.items })
    (fun_ext c.empties.ensures.has)
    ∙ ap (λ upper. record { empty = facts.empty; upper = upper; pair = has_square c.pairs.result; twin = c.twins.result.items }) (fun_ext c.uppers.ensures.has)
    ∙ ap (λ pair. record { empty = facts.empty; upper = facts.upper; pair = pair; twin = c.twins.result.items }) (fun_ext c.pairs.ensures.has)
    ∙ ap (λ twin. record { empty = facts.empty; upper = facts.upper; pair = facts.pair; twin = twin }) c.twins.ensures
