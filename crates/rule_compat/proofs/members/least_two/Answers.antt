use Rattle.std.proofs.Common.{◌+◌, ◌-◌, sym, ap, ◌∙◌, arith}
use Rattle.std.specs.Option.{option_map}
use Rattle.plan_rules.specs.Zones.{lesser_two}
use Rattle.std.proofs.Common.{Some}
use Rattle.rule_compat.proofs.Gathered.{clash_in, some_step}
use Rattle.rule_compat.proofs.members.least_two.Goals as goal

pub loop-index-preserved : goal.loop-index-preserved
loop-index-preserved c =
    let i = c.loop-index.index in
    let x = c.index-list-index.result in
    let clash = c.first_clash.ensures ∙ ap (λ zone. clash_in c.args.zones.now zone.1) c.of-zone.ensures ∙ ap (λ zones. clash_in zones x) c.requires.zones in
    let step = some_step c.args.list.now i (c.args.second - 1) x c.loop-index.least c.loop-index-test.true (omega arith) c.index-list-index.is
    c.loop-index.invariant.two (omega arith) in
    record {
      two = step ∙ ap (λ found. lesser_two (Some c.loop-index.least) (option_map (λ k. (k, i + 1)) found)) (sym clash) ∙ c.lesser-least.ensures.value;
      less = omega arith;
    }
