use Rattle.std.proofs.Common.{◌++◌, length, ap, ◌∙◌, arith}
use Rattle.game_rules.specs.declared.Side.TheVariants.{White, Black}
use Rattle.rule_chooser.specs.OpenGroups.{open_part}
use Rattle.rule_chooser.proofs.FreeGroups.{open_more, open_few}
use Rattle.rule_chooser.proofs.groups.list_groups.Goals as goal

pub add_open-requires : goal.add_open-requires
add_open-requires c = omega (
  arith,
  c.loop-group-test.true,
  c.groups-group-items.ensures.few,
  ap length c.loop-group.invariant.white,
  open_few c.args.p.now White c.groups-group-items.result.now c.loop-group.group-index,
)

pub add_open-requires-in-loop-group : goal.add_open-requires-in-loop-group
add_open-requires-in-loop-group c = omega (
  arith,
  c.loop-group-test.true,
  c.groups-group-items.ensures.few,
  ap length c.loop-group.invariant.black,
  open_few c.args.p.now Black c.groups-group-items.result.now c.loop-group.group-index,
)

pub loop-group-preserved : goal.loop-group-preserved
loop-group-preserved c =
    let p = c.args.p.now in let gs = c.groups-group-items.result.now in let i = c.loop-group.group-index in let g = c.group-item.result in
    record {
      white =
          c.add_open.ensures
          ∙ ap (λ groups. groups ++ open_part c.black-black_men.result c.empties-empties.result g) c.loop-group.invariant.white
          ∙ open_more p White c.black-black_men.result c.empties-empties.result gs i g c.loop-group-test.true c.group-item.is c.black-black_men.ensures
          c.empties-empties.ensures;
      black =
          c.add_open-in-loop-group.ensures
          ∙ ap (λ groups. groups ++ open_part c.white-white_men.result c.empties-empties.result g) c.loop-group.invariant.black
          ∙ open_more p Black c.white-white_men.result c.empties-empties.result gs i g c.loop-group-test.true c.group-item.is c.white-white_men.ensures
          c.empties-empties.ensures;
    }
