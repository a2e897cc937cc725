use Rattle.std.proofs.Common.{◌*◌, ◌+◌, ◌^◌, ◌<◌, arith, rules}
use Rattle.game_rules.specs.Groups.{has_group}
use Rattle.open_groups.proofs.Numbers.{word_small}
use Rattle.open_groups.proofs.group_set.GroupSet.word.Goals as goal

pub overflow_mul-word : goal.overflow_mul-word
overflow_mul-word c =
    let small = word_small (has_group c.args.self.now.groups) c.args.groups.now c.loop-left.left c.loop-left.word c.requires c.loop-left-test.true
    c.loop-left.invariant.so_far in
    let fits : c.loop-left.word * 2 < 2 ^ 128 = omega (arith, small) in
    search (rules, fits)

pub overflow_add-word : goal.overflow_add-word
overflow_add-word c =
    let small = word_small (has_group c.args.self.now.groups) c.args.groups.now c.loop-left.left c.loop-left.word c.requires c.loop-left-test.true
    c.loop-left.invariant.so_far in
    let fits : c.loop-left.word * 2 + 1 < 2 ^ 128 = omega (arith, small) in
    search (rules, fits)
