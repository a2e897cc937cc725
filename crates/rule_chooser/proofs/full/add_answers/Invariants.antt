use Rattle.std.proofs.Common.{◌≡◌, ◌+◌, ◌≤◌, [], length, take, drop}
use Rattle.game_rules.specs.declared.Side.TheVariants.{White}
use Rattle.rule_compat.specs.Written.{written_list}
use Rattle.walk_rules.specs.Walk.{answers}
use Rattle.rule_chooser.specs.OpenGroups.{groups_for}
use Rattle.rule_chooser.proofs.full.add_answers.Given as goal

abbrev pub invariant-loop-group : goal.invariant-loop-group
invariant-loop-group l = record {
  zones : take l.zones l.list.items ≡ l.fn.list.items;
  answers : answers l.p (written_list l.fn.list.items) (drop l.group-index (groups_for White l.p)) (written_list (drop l.zones l.list.items))
      ≡ answers l.p (written_list l.fn.list.items) (groups_for White l.p) [];
  least : l.zones ≤ length l.list.items;
  most : length l.list.items ≤ l.zones + l.group-index;
}
