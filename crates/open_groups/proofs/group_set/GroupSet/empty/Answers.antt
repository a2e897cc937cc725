use Rattle.std.proofs.Common.{false, refl}
use Rattle.open_groups.proofs.Anchors.{anchored_set, determined_anchors, each_empty}
use Rattle.open_groups.proofs.group_set.GroupSet.empty.Goals as goal

pub invariant_of-result : goal.invariant_of-result
invariant_of-result c = record {
  board = c.is_a_board.ensures;
  determined = determined_anchors c.args.size _ refl (λ _. false) (λ g h. cc) (each_empty c.empty.result c.empty.ensures);
}

pub returns : goal.returns
returns c = anchored_set c.args.size _ refl (λ _. false) (λ g h. cc) (each_empty c.empty.result c.empty.ensures)
