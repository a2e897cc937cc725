use Rattle.std.proofs.Common.{◌≡◌, ◌||◌, true, length, set, get_or, length-set, sym, ap, ◌∙◌, subst}
use Rattle.game_rules.specs.Squares.{same_square, has_square, IsSetOf}
use Rattle.game_rules.specs.Groups.{GroupsOn, lies_on, group_on, rank}
use Rattle.game_rules.specs.declared.Way.{Way}
use Rattle.open_groups.specs.AnchorFields.{anchors_along}
use Rattle.open_groups.proofs.Anchors.{anchored_set, determined_anchors, size_determined, with_group, with_within, each_with}
use Rattle.open_groups.proofs.group_set.GroupSet.with.Goals as goal
use Rattle.open_groups.proofs.group_set.GroupSet.with.Goals.{After-index-anchors-place-2}

place_is : (c : After-index-anchors-place-2) → c.rank_of-place.result ≡ rank c.args.g.way
place_is c = c.rank_of-place.ensures ∙ ap rank c.group_way.ensures

on : (c : After-index-anchors-place-2) → lies_on c.self.inside.size c.args.g ≡ true
on c = subst (λ (s : GroupsOn). lies_on s.board c.args.g ≡ true) (sym c.self.view_is) c.requires

size_after : (c : After-index-anchors-place-2) → length (set c.self.inside.anchors (rank c.args.g.way) c.with.result) ≡ 4
size_after c = length-set c.self.inside.anchors (rank c.args.g.way) c.with.result ∙ size_determined c.self.inside c.self.invariant

each : (c : After-index-anchors-place-2) → (way : Way)
    → IsSetOf (λ s. with_group c.self.inside c.self.invariant c.args.g (on c) (group_on c.self.inside.size way s))
    (anchors_along (set c.self.inside.anchors (rank c.args.g.way) c.with.result) way)
each c = each_with c.self.inside c.self.invariant c.args.g (on c) c.index-anchors-place.result c.with.result
    (c.index-anchors-place.is ∙ ap (λ n. get_or c.self.inside.anchors n c.index-anchors-place.result) (place_is c))
    (subst (λ along. IsSetOf (λ u. same_square u c.args.g.anchor || has_square along u) c.with.result) (sym c.index-anchors-place.is)
    (subst (λ anchor. IsSetOf (λ u. same_square u anchor || has_square (get_or c.self.inside.anchors c.rank_of-place.result c.index-anchors-place.result) u)
    c.with.result) c.group_anchor.ensures.value c.with.ensures))

pub invariant_of-result : goal.invariant_of-result
invariant_of-result c = rw (place_is c.before) (record {
  board = c.self.invariant.board;
  determined = determined_anchors c.self.inside.size _ (size_after c.before) (with_group c.self.inside c.self.invariant c.args.g (on c.before))
      (with_within c.self.inside c.self.invariant c.args.g (on c.before)) (each c.before);
})

pub returns : goal.returns
returns c = rw (← c.self.view_is, place_is c.before)
    (anchored_set c.self.inside.size (set c.self.inside.anchors (rank c.args.g.way) c.with.result) (size_after c.before)
    (with_group c.self.inside c.self.invariant c.args.g (on c.before))
    (with_within c.self.inside c.self.invariant c.args.g (on c.before)) (each c.before))
