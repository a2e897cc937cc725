use Rattle.std.proofs.Common.{◌≡◌, Bool, [], ◌&&◌, get_or, sym, ap, ◌∙◌}
use Rattle.game_rules.specs.Board.{same_length}
use Rattle.game_rules.specs.Squares.{has_square}
use Rattle.game_rules.specs.Groups.{Group, GroupsOn, rank, has_group}
use Rattle.open_groups.specs.AnchorFields.{is_anchored, set_anchored, IsSound}
use Rattle.open_groups.proofs.Anchors.{has_anchored, at_rank}
use Rattle.open_groups.proofs.group_set.GroupSet.has.Goals as goal
use Rattle.open_groups.specs.declared.group_set.GroupSet.TheInside.{Inside}
use Rattle.game_rules.specs.declared.Length.{Length}

-- whether the set that is kept has the group, by the answer to the test of its length
has_by_length : (a : Inside) (sound : IsSound a) (kept : GroupsOn) (g : Group) (answer : Bool) (left right : Length) → set_anchored a.size a.anchors ≡ kept
    → answer ≡ same_length left right → left ≡ g.len → right ≡ a.size.len → has_group kept.groups g ≡ (answer && is_anchored a.anchors g)
has_by_length a sound kept g answer left right view answered first second =
    sym (ap (λ (s : GroupsOn). has_group s.groups g) view)
    ∙ has_anchored a sound g
    ∙ ap (λ b. b && is_anchored a.anchors g) (sym (answered ∙ ap (λ len. same_length len right) first ∙ ap (same_length g.len) second))

pub returns-then-same_length : goal.returns-then-same_length
returns-then-same_length c =
    let anchors = c.self.inside.anchors in
    c.has.ensures
    ∙ ap (λ n. has_square (get_or anchors n c.index-self-rank_of.result) c.group_anchor.result) (c.rank_of.ensures ∙ ap rank c.group_way.ensures)
    ∙ ap (λ us. has_square us c.group_anchor.result) (at_rank anchors c.args.g.way c.index-self-rank_of.result c.self.told)
    ∙ ap (has_square (get_or anchors (rank c.args.g.way) [])) c.group_anchor.ensures.value
    ∙ sym (has_by_length c.self.inside c.self.invariant c.args.self.now c.args.g c.same_length.result c.group_length.result c.length.result
    c.self.view_is c.same_length.ensures c.group_length.ensures c.length.ensures ∙ ap (λ b. b && is_anchored anchors c.args.g) c.if-same_length.true)

pub returns-else-same_length : goal.returns-else-same_length
returns-else-same_length c =
    c.if-same_length.false
    ∙ sym (has_by_length c.self.inside c.self.invariant c.args.self.now c.args.g c.same_length.result c.group_length.result c.length.result
    c.self.view_is c.same_length.ensures c.group_length.ensures c.length.ensures
    ∙ ap (λ b. b && is_anchored c.self.inside.anchors c.args.g) c.if-same_length.false)
