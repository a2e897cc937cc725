use Rattle.std.proofs.Common.{◌≡◌, ◌<◌, ◌++◌, true, length, map, take, get_or, sym, ap, ◌∙◌, subst, arith, length-append, lit<}
use Rattle.std.proofs.lemmas.List.{take_all, length-map, length-take}
use Rattle.game_rules.specs.Board.{Square, is_line}
use Rattle.game_rules.specs.Squares.{widest_with}
use Rattle.game_rules.specs.Groups.{GroupsOn, group_on}
use Rattle.game_rules.proofs.Lists.{Among, Among-at}
use Rattle.open_groups.specs.AnchorFields.{anchors_along}
use Rattle.open_groups.specs.GroupBits.{those_along}
use Rattle.open_groups.proofs.Anchors.{at_rank}
use Rattle.open_groups.proofs.Members.{by_anchors, widest_line}
use Rattle.open_groups.proofs.group_set.GroupSet.push_along.Goals as goal

pub from_anchor-requires : goal.from_anchor-requires
from_anchor-requires c =
    let inside = c.self.inside in
    let anchors = c.as_slice-anchor-items.ensures.value ∙ c.squares-anchors.ensures
    ∙ ap (λ n. get_or inside.anchors n c.index-self-rank_of.result) c.rank_of.ensures
    ∙ at_rank inside.anchors c.args.way c.index-self-rank_of.result c.self.told in
    let among = subst (λ (s : Square). Among s c.as_slice-anchor-items.result.now) (sym c.anchor-item.is)
    (Among-at c.as_slice-anchor-items.result.now c.loop-anchor.anchor-index c.anchor-item.result c.loop-anchor-test.true) in
    subst (λ len. is_line (widest_with len) c.args.way c.anchor-item.result ≡ true) (sym c.length.ensures)
    (widest_line inside c.self.invariant c.args.way c.anchor-item.result (subst (Among c.anchor-item.result) anchors among))

pub push-requires : goal.push-requires
push-requires c =
    let inside = c.self.inside in let us = c.as_slice-anchor-items.result.now in let i = c.loop-anchor.anchor-index in
    let anchors = c.as_slice-anchor-items.ensures.value ∙ c.squares-anchors.ensures
    ∙ ap (λ n. get_or inside.anchors n c.index-self-rank_of.result) c.rank_of.ensures
    ∙ at_rank inside.anchors c.args.way c.index-self-rank_of.result c.self.told in
    let all = ap (λ (set : GroupsOn). length (those_along set c.args.way)) (sym c.self.view_is) ∙ ap length (by_anchors inside c.self.invariant c.args.way) in
    let within : i < length us = c.loop-anchor-test.true in (
      lit< tt,
      omega (
        arith,
        within,
        c.requires,
        all,
        length-map (anchors_along inside.anchors c.args.way) (group_on inside.size c.args.way),
        ap length anchors,
        ap length c.loop-anchor.invariant,
        length-append c.args.groups.now.items (map (group_on inside.size c.args.way) (take i us)),
        length-map (take i us) (group_on inside.size c.args.way),
        length-take i us,
      ),
    )

pub returns : goal.returns
returns c =
    let inside = c.self.inside in
    let anchors = c.as_slice-anchor-items.ensures.value ∙ c.squares-anchors.ensures
    ∙ ap (λ n. get_or inside.anchors n c.index-self-rank_of.result) c.rank_of.ensures
    ∙ at_rank inside.anchors c.args.way c.index-self-rank_of.result c.self.told in
    c.loop-anchor.invariant
    ∙ ap (λ gs. c.args.groups.now.items ++ gs) (
    ap (map (group_on inside.size c.args.way)) (take_all c.loop-anchor.anchor-index c.as_slice-anchor-items.result.now c.loop-anchor-test.false ∙ anchors)
    ∙ sym (by_anchors inside c.self.invariant c.args.way)
    ∙ ap (λ (set : GroupsOn). those_along set c.args.way) c.self.view_is)
