use Rattle.std.proofs.Common.{◌≡◌, ◌+◌, ◌≤◌, ◌∷◌, [], ◌++◌, length, take, sym, ap, ◌∙◌, arith, append_assoc, length-append, lit<}
use Rattle.std.proofs.lemmas.List.{take_all}
use Rattle.game_rules.specs.Board.{is_line}
use Rattle.game_rules.specs.Squares.{squares_of_board}
use Rattle.game_rules.specs.Groups.{group_on, groups_along}
use Rattle.game_rules.proofs.Filtered.{filtered_more, filtered_none, filtered_fits}
use Rattle.arrayvec.specs.ArrayVec.{ArrayVec}
use Rattle.open_groups.specs.declared.group.GroupId.{GroupId}
use Rattle.open_groups.proofs.Along.{anchored_in}
use Rattle.open_groups.proofs.group.push_along.Goals as goal
use Rattle.open_groups.proofs.group.push_along.Goals.{in-Some, in_default}

pub push-requires : goal.push-requires
push-requires c =
    let us = c.args.squares.now in
    let fits : length (anchored_in c.args.size c.args.way (take c.loop-anchor.anchor-index us)) + 1 ≤ length (anchored_in c.args.size c.args.way us)
    = filtered_fits (is_line c.args.size c.args.way) (group_on c.args.size c.args.way) us c.loop-anchor.anchor-index c.anchor-item.result
    c.loop-anchor-test.true c.anchor-item.is c.in-Some.group (sym c.in-Some.is ∙ c.group_at.ensures) in
    let all : anchored_in c.args.size c.args.way us ≡ groups_along c.args.size c.args.way
    = ap (anchored_in c.args.size c.args.way) c.requires.squares in (
      lit< tt,
      omega (
        arith,
        c.requires.room,
        fits,
        ap length all,
        ap length c.loop-anchor.invariant,
        length-append c.args.groups.now.items (anchored_in c.args.size c.args.way (take c.loop-anchor.anchor-index us)),
      ),
    )

pub loop-anchor-preserved : goal.loop-anchor-preserved
loop-anchor-preserved c =
    let us = c.args.squares.now in let i = c.loop-anchor.anchor-index in let old = c.args.groups.now.items in
    elim c.match-group_at.branch [
      | in-Some w ↦
          ap (λ (v : ArrayVec GroupId). v.items) w.groups-is
          ∙ w.push.ensures.items
          ∙ ap (λ gs. gs ++ w.in-Some.group ∷ []) c.loop-anchor.invariant
          ∙ append_assoc old (anchored_in c.args.size c.args.way (take i us)) (w.in-Some.group ∷ [])
          ∙ ap (λ gs. old ++ gs) (sym (filtered_more (is_line c.args.size c.args.way) (group_on c.args.size c.args.way) us i c.anchor-item.result
          c.loop-anchor-test.true c.anchor-item.is w.in-Some.group (sym w.in-Some.is ∙ c.group_at.ensures)))
      | in_default w ↦
          ap (λ (v : ArrayVec GroupId). v.items) w.groups-is
          ∙ c.loop-anchor.invariant
          ∙ ap (λ gs. old ++ gs) (sym (filtered_none (is_line c.args.size c.args.way) (group_on c.args.size c.args.way) us i c.anchor-item.result
          c.loop-anchor-test.true c.anchor-item.is (sym w.in_default.is ∙ c.group_at.ensures)))
    ]

pub returns : goal.returns
returns c =
    let us = c.args.squares.now in
    let all : take c.loop-anchor.anchor-index us ≡ squares_of_board c.args.size
    = take_all c.loop-anchor.anchor-index us c.loop-anchor-test.false ∙ c.requires.squares in
    c.loop-anchor.invariant ∙ ap (λ us. c.args.groups.now.items ++ anchored_in c.args.size c.args.way us) all
