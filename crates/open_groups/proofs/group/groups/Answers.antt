use Rattle.std.proofs.Common.{◌++◌, length, ap, ◌∙◌, sym, arith, append_assoc}
use Rattle.game_rules.specs.Groups.{groups_along}
use Rattle.game_rules.specs.declared.Way.TheVariants.{H, V, U, D}
use Rattle.open_groups.proofs.Along.{groups_by_way, ways_fit, length_behind}
use Rattle.open_groups.proofs.group.groups.Goals as goal

pub push_along-requires-clause-room : goal.push_along-requires-clause-room
push_along-requires-clause-room c = omega (arith, ways_fit c.args.size c.squares-squares.ensures.board, ap length c.new-groups.ensures)

pub push_along-requires-2-clause-room : goal.push_along-requires-2-clause-room
push_along-requires-2-clause-room c =
    let fit = ways_fit c.args.size c.squares-squares.ensures.board in
    let first = length_behind c.new-groups.result.items (groups_along c.args.size H) c.push_along.ensures in
    omega (arith, fit, ap length c.new-groups.ensures, first)

pub push_along-requires-3-clause-room : goal.push_along-requires-3-clause-room
push_along-requires-3-clause-room c =
    let fit = ways_fit c.args.size c.squares-squares.ensures.board in
    let first = length_behind c.new-groups.result.items (groups_along c.args.size H) c.push_along.ensures in
    let second = length_behind c.push_along.new.groups.items (groups_along c.args.size V) c.push_along-2.ensures in
    omega (arith, fit, ap length c.new-groups.ensures, first, second)

pub push_along-requires-4-clause-room : goal.push_along-requires-4-clause-room
push_along-requires-4-clause-room c =
    let fit = ways_fit c.args.size c.squares-squares.ensures.board in
    let first = length_behind c.new-groups.result.items (groups_along c.args.size H) c.push_along.ensures in
    let second = length_behind c.push_along.new.groups.items (groups_along c.args.size V) c.push_along-2.ensures in
    let third = length_behind c.push_along-2.new.groups.items (groups_along c.args.size U) c.push_along-3.ensures in
    omega (arith, fit, ap length c.new-groups.ensures, first, second, third)

pub returns : goal.returns
returns c =
    let b = c.args.size in let h = groups_along b H in let v = groups_along b V in let u = groups_along b U in let d = groups_along b D in
    c.push_along-4.ensures
    ∙ ap (λ gs. gs ++ d) (c.push_along-3.ensures
    ∙ ap (λ gs. gs ++ u) (c.push_along-2.ensures ∙ ap (λ gs. gs ++ v) (c.push_along.ensures ∙ ap (λ gs. gs ++ h) c.new-groups.ensures)))
    ∙ append_assoc (h ++ v) u d
    ∙ append_assoc h v (u ++ d)
    ∙ sym (groups_by_way b)
