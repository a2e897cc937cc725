use Rattle.std.proofs.Common.{◌≡◌, ◌+◌, ◌≤◌, ◌++◌, length, ap, ◌∙◌, sym, subst, arith, append_assoc}
use Rattle.game_rules.specs.Groups.{GroupsOn}
use Rattle.game_rules.specs.declared.Way.TheVariants.{H, V, U, D}
use Rattle.open_groups.specs.GroupBits.{those_along}
use Rattle.open_groups.proofs.Along.{length_behind}
use Rattle.open_groups.proofs.Members.{by_ways, kept_fit}
use Rattle.open_groups.proofs.group_set.GroupSet.groups.Goals as goal
use Rattle.game_rules.specs.declared.TheConstants.{MOST_GROUPS}

-- the groups of all directions have room
abbrev AllFit : GroupsOn → Type 0
AllFit set = length (those_along set H) + (length (those_along set V) + (length (those_along set U) + length (those_along set D))) ≤ MOST_GROUPS

pub push_along-requires : goal.push_along-requires
push_along-requires c = omega (arith, subst AllFit c.self.view_is (kept_fit c.self.inside c.self.invariant), ap length c.new-groups.ensures)

pub push_along-requires-2 : goal.push_along-requires-2
push_along-requires-2 c =
    let fit = subst AllFit c.self.view_is (kept_fit c.self.inside c.self.invariant) in
    let first = length_behind c.new-groups.result.items (those_along c.args.self.now H) c.push_along.ensures in
    omega (arith, fit, ap length c.new-groups.ensures, first)

pub push_along-requires-3 : goal.push_along-requires-3
push_along-requires-3 c =
    let fit = subst AllFit c.self.view_is (kept_fit c.self.inside c.self.invariant) in
    let first = length_behind c.new-groups.result.items (those_along c.args.self.now H) c.push_along.ensures in
    let second = length_behind c.push_along.new.groups.items (those_along c.args.self.now V) c.push_along-2.ensures in
    omega (arith, fit, ap length c.new-groups.ensures, first, second)

pub push_along-requires-4 : goal.push_along-requires-4
push_along-requires-4 c =
    let fit = subst AllFit c.self.view_is (kept_fit c.self.inside c.self.invariant) in
    let first = length_behind c.new-groups.result.items (those_along c.args.self.now H) c.push_along.ensures in
    let second = length_behind c.push_along.new.groups.items (those_along c.args.self.now V) c.push_along-2.ensures in
    let third = length_behind c.push_along-2.new.groups.items (those_along c.args.self.now U) c.push_along-3.ensures in
    omega (arith, fit, ap length c.new-groups.ensures, first, second, third)

pub returns : goal.returns
returns c =
    let set = c.args.self.now in let h = those_along set H in let v = those_along set V in let u = those_along set U in let d = those_along set D in
    let whole = by_ways c.self.inside c.self.invariant in
    c.push_along-4.ensures
    ∙ ap (λ gs. gs ++ d) (c.push_along-3.ensures
    ∙ ap (λ gs. gs ++ u) (c.push_along-2.ensures ∙ ap (λ gs. gs ++ v) (c.push_along.ensures ∙ ap (λ gs. gs ++ h) c.new-groups.ensures)))
    ∙ append_assoc (h ++ v) u d
    ∙ append_assoc h v (u ++ d)
    ∙ sym (subst (λ (set : GroupsOn). set.groups ≡ those_along set H ++ (those_along set V ++ (those_along set U ++ those_along set D))) c.self.view_is whole)
