use Rattle.std.proofs.Common.{refl, sym, ap, ◌∙◌}
use Rattle.std.specs.Option.{option_map}
use Rattle.plan_rules.specs.Rules.{lowinverse, baseclaim, aftereven, before, specialbefore}
use Rattle.plan_text.specs.Items.{of_rule}
use Rattle.rule_compat.specs.Written.{written}
use Rattle.plan_lines.proofs.Members.{lowinverse_made, baseclaim_made, specialbefore_made, group_made}
use Rattle.plan_lines.proofs.instance_text.of_rule.Goals as goal

pub returns-in_err-new-in-Lowinverse : goal.returns-in_err-new-in-Lowinverse
returns-in_err-new-in-Lowinverse c =
    let k = c.in_ok-x-in-Lowinverse in
    ap (option_map written) c.from_residual-in_err-new-in-Lowinverse.ensures
    ∙ ap (option_map (λ z. lowinverse z.0 z.1 z.2 z.3)) (sym c.in_err-new-in-Lowinverse.was)
    ∙ lowinverse_made c.args.size c.args.rule c.args.parts.now c.is_a_board.ensures k.x k.x_top k.y k.y_top _ c.in-Lowinverse.is
    (sym c.two_columns.ensures ∙ k.was) c.new-in-Lowinverse.ensures.value

pub returns-in_ok-new-in-Lowinverse : goal.returns-in_ok-new-in-Lowinverse
returns-in_ok-new-in-Lowinverse c =
    let k = c.in_ok-x-in-Lowinverse in
    ap (option_map (λ z. lowinverse z.0 z.1 z.2 z.3)) (sym c.in_ok-new-in-Lowinverse.was)
    ∙ lowinverse_made c.args.size c.args.rule c.args.parts.now c.is_a_board.ensures k.x k.x_top k.y k.y_top _ c.in-Lowinverse.is
    (sym c.two_columns.ensures ∙ k.was) c.new-in-Lowinverse.ensures.value

pub returns-in_ok-new-in-Baseclaim : goal.returns-in_ok-new-in-Baseclaim
returns-in_ok-new-in-Baseclaim c =
    let k = c.in_ok-a-in-Baseclaim in
    ap (option_map (λ z. baseclaim z.0 z.1 z.2)) (sym c.in_ok-new-in-Baseclaim.was)
    ∙ baseclaim_made c.args.size c.args.rule c.args.parts.now c.is_a_board.ensures k.a k.b k.e _ c.in-Baseclaim.is (sym c.three_squares.ensures ∙ k.was)
    c.new-in-Baseclaim.ensures.value

pub returns-in_ok-group_of-in-Aftereven : goal.returns-in_ok-group_of-in-Aftereven
returns-in_ok-group_of-in-Aftereven c =
    rw c.new-in-Aftereven.ensures
    (group_made c.args.size c.args.rule c.args.parts.now c.is_a_board.ensures aftereven c.in_ok-group_of-in-Aftereven.field-0
    (ap (λ rule. of_rule c.args.size rule c.args.parts.now) c.in-Aftereven.is)
    (sym c.group_of.ensures ∙ c.in_ok-group_of-in-Aftereven.was) refl refl)

pub returns-in_ok-group_of-in-Before : goal.returns-in_ok-group_of-in-Before
returns-in_ok-group_of-in-Before c =
    rw c.new-in-Before.ensures
    (group_made c.args.size c.args.rule c.args.parts.now c.is_a_board.ensures before c.in_ok-group_of-in-Before.field-0
    (ap (λ rule. of_rule c.args.size rule c.args.parts.now) c.in-Before.is)
    (sym c.group_of-in-Before.ensures ∙ c.in_ok-group_of-in-Before.was) refl refl)

pub returns-in_err-new-in-Specialbefore : goal.returns-in_err-new-in-Specialbefore
returns-in_err-new-in-Specialbefore c =
    let k = c.in_ok-g-in-Specialbefore in
    ap (option_map written) c.from_residual-in_err-new-in-Specialbefore.ensures
    ∙ ap (option_map (λ z. specialbefore z.0 z.1 z.2)) (sym c.in_err-new-in-Specialbefore.was)
    ∙ specialbefore_made c.args.size c.args.rule c.args.parts.now c.is_a_board.ensures k.g k.f k.e0 _ c.in-Specialbefore.is
    (sym c.group_and_squares.ensures ∙ k.was) c.new-in-Specialbefore.ensures

pub returns-in_ok-new-in-Specialbefore : goal.returns-in_ok-new-in-Specialbefore
returns-in_ok-new-in-Specialbefore c =
    let k = c.in_ok-g-in-Specialbefore in
    ap (option_map (λ z. specialbefore z.0 z.1 z.2)) (sym c.in_ok-new-in-Specialbefore.was)
    ∙ specialbefore_made c.args.size c.args.rule c.args.parts.now c.is_a_board.ensures k.g k.f k.e0 _ c.in-Specialbefore.is
    (sym c.group_and_squares.ensures ∙ k.was) c.new-in-Specialbefore.ensures
