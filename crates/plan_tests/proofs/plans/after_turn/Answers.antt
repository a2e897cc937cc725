use Rattle.std.proofs.Common.{rules, ◌≡◌, ◌+◌, true, ap, ◌∙◌, arith}
use Rattle.game_rules.specs.Position.{has_room, empty_count}
use Rattle.game_rules.proofs.Moves.{empty_count_moved}
use Rattle.plan_tests.proofs.plans.after_turn.Goals as goal

pub returns-clause-fewer : goal.returns-clause-fewer
returns-clause-fewer c =
    let p = c.args.now.now in let q = c.after-answered.result in
    let white : empty_count q + 1 ≡ empty_count p = ap (λ p. empty_count p + 1) c.after-answered.ensures ∙ empty_count_moved p c.args.column c.requires.room in
    let room : has_room q c.column.result ≡ true = search rules in
    let black : empty_count c.after.result + 1 ≡ empty_count q = ap (λ p. empty_count p + 1) c.after.ensures ∙ empty_count_moved q c.column.result room in
    omega (arith, white, black)
