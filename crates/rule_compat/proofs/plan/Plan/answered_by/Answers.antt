use Rattle.std.proofs.Common.{◌≡◌, cond, true, None, is_none, sym, ap, ◌∙◌, subst}
use Rattle.game_rules.specs.Groups.{squares_of}
use Rattle.plan_rules.specs.Plan.{is_plan}
use Rattle.plan_rules.specs.Refusal.{first_barring, answering}
use Rattle.plan_rules.proofs.RefusalWords.{answer_none}
use Rattle.rule_compat.specs.Written.{written_list}
use Rattle.rule_compat.specs.Planned.{members}
use Rattle.rule_compat.proofs.Played.{black_met}
use Rattle.rule_compat.proofs.plan.Plan.answered_by.Goals as goal

pub returns-then-meets-clause-member : goal.returns-then-meets-clause-member
returns-then-meets-clause-member c =
    let p = c.self.inside.at in let ws = written_list c.self.inside.list.items in
    let met = sym (black_met p (squares_of c.args.g) c.group_mask.result c.black.result c.group_mask.ensures c.black.ensures) ∙ sym c.meets.ensures
    ∙ c.if-meets.true in
    subst (λ plan. None ≡ answering plan.at (members plan) c.args.g) c.self.view_is (ap (λ black. cond black None (first_barring p ws c.args.g)) (sym met))

pub returns-then-meets-clause-none : goal.returns-then-meets-clause-none
returns-then-meets-clause-none c =
    let is = subst (λ plan. is_plan plan.at (members plan) ≡ true) c.self.view_is c.self.invariant.is_one in
    ap is_none (returns-then-meets-clause-member c) ∙ answer_none c.args.self.now.at (members c.args.self.now) c.args.g is c.requires

pub returns-clause-member : goal.returns-clause-member
returns-clause-member c =
    let p = c.self.inside.at in let ws = written_list c.self.inside.list.items in
    let met = sym (black_met p (squares_of c.args.g) c.group_mask.result c.black.result c.group_mask.ensures c.black.ensures) ∙ sym c.meets.ensures
    ∙ c.if-meets.false in
    let first = c.first_barring.ensures ∙ ap (λ list. first_barring p (written_list list) c.args.g) c.as_slice.ensures.value in
    subst (λ plan. c.first_barring.result ≡ answering plan.at (members plan) c.args.g) c.self.view_is
    (first ∙ ap (λ black. cond black None (first_barring p ws c.args.g)) (sym met))

pub returns-clause-none : goal.returns-clause-none
returns-clause-none c =
    let is = subst (λ plan. is_plan plan.at (members plan) ≡ true) c.self.view_is c.self.invariant.is_one in
    ap is_none (returns-clause-member c) ∙ answer_none c.args.self.now.at (members c.args.self.now) c.args.g is c.requires
