use Rattle.std.proofs.Common.{◌≡◌, is_none, sym, ap, ◌∙◌, arith}
use Rattle.std.proofs.lemmas.Bool.{and_parts}
use Rattle.std.proofs.lemmas.Grind.{common_steps}
use Rattle.game_rules.specs.Board.{Square}
use Rattle.game_rules.specs.Squares.{widest}
use Rattle.plan_rules.specs.Rules.{lowinverse, reply_to, has_shape}
use Rattle.plan_rules.proofs.Spans.{left_under, right_under}
use Rattle.plan_rules.proofs.Replies.{missing_by_kind}
use Rattle.inverse_rules.proofs.lowinverse.LowinverseRule.reply.Goals as goal

pub answer-requires-clause-column : goal.answer-requires-clause-column
answer-requires-clause-column c =
    let x = c.args.self.now in
    let under = left_under x.0 x.1 x.2 x.3 c.args.last c.x_top.ensures.shaped (sym (c.x_column.ensures.has c.args.last) ∙ sym c.has.ensures ∙ c.if-has.true) in
    under.0 ∙ ap (λ (u : Square). u.0) (sym c.x_top.ensures.value)

pub answer-requires-clause-row : goal.answer-requires-clause-row
answer-requires-clause-row c =
    let x = c.args.self.now in
    let under = left_under x.0 x.1 x.2 x.3 c.args.last c.x_top.ensures.shaped (sym (c.x_column.ensures.has c.args.last) ∙ sym c.has.ensures ∙ c.if-has.true) in
    omega (arith, under.1, ap (λ (u : Square). u.1) c.x_top.ensures.value)

pub answer-requires-then-has-2-clause-column : goal.answer-requires-then-has-2-clause-column
answer-requires-then-has-2-clause-column c =
    let x = c.args.self.now in
    let under = right_under x.0 x.1 x.2 x.3 c.args.last c.y_top.ensures.shaped (sym (c.y_column.ensures.has c.args.last) ∙ sym c.has-else-has.ensures
    ∙ c.if-has-2.true) in
    under.0 ∙ ap (λ (u : Square). u.0) (sym c.y_top.ensures.value)

pub answer-requires-then-has-2-clause-row : goal.answer-requires-then-has-2-clause-row
answer-requires-then-has-2-clause-row c =
    let x = c.args.self.now in
    let under = right_under x.0 x.1 x.2 x.3 c.args.last c.y_top.ensures.shaped (sym (c.y_column.ensures.has c.args.last) ∙ sym c.has-else-has.ensures
    ∙ c.if-has-2.true) in
    omega (arith, under.1, ap (λ (u : Square). u.1) c.y_top.ensures.value)

pub returns-then-has-clause-missing : goal.returns-then-has-clause-missing
returns-then-has-clause-missing c =
    let x = c.args.self.now in
    let value : c.answer.result ≡ reply_to (lowinverse x.0 x.1 x.2 x.3) c.args.now.now c.args.last = grind (arith, common_steps) in
    ap is_none value ∙ missing_by_kind (lowinverse x.0 x.1 x.2 x.3) c.args.now.now c.args.last
    (and_parts _ (has_shape (lowinverse x.0 x.1 x.2 x.3) widest) c.x_top.ensures.shaped).1

pub returns-then-has-2-clause-missing : goal.returns-then-has-2-clause-missing
returns-then-has-2-clause-missing c =
    let x = c.args.self.now in
    let value : c.answer-then-has-2.result ≡ reply_to (lowinverse x.0 x.1 x.2 x.3) c.args.now.now c.args.last = grind (arith, common_steps) in
    ap is_none value ∙ missing_by_kind (lowinverse x.0 x.1 x.2 x.3) c.args.now.now c.args.last
    (and_parts _ (has_shape (lowinverse x.0 x.1 x.2 x.3) widest) c.y_top.ensures.shaped).1
