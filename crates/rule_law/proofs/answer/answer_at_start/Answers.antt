use Rattle.std.proofs.Common.{ap, ◌∙◌}
use Rattle.game_rules.specs.Position.{after_move}
use Rattle.rule_law.proofs.First.{first_answer}
use Rattle.rule_law.proofs.answer.answer_at_start.Goals as goal

pub returns-clause-answers : goal.returns-clause-answers
returns-clause-answers g c = λ start.
    let x = c.args.rule.now in
    first_answer (g.R.Rule.zone x) (g.R.Rule.fitted x) (g.R.Rule.calm x) (g.R.Rule.reply x) (g.R.Rule.line x) (g.met.R.Rule.starts x) (g.met.R.Rule.steps x)
    c.args.p.now c.args.last c.requires start c.reply.result
    (c.reply.ensures.value ∙ ap (λ q. g.R.Rule.reply x q c.args.last) (c.after-now.ensures ∙ ap (after_move c.args.p.now) c.column.ensures))
