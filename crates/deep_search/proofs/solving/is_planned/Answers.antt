use Rattle.std.proofs.Common.{sym, ◌∙◌}
use Rattle.game_rules.specs.Questions.{side_asked}
use Rattle.deep_search.proofs.Plans.{solved_chosen, won_open}
use Rattle.deep_search.proofs.solving.is_planned.Goals as goal

pub returns-clause-solved : goal.returns-clause-solved
returns-clause-solved c =
    c.give.ensures.found
    ∙ solved_chosen c.args.aim.now.reach c.args.aim.now.question c.args.position.now (sym c.eq.ensures ∙ c.if-eq.false)

pub returns-then-wins_at_once-clause-solved : goal.returns-then-wins_at_once-clause-solved
returns-then-wins_at_once-clause-solved c =
    sym (won_open c.args.aim.now.reach (side_asked c.args.aim.now.question) c.args.position.now (c.wins_at_once.ensures c.if-wins_at_once.true))
