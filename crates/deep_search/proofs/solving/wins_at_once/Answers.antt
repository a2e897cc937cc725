use Rattle.std.proofs.Common.{sym, ◌∙◌}
use Rattle.deep_search.proofs.Plans.{won_by_move}
use Rattle.deep_search.proofs.solving.wins_at_once.Goals as goal

pub returns-then-wins_by : goal.returns-then-wins_by
returns-then-wins_by c = λ _.
    won_by_move c.args.position.now c.nth_column-column.result c.requires.going (sym c.has_room.ensures ∙ c.if-has_room.true) (c.wins_by.ensures c.if-wins_by.true)
