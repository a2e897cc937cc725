use Rattle.deep_search.proofs.Tables.{held_used}
use Rattle.deep_search.proofs.solving.look_up.Goals as goal

pub returns-clause-same : goal.returns-clause-same
returns-clause-same c = held_used c.args.table.now c.find.new.self c.args.position.now c.args.question c.find.ensures.table
