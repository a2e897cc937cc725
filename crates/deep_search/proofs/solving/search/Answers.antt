use Rattle.std.proofs.Common.{length, ap, arith}
use Rattle.game_rules.specs.Position.{played}
use Rattle.deep_search.specs.Search.{version_for}
use Rattle.deep_search.proofs.Lists.{continues}
use Rattle.game_rules.proofs.BoardLine.{empty_count_within}
use Rattle.deep_search.proofs.solving.search.Goals as goal

pub solve-requires-clause-deep : goal.solve-requires-clause-deep
solve-requires-clause-deep g c = omega (arith, ap length c.new-path.ensures, empty_count_within c.args.position.now c.size.ensures.board)

pub returns-clause-lists : goal.returns-clause-lists
returns-clause-lists g c list known ends fits =
    continues c.args.position.now c.args.position.now c.args.question c.args.reach
    (version_for c.args.mirror) list known _ _ (g.L.LemmaWriter.count c.args.lemmas.now) (g.L.LemmaWriter.count c.solve.new.lemmas) c.solve.result ends fits
    (c.solve.ensures.wrote c.args.position.now known (ap (played c.args.position.now) c.new-path.ensures) fits.counted fits.table)
