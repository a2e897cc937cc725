use Rattle.board_squares.proofs.WholeColumns.{no_columns}
use Rattle.rule_compat.proofs.zone.ZoneDefault.default.Goals as goal

pub invariant_of-result : goal.invariant_of-result
invariant_of-result c = record {
  squares = c.empty-none.ensures;
  columns = no_columns c.empty-none.result c.empty-none.ensures;
}
