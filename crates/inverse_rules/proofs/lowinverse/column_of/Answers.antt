use Rattle.std.proofs.Common.{sym}
use Rattle.game_rules.proofs.Squares.{set_same}
use Rattle.plan_rules.proofs.Spans.{span_has}
use Rattle.inverse_rules.proofs.lowinverse.column_of.Goals as goal

pub returns : goal.returns
returns c = set_same _ _ c.column_part.result c.column_part.ensures (λ u. sym (span_has c.args.bottom c.args.top u))
