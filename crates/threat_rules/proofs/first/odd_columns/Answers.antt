use Rattle.std.proofs.Common.{sym, ap, ◌∙◌, arith, lit<}
use Rattle.threat_rules.proofs.Pairings.{odd_few, odd_joins, odd_passes}
use Rattle.threat_rules.proofs.first.odd_columns.Goals as goal
use Rattle.threat_rules.proofs.first.odd_columns.Goals.{then-is_odd_column, else-is_odd_column}

pub push-requires : goal.push-requires
push-requires c = (lit< tt, omega (arith, odd_few c.args.p.now c.args.t c.loop-index.index c.loop-index.columns.items c.loop-index.invariant))

pub loop-index-preserved : goal.loop-index-preserved
loop-index-preserved c = elim c.if-is_odd_column.branch [
  | then-is_odd_column w ↦
      odd_joins c.args.p.now c.args.t c.loop-index.index c.nth_column-column.result c.loop-index.columns.items c.if-is_odd_column.columns.items
      c.loop-index.invariant c.nth_column-column.ensures (sym c.is_odd_column.ensures ∙ w.if-is_odd_column.true)
      (ap (λ v. v.items) w.columns-is ∙ w.push.ensures.items)
  | else-is_odd_column w ↦
      odd_passes c.args.p.now c.args.t c.loop-index.index c.nth_column-column.result c.loop-index.columns.items c.if-is_odd_column.columns.items
      c.loop-index.invariant c.nth_column-column.ensures (sym c.is_odd_column.ensures ∙ w.if-is_odd_column.false)
      (ap (λ v. v.items) w.columns-is)
]
