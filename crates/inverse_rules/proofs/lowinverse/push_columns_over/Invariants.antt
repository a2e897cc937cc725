use Rattle.std.proofs.Common.{◌≡◌, ◌+◌, ◌-◌, ◌*◌, ◌%◌, ◌≤◌, ◌++◌, map, length}
use Rattle.plan_rules.proofs.Bottoms.{tops_within}
use Rattle.inverse_rules.proofs.lowinverse.push_columns_over.Given as goal

abbrev pub invariant-loop-bottom : goal.invariant-loop-bottom
invariant-loop-bottom l = record {
  column : l.top.0 ≡ l.bottom.0;
  even : l.top.1 % 2 ≡ 0;
  low : l.bottom.1 ≤ l.top.1;
  within : l.top.1 ≤ l.p.rows;
  items : l.columns.items ≡ l.fn.columns.items ++ map (λ top. (l.bottom, top)) (tops_within l.bottom l.top.1);
  count : 2 * length l.columns.items + l.bottom.1 ≤ 2 * length l.fn.columns.items + l.top.1;
}

abbrev pub decreases-loop-bottom : goal.decreases-loop-bottom
decreases-loop-bottom l = l.p.rows - l.top.1
