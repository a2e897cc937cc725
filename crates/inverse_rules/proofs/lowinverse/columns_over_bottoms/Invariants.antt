use Rattle.std.proofs.Common.{◌≡◌, ◌*◌, ◌≤◌, length, take}
use Rattle.std.specs.List.{flat_map}
use Rattle.plan_rules.specs.Listing.{tops_over}
use Rattle.inverse_rules.proofs.lowinverse.columns_over_bottoms.Given as goal

abbrev pub invariant-loop-bottom : goal.invariant-loop-bottom
invariant-loop-bottom l = record {
  items : l.columns.items ≡ flat_map (tops_over l.p) (take l.bottom-index l.bottom-items);
  count : length l.columns.items ≤ 4 * l.bottom-index;
}
