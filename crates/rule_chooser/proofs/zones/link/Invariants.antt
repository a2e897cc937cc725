use Rattle.std.proofs.Common.{◌≤◌, length}
use Rattle.rule_chooser.proofs.Linked.{HeadsFrom, LinksFrom}
use Rattle.rule_chooser.proofs.zones.link.Given as goal

abbrev pub invariant-zones : goal.invariant-zones
invariant-zones l = record {
  within : l.index ≤ length l.list;
  heads : HeadsFrom l.list l.index l.heads;
  links : LinksFrom l.list l.index l.links;
}

abbrev pub decreases-zones : goal.decreases-zones
decreases-zones l = l.index
