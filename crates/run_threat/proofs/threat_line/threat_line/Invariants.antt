use Rattle.std.proofs.Common.{◌≡◌, ◌+◌, ◌*◌, ◌≤◌, ◌++◌, codes, drop, flat_map}
use Rattle.arrayvec.specs.ArrayVec.{array_vec_len}
use Rattle.plan_text.specs.Items.{group_text}
use Rattle.threat_text.specs.Threats.{pair_text}
use Rattle.run_threat.proofs.threat_line.threat_line.Given as goal

-- the pairs that are left complete the line
abbrev pub invariant-loop-pair : goal.invariant-loop-pair
invariant-loop-pair l = record {
  items : l.line.items ++ flat_map pair_text (drop l.pair-index l.pairs) ≡ codes "threat " ++ (group_text l.threat.group ++ flat_map pair_text l.pairs);
  room : array_vec_len l.line ≤ 11 * (l.pair-index + 1);
}
