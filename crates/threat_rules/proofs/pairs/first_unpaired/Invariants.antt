use Rattle.std.proofs.Common.{◌≡◌, ◌-◌, length}
use Rattle.std.specs.List.{find, range_with_len}
use Rattle.game_rules.specs.Board.{below}
use Rattle.odd_rules.specs.Threat.{is_unpaired}
use Rattle.threat_rules.proofs.pairs.first_unpaired.Given as goal

abbrev pub invariant-loop-index : goal.invariant-loop-index
invariant-loop-index l = find (is_unpaired l.p l.t l.pairs) (range_with_len l.index (length l.p.columns - l.index))
    ≡ find (is_unpaired l.p l.t l.pairs) (below (length l.p.columns))
