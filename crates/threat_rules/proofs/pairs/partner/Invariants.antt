use Rattle.std.proofs.Common.{◌≡◌, drop}
use Rattle.odd_rules.specs.Duel.{partner}
use Rattle.threat_rules.proofs.pairs.partner.Given as goal

abbrev pub invariant-loop-pair : goal.invariant-loop-pair
invariant-loop-pair l = partner (drop l.pair-index l.pairs) l.last ≡ partner l.pairs l.last
