use Rattle.std.proofs.Common.{◌≡◌, ◌&&◌, drop}
use Rattle.std.specs.List.{list_any}
use Rattle.game_rules.specs.Squares.{has_square}
use Rattle.threat_rules.proofs.answered.holds_some_pair.Given as goal

abbrev pub invariant-loop-pair : goal.invariant-loop-pair
invariant-loop-pair l =
    list_any (λ x. has_square l.squares x.0 && has_square l.squares x.1) (drop l.pair-index l.pairs)
    ≡ list_any (λ x. has_square l.squares x.0 && has_square l.squares x.1) l.pairs
