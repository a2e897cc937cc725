use Rattle.std.proofs.Common.{◌&&◌, nat_le, sym, ap, ◌∙◌}
use Rattle.game_rules.specs.Squares.{has_square}
use Rattle.game_rules.proofs.Squares.{set_same}
use Rattle.plan_rules.specs.Squares.{above}
use Rattle.plan_rules.specs.Rules.{lowinverse, zone_of}
use Rattle.plan_rules.proofs.Spans.{lowinverse_pairs}
use Rattle.inverse_rules.proofs.lowinverse.LowinverseRule.pair.Goals as goal

pub returns : goal.returns
returns c =
    let x = c.args.self.now in
    set_same _ _ c.intersection.result c.intersection.ensures (λ u.
    ap (λ b. b && has_square c.lowered.result u) (c.zone-zone.ensures.has u)
    ∙ ap (λ b. has_square (zone_of (lowinverse x.0 x.1 x.2 x.3)) u && b)
    (c.lowered.ensures.has u ∙ ap (λ b. nat_le 1 u.1 && b) (c.zone-zone.ensures.has (above u)))
    ∙ sym (lowinverse_pairs x.0 x.1 x.2 x.3 u c.x-shape.ensures.shaped))
