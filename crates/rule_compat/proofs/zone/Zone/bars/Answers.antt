use Rattle.std.proofs.Common.{◌≡◌, sym, ap, ◌∙◌}
use Rattle.std.proofs.lemmas.Bool.{and_parts}
use Rattle.game_rules.specs.Squares.{has_square}
use Rattle.game_rules.proofs.Squares.{any_in_same}
use Rattle.plan_rules.specs.Rules.{zone_of, fits}
use Rattle.plan_rules.specs.Zones.{owns_zone}
use Rattle.group_rules.specs.KeptFacts.{facts_in}
use Rattle.rule_compat.specs.Written.{written}
use Rattle.rule_compat.proofs.ZoneBars.{barred_out}
use Rattle.rule_compat.proofs.zone.Zone.bars.Goals as goal

pub returns-then-not-meets : goal.returns-then-not-meets
returns-then-not-meets c =
    let w = written c.args.self.now in
    let both = and_parts (owns_zone w) (fits w c.requires.0) c.requires.1 in
    let same : written c.self.inside.instance ≡ w = ap written c.self.view_is in
    sym (barred_out c.requires.0 w (facts_in c.args.kept.now) (has_square c.args.set) both.0 both.1
    (any_in_same (has_square c.args.set) (zone_of w) c.self.inside.squares (λ u. ap (λ v. has_square (zone_of v) u) (sym same)
    ∙ sym (c.self.invariant.squares.has u)) ∙ sym c.meets.ensures ∙ c.if-not-meets.true))
