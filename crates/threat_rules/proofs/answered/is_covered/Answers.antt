use Rattle.std.proofs.Common.{◌||◌, ◌&&◌, sym, ap, ◌∙◌}
use Rattle.std.specs.List.{list_any}
use Rattle.std.proofs.lemmas.Bool.{or_left}
use Rattle.game_rules.specs.Squares.{has_square}
use Rattle.threat_rules.proofs.SafeSets.{covered_is}
use Rattle.threat_rules.proofs.answered.is_covered.Goals as goal

pub returns-then-meets : goal.returns-then-meets
returns-then-meets c =
    c.if-meets.true
    ∙ sym (or_left _ _ (sym c.meets.ensures ∙ c.if-meets.true))
    ∙ covered_is c.args.pairs.now c.args.g c.args.safe c.group_mask-squares.result c.group_mask-squares.ensures

pub returns-else-meets : goal.returns-else-meets
returns-else-meets c =
    let squares = c.group_mask-squares.result in
    c.holds_some_pair.ensures
    ∙ ap (λ b. b || list_any (λ x. has_square squares x.0 && has_square squares x.1) c.args.pairs.now) (sym (sym c.meets.ensures ∙ c.if-meets.false))
    ∙ covered_is c.args.pairs.now c.args.g c.args.safe squares c.group_mask-squares.ensures
