use Rattle.std.proofs.Common.{cond, Some, None, sym, ap, ◌∙◌}
use Rattle.game_rules.specs.Position.{board_of}
use Rattle.plan_rules.specs.Rules.{highinverse, is_shaped, fits}
use Rattle.plan_rules.proofs.Bottoms.{highinverse_site}
use Rattle.plan_rules.proofs.Fitting.{made_as}
use Rattle.inverse_rules.proofs.highinverse.HighinverseListed.fitting_at.Goals as goal

pub returns-then-is_common_ground : goal.returns-then-is_common_ground
returns-then-is_common_ground c =
    let p = c.args.p.now in let x = c.args.arg2.0 in let y = c.args.arg2.1 in
    made_as (λ v. highinverse v.0 v.1) c.new.result (x, y) (is_shaped (highinverse x y) (board_of p)) (fits (highinverse x y) p)
    (c.new.ensures.value ∙ ap (λ board. cond (is_shaped (highinverse x y) board) (Some (x, y)) None) c.size.ensures.value)
    (highinverse_site p x y (sym c.is_common_ground.ensures ∙ c.if-is_common_ground.true))
