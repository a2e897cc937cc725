use Rattle.std.proofs.Common.{cond, Some, None, ap, ◌∙◌}
use Rattle.plan_rules.specs.Rules.{baseinverse, is_shaped, fits}
use Rattle.game_rules.specs.Position.{board_of}
use Rattle.plan_rules.proofs.Fitting.{made_as}
use Rattle.plan_rules.proofs.Sites.{baseinverse_site}
use Rattle.base_rules.proofs.baseinverse.BaseinverseListed.fitting_at.Goals as goal

pub returns : goal.returns
returns c =
    let s = c.args.arg2.0 in let t = c.args.arg2.1 in
    made_as (λ x. baseinverse x.0 x.1) c.new.result (s, t) (is_shaped (baseinverse s t) (board_of c.args.p.now)) (fits (baseinverse s t) c.args.p.now)
    (c.new.ensures.value ∙ ap (λ board. cond (is_shaped (baseinverse s t) board) (Some (s, t)) None) c.size.ensures.value)
    (baseinverse_site c.args.p.now s t c.requires)
