use Rattle.std.proofs.Common.{cond, Some, None, ap, ◌∙◌}
use Rattle.plan_rules.specs.Rules.{baseclaim, is_shaped, fits}
use Rattle.game_rules.specs.Position.{board_of}
use Rattle.plan_rules.proofs.Fitting.{made_as}
use Rattle.plan_rules.proofs.Sites.{baseclaim_site}
use Rattle.base_rules.proofs.baseclaim.BaseclaimListed.fitting_at.Goals as goal

pub returns : goal.returns
returns c =
    let a = c.args.arg2.0 in let b = c.args.arg2.1.0 in let e = c.args.arg2.1.1 in
    made_as (λ x. baseclaim x.0 x.1 x.2) c.new.result (a, b, e) (is_shaped (baseclaim a b e) (board_of c.args.p.now)) (fits (baseclaim a b e) c.args.p.now)
    (c.new.ensures.value ∙ ap (λ board. cond (is_shaped (baseclaim a b e) board) (Some (a, b, e)) None) c.size.ensures.value)
    (baseclaim_site c.args.p.now a b e c.size.ensures.board c.requires)
