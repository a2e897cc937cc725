use Rattle.std.proofs.Common.{◌++◌, ◌∷◌, [], take, sym, ap, ◌∙◌}
use Rattle.game_rules.specs.Position.{played}
use Rattle.cert_checker.proofs.Trails.{barred_at}
use Rattle.cert_checker.proofs.trail.Trail.follow.Goals as goal

pub returns-then-not-push-clause-barred : goal.returns-then-not-push-clause-barred
returns-then-not-push-clause-barred c = λ _.
    let i = c.loop-index.index in let path = c.args.path.now in let column = c.index-path-index.result in let kept = c.loop-index.invariant in
    barred_at c.args.self.now.root path i column c.loop-index-test.true c.index-path-index.is
    (ap (λ root. played root (take i path ++ column ∷ [])) (sym kept.root)
    ∙ ap (λ path. played c.loop-index.self.root (path ++ column ∷ [])) (sym kept.path)
    ∙ c.push.ensures.barred c.if-not-push.true)
