use Rattle.std.proofs.Common.{◌≡◌, ◌+◌, ◌<◌, ◌++◌, ◌∷◌, [], Some, take, length, sym, ap, ◌∙◌, arith}
use Rattle.std.proofs.lemmas.List.{length-set, length-take-le}
use Rattle.game_rules.specs.Position.{played}
use Rattle.cert_checker.specs.Trail.{Trail}
use Rattle.cert_checker.proofs.Trails.{one_more, reached_more}
use Rattle.cert_checker.proofs.trail.Trail.push.Goals as goal

pub returns-in_default-clause-barred : goal.returns-in_default-clause-barred
returns-in_default-clause-barred c = λ _.
    let a = c.self.inside in let kept = c.self.invariant in
    let within : a.moves < length a.positions = omega (arith, kept.within, kept.positions) in
    ap (λ (t : Trail). played t.root (t.path ++ c.args.column ∷ [])) (sym c.self.view_is)
    ∙ one_more a.root c.index-self-self.result a.columns a.positions a.moves c.args.column c.after.result within (kept.reached a.moves (omega arith))
    c.after.ensures
    ∙ c.in_default.is

pub invariant_of-self : goal.invariant_of-self
invariant_of-self c =
    let a = c.self.inside in let next = c.in-Some.reached in let kept = c.self.invariant in
    let within : a.moves < length a.positions = omega (arith, kept.within, kept.positions) in
    let path : length c.args.self.now.path ≡ length (take a.moves a.columns) = ap (λ (t : Trail). length t.path) (sym c.self.view_is) in
    let room : a.moves < 100 = omega (arith, c.requires, kept.within, kept.columns, length-take-le a.moves a.columns) in
    let legal : played a.root (take a.moves a.columns ++ c.args.column ∷ []) ≡ Some next =
    one_more a.root c.index-self-self.result a.columns a.positions a.moves c.args.column c.after.result within (kept.reached a.moves (omega arith))
    c.after.ensures
    ∙ c.in-Some.is in
    record {
      within = omega arith;
      columns = length-set a.columns a.moves c.args.column ∙ kept.columns;
      positions = length-set a.positions (a.moves + 1) next ∙ kept.positions;
      reached = reached_more a.root next a.columns a.positions a.moves c.args.column (omega (arith, kept.columns)) (omega (arith, kept.positions)) kept.reached
          legal;
    }
