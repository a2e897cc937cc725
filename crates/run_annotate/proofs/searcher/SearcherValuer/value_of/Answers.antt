use Rattle.std.proofs.Common.{ℕ, sym, ap, ◌∙◌, subst}
use Rattle.game_rules.specs.Position.{side_to_move}
use Rattle.proof_tools.specs.Marked.{IsTold}
use Rattle.run_annotate.specs.Dear.{IsSearched, told_end}
use Rattle.run_annotate.proofs.Dear.{verdict_tells}
use Rattle.run_annotate.proofs.searcher.SearcherValuer.value_of.Goals as goal

pub returns-clause-told : goal.returns-clause-told
returns-clause-told c =
    let p = c.args.p.now in
    let verdict = c.find_value-verdict.result in
    let told = verdict_tells c.self.inside.nodes c.self.inside.reach p verdict c.find_value-verdict.ensures.says c.find_value-verdict.ensures.found
    c.find_value-verdict.ensures.dear in
    subst (IsTold (IsSearched c.args.self.now.0 c.args.self.now.1) p)
    (sym (c.told_end.ensures ∙ ap (λ side. told_end side verdict) c.to_move.ensures))
    (subst (λ (numbers : ℕ × ℕ). IsTold (IsSearched numbers.0 numbers.1) p (told_end (side_to_move p) verdict)) c.self.view_is told)

pub returns-clause-kept : goal.returns-clause-kept
returns-clause-kept c = λ q found told. subst (λ (numbers : ℕ × ℕ). IsSearched numbers.0 numbers.1 q found) c.self.view_is told
