use Rattle.std.proofs.Common.{◌++◌, sym, ap, ◌∙◌, append-nil}
use Rattle.std.specs.Option.{option_map}
use Rattle.plan_rules.proofs.Fitting.{none_fits}
use Rattle.rule_law.proofs.listing.take_fitting.Goals as goal

pub returns-in_default-clause-taken : goal.returns-in_default-clause-taken
returns-in_default-clause-taken g c =
    let nothing = none_fits c.args.p.now (g.R.Listed.written c.args.site) (ap (option_map g.R.Listed.instance) (sym c.in_default.is) ∙ c.fitting_at.ensures) in
    sym (append-nil (g.T.Taker.taken c.args.taker.now)) ∙ ap (λ ws. g.T.Taker.taken c.args.taker.now ++ ws) (sym nothing)
