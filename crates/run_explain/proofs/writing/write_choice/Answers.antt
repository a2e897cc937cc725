use Rattle.std.proofs.Common.{◌≡◌, IfOk, is_ok, sym, ap, ◌∙◌, subst}
use Rattle.device_rules.specs.Devices.{AppendsPrefix}
use Rattle.explain_text.specs.Explanation.{chosen_text}
use Rattle.walk_rules.specs.Walk.{is_given}
use Rattle.walk_rules.proofs.Choices.{solved_is}
use Rattle.run_explain.proofs.writing.write_choice.Goals as goal

pub write_chosen-requires : goal.write_chosen-requires
write_chosen-requires g c = c.choose-choice.ensures.at

pub returns-clause-found : goal.returns-clause-found
returns-clause-found g c =
    let same = ap is_given c.choose-choice.ensures.choice ∙ sym (solved_is c.args.position.now c.args.reach) in
    subst (λ found. IfOk c.write_chosen.result (λ given. given ≡ found)) same c.write_chosen.ensures.found

pub returns-clause-written : goal.returns-clause-written
returns-clause-written g c =
    subst (λ chosen. AppendsPrefix (is_ok c.write_chosen.result) (g.O.Sink.written c.args.out.now) (g.O.Sink.written c.write_chosen.new.out)
    (chosen_text c.args.position.now chosen))
    c.choose-choice.ensures.choice c.write_chosen.ensures.written
