use Rattle.std.proofs.Common.{None, subst, sym, ◌∙◌, arith}
use Rattle.proof_text.specs.Right.{IsTrueVerdict}
use Rattle.proof_text.specs.declared.Version.TheVariants.{One}
use Rattle.run_questions.specs.Found.{HasFound}
use Rattle.run_questions.proofs.Asking.{told_true, told_unknown, told_found}
use Rattle.run_questions.proofs.value.find_value.Goals as goal

pub returns-clause-says : goal.returns-clause-says
returns-clause-says c =
    let asked = c.ask-asked.ensures in
    subst (IsTrueVerdict c.args.position.now) (sym c.unwrap_or.ensures)
    (told_true One c.args.position.now c.args.nodes c.args.reach None None c.ask-asked.result asked.asked)

pub returns-clause-dear : goal.returns-clause-dear
returns-clause-dear c = λ unknown.
    let asked = c.ask-asked.ensures in
    told_unknown One c.args.position.now c.args.nodes c.args.reach None None c.ask-asked.result asked.asked asked.spent
    (λ failed. omega (arith, asked.fault failed)) (sym c.unwrap_or.ensures ∙ unknown)

pub returns-clause-found : goal.returns-clause-found
returns-clause-found c = λ known.
    let asked = c.ask-asked.ensures in
    subst (HasFound c.args.nodes c.args.reach c.args.position.now) (sym c.unwrap_or.ensures)
    (told_found c.args.position.now c.args.nodes c.args.reach None None c.ask-asked.result asked.asked (λ unknown. known (c.unwrap_or.ensures ∙ unknown)))
