use Rattle.std.proofs.Common.{◌≡◌, Some, sym, ◌∙◌}
use Rattle.odd_rules.specs.Threat.{target}
use Rattle.odd_rules.proofs.Tests.{target_gives}
use Rattle.threat_rules.proofs.Answering.{ok_is, accepted}
use Rattle.threat_rules.proofs.threat.Threat.check.Goals as goal

pub pairs_accepted-requires-clause-odd : goal.pairs_accepted-requires-clause-odd
pairs_accepted-requires-clause-odd c =
    let is : target c.args.p.now c.args.group ≡ Some c.in_ok-t.t = sym c.target.ensures
    ∙ ok_is c.target.result _ c.in_ok-t.t (sym c.ok_or.ensures.value ∙ c.in_ok-t.was) in
    (target_gives c.args.p.now c.args.group c.in_ok-t.t is).odd_row

pub of-requires-clause-threat : goal.of-requires-clause-threat
of-requires-clause-threat c =
    let is : target c.args.p.now c.args.group ≡ Some c.in_ok-t.t = sym c.target.ensures
    ∙ ok_is c.target.result _ c.in_ok-t.t (sym c.ok_or.ensures.value ∙ c.in_ok-t.was) in
    accepted c.args.p.now c.args.group c.args.pairs.now c.in_ok-t.t (sym c.in_ok-position_accepted.ensures) is (sym c.in_ok-pairs_accepted.ensures)
