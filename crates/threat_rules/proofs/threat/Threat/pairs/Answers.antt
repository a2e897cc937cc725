use Rattle.std.proofs.Common.{◌≤◌, length, subst}
use Rattle.threat_rules.specs.declared.threat.TheConstants.{MOST_PAIRS}
use Rattle.threat_rules.proofs.threat.Threat.pairs.Goals as goal

pub returns-clause-few : goal.returns-clause-few
returns-clause-few c =
    subst (λ threat. length threat.pairs ≤ MOST_PAIRS) c.self.view_is
    (subst (λ xs. length xs ≤ MOST_PAIRS) c.as_slice.ensures.value c.as_slice.ensures.fits)
