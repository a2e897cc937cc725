-- Each of the nine rules keeps the laws.
use Rattle.plan_rules.specs.Rules.{RuleInstance, claimeven, baseinverse, lowinverse, highinverse, baseclaim, vertical, aftereven, before, specialbefore}
use Rattle.plan_rules.specs.Lawful.{Lawful}
use Rattle.plan_rules.proofs.Claimeven.{claimeven_laws}
use Rattle.plan_rules.proofs.Baseinverse.{baseinverse_laws}
use Rattle.plan_rules.proofs.Lowinverse.{lowinverse_laws}
use Rattle.plan_rules.proofs.Highinverse.{highinverse_laws}
use Rattle.plan_rules.proofs.Baseclaim.{baseclaim_laws}
use Rattle.plan_rules.proofs.Vertical.{vertical_laws}
use Rattle.plan_rules.proofs.Aftereven.{aftereven_laws}
use Rattle.plan_rules.proofs.Before.{before_laws}
use Rattle.plan_rules.proofs.Specialbefore.{specialbefore_laws}

pub lawful : (w : RuleInstance) → Lawful w
lawful (claimeven x) = claimeven_laws x
lawful (baseinverse s t) = baseinverse_laws s t
lawful (lowinverse x x_top y y_top) = lowinverse_laws x x_top y y_top
lawful (highinverse x y) = highinverse_laws x y
lawful (baseclaim a b e) = baseclaim_laws a b e
lawful (vertical e) = vertical_laws e
lawful (aftereven g) = aftereven_laws g
lawful (before g) = before_laws g
lawful (specialbefore g f e0) = specialbefore_laws g f e0
