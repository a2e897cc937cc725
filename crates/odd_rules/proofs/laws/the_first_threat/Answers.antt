use Rattle.odd_rules.proofs.First.{first_is, first_before}
use Rattle.odd_rules.proofs.Theorems.{first_missing}
use Rattle.odd_rules.proofs.laws.the_first_threat.Goals as goal

pub returns-clause-is : goal.returns-clause-is
returns-clause-is c = first_is

pub returns-clause-first : goal.returns-clause-first
returns-clause-first c = first_before

pub returns-clause-none : goal.returns-clause-none
returns-clause-none c = first_missing
