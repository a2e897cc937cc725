use Rattle.plan_rules.specs.Rules.{kind_of}
use Rattle.plan_rules.specs.Listing.{listed}
use Rattle.plan_rules.proofs.Listed.{fits_listed, listed_fits, instance_gives, instance_from}
use Rattle.plan_rules.proofs.lists.what_fits_is_listed.Goals as goal

pub returns-clause-listed : goal.returns-clause-listed
returns-clause-listed c = λ w p h. instance_from (listed (kind_of w) p) w (fits_listed w p h)

pub returns-clause-fits : goal.returns-clause-fits
returns-clause-fits c = λ kind p w h. listed_fits kind p w (instance_gives (listed kind p) w h)
