use Rattle.std.proofs.lemmas.Bool.{eqb-true}
use Rattle.plan_rules.proofs.ColumnWords.{paired_column, capped_column, shifted_column}
use Rattle.plan_rules.proofs.laws.columns_of_a_lowinverse_in_words.Goals as goal

pub returns-clause-paired : goal.returns-clause-paired
returns-clause-paired c = paired_column

pub returns-clause-capped : goal.returns-clause-capped
returns-clause-capped c = λ p bottom size low odd. capped_column p bottom size low (eqb-true _ 1 odd)

pub returns-clause-shifted : goal.returns-clause-shifted
returns-clause-shifted c = shifted_column
