use Rattle.std.proofs.Common.{true}
use Rattle.front_rules.proofs.Numbers.{row_dual}
use Rattle.front_rules.proofs.laws.one_number_is_zero_where_the_other_is_infinite.Goals as goal

pub returns : goal.returns
returns c side tree proof = row_dual side tree proof true
