use Rattle.std.proofs.Common.{ap}
use Rattle.front_rules.specs.Front.{joined, row_number}
use Rattle.front_rules.proofs.laws.a_path_ends_where_no_number_changed.Goals as goal

pub returns : goal.returns
returns c side p kids new rest same proof smallest = ap (λ n. joined smallest n (row_number side proof smallest rest)) (same proof)
