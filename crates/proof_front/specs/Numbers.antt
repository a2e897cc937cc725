-- The two numbers of a node together.
use Rattle.std.specs.Prelude.{Bool, true, false, not, ◌&&◌}
use Rattle.game_rules.specs.Position.{Position}
use Rattle.game_rules.specs.declared.Side.{Side}
use Rattle.front_rules.specs.Counts.{same_count}
use Rattle.front_rules.specs.Front.{Row, leaf_number, row_number, node_number}
use Rattle.front_rules.specs.declared.Count.{Count}
use Rattle.front_rules.specs.declared.LeafVerdict.{LeafVerdict}
use Rattle.proof_front.specs.declared.node.Numbers.{Numbers}

-- the proof number, or the disproof number
abbrev pub number_in : Bool → Numbers → Count
number_in true numbers = numbers.proof
number_in false numbers = numbers.disproof

abbrev pub leaf_numbers : LeafVerdict → Numbers
leaf_numbers v = record { proof = leaf_number true v; disproof = leaf_number false v }

abbrev pub same_numbers : Numbers → Numbers → Bool
same_numbers a b = same_count a.proof b.proof && same_count a.disproof b.disproof

-- The numbers of a row: the least of the proof numbers and the sum of the disproof numbers, or the other way round.
abbrev pub row_numbers : Side → Bool → Row → Numbers
row_numbers side own row = record { proof = row_number side true own row; disproof = row_number side false (not own) row }

-- those of an inner node, by its children
abbrev pub node_numbers : Side → Position → Row → Numbers
node_numbers side p kids = record { proof = node_number side true p kids; disproof = node_number side false p kids }
