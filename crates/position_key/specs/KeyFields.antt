-- The fields of a key: the number of a position's men, its board, and the question.
use Rattle.board_bits.specs.MenNumber.{position_read, AreMen}
use Rattle.position_key.specs.Keys.{Key}
use Rattle.position_key.specs.declared.key.Key.TheInside.{Inside}

abbrev pub key_of : Inside → Key
key_of a = record { position = position_read a.size a.men; question = a.question }

abbrev pub IsKey : Inside → Type 0
IsKey a = AreMen a.size a.men
