-- What a question asks about.
use Rattle.game_rules.specs.declared.Question.{Question}
use Rattle.game_rules.specs.declared.Question.TheVariants.{WhiteWins, BlackWins}
use Rattle.game_rules.specs.declared.Side.{Side}
use Rattle.game_rules.specs.declared.Side.TheVariants.{White, Black}

-- the side of which it asks whether it wins
abbrev pub side_asked : Question → Side
side_asked WhiteWins = White
side_asked BlackWins = Black
