-- The names by which reports call the kinds of faults of a text.
use Rattle.std.specs.Prelude.{ℕ, List, codes}
use Rattle.game_rules.specs.declared.InputKind.{InputKind}
use Rattle.game_rules.specs.declared.InputKind.TheVariants.{BadHeader, BadSize, BadColumn, ColumnFull, GameOver, Trailing}

abbrev pub kind_word : InputKind → List ℕ
kind_word BadHeader = codes "BadHeader"
kind_word BadSize = codes "BadSize"
kind_word BadColumn = codes "BadColumn"
kind_word ColumnFull = codes "ColumnFull"
kind_word GameOver = codes "GameOver"
kind_word Trailing = codes "Trailing"
