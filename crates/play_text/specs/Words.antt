-- The names by which reports call why a line is no move.
use Rattle.std.specs.Prelude.{ℕ, List, codes}
use Rattle.play_text.specs.declared.PlayKind.{PlayKind}
use Rattle.play_text.specs.declared.PlayKind.TheVariants.{BadMove, GameOver, ColumnFull}

abbrev pub kind_word : PlayKind → List ℕ
kind_word BadMove = codes "BadMove"
kind_word GameOver = codes "GameOver"
kind_word ColumnFull = codes "ColumnFull"
