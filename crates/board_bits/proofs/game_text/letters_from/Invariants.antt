use Rattle.std.proofs.Common.{◌≡◌, ◌++◌, length}
use Rattle.game_rules.specs.Game.{letters_in}
use Rattle.game_rules.specs.Text.{letters_from}
use Rattle.board_bits.proofs.game_text.letters_from.Given as goal

-- what is left leads where all does
abbrev pub invariant-loop-rest : goal.invariant-loop-rest
invariant-loop-rest l = record {
  position : letters_from l.game.position l.rest ≡ letters_from l.fn.game.position l.bytes;
  moves : l.game.moves ++ letters_in l.rest ≡ l.fn.game.moves ++ letters_in l.bytes;
}

abbrev pub decreases-loop-rest : goal.decreases-loop-rest
decreases-loop-rest l = length l.rest
