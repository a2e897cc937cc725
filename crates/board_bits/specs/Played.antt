-- What a move makes of a game: the game with one move more, or why there is none.
use Rattle.std.specs.Prelude.{◌≡◌, ℕ, [], ◌∷◌, ◌++◌, Result, Ok, Err}
use Rattle.game_rules.specs.Game.{Game}
use Rattle.board_bits.specs.Move.{moved_into}
use Rattle.board_bits.specs.declared.position.MoveFault.{MoveFault}

abbrev pub Plays : Game → ℕ → Game → Result Unit MoveFault → Type 0
Plays old column new (Ok done) = (moved_into old.position column ≡ Ok new.position) × (new.moves ≡ old.moves ++ column ∷ [])
Plays old column new (Err fault) = moved_into old.position column ≡ Err fault
