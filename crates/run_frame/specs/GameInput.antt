-- What is taken of an input that is to be the text of a game.
use Rattle.std.specs.Prelude.{◌≡◌, ◌≤◌, ℕ, List, Option, Result, Ok, Err, IfSome, length}
use Rattle.std.specs.Io.KnownBytes.{Keeps, Consumes, IsAtEnd}
use Rattle.game_rules.specs.Text.{game_at}
use Rattle.game_rules.specs.Game.{Game, IsTextOf}
use Rattle.run_frame.specs.Streams.{Streams}
use Rattle.run_frame.specs.declared.game_input.InputStop.{InputStop}
use Rattle.run_frame.specs.declared.game_input.InputStop.TheVariants.{NoGame, Read}

-- no more bytes of the input are read
abbrev pub most_input : ℕ
most_input = 256

-- these bytes were taken, and there are few
pub record TookText (before after : Option (List ℕ)) (taken : List ℕ) : Type 0 where
  pub gave : Consumes before after taken
  pub few : length taken ≤ most_input

-- The bytes that were taken are the text of the game, and all of the input was read then. A fault is that of the bytes that
-- were taken, and that of all of the input, where the source tells it.
abbrev pub TakesGame : Option (List ℕ) → Option (List ℕ) → Result Game InputStop → Type 0
TakesGame before after (Ok game) = (taken : List ℕ) × TookText before after taken × IsTextOf taken game × IsAtEnd after
TakesGame before after (Err (NoGame fault)) =
    (taken : List ℕ) × TookText before after taken × (game_at taken ≡ Err fault) × IfSome before (λ bytes. game_at bytes ≡ Err fault)
TakesGame before after (Err Read) = (taken : List ℕ) × TookText before after taken

-- What a run leaves that read no game: nothing was written. A fault is that of the bytes that were taken, and that of all of the
-- input, where the source tells it.
abbrev pub ReadsNoGame : List ℕ → Streams → InputStop → Type 0
ReadsNoGame taken s (NoGame fault) = (game_at taken ≡ Err fault) × IfSome s.input (λ bytes. game_at bytes ≡ Err fault) × Keeps s.old s.new
ReadsNoGame taken s Read = Keeps s.old s.new
