-- How a whole proof is judged, of which nothing is written while it is read.
use Rattle.std.specs.Prelude.{◌≡◌, ℕ, List, ◌∷◌, Option, Result, Ok, Err}
use Rattle.std.specs.Io.KnownBytes.{Keeps}
use Rattle.game_rules.specs.Game.{Game, IsTextOf}
use Rattle.game_rules.specs.Position.{Position}
use Rattle.proof_text.specs.Lemma.{Lemma}
use Rattle.proof_text.specs.Texts.{pieces, game_of, first_line}
use Rattle.proof_text.specs.declared.Version.{Version}
use Rattle.run_frame.specs.Streams.{Streams, Took, TakesLines}
use Rattle.run_frame.specs.declared.run_stop.RunStop.{RunStop}
use Rattle.run_frame.specs.declared.run_stop.RunStop.TheVariants.{Own, Write}
use Rattle.run_proof.specs.Stops.{IsStopped}
use Rattle.run_proof.specs.Taken.{text_lemmas}
use Rattle.run_proof.specs.Whole.{IsRightInput, most_lines_read, most_taken}
use Rattle.run_proof.specs.declared.reading.ProofRead.{ProofRead}
use Rattle.run_proof.specs.declared.stop.ProofStop.{ProofStop}

-- The bytes begin with the line that names this version, and behind it with the text of this game.
pub record HasHead (bytes : List ℕ) (version : Version) (game : Game) : Type 0 where
  pub more : List (List ℕ)
  pub cut : pieces bytes ≡ first_line version ∷ more
  pub text : IsTextOf (game_of more) game

-- The lines of a proof are taken at most, and behind the last of them what came with it; and of the bytes that are taken this holds.
abbrev pub TookLines : Streams → (List ℕ → Type 0) → Type 0
TookLines s Holds = Took s most_taken (λ taken. Holds taken × TakesLines most_lines_read s.last_read taken)

-- The bytes are a right proof with this head, and the taker has got its lemmas; or they stopped the reading.
abbrev pub JudgesFrom : Option Version → (Position → List Lemma → Type 0) → List ℕ → Streams → Result ProofRead (RunStop ProofStop) → Type 0
JudgesFrom asked Holds taken s (Ok proof) = IsRightInput asked taken s.left proof.accepted.verdict proof.accepted.lemmas × HasHead taken proof.head.version proof.head.game
    × Holds proof.head.game.position (text_lemmas asked taken)
JudgesFrom asked Holds taken s (Err (Own stop)) = IsStopped asked taken s stop
JudgesFrom asked Holds taken s (Err Write) = ⊥

-- What was read of a proof, to its end or to what stopped the reading, of which nothing was written.
abbrev pub Judges : Option Version → (Position → List Lemma → Type 0) → Streams → Result ProofRead (RunStop ProofStop) → Type 0
Judges asked Holds s result = TookLines s (λ taken. JudgesFrom asked Holds taken s result × Keeps s.old s.new)
