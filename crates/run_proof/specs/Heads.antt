-- The head of a proof, and what stops the reading of a proof, there or later.
use Rattle.std.specs.Prelude.{◌≡◌, ℕ, List, ◌∷◌, Option, Some, ⊤}
use Rattle.device_rules.specs.Devices.{Rose}
use Rattle.game_rules.specs.Game.{IsTextOf}
use Rattle.proof_text.specs.Texts.{pieces, lines_in, game_of, behind_game, first_line, NoGame, Refused}
use Rattle.proof_text.specs.declared.Version.{Version}
use Rattle.cert_checker.specs.Checking.{why_of}
use Rattle.run_frame.specs.declared.game_input.InputStop.TheVariants as inputs
use Rattle.run_proof.specs.Whole.{version_named, judged, BeginsProof}
use Rattle.run_proof.specs.declared.head.Head.{Head}
use Rattle.run_proof.specs.declared.stop.ProofStop.{ProofStop}
use Rattle.run_proof.specs.declared.stop.ProofStop.TheVariants as stops

-- The bytes begin with the line that names this version, which is asked for, and behind it stands what they have of a game and of
-- lines behind it.
pub record IsNamed (asked : Option Version) (version : Version) (bytes rest : List ℕ) : Type 0 where
  pub more : List (List ℕ)
  pub cut : pieces bytes ≡ first_line version ∷ more
  pub is_asked : version_named asked (first_line version) ≡ Some version
  pub game : game_of more ≡ game_of (pieces rest)
  pub behind : behind_game more ≡ behind_game (pieces rest)

-- The bytes begin with this head, of a version that is asked for, and these stand behind it.
pub record Begins (asked : Option Version) (head : Head) (bytes rest : List ℕ) : Type 0 where
  pub more : List (List ℕ)
  pub cut : pieces bytes ≡ first_line head.version ∷ more
  pub is_asked : version_named asked (first_line head.version) ≡ Some head.version
  pub text : IsTextOf (game_of more) head.game
  pub behind : behind_game more ≡ lines_in (pieces rest)

-- The answer is that of what stopped the reading; a fault comes only where the source's count rose, and want of memory
-- only at a lemma.
abbrev pub StopsBy : Option Version → List ℕ → ℕ → ℕ → ProofStop → Type 0
StopsBy asked bytes before after (stops.Input (inputs.NoGame fault)) = judged asked bytes ≡ NoGame fault
StopsBy asked bytes before after (stops.Input inputs.Read) = Rose before after
StopsBy asked bytes before after (stops.Refused r) = judged asked bytes ≡ Refused r.at (why_of r.why)
StopsBy asked bytes before after stops.Memory = BeginsProof asked bytes

-- how many lines of the head are read until it stops the reading, at most
abbrev pub head_lines : ProofStop → ℕ
head_lines (stops.Input why) = 3
head_lines (stops.Refused r) = r.at
head_lines stops.Memory = 3

-- it is the first line, or the input
abbrev pub IsFirstStop : ProofStop → Type 0
IsFirstStop (stops.Refused r) = r.at ≡ 1
IsFirstStop (stops.Input why) = ⊤
IsFirstStop stops.Memory = ⊥
