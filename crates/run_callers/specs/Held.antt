-- What a sink in memory holds after a run.
use Rattle.std.specs.Prelude.{◌≡◌, ℕ, List, ◌++◌, Option, Ok}
use Rattle.game_rules.specs.Position.{Position}
use Rattle.game_rules.specs.Text.{game_at}
use Rattle.proof_text.specs.declared.Verdict.{Verdict}
use Rattle.proof_text.specs.declared.Version.{Version}
use Rattle.victor_run.specs.Proof.{IsProofOf}

-- what was there, and more behind it
abbrev pub StillHolds : List ℕ → List ℕ → Type 0
StillHolds old new = (more : List ℕ) × (new ≡ old ++ more)

-- Behind what was there stands a proof of this version of some game's position, right and accepted by `check`.
pub record HoldsProof (version : Version) (nodes reach : ℕ) (front : Option ℕ) (old new : List ℕ) : Type 0 where
  pub game : List ℕ
  pub position : Position
  pub is_game : game_at game ≡ Ok position
  pub verdict : Verdict
  pub text : List ℕ
  pub proof : IsProofOf version nodes reach front game position text verdict
  pub behind : new ≡ old ++ text
