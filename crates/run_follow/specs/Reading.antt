-- What a proof says that is read up to its verdict, or what stops the reading.
use Rattle.std.specs.Prelude.{◌≡◌, ℕ, ◌+◌, ◌<◌, ◌≤◌, List, [], None, Result, Ok, Err}
use Rattle.device_rules.specs.Devices.{Rose}
use Rattle.io_ports.specs.Reading.{PassesLines}
use Rattle.game_rules.specs.Position.{Position, side_to_move}
use Rattle.game_rules.specs.declared.Side.{Side}
use Rattle.proof_text.specs.Lemma.{Lemma}
use Rattle.proof_text.specs.Right.{Shown, AreRight, IsVerdict}
use Rattle.proof_text.specs.Texts.{pieces, lines_in}
use Rattle.proof_text.specs.declared.Verdict.{Verdict}
use Rattle.run_proof.specs.Checking.{why_of}
use Rattle.play_text.specs.Play as ends
use Rattle.play_text.specs.Play.{ended}
use Rattle.follow_text.specs.Follow.{named_for, follow_named, follow_of}
use Rattle.run_frame.specs.declared.game_input.InputStop.TheVariants as inputs
use Rattle.run_frame.specs.declared.run_stop.RunStop.{RunStop}
use Rattle.run_frame.specs.declared.run_stop.RunStop.TheVariants.{Own, Write}
use Rattle.run_proof.specs.Steps.{lines_read_until}
use Rattle.run_proof.specs.Whole.{BeginsProof, most_lines_read}
use Rattle.run_proof.specs.declared.stop.ProofStop.{ProofStop}
use Rattle.run_proof.specs.declared.stop.ProofStop.TheVariants as stops
use Rattle.run_turns.specs.declared.game_end.GameStop.{GameStop}
use Rattle.run_turns.specs.declared.game_end.GameStop.TheVariants.{Head}
use Rattle.run_follow.specs.Begun.{HasVerdict}
use Rattle.run_follow.specs.declared.not_followed.NotFollowed.{NotFollowed}
use Rattle.run_follow.specs.declared.not_followed.NotFollowed.TheVariants.{Proof}
use Rattle.run_follow.specs.declared.verdict.ToVerdict.{ToVerdict}

-- fewer lines were passed than there are up to a verdict, if the bytes begin with a proof that ends in one
abbrev pub VerdictLater : List ℕ → List ℕ → Type 0
VerdictLater bytes rest = (passed : ℕ) × PassesLines passed bytes rest × ((root : Position) (ls : List Lemma) (v : Verdict) (at : ℕ) (moves : List (List ℕ))
    → HasVerdict bytes root ls v at moves → passed < at)

-- What stops the reading: for either side the bytes end there, or the source failed, whose count rose, while the verdict stood ahead, or
-- memory ran out at a lemma that they reach.
abbrev pub StopsProof : List ℕ → List ℕ → ℕ → ℕ → ProofStop → Type 0
StopsProof bytes rest before after (stops.Input (inputs.NoGame fault)) = (holder : Side) → follow_of holder bytes ≡ ended (ends.NoGame fault)
StopsProof bytes rest before after (stops.Input inputs.Read) = Rose before after × VerdictLater bytes rest
StopsProof bytes rest before after (stops.Refused r) = (holder : Side) → follow_of holder bytes ≡ ended (ends.Refused r.at (why_of r.why))
StopsProof bytes rest before after stops.Memory = BeginsProof None bytes

-- What comes of the bytes is play behind the verdict, whose line has this number: they begin with a proof that it ends.
abbrev pub IsToVerdict : ToVerdict → List Lemma → List ℕ → List ℕ → Type 0
IsToVerdict proof ls bytes rest = HasVerdict bytes proof.root ls proof.verdict proof.at (lines_in (pieces rest)) × ((holder : Side)
    → follow_of holder bytes ≡ follow_named ls holder proof.root proof.at (lines_in (pieces rest)) (named_for holder (side_to_move proof.root) proof.verdict))

-- the lemmas are right, and so is the verdict
pub record IsRightProof (root : Position) (ls : List Lemma) (v : Verdict) : Type 0 where
  pub after : List Shown
  pub right : AreRight root [] ls after
  pub verdict : IsVerdict root after v

-- The lines up to the verdict were passed, and the book has got their lemmas; or something stopped the reading. Nothing is written.
abbrev pub ReadsProof : List Lemma → ℕ → ℕ → Result ToVerdict (RunStop ProofStop) → List ℕ → List ℕ → Type 0
ReadsProof ls before after (Ok proof) bytes rest = PassesLines proof.at bytes rest × IsToVerdict proof ls bytes rest
ReadsProof ls before after (Err (Own stop)) bytes rest = PassesLines (lines_read_until stop) bytes rest × StopsProof bytes rest before after stop
ReadsProof ls before after (Err Write) bytes rest = ⊥

-- no line is read behind the one that no proof may have
abbrev pub IsWithin : Result ToVerdict (RunStop ProofStop) → Type 0
IsWithin (Ok proof) = (3 ≤ proof.at) × (proof.at + 1 ≤ most_lines_read)
IsWithin (Err (Own stop)) = lines_read_until stop ≤ most_lines_read
IsWithin (Err Write) = ⊥

-- what stops the reading stops the run
abbrev pub proof_stop : RunStop ProofStop → RunStop (GameStop NotFollowed)
proof_stop (Own stop) = Own (Head (Proof stop))
proof_stop Write = Write
