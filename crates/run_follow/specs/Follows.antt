-- How `follow` ends, and what it promises of the bytes that it took and of its sink, by its end.
use Rattle.std.specs.Prelude.{◌≡◌, ◌⊎◌, ◌<◌, ◌≤◌, ℕ, ◌+◌, List, ◌++◌, Option, Some, None, IfSome, Ok, Err, codes, ⊤}
use Rattle.std.specs.Io.KnownBytes.{Keeps, Consumes}
use Rattle.game_rules.specs.Position.{Position}
use Rattle.game_rules.specs.declared.Side.{Side}
use Rattle.proof_text.specs.Lemma.{Lemma}
use Rattle.proof_text.specs.Spelling.{as_line}
use Rattle.proof_text.specs.declared.Verdict.{Verdict}
use Rattle.run_proof.specs.Checking.{why_of}
use Rattle.play_text.specs.Play as ends
use Rattle.play_text.specs.Play.{PlayEnd}
use Rattle.follow_text.specs.Follow.{follow_of}
use Rattle.follow_text.specs.Told.{IsTold}
use Rattle.run_frame.specs.Ended.{EndsBy, Owes}
use Rattle.run_frame.specs.Streams.{Streams, TakesLines}
use Rattle.run_frame.specs.Texts.{refusal_begun}
use Rattle.run_frame.specs.declared.game_input.InputStop.TheVariants.{NoGame, Read}
use Rattle.run_frame.specs.declared.run_stop.RunStop.TheVariants.{Own, Write}
use Rattle.run_proof.specs.Stops.{stop_status, stop_text}
use Rattle.run_proof.specs.Steps.{lines_read_until}
use Rattle.run_proof.specs.Whole.{BeginsProof, most_lines_read}
use Rattle.run_proof.specs.declared.stop.ProofStop.{ProofStop}
use Rattle.run_proof.specs.declared.stop.ProofStop.TheVariants.{Input, Refused, Memory}
use Rattle.run_turns.specs.Games.{GameForm, GameEnd, end_status, end_text, GamePlays}
use Rattle.run_turns.specs.declared.game_end.GameStop.TheVariants.{Head, NoMove}
use Rattle.run_turns.specs.declared.game_end.GameStop.TheVariants.{Input as GameInput}
use Rattle.run_follow.specs.Begun.{HasVerdict, BeginsGame}
use Rattle.run_follow.specs.declared.not_followed.NotFollowed.{NotFollowed}
use Rattle.run_follow.specs.declared.not_followed.NotFollowed.TheVariants.{Proof, NoClaim}

-- ---- what a caller sees

-- the verdict, in the line with this number, names no lemma that serves the holder
abbrev pub no_claim_line : ℕ → List ℕ
no_claim_line at = as_line (refusal_begun at ++ codes "NoClaim")

-- the exit status where nothing is played, and the text for the error stream
abbrev pub head_status : NotFollowed → ℕ
head_status (Proof stop) = stop_status stop
head_status (NoClaim at) = 4

abbrev pub head_text : NotFollowed → List ℕ
head_text (Proof stop) = stop_text stop
head_text (NoClaim at) = no_claim_line at

abbrev pub follow_status : GameEnd NotFollowed → ℕ
follow_status = end_status head_status

abbrev pub follow_text : GameEnd NotFollowed → List ℕ
follow_text = end_text head_text

-- ---- what is promised

-- how play ends where nothing is played; it would have gone on where the source failed, or memory ran out
abbrev pub head_end : NotFollowed → Option PlayEnd
head_end (Proof (Input (NoGame fault))) = Some (ends.NoGame fault)
head_end (Proof (Input Read)) = None
head_end (Proof (Refused r)) = Some (ends.Refused r.at (why_of r.why))
head_end (Proof Memory) = None
head_end (NoClaim at) = Some (ends.NoClaim at)

-- the number of the last line that is read, at most
abbrev pub head_until : NotFollowed → ℕ
head_until (Proof stop) = lines_read_until stop
head_until (NoClaim at) = at

-- Behind so many lines, the last of which is the verdict's, stands a line for each move of the other side's; and a line is written
-- for the holder's first move, where it has one, and then one for each.
abbrev pub follow_form : Side → ℕ → ℕ → GameForm NotFollowed
follow_form holder head opening =
    record { given = follow_of holder; head = head; opening = opening; unread = 0; end_of = head_end; until = head_until }

-- What the bytes that were taken tell where no line of the other side's was come to. Memory runs out only at a lemma that isn't
-- refused, behind lines that aren't; and where the source failed, no more was taken than lines in front of the verdict's, if they
-- have one, and what came with them.
abbrev pub EndsProof : (taken : List ℕ) (input : Option (List ℕ)) (last_read : ℕ) → ProofStop → Type 0
EndsProof taken input last_read Memory = BeginsProof None taken × IfSome input (BeginsProof None)
EndsProof taken input last_read (Input Read) =
    (root : Position) (ls : List Lemma) (v : Verdict) (at : ℕ) (moves : List (List ℕ)) → HasVerdict taken root ls v at moves
    → (n : ℕ) × (n < at) × TakesLines n last_read taken
EndsProof taken input last_read (Input (NoGame fault)) = ⊤
EndsProof taken input last_read (Refused r) = ⊤

-- Nothing is written by then, nor where no lemma is named. And where one is, the verdict's line has this number, and so many lines are
-- written before the answers.
abbrev pub BeginsBy : (holder : Side) (head opening : ℕ) (taken : List ℕ) → Streams → GameEnd NotFollowed → Type 0
BeginsBy holder head opening taken s (Err (Own (Head (Proof stop)))) = EndsProof taken s.input s.last_read stop × Keeps s.old s.new
BeginsBy holder head opening taken s (Err (Own (Head (NoClaim at)))) = Keeps s.old s.new
BeginsBy holder head opening taken s (Err (Own (GameInput why))) = BeginsGame holder taken head opening
BeginsBy holder head opening taken s (Err (Own (NoMove fault))) = BeginsGame holder taken head opening
BeginsBy holder head opening taken s (Err Write) = BeginsGame holder taken head opening
BeginsBy holder head opening taken s (Ok done) = BeginsGame holder taken head opening

abbrev pub Begins : (holder : Side) (head opening : ℕ) → Streams → GameEnd NotFollowed → Type 0
Begins holder head opening s end = (taken : List ℕ) × Consumes s.input s.left taken × BeginsBy holder head opening taken s end

-- how many lines are read at most: up to the verdict, and then a line for each move, and one more
abbrev pub most_follow_lines : ℕ
most_follow_lines = most_lines_read + 51

-- `follow`. Where it goes to the end of the input, or to a line that is no move, the input begins with a proof that is accepted, and
-- the lines that were written tell a game in which the holder is served. Where the proof is refused, or its verdict names no lemma
-- for the holder, or memory ran out at a lemma, nothing was written.
pub record Follows (holder : Side) (s : Streams) (end : GameEnd NotFollowed) : Type 0 where
  pub head : ℕ
  pub opening : ℕ
  pub from : 3 ≤ head
  pub few : head + 1 ≤ most_lines_read
  pub one : opening ≤ 1
  pub plays : GamePlays (follow_form holder head opening) (IsTold holder) most_follow_lines s end
  pub begins : Begins holder head opening s end

-- the same, as a caller of `run` sees it
abbrev pub FollowRuns : Side → Streams → (status : ℕ) → (text : List ℕ) → Type 0
FollowRuns holder s status text = EndsBy follow_status follow_text (Follows holder s) status text

-- how it ends on a proof that is accepted and names a lemma for the holder, with moves of the other side's behind it, where no
-- stream failed: it plays them all, unless memory runs out
abbrev pub FollowCompletes : Side → Option (List ℕ) → (status : ℕ) → Type 0
FollowCompletes holder input status =
    IfSome input (λ bytes. (follow_of holder bytes).end ≡ ends.AllPlayed → (status ≡ 0) ⊎ (status ≡ 8))

-- what it owes of a run
abbrev pub FollowOwes : Side → Streams → (unread unwritten : Type 0) → GameEnd NotFollowed → Type 0
FollowOwes holder = Owes follow_status (Follows holder) (FollowCompletes holder)
