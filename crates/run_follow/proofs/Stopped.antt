-- A run that ends before the moves.
use Rattle.std.proofs.Common.{◌≡◌, false, ℕ, ◌+◌, ◌≤◌, List, [], Option, Err, subst, arith}
use Rattle.std.specs.Io.KnownBytes.{Keeps}
use Rattle.std.proofs.KnownBytes.{Appends-nil, Appends-kept}
use Rattle.device_rules.specs.Devices.{Rose}
use Rattle.game_rules.specs.declared.Side.{Side}
use Rattle.io_ports.specs.Lines.{Cutting}
use Rattle.io_ports.specs.Reading.{Pending, pending, Reads}
use Rattle.proof_text.specs.Lemma.{Lemma}
use Rattle.follow_text.specs.Told.{IsTold}
use Rattle.run_frame.specs.declared.run_stop.RunStop.{RunStop}
use Rattle.run_frame.specs.declared.run_stop.RunStop.TheVariants.{Own, Write}
use Rattle.run_proof.specs.Stops.{IsCausedBy}
use Rattle.run_proof.specs.declared.stop.ProofStop.{ProofStop}
use Rattle.run_proof.proofs.Judging.{caused_read, caused_write}
use Rattle.run_turns.specs.declared.game_end.GameStop.TheVariants as stops
use Rattle.run_turns.proofs.Plays.{over, reading_stops}
use Rattle.run_follow.specs.Follows.{head_until, follow_form, most_follow_lines, FollowOwes}
use Rattle.run_follow.specs.Reading.{ReadsProof, IsWithin, proof_stop}
use Rattle.run_follow.specs.declared.not_followed.NotFollowed.{NotFollowed}
use Rattle.run_follow.specs.declared.not_followed.NotFollowed.TheVariants.{Proof}
use Rattle.run_follow.proofs.Begins.{proof_begins}
use Rattle.run_follow.proofs.Ends.{follow_laws, follow_owes}
use Rattle.run_follow.proofs.Judged.{proof_stops}

pub room : (h : NotFollowed) → head_until h + 50 ≤ most_follow_lines → (other : NotFollowed) → stops.Head h ≡ stops.Head other → head_until other + 50 ≤ most_follow_lines
room h few other is = let same : h ≡ other = cc is in subst (λ h. head_until h + 50 ≤ most_follow_lines) same few

-- the proof stopped it
pub proof_owes : (holder : Side) (input : Option (List ℕ)) (begun : ℕ) (reader : Cutting) (last : Pending) (o n : Option (List ℕ))
    → reader ≡ record { ended = false; ahead = []; text = []; fed = false } → (before after write_before write_after : ℕ) (ls : List Lemma) (stop : RunStop ProofStop)
    → Reads (pending reader input begun) last (ReadsProof ls before after (Err stop)) → IsWithin (Err stop) → Keeps o n
    → IsCausedBy (Rose before after) (Rose write_before write_after) stop
    → FollowOwes holder (over input last o n) (Rose before after) (Rose write_before write_after) (Err (proof_stop stop))
proof_owes holder input begun reader last o n new before after write_before write_after ls (Own stop) reads few kept cause = follow_owes holder _ _ _ _ (record {
  head = 3;
  opening = 0;
  from = omega arith;
  few = omega arith;
  one = omega arith;
  plays = reading_stops (follow_form holder 3 0) (IsTold holder) most_follow_lines (follow_laws holder 3 0 (omega arith) (omega arith)) input begun reader last o n
      new (stops.Head (Proof stop)) (Appends-kept o o n [] (Appends-nil o) kept) (room (Proof stop) (omega (arith, few))) (λ is. absurd (cc is))
      (proof_stops holder _ _ _ _ stop reads);
  begins = proof_begins input begun reader last new o n kept holder before after stop reads;
}) (caused_read (Rose before after) (Rose write_before write_after) (Own stop) cause)
    (caused_write (Rose before after) (Rose write_before write_after) (Own stop) cause)
proof_owes holder input begun reader last o n new before after write_before write_after ls Write reads few kept cause = absurd few
