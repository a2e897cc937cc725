-- A proof and what is written behind it, one after another, and what stands where the moves begin.
use Rattle.std.proofs.Common.{◌≡◌, ℕ, ◌+◌, List, length, Option, Some, None, false, true, refl, sym, ap, ◌∙◌, subst}
use Rattle.std.specs.Io.KnownBytes.{Keeps, Appends}
use Rattle.game_rules.specs.Position.{Position, side_to_move}
use Rattle.game_rules.specs.declared.Side.{Side}
use Rattle.io_ports.specs.Reading.{Pending, Reads, PassesLines}
use Rattle.io_ports.proofs.Reading.{Reads_more}
use Rattle.proof_text.specs.Lemma.{Lemma}
use Rattle.proof_text.specs.Texts.{pieces, lines_in}
use Rattle.proof_text.specs.declared.Verdict.{Verdict}
use Rattle.play_text.specs.Play.{behind, text_of}
use Rattle.follow_text.specs.Following.{own_move_at}
use Rattle.follow_text.specs.Follow.{named_for, follow_named, follow_of}
use Rattle.proof_player.specs.Playing.{FollowState, HasBegun}
use Rattle.proof_player.specs.declared.follow.FollowReply.{FollowReply}
use Rattle.run_frame.specs.declared.game_input.InputStop.TheVariants as inputs
use Rattle.run_proof.specs.Steps.{lines_read_until}
use Rattle.run_proof.specs.declared.stop.ProofStop.{ProofStop}
use Rattle.run_proof.specs.declared.stop.ProofStop.TheVariants as proofs
use Rattle.run_proof.proofs.Judging.{put_behind}
use Rattle.run_turns.specs.Inputs.{StopsPlay, Starts}
use Rattle.run_turns.specs.Steps.{turns_by, GoesOn}
use Rattle.run_turns.specs.declared.game_end.GameStop.TheVariants as stops
use Rattle.run_follow.specs.Begun.{OpensWith}
use Rattle.run_follow.specs.Follows.{follow_form}
use Rattle.run_follow.specs.Reading.{StopsProof, IsToVerdict}
use Rattle.run_follow.specs.Turns.{first_lines, follow_stands, player_turn}
use Rattle.run_follow.specs.declared.not_followed.NotFollowed.TheVariants.{Proof, NoClaim}
use Rattle.run_follow.proofs.First.{turns_by_proof, first_goes, first_opens}

-- ---- the proof

module _ (holder : Side) (a b : Pending) (before after : ℕ) (stop : ProofStop)
    (reads : Reads a b (λ bytes rest. PassesLines (lines_read_until stop) bytes rest × StopsProof bytes rest before after stop)) where
  -- what stops the reading of the proof stops play
  pub proof_stops : Reads a b (λ bytes rest. PassesLines (lines_read_until stop) bytes rest
      × StopsPlay (follow_form holder 3 0) (follow_of holder bytes) (stops.Head (Proof stop)))
  proof_stops = Reads_more a b _ _ reads (λ bytes rest h. (h.0, by_stop bytes rest stop h.1))
    where
      by_stop : (bytes rest : List ℕ) (stop : ProofStop) → StopsProof bytes rest before after stop
          → StopsPlay (follow_form holder 3 0) (follow_of holder bytes) (stops.Head (Proof stop))
      by_stop bytes rest (proofs.Input (inputs.NoGame fault)) is = is holder
      by_stop bytes rest (proofs.Input inputs.Read) is = (follow_of holder bytes, refl)
      by_stop bytes rest (proofs.Refused r) is = is holder
      by_stop bytes rest proofs.Memory is = (follow_of holder bytes, refl)

-- ---- behind the verdict

module _ (holder : Side) (a b : Pending) (root : Position) (v : Verdict) (at : ℕ) (ls : List Lemma)
    (reads : Reads a b (λ bytes rest. PassesLines at bytes rest × IsToVerdict (record { root = root; verdict = v; at = at }) ls bytes rest)) where
  abbrev named : Option ℕ
  named = named_for holder (side_to_move root) v

  -- the verdict names no lemma
  pub none_stops : named ≡ None → Reads a b (λ bytes rest. PassesLines at bytes rest × StopsPlay (follow_form holder at 0) (follow_of holder bytes) (stops.Head (NoClaim at)))
  none_stops none = Reads_more a b _ _ reads (λ bytes rest h.
      (h.0, h.1.1 holder ∙ ap (follow_named ls holder root at (lines_in (pieces rest))) none))

  module _ (lemma : ℕ) (is : named ≡ Some lemma) (t : FollowState) (reply : Option FollowReply)
      (has : HasBegun ls holder root lemma t reply (own_move_at ls (length root.columns) lemma false)) where
    abbrev lines : List (List ℕ)
    lines = first_lines root reply

    followed : (bytes rest : List ℕ) → follow_of holder bytes ≡ follow_named ls holder root at (lines_in (pieces rest)) named
        → follow_of holder bytes ≡ behind lines (turns_by follow_stands player_turn t (at + 1) rest)
    followed bytes rest goes = goes ∙ ap (follow_named ls holder root at (lines_in (pieces rest))) is
        ∙ first_goes ls holder root lemma t reply has at (lines_in (pieces rest)) ∙ ap (behind lines) (sym (turns_by_proof t (at + 1) rest))

    -- play by the proof goes on behind what was written
    pub begin_starts : (old mid new : Option (List ℕ)) → Keeps old mid → Appends mid new (text_of lines)
        → Starts (follow_form holder at (length lines)) follow_stands player_turn t (at + 1) a b old new
    begin_starts old mid new kept put = record {
      lines = lines;
      opened = refl;
      written = put_behind true old mid new (text_of lines) kept put;
      reads = Reads_more a b _ _ reads (λ bytes rest h. (h.0, followed bytes rest (h.1.1 holder)));
    }

    -- or its line is cut
    pub begin_cut : Reads a b (λ bytes rest. PassesLines at bytes rest × GoesOn (follow_of holder bytes) lines)
    begin_cut = Reads_more a b _ _ reads (λ bytes rest h.
        (h.0, (turns_by follow_stands player_turn t (at + 1) rest, followed bytes rest (h.1.1 holder))))

    pub begin_opens : OpensWith ls root named (length lines)
    begin_opens = subst (λ named. OpensWith ls root named (length lines)) (sym is) (first_opens ls holder root lemma t reply has)
