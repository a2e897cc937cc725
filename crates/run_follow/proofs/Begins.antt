-- What an input of `follow` begins with, by all that was taken of it.
use Rattle.std.proofs.Common.{◌≡◌, ℕ, ◌<◌, false, List, [], ◌++◌, length, Option, None, Ok, Err, refl, ap, subst, arith, append-nil}
use Rattle.std.specs.Io.KnownBytes.{Keeps, Consumes}
use Rattle.game_rules.specs.Position.{Position, side_to_move}
use Rattle.game_rules.specs.declared.Side.{Side}
use Rattle.io_ports.specs.Lines.{Cutting, HoldsFew}
use Rattle.io_ports.specs.declared.line_reader.LineGot.TheVariants.{Done as DoneLines}
use Rattle.io_ports.specs.Reading.{Pending, pending, Reads, PassesLines}
use Rattle.io_ports.proofs.Reading.{Reads_more, Reads_then}
use Rattle.play_text.specs.Play.{Turn}
use Rattle.proof_text.specs.Lemma.{Lemma}
use Rattle.proof_text.specs.Texts.{pieces, lines_in}
use Rattle.proof_text.specs.declared.Verdict.{Verdict}
use Rattle.follow_text.specs.Follow.{named_for}
use Rattle.run_frame.specs.Streams.{Streams, TakesLines}
use Rattle.run_frame.specs.declared.game_input.InputStop.TheVariants as inputs
use Rattle.run_frame.specs.declared.run_stop.RunStop.TheVariants.{Own, Write}
use Rattle.run_frame.proofs.Taken.{fresh, from_fresh, of_taken, of_input}
use Rattle.run_proof.specs.Steps.{lines_read_until}
use Rattle.run_proof.specs.Whole.{BeginsProof}
use Rattle.run_proof.specs.declared.stop.ProofStop.{ProofStop}
use Rattle.run_proof.specs.declared.stop.ProofStop.TheVariants as proofs
use Rattle.run_turns.specs.Games.{GameEnd}
use Rattle.run_turns.specs.Steps.{is_whole, TurnStep, PlaysTurns}
use Rattle.run_turns.specs.declared.game_end.GameStop.TheVariants as stops
use Rattle.run_turns.proofs.Plays.{over}
use Rattle.run_follow.specs.Begun.{HasVerdict, OpensWith, BeginsGame}
use Rattle.run_follow.specs.Follows.{Begins}
use Rattle.run_follow.specs.Reading.{VerdictLater, StopsProof, IsToVerdict}
use Rattle.run_follow.specs.declared.not_followed.NotFollowed.{NotFollowed}
use Rattle.run_follow.specs.declared.not_followed.NotFollowed.TheVariants.{Proof}

module _ (old : Option (List ℕ)) (begun : ℕ) (reader : Cutting) (last : Pending)
    (new : reader ≡ record { ended = false; ahead = []; text = []; fed = false }) where
  -- a fact of the bytes that were pending holds of those that were taken, and of those that were not given
  taken_so : (Fact : List ℕ → List ℕ → Type 0) (reads : Reads (fresh old begun) last Fact) → Fact reads.taken last.ahead
  taken_so Fact reads =
      subst (λ taken. Fact taken last.ahead) (append-nil reads.taken)
      (subst (Fact (reads.taken ++ [])) (append-nil last.ahead) (reads.fact [] (λ _. refl)))

  -- ---- the proof stopped the run

  -- the source failed in front of the verdict
  ahead_taken : (reads : Reads (fresh old begun) last VerdictLater) (root : Position) (ls : List Lemma) (v : Verdict) (at : ℕ) (moves : List (List ℕ))
      → HasVerdict reads.taken root ls v at moves → (n : ℕ) × (n < at) × TakesLines n last.last_read reads.taken
  ahead_taken reads root ls v at moves has =
      let later = taken_so VerdictLater reads in
      let n = later.1.0 in (
        n,
        omega (arith, later.1.1, later.2 root ls v at moves has),
        (
          n,
          omega arith,
          subst (HoldsFew last.last_read) later.1.2 (reads.few (DoneLines, refl)),
          omega (arith, ap length later.1.2, reads.held (omega arith)),
        ),
      )

  module _ (o n : Option (List ℕ)) (kept : Keeps o n) (holder : Side) (before after : ℕ) where
    proof_ends : (stop : ProofStop)
        → Reads (fresh old begun) last (λ bytes rest. PassesLines (lines_read_until stop) bytes rest × StopsProof bytes rest before after stop)
        → Begins holder 3 0 (over old last o n) (Err (Own (stops.Head (Proof stop))))
    proof_ends (proofs.Input (inputs.NoGame fault)) reads = (reads.taken, reads.gave, (tt, kept))
    proof_ends (proofs.Input inputs.Read) reads =
        let ahead : Reads (fresh old begun) last VerdictLater = Reads_more _ _ _ VerdictLater reads (λ bytes rest h. h.1.1) in
        (ahead.taken, ahead.gave, (ahead_taken ahead, kept))
    proof_ends (proofs.Refused r) reads = (reads.taken, reads.gave, (tt, kept))
    proof_ends proofs.Memory reads =
        let most = lines_read_until proofs.Memory in (
          reads.taken,
          reads.gave,
          ((of_taken old begun last most most (BeginsProof None) reads, of_input old begun last most most (BeginsProof None) reads), kept),
        )

    pub proof_begins : (stop : ProofStop)
        → Reads (pending reader old begun) last (λ bytes rest. PassesLines (lines_read_until stop) bytes rest × StopsProof bytes rest before after stop)
        → Begins holder 3 0 (over old last o n) (Err (Own (stops.Head (Proof stop))))
    proof_begins stop reads = proof_ends stop (from_fresh old begun reader last _ new reads)

  -- ---- behind the verdict

  module _ (holder : Side) (mid : Pending) (root : Position) (v : Verdict) (at opening : ℕ) (ls : List Lemma)
      (reads : Reads (pending reader old begun) mid
      (λ bytes rest. PassesLines at bytes rest × IsToVerdict (record { root = root; verdict = v; at = at }) ls bytes rest)) where
    game_begins : OpensWith ls root (named_for holder (side_to_move root) v) opening
        → Reads (fresh old begun) mid (λ bytes rest. BeginsGame holder bytes at opening)
    game_begins opens = from_fresh old begun reader mid _ new (Reads_more _ _ _ _ reads (λ bytes rest h. record {
      root = root;
      lemmas = ls;
      verdict = v;
      moves = lines_in (pieces rest);
      proof = h.1.0;
      opens = opens;
    }))

    -- the moves were come to
    pub moves_begin : (Fact : List ℕ → List ℕ → Type 0) → OpensWith ls root (named_for holder (side_to_move root) v) opening → Reads mid last Fact
        → (taken : List ℕ) × Consumes old last.left taken × BeginsGame holder taken at opening
    moves_begin Fact opens more =
        let all : Reads (fresh old begun) last (λ bytes rest. BeginsGame holder bytes at opening) =
        Reads_then _ _ _ _ _ _ (game_begins opens) more (λ bytes mid rest p q. p) in
        (all.taken, all.gave, taken_so (λ taken rest. BeginsGame holder taken at opening) all)

-- the moves were come to, whatever stopped them
pub turns_begin : {X : Type 0} (stands : X → Position) (turn : X → ℕ → Turn X) (x : X) (first : ℕ) (a b : Pending) (old new : Option (List ℕ)) (before after : ℕ)
    (holder : Side) (head opening : ℕ) (s : Streams) (end : GameEnd NotFollowed)
    → TurnStep a b old new (is_whole end) before after (PlaysTurns stands turn x first end)
    → (taken : List ℕ) × Consumes s.input s.left taken × BeginsGame holder taken head opening → Begins holder head opening s end
turns_begin stands turn x first a b old new before after holder head opening s (Ok done) step begins = begins
turns_begin stands turn x first a b old new before after holder head opening s (Err (Own (stops.NoMove fault))) step begins = begins
turns_begin stands turn x first a b old new before after holder head opening s (Err (Own (stops.Input why))) step begins = begins
turns_begin stands turn x first a b old new before after holder head opening s (Err Write) step begins = begins
turns_begin stands turn x first a b old new before after holder head opening s (Err (Own (stops.Head h))) step begins = absurd (step.reads.fact [] (λ _. refl))
