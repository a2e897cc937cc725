-- Lines that are read one after another, and how the next one goes on.
use Rattle.std.proofs.Common.{◌≡◌, ℕ, ◌+◌, ◌≤◌, Bool, true, false, List, [], ◌∷◌, ◌++◌, length, Option, Some, None, is_some, Result, Ok, Err, MatchResult, ◌≢◌, refl, sym, ap, ◌∙◌, subst}
use Rattle.std.proofs.Common.{append_assoc, append-nil, length-append, arith, inr}
use Rattle.std.specs.Io.KnownBytes.{Keeps}
use Rattle.std.proofs.KnownBytes.{Appends-nil, Appends-kept, Keeps-refl}
use Rattle.device_rules.specs.Devices.{AppendsPrefix, Rose}
use Rattle.device_rules.proofs.DeviceLaws.{AppendsPrefix_more}
use Rattle.game_rules.specs.Position.{Position, board_of}
use Rattle.io_ports.specs.Lines.{Cut, Gives}
use Rattle.io_ports.specs.Reading.{Pending, Reads, PassesLines}
use Rattle.io_ports.specs.declared.line_reader.LineGot.{LineGot}
use Rattle.io_ports.specs.declared.line_reader.LineGot.TheVariants.{Line, Long, Done, Failed}
use Rattle.io_ports.proofs.Reading.{Reads_start, Reads_more, Reads_then, passes_none, passes_then, passes_most, passes_line}
use Rattle.proof_text.specs.Checked.{CheckerState, lemmas_in}
use Rattle.proof_text.specs.Lemma.{Lemma, Line as Said}
use Rattle.proof_text.specs.Texts.{pieces, lines_in, with_said, bytes_refusal, lemmas_said}
use Rattle.proof_text.specs.declared.Verdict.{Verdict as Found}
use Rattle.proof_text.specs.declared.Version.{Version}
use Rattle.proof_text.proofs.First.{out_of_bounds}
use Rattle.run_frame.proofs.Cuts.{line_first, long_first, none_left}
use Rattle.run_frame.specs.declared.game_input.InputStop.TheVariants as inputs
use Rattle.run_frame.specs.declared.run_stop.RunStop.{RunStop}
use Rattle.run_frame.specs.declared.run_stop.RunStop.TheVariants.{Own, Write}
use Rattle.run_proof.specs.Lines.{Progress, said, HasRead, Cuts, AreAll, StopsBehind, StopsIn, passed_until, EndsAt, IsEnded, is_done, AddsNext, IsOpen}
use Rattle.run_proof.specs.Steps.{AcceptsNext, EndsLines, StopsAtLine, StopsAtGot, StopsNext}
use Rattle.run_proof.specs.Stops.{IsCausedBy}
use Rattle.run_proof.specs.Taken.{put_for, TakesLine}
use Rattle.run_proof.specs.declared.lines.Until.{Until}
use Rattle.run_proof.specs.declared.lines.Until.TheVariants.{End, Verdict}
use Rattle.run_proof.specs.declared.stop.ProofStop.{ProofStop}
use Rattle.run_proof.specs.declared.stop.ProofStop.TheVariants as stops
use Rattle.run_proof.proofs.Known.{not_refused, next_lemma}
use Rattle.run_proof.proofs.Stand.{put_more, some_more, said_more, stand_root, pass_then}

-- ---- one after another

module _ (version : Version) (puts : Position → List Lemma → Lemma → List ℕ) (a b : Pending) (old new : Option (List ℕ)) where
  -- no line
  pub read_bare : (s : Progress) (Ends : List (List ℕ) → List ℕ → List ℕ → Type 0) → Keeps old new → Reads a b (Ends [])
      → HasRead version puts true s s a b old new Ends
  read_bare s Ends kept reads = record {
    lines = [];
    passes = record { stand = refl; counted = omega arith; say = sym (append-nil s.lemmas) };
    written = Appends-kept old old new [] (Appends-nil old) kept;
    some = λ cut. absurd (cc cut);
    reads = reads;
  }

  pub read_then : (whole : Bool) (s t u : Progress) (mid : Pending) (held : Option (List ℕ)) (P Q R : List (List ℕ) → List ℕ → List ℕ → Type 0)
      → HasRead version puts true s t a mid old held P → HasRead version puts whole t u mid b held new Q
      → ((xs ys : List (List ℕ)) (bytes m rest : List ℕ) → P xs bytes m → Q ys m rest → R (xs ++ ys) bytes rest)
      → HasRead version puts whole s u a b old new R
  read_then whole s t u mid held P Q R p q more =
      let root = s.stands.root in
      let same : t.stands.root ≡ root = stand_root version s.stands t.stands s.next p.lines p.passes.stand in
      let xs = lemmas_said version (board_of root) p.lines in
      let ys = lemmas_said version (board_of root) q.lines in
      let next : put_for puts t.stands.root t.lemmas (said version t.stands q.lines) ≡ put_for puts root (s.lemmas ++ xs) ys =
      ap (λ (root : Position). put_for puts root t.lemmas (lemmas_said version (board_of root) q.lines)) same
      ∙ ap (λ ls. put_for puts root ls ys) p.passes.say in
      let text : put_for puts root s.lemmas (said version s.stands (p.lines ++ q.lines))
      ≡ put_for puts root s.lemmas xs ++ put_for puts t.stands.root t.lemmas (said version t.stands q.lines) =
      ap (put_for puts root s.lemmas) (said_more version (board_of root) p.lines q.lines) ∙ put_more puts root s.lemmas xs ys
      ∙ ap (λ more. put_for puts root s.lemmas xs ++ more) (sym next) in
      record {
        lines = p.lines ++ q.lines;
        passes = pass_then version s t u p.lines q.lines p.passes q.passes;
        written = subst (AppendsPrefix whole old new) (sym text) (AppendsPrefix_more whole old held new _ _ p.written q.written);
        some = λ cut none. some_more _ _ (q.some cut) (sym text ∙ none);
        reads = Reads_then a mid b _ _ _ p.reads q.reads (more p.lines q.lines);
      }

-- the next lines, and then some more
pub cuts_then : (xs ys : List (List ℕ)) (bytes m rest : List ℕ) → Cuts xs bytes m → Cuts ys m rest → Cuts (xs ++ ys) bytes rest
cuts_then xs ys bytes m rest p q = (
  passes_most (length xs + length ys) (length (xs ++ ys)) bytes rest (omega (arith, length-append xs ys))
      (passes_then (length xs) (length ys) bytes m rest p.0 q.0),
  p.1 ∙ ap (λ more. xs ++ more) q.1 ∙ sym (append_assoc xs ys (lines_in (pieces rest))),
)

-- or no more
pub all_then : (xs ys : List (List ℕ)) (bytes m rest : List ℕ) → Cuts xs bytes m → AreAll ys m rest → AreAll (xs ++ ys) bytes rest
all_then xs ys bytes m rest p q = (
  passes_most (length xs + (length ys + 1)) (length (xs ++ ys) + 1) bytes rest (omega (arith, length-append xs ys))
      (passes_then (length xs) (length ys + 1) bytes m rest p.0 q.0),
  p.1 ∙ ap (λ more. xs ++ more) q.1,
)

pub stop_then : (version : Version) (t : Progress) (stop : ProofStop) (xs ys : List (List ℕ)) (bytes m rest : List ℕ) → Cuts xs bytes m
    → StopsBehind version t stop ys m rest → StopsBehind version t stop (xs ++ ys) bytes rest
stop_then version t stop xs ys bytes m rest p q = record {
  few = passes_most (length xs + passed_until stop (length ys)) (passed_until stop (length (xs ++ ys))) bytes rest (by stop)
      (passes_then (length xs) (passed_until stop (length ys)) bytes m rest p.0 q.few);
  more = q.more;
  cut = p.1 ∙ ap (λ more. xs ++ more) q.cut ∙ sym (append_assoc xs ys q.more);
  stops = q.stops;
}
  where
    by : (stop : ProofStop) → length xs + passed_until stop (length ys) ≤ passed_until stop (length (xs ++ ys))
    by (stops.Input why) = omega (arith, length-append xs ys)
    by (stops.Refused r) = omega (arith, length-append xs ys)
    by stops.Memory = omega (arith, length-append xs ys)

-- ---- the next line

-- how many lines are passed where the next one stops the reading
one_passed : (stop : ProofStop) (line : List ℕ) (version : Version) (s : CheckerState) (at : ℕ) (bytes rest : List ℕ) → StopsAtLine version s at line stop
    → PassesLines 1 bytes rest → PassesLines (passed_until stop 0) bytes rest
one_passed (stops.Refused r) line version s at bytes rest stopped passes = passes
one_passed stops.Memory line version s at bytes rest stopped passes = passes
one_passed (stops.Input why) line version s at bytes rest stopped passes = absurd stopped

stops_in : (version : Version) (s : CheckerState) (at : ℕ) (line : List ℕ) (lines : List (List ℕ)) (stop : ProofStop) → StopsAtLine version s at line stop
    → StopsIn version s at (line ∷ lines) stop
stops_in version s at line lines (stops.Refused r) stopped = (stopped.1, stopped.0)
stops_in version s at line lines stops.Memory stopped = stopped
stops_in version s at line lines (stops.Input why) stopped = absurd stopped

module _ (version : Version) (s : Progress) (a b : Pending) (text : List ℕ) (fed : Bool) where
  -- it is this one
  line_cuts : Reads a b (λ bytes rest. Gives bytes rest Line text fed) → Reads a b (Cuts (text ∷ []))
  line_cuts gives = Reads_more a b _ _ gives (λ bytes rest is. (
    passes_line bytes rest text Line fed is,
    let line : Cut = record { got = Line; text = text; fed = fed; rest = rest } in line_first bytes line is refl,
  ))

  line_stops : (stop : ProofStop) → Reads a b (λ bytes rest. Gives bytes rest Line text fed) → StopsAtLine version s.stands s.next text stop
      → Reads a b (StopsBehind version s stop [])
  line_stops stop gives stopped = Reads_more a b _ _ gives (λ bytes rest is. record {
    few = one_passed stop text version s.stands s.next bytes rest stopped (passes_line bytes rest text Line fed is);
    more = text ∷ lines_in (pieces rest);
    cut = let line : Cut = record { got = Line; text = text; fed = fed; rest = rest } in line_first bytes line is refl;
    stops = stops_in version s.stands s.next text (lines_in (pieces rest)) stop stopped;
  })

  -- what stops the reading, whatever was got
  pub got_stops : (before after : ℕ) (stop : ProofStop) (got : LineGot) → Reads a b (λ bytes rest. Gives bytes rest got text fed)
      → StopsAtGot version s.stands s.next before after text stop got → Reads a b (StopsBehind version s stop [])
  got_stops before after stop Line gives stopped = line_stops stop gives stopped
  got_stops before after stop Long gives stopped = rw stopped (Reads_more a b _ _ gives (λ bytes rest is.
      let line : Cut = record { got = Long; text = text; fed = fed; rest = rest } in
      let some = long_first bytes line is refl in
      record {
        few = passes_line bytes rest text Long fed is;
        more = some.0 ∷ some.1;
        cut = some.2;
        stops = (refl, out_of_bounds version s.stands s.next some.0 (inr some.3));
      }))
  got_stops before after stop Done gives stopped = absurd stopped
  got_stops before after stop Failed gives stopped = rw stopped.0 (Reads_more a b _ _ gives (λ bytes rest is. record {
    few = (0, omega arith, is);
    more = lines_in (pieces bytes);
    cut = refl;
    stops = tt;
  }))

  pub none_left_read : Reads a b (λ bytes rest. Gives bytes rest Done text fed) → Reads a b (AreAll [])
  none_left_read gives = Reads_more a b _ _ gives (λ bytes rest is. (
    passes_line bytes rest text Done fed is,
    let line : Cut = record { got = Done; text = text; fed = fed; rest = rest } in (none_left bytes line is refl).0,
  ))

module _ (version : Version) (Holds : Position → List Lemma → Type 0) (puts : Position → List Lemma → Lemma → List ℕ) (s : Progress) (t : CheckerState)
    (a b : Pending) (line : Said) (is : AcceptsNext a b version s.stands t s.next line) (old new : Option (List ℕ)) where
  says_line : lemmas_in (line ∷ []) ≡ said version s.stands (is.text ∷ [])
  says_line = rw is.accepted.said refl

  refusal : bytes_refusal version s.stands s.next is.text ≡ None
  refusal = not_refused version s.stands s.next is.text (board_of s.stands.root) line refl is.accepted.few is.accepted.said is.accepted.stands

  abbrev behind : Progress
  behind = record { stands = t; next = s.next + 1; lemmas = s.lemmas ++ said version s.stands (is.text ∷ []) }

  one_line : (whole : Bool) → AppendsPrefix whole old new (put_for puts s.stands.root s.lemmas (lemmas_in (line ∷ [])))
      → (whole ≡ false → put_for puts s.stands.root s.lemmas (lemmas_in (line ∷ [])) ≢ [])
      → HasRead version puts whole s behind a b old new Cuts
  one_line whole put some = record {
    lines = is.text ∷ [];
    passes = record {
      stand = (refusal, is.accepted.next ∙ ap (with_said s.stands) (sym is.accepted.said));
      counted = omega arith;
      say = refl;
    };
    written = subst (λ ls. AppendsPrefix whole old new (put_for puts s.stands.root s.lemmas ls)) says_line put;
    some = λ cut. subst (λ ls. put_for puts s.stands.root s.lemmas ls ≢ []) says_line (some cut);
    reads = line_cuts version s a b is.text is.fed is.gives;
  }

  -- a line that was accepted was handed to the taker
  pub line_taken : {X : Type 0} (until : Until) (ended : Bool) (taken : Result X (RunStop ProofStop)) → IsOpen until s.stands
      → TakesLine Holds puts s.stands.root s.lemmas line old new taken
      → MatchResult taken (λ x. AddsNext until version (Holds s.stands.root) puts s t a b ended old new (Ok true))
      (λ stop. AddsNext until version (Holds s.stands.root) puts s t a b ended old new (Err stop))
  line_taken until ended (Ok x) going (holds, put) = (
    behind.lemmas,
    subst (λ ls. Holds s.stands.root (s.lemmas ++ ls)) says_line holds,
    one_line true put (λ cut. absurd (cc cut)),
  )
  line_taken until ended (Err (Own stop)) going (memory, lemma, holds, kept) =
      let next = next_lemma version s.stands s.next is.text (board_of s.stands.root) line refl is.accepted.few is.accepted.said is.accepted.stands lemma in
      rw memory (
        going,
        holds,
        read_bare version puts a b old new s (StopsBehind version s stops.Memory) kept
            (line_stops version s a b is.text is.fed stops.Memory is.gives next),
      )
  line_taken until ended (Err Write) going (put, some) = (
    behind,
    one_line false put (λ cut. some),
  )

-- ---- where no line is read

pub is_open : (until : Until) (s : CheckerState) → is_done until (is_some s.verdict) ≡ false → IsOpen until s
is_open End s going = tt
is_open Verdict s going = by s.verdict going
  where
    by : (v : Option Found) → is_some v ≡ false → v ≡ None
    by None h = refl
    by (Some v) h = cc h

module _ (version : Version) (Holds : List Lemma → Type 0) (puts : Position → List Lemma → Lemma → List ℕ) (s : Progress) (old : Option (List ℕ)) where
  -- the verdict was there
  pub done_next : (until : Until) (a : Pending) (ended : Bool) → is_done until (is_some s.stands.verdict) ≡ true → Holds s.lemmas
      → AddsNext until version Holds puts s s.stands a a ended old old (Ok false)
  done_next End a ended done got = absurd (cc done)
  done_next Verdict a ended done got =
      (refl, got, tt, read_bare version puts a a old old s (EndsAt Verdict s.stands.verdict) (Keeps-refl old) (by s.stands.verdict done))
    where
      by : (v : Option Found) → is_some v ≡ true → Reads a a (EndsAt Verdict v [])
      by None h = absurd (cc h)
      by (Some v) h = Reads_start a _ (λ bytes. (passes_none bytes, refl))

  module _ (a b : Pending) (until : Until) (going : is_done until (is_some s.stands.verdict) ≡ false) where
    -- none is left
    pub none_next : (t : CheckerState) (ended : Bool) → EndsLines a b s.stands t ended → Holds s.lemmas
        → AddsNext until version Holds puts s t a b ended old old (Ok false)
    none_next t ended is got = (
      is.same,
      got,
      by_end until,
      read_bare version puts a b old old s (EndsAt until s.stands.verdict) (Keeps-refl old)
          (by until (is_open until s.stands going) (none_left_read version s a b is.text is.fed is.gives)),
    )
      where
        by_end : (until : Until) → IsEnded until ended
        by_end End = is.whole
        by_end Verdict = tt

        by : (until : Until) → IsOpen until s.stands → Reads a b (AreAll []) → Reads a b (EndsAt until s.stands.verdict [])
        by End bare reads = reads
        by Verdict bare reads = subst (λ v. Reads a b (EndsAt Verdict v [])) (sym bare) reads

    -- what is got stops the reading
    pub stop_next : (t : CheckerState) (ended : Bool) (before after : ℕ) (stop : ProofStop) → StopsNext a b version s.stands s.next before after stop
        → Holds s.lemmas → AddsNext until version Holds puts s t a b ended old old (Err (Own stop))
    stop_next t ended before after stop is got = (
      is_open until s.stands going,
      got,
      read_bare version puts a b old old s (StopsBehind version s stop) (Keeps-refl old)
          (got_stops version s a b is.text is.fed before after stop is.got is.gives is.stopped),
    )

-- ---- causes

pub caused_more : (U V X Y : Type 0) (stop : RunStop ProofStop) → (U → V) → (X → Y) → IsCausedBy U X stop → IsCausedBy V Y stop
caused_more U V X Y (Own (stops.Input inputs.Read)) read put cause = read cause
caused_more U V X Y (Own (stops.Input (inputs.NoGame fault))) read put cause = tt
caused_more U V X Y (Own (stops.Refused r)) read put cause = tt
caused_more U V X Y (Own stops.Memory) read put cause = tt
caused_more U V X Y Write read put cause = put cause

pub got_cause : (a b : Pending) (version : Version) (s : CheckerState) (at before after : ℕ) (X : Type 0) (stop : ProofStop)
    → StopsNext a b version s at before after stop → IsCausedBy (Rose before after) X (Own stop)
got_cause a b version s at before after X stop is = by_got is.got is.stopped
  where
    by_line : (stop : ProofStop) → StopsAtLine version s at is.text stop → IsCausedBy (Rose before after) X (Own stop)
    by_line (stops.Refused r) stopped = tt
    by_line stops.Memory stopped = tt
    by_line (stops.Input why) stopped = absurd stopped

    by_got : (got : LineGot) → StopsAtGot version s at before after is.text stop got → IsCausedBy (Rose before after) X (Own stop)
    by_got Line stopped = by_line stop stopped
    by_got Long stopped = rw stopped tt
    by_got Done stopped = absurd stopped
    by_got Failed stopped = rw stopped.0 stopped.1
