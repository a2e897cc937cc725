-- The loop over the lines behind a head: those that were read, and the next one.
use Rattle.std.proofs.Common.{◌≡◌, ℕ, ◌+◌, ◌≤◌, Bool, true, false, List, [], ◌++◌, length, Option, Some, None, Ok, Err, refl, sym, ap, ◌∙◌, subst, append-nil, arith}
use Rattle.std.proofs.KnownBytes.{Appends-nil}
use Rattle.game_rules.specs.Position.{Position}
use Rattle.io_ports.specs.Reading.{Pending}
use Rattle.io_ports.proofs.Reading.{Reads_start, Reads_more, passes_none}
use Rattle.proof_text.specs.Checked.{CheckerState}
use Rattle.proof_text.specs.Lemma.{Lemma}
use Rattle.proof_text.specs.Texts.{first_number, start}
use Rattle.proof_text.specs.declared.Verdict.{Verdict as Found}
use Rattle.proof_text.specs.declared.Version.{Version}
use Rattle.proof_text.specs.declared.Why.TheVariants.{EndedEarly}
use Rattle.proof_text.proofs.Whole.{shown_count}
use Rattle.cert_checker.specs.Checking.{why_of}
use Rattle.cert_checker.specs.declared.stops.Accepted.{Accepted}
use Rattle.cert_checker.specs.declared.stops.Refusal.{Refusal}
use Rattle.run_frame.specs.declared.run_stop.RunStop.{RunStop}
use Rattle.run_frame.specs.declared.run_stop.RunStop.TheVariants.{Own, Write}
use Rattle.run_proof.specs.Lines.{Progress, begin, HasRead, Cuts, AreAll, EndsAt, IsEnded, IsOpen, StopsBehind, AddsNext, ReadsLines}
use Rattle.run_proof.specs.Whole.{most_lines_read}
use Rattle.run_proof.specs.declared.lines.Until.{Until}
use Rattle.run_proof.specs.declared.lines.Until.TheVariants.{End, Verdict}
use Rattle.run_proof.specs.declared.stop.ProofStop.{ProofStop}
use Rattle.run_proof.specs.declared.stop.ProofStop.TheVariants as stops
use Rattle.run_proof.proofs.Stand.{stand_root, stand_right, stand_few}
use Rattle.run_proof.proofs.Steps.{read_then, cuts_then, all_then, stop_then}

ends_then : (until : Until) (v : Option Found) (xs ys : List (List ℕ)) (bytes m rest : List ℕ) → Cuts xs bytes m → EndsAt until v ys m rest
    → EndsAt until v (xs ++ ys) bytes rest
ends_then End v xs ys bytes m rest p q = all_then xs ys bytes m rest p q
ends_then Verdict None xs ys bytes m rest p q = all_then xs ys bytes m rest p q
ends_then Verdict (Some v) xs ys bytes m rest p q = cuts_then xs ys bytes m rest p q

ends_all : (until : Until) (v : Option Found) (lines : List (List ℕ)) (bytes rest : List ℕ) → v ≡ None → EndsAt until v lines bytes rest
    → AreAll lines bytes rest
ends_all End v lines bytes rest none p = p
ends_all Verdict None lines bytes rest none p = p
ends_all Verdict (Some v) lines bytes rest none p = cc none

open_none : (until : Until) (s : CheckerState) → s.verdict ≡ None → IsOpen until s
open_none End s none = tt
open_none Verdict s none = none

-- before the first line
pub read_start : (version : Version) (puts : Position → List Lemma → Lemma → List ℕ) (root : Position) (s : CheckerState) (a : Pending)
    (old : Option (List ℕ)) → s ≡ start root
    → HasRead version puts true (begin root) (record { stands = s; next = first_number; lemmas = [] }) a a old old Cuts
read_start version puts root s a old made = record {
  lines = [];
  passes = record { stand = made; counted = omega arith; say = refl };
  written = Appends-nil old;
  some = λ cut. absurd (cc cut);
  reads = Reads_start a _ (λ bytes. (passes_none bytes, refl));
}

module _ (version : Version) (puts : Position → List Lemma → Lemma → List ℕ) (root : Position) (s : CheckerState) (at : ℕ) (ms : List Lemma)
    (a b : Pending) (old mid : Option (List ℕ))
    (read : HasRead version puts true (begin root) (record { stands = s; next = at; lemmas = ms }) a b old mid Cuts) where
  abbrev here : Progress
  here = record { stands = s; next = at; lemmas = ms }

  pub read_root : s.root ≡ root
  read_root = stand_root version (start root) s first_number read.lines read.passes.stand

  pub read_many : length ms ≡ length s.known
  read_many = ap length read.passes.say
      ∙ sym (shown_count root _ s.known (stand_right version (start root) s first_number [] read.lines read.passes.stand refl))

  pub read_few : at ≤ most_lines_read
  read_few = omega (arith, read.passes.counted, stand_few version (start root) s first_number read.lines (omega arith) read.passes.stand)

  module _ (until : Until) (Holds : Position → List Lemma → Type 0) (c : Pending) (ended : Bool) (new : Option (List ℕ)) (t : CheckerState) where
    -- one more was read
    pub lines_more : (more : Bool) → more ≡ true → AddsNext until version (Holds s.root) puts here t b c ended mid new (Ok more)
        → (ns : List Lemma) × Holds root ns × HasRead version puts true (begin root) (record { stands = t; next = at + 1; lemmas = ns }) a c old new Cuts
    lines_more false never next = absurd (cc never)
    lines_more true is (ns, got, next) = (
      ns,
      subst (λ root. Holds root ns) read_root got,
      read_then version puts a c old new true (begin root) here (record { stands = t; next = at + 1; lemmas = ns }) b mid Cuts Cuts Cuts read next cuts_then,
    )

    -- or none
    lines_all : (more : Bool) → more ≡ false → AddsNext until version (Holds s.root) puts here t b c ended mid new (Ok more)
        → (t ≡ s) × Holds root ms × IsEnded until ended × HasRead version puts true (begin root) here a c old new (EndsAt until s.verdict)
    lines_all true never next = absurd (cc never)
    lines_all false is (same, got, end, next) = (
      same,
      subst (λ root. Holds root ms) read_root got,
      end,
      read_then version puts a c old new true (begin root) here here b mid Cuts (EndsAt until s.verdict) (EndsAt until s.verdict) read next
          (ends_then until s.verdict),
    )

    pub lines_read : (more : Bool) → more ≡ false → AddsNext until version (Holds s.root) puts here t b c ended mid new (Ok more) → (accepted : Accepted)
        → (t.verdict ≡ Some accepted.verdict) × (accepted.lemmas ≡ length t.known)
        → ReadsLines until version (Holds root) puts root a c ended old new (Ok (record { accepted = accepted; end = at }))
    lines_read more is next accepted found =
        let all = lines_all more is next in (
          here,
          (refl, ap (λ s. s.verdict) (sym all.0) ∙ found.0, found.1 ∙ ap (λ s. length s.known) all.0),
          all.1,
          all.2,
          all.3,
        )

    -- and no verdict
    pub lines_short : (more : Bool) → more ≡ false → AddsNext until version (Holds s.root) puts here t b c ended mid new (Ok more) → (r : Refusal)
        → (t.verdict ≡ None) × (r ≡ record { at = at; why = EndedEarly })
        → ReadsLines until version (Holds root) puts root a c ended old new (Err (Own (stops.Refused r)))
    lines_short more is next r (none, refused) =
        let all = lines_all more is next in
        let bare : s.verdict ≡ None = ap (λ s. s.verdict) (sym all.0) ∙ none in (
          here,
          open_none until s bare,
          all.1,
          record {
            lines = all.3.lines;
            passes = all.3.passes;
            written = all.3.written;
            some = all.3.some;
            reads = Reads_more a c _ _ all.3.reads (λ bytes rest p. let ends = ends_all until s.verdict all.3.lines bytes rest bare p in record {
              few = ends.0;
              more = [];
              cut = ends.1 ∙ sym (append-nil all.3.lines);
              stops = (ap (λ r. r.at) refused, (bare, ap (λ r. why_of r.why) refused));
            });
          },
        )

    -- or something stopped it
    pub lines_stopped : (stop : RunStop ProofStop) → AddsNext until version (Holds s.root) puts here t b c ended mid new (Err stop)
        → ReadsLines until version (Holds root) puts root a c ended old new (Err stop)
    lines_stopped (Own stop) (going, got, next) = (
      here,
      going,
      subst (λ root. Holds root ms) read_root got,
      read_then version puts a c old new true (begin root) here here b mid Cuts (StopsBehind version here stop) (StopsBehind version here stop) read next
          (stop_then version here stop),
    )
    lines_stopped Write (u, next) = (u, read_then version puts a c old new false (begin root) here u b mid Cuts Cuts Cuts read next cuts_then)
