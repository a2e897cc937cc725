-- A proof up to its verdict, its head and its lines one after another.
use Rattle.std.proofs.Common.{◌≡◌, ℕ, ◌+◌, ◌-◌, ◌≤◌, Bool, true, List, [], length, Option, None, Result, Ok, Err, refl, sym, ap, ◌∙◌, subst, arith}
use Rattle.std.specs.Io.KnownBytes.{Keeps, Appends}
use Rattle.device_rules.specs.Devices.{Rose}
use Rattle.game_rules.specs.Position.{Position}
use Rattle.io_ports.specs.Reading.{Pending, Reads, PassesLines}
use Rattle.io_ports.proofs.Reading.{Reads_more, Reads_then, passes_then, passes_most}
use Rattle.proof_text.specs.Lemma.{Lemma}
use Rattle.proof_text.specs.Right.{AreRight, IsVerdict}
use Rattle.proof_text.specs.Texts.{pieces, lines_in, first_number, start}
use Rattle.proof_text.specs.declared.Version.{Version}
use Rattle.run_frame.specs.declared.game_input.InputStop.TheVariants as inputs
use Rattle.run_frame.specs.declared.run_stop.RunStop.{RunStop}
use Rattle.run_frame.specs.declared.run_stop.RunStop.TheVariants.{Own, Write}
use Rattle.run_proof.specs.Heads.{Begins, StopsBy, IsFirstStop, head_lines}
use Rattle.run_proof.specs.Lines.{Progress, begin, said, HasRead, Cuts, EndsAt, StopsIn, passed_until, ReadsLines}
use Rattle.run_proof.specs.Steps.{lines_read_until}
use Rattle.run_proof.specs.Stops.{IsCausedBy}
use Rattle.run_proof.specs.Whole.{most_lines_read}
use Rattle.run_proof.specs.declared.head.Head.{Head}
use Rattle.run_proof.specs.declared.lines.LinesRead.{LinesRead}
use Rattle.run_proof.specs.declared.lines.Until.TheVariants.{Verdict}
use Rattle.run_proof.specs.declared.stop.ProofStop.{ProofStop}
use Rattle.run_proof.specs.declared.stop.ProofStop.TheVariants as stops
use Rattle.run_proof.proofs.Heads.{lines_behind, stops_behind}
use Rattle.run_proof.proofs.Judging.{appended_none, first_few}
use Rattle.run_proof.proofs.Stand.{stand_few, stand_root, stand_right, stand_verdict, put_none}
use Rattle.run_follow.specs.Reading.{IsToVerdict, IsRightProof, ReadsProof, IsWithin}
use Rattle.run_follow.specs.declared.verdict.ToVerdict.{ToVerdict}
use Rattle.run_follow.proofs.Standing.{has_verdict, verdict_followed, lines_stop, head_stop}

-- a book puts nothing
abbrev silent : Position → List Lemma → Lemma → List ℕ
silent root ls l = []

-- ---- the head stopped the reading

module _ (a b : Pending) (before after : ℕ) (stop : ProofStop) (first : IsFirstStop stop)
    (reads : Reads a b (λ bytes rest. PassesLines (head_lines stop) bytes rest × StopsBy None bytes before after stop)) (ls : List Lemma) where
  pub head_read : Reads a b (ReadsProof ls before after (Err (Own stop)))
  head_read = Reads_more a b _ _ reads (λ bytes rest h.
      (passes_most (head_lines stop) (lines_read_until stop) bytes rest (first_few stop first).0 h.0, head_stop bytes rest before after stop first h.1 h.0))

-- how far is read
pub first_within : (stop : ProofStop) → IsFirstStop stop → lines_read_until stop ≤ most_lines_read
first_within (stops.Input (inputs.NoGame fault)) first = omega arith
first_within (stops.Input inputs.Read) first = omega arith
first_within (stops.Refused r) first = omega (arith, first)
first_within stops.Memory first = absurd first

-- ---- the lines behind it

until_by : (version : Version) (t : Progress) (n : ℕ) (stop : ProofStop) (more : List (List ℕ)) → StopsIn version t.stands t.next more stop
    → t.next ≡ 4 + n → t.next ≤ most_lines_read → (3 + passed_until stop n ≤ lines_read_until stop) × (lines_read_until stop ≤ most_lines_read)
until_by version t n (stops.Refused r) more stopped counted few = (omega (arith, counted, stopped.0), omega (arith, few, stopped.0))
until_by version t n stops.Memory more stopped counted few = (omega (arith, counted, few), omega arith)
until_by version t n (stops.Input inputs.Read) more stopped counted few = (omega (arith, counted, few), omega arith)
until_by version t n (stops.Input (inputs.NoGame fault)) more stopped counted few = absurd stopped

module _ (head : Head) (a b c : Pending) (first : Reads a b (λ bytes rest. PassesLines 3 bytes rest × Begins None head bytes rest)) (ended : Bool)
    (old new : Option (List ℕ)) (ls : List Lemma) where
  abbrev root : Position
  root = head.game.position

  abbrev Lines : Result LinesRead (RunStop ProofStop) → Type 0
  Lines = ReadsLines Verdict head.version (λ ms. ls ≡ ms) silent root b c ended old new

  module _ (t : Progress) (Ends : List (List ℕ) → List ℕ → List ℕ → Type 0) (read : HasRead head.version silent true (begin root) t b c old new Ends) where
    pub nothing_put : Keeps old new
    nothing_put = appended_none old new (subst (Appends old new) (put_none silent root (λ ls l. refl) [] (said head.version (start root) read.lines)) read.written)

    few_lines : t.next ≤ most_lines_read
    few_lines = omega (arith, read.passes.counted, stand_few head.version (start root) t.stands first_number read.lines (omega arith) read.passes.stand)

  -- they stand up to the verdict
  module _ (read : LinesRead) (reads : Lines (Ok read)) where
    abbrev proof : ToVerdict
    proof = record { root = root; verdict = read.accepted.verdict; at = read.end - 1 }

    pub right_kept : Keeps old new
    right_kept = nothing_put reads.0 _ reads.4

    pub right_within : IsWithin (Ok proof)
    right_within =
        let few = few_lines reads.0 _ reads.4 in
        (omega (arith, reads.1.0, reads.4.passes.counted), omega (arith, reads.1.0, reads.4.passes.counted, few))

    pub right_read : (before after : ℕ) → Reads a c (ReadsProof ls before after (Ok proof))
    right_read before after =
        let lines = reads.4.lines in
        let cuts : Reads b c (Cuts lines) = subst (λ v. Reads b c (EndsAt Verdict v lines)) reads.1.1 reads.4.reads in
        let is_root = stand_root head.version (start root) reads.0.stands first_number lines reads.4.passes.stand in
        let end : reads.0.next ≡ read.end - 1 + 1 = omega (arith, reads.1.0, reads.4.passes.counted) in
        Reads_then a b c _ _ _ first cuts (λ bytes m rest p q.
        let behind = lines_behind None head reads.0 bytes m lines (lines_in (pieces rest)) p.1 reads.4.passes q.1 in (
          passes_most (3 + length lines) (read.end - 1) bytes rest (omega (arith, reads.1.0, reads.4.passes.counted)) (passes_then 3 (length lines) bytes m rest p.0 q.0),
          subst (λ ls. IsToVerdict proof ls bytes rest) (sym reads.2) (
            has_verdict head reads.0 bytes _ behind read.accepted.verdict (read.end - 1) reads.1.1 end is_root,
            verdict_followed head reads.0 bytes _ behind read.accepted.verdict (read.end - 1) reads.1.1 end is_root,
          ),
        ))

    pub right_proof : IsRightProof root ls read.accepted.verdict
    right_proof =
        let stand = reads.4.passes.stand in
        let is_root = stand_root head.version (start root) reads.0.stands first_number reads.4.lines stand in
        let right = stand_right head.version (start root) reads.0.stands first_number [] reads.4.lines stand refl in
        record {
          after = reads.0.stands.known;
          right = subst (λ ls. AreRight root [] ls reads.0.stands.known) (sym (reads.2 ∙ reads.4.passes.say)) right;
          verdict = subst (λ root. IsVerdict root reads.0.stands.known read.accepted.verdict) is_root
              (stand_verdict head.version (start root) reads.0.stands first_number reads.4.lines stand (λ v is. absurd (cc is)) read.accepted.verdict reads.1.1);
        }

  -- or something stopped the reading
  pub stop_kept : (stop : RunStop ProofStop) → Lines (Err stop) → Keeps old new
  stop_kept (Own stop) (t, going, got, read) = nothing_put t _ read
  stop_kept Write (t, read) = absurd (read.some refl (put_none silent root (λ ls l. refl) [] (said head.version (start root) read.lines)))

  pub stop_within : (stop : RunStop ProofStop) → Lines (Err stop) → IsWithin (Err stop)
  stop_within (Own stop) (t, going, got, read) =
      let here = read.reads.fact [] (λ _. refl) in
      (until_by head.version t (length read.lines) stop here.more here.stops (omega (arith, read.passes.counted)) (few_lines t _ read)).1
  stop_within Write (t, read) = absurd (read.some refl (put_none silent root (λ ls l. refl) [] (said head.version (start root) read.lines)))

  pub stop_read : (stop : RunStop ProofStop) (before after : ℕ) (X : Type 0) → Lines (Err stop) → IsCausedBy (Rose before after) X stop
      → Reads a c (ReadsProof ls before after (Err stop))
  stop_read (Own stop) before after X (t, going, got, read) cause =
      let n = length read.lines in
      let counted : t.next ≡ 4 + n = omega (arith, read.passes.counted) in
      let few = few_lines t _ read in
      Reads_then a b c _ _ _ first read.reads (λ bytes m rest p q.
      let behind = lines_behind None head t bytes m read.lines q.more p.1 read.passes q.cut in
      let passes = passes_then 3 (passed_until stop n) bytes m rest p.0 q.few in (
        passes_most (3 + passed_until stop n) (lines_read_until stop) bytes rest (until_by head.version t n stop q.more q.stops counted few).0 passes,
        lines_stop head t bytes q.more behind rest before after stop going q.stops
            (stops_behind None head t bytes q.more behind before after X stop q.stops cause)
            (λ is. passes_most (3 + passed_until stop n) (t.next - 1) bytes rest (omega (arith, ap (λ stop. passed_until stop n) is, counted)) passes),
      ))
  stop_read Write before after X (t, read) cause = absurd (read.some refl (put_none silent root (λ ls l. refl) [] (said head.version (start root) read.lines)))
