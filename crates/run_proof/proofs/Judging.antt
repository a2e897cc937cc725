-- A whole proof: what was taken of it from the first step on, and how it is judged.
use Rattle.std.proofs.Common.{◌≡◌, ℕ, ◌+◌, ◌≤◌, Bool, true, List, [], length, Option, Some, None, IfSome, Ok, Err}
use Rattle.std.proofs.Common.{refl, sym, ap, ◌∙◌, subst, arith, append-nil}
use Rattle.std.specs.Io.KnownBytes.{Keeps, Appends}
use Rattle.std.proofs.KnownBytes.{Appends-nil, Appends-kept}
use Rattle.device_rules.specs.Devices.{AppendsPrefix, Rose}
use Rattle.device_rules.proofs.DeviceLaws.{AppendsPrefix_more}
use Rattle.game_rules.specs.Position.{Position}
use Rattle.io_ports.specs.Reading.{Pending, Reads, PassesLines}
use Rattle.io_ports.proofs.Reading.{Reads_then, passes_then, passes_most}
use Rattle.proof_text.specs.Lemma.{Lemma}
use Rattle.proof_text.specs.Texts as answers
use Rattle.proof_text.specs.Texts.{first_number, start, verdict_answer}
use Rattle.proof_text.specs.declared.Version.{Version}
use Rattle.run_frame.specs.Streams.{Streams, TakesLines}
use Rattle.run_frame.specs.Stops.{run_stop_status}
use Rattle.run_frame.specs.declared.game_input.InputStop.TheVariants as inputs
use Rattle.run_frame.specs.declared.run_stop.RunStop.{RunStop}
use Rattle.run_frame.specs.declared.run_stop.RunStop.TheVariants.{Own, Write}
use Rattle.run_frame.proofs.Inputs.{IfSome_more}
use Rattle.run_frame.proofs.Owed.{unwritten_status}
use Rattle.run_frame.proofs.Passing.{takes_bytes}
use Rattle.run_frame.proofs.Taken.{fresh, of_taken, of_input, of_lines}
use Rattle.run_proof.specs.Heads.{Begins, StopsBy, IsFirstStop, head_lines}
use Rattle.run_proof.specs.Judged.{TookLines, Judges}
use Rattle.run_proof.specs.Lines.{Progress, begin, HasLines, HasRead, Cuts, AreAll, StopsIn, StopsBehind, passed_until, ReadsLines}
use Rattle.run_proof.specs.Steps.{lines_read_until}
use Rattle.run_proof.specs.Stops.{stop_status, IsStopped, IsCausedBy}
use Rattle.run_proof.specs.Whole.{judged, most_lines_read}
use Rattle.run_proof.specs.declared.head.Head.{Head}
use Rattle.run_proof.specs.declared.lines.LinesRead.{LinesRead}
use Rattle.run_proof.specs.declared.lines.Until.TheVariants.{End}
use Rattle.run_proof.specs.declared.stop.ProofStop.{ProofStop}
use Rattle.run_proof.specs.declared.stop.ProofStop.TheVariants as stops
use Rattle.run_proof.proofs.Heads.{lines_behind, judged_behind, stops_behind, says_all}
use Rattle.run_proof.proofs.Known.{right_input}
use Rattle.run_proof.proofs.Stand.{stand_few, put_none}

-- ---- what was taken

abbrev pub over : Option (List ℕ) → Pending → Option (List ℕ) → Option (List ℕ) → Streams
over input last old new = record { input = input; left = last.left; last_read = last.last_read; old = old; new = new }

takes_most : (m n last_read : ℕ) (taken : List ℕ) → m ≤ n → TakesLines m last_read taken → TakesLines n last_read taken
takes_most m n last_read taken few takes = (takes.0, omega (arith, takes.1, few), takes.2, takes.3)

module _ (input : Option (List ℕ)) (begun : ℕ) (last : Pending) (old new : Option (List ℕ)) where
  pub took : (n : ℕ) (Holds P : List ℕ → Type 0) → n ≤ most_lines_read → Reads (fresh input begun) last (λ bytes rest. PassesLines n bytes rest × Holds bytes)
      → ((taken : List ℕ) → Holds taken → IfSome input Holds → TakesLines n last.last_read taken → P taken) → TookLines (over input last old new) P
  took n Holds P few reads from =
      let lines = of_lines input begun last n most_lines_read Holds reads few in
      record {
        taken = reads.taken;
        gave = reads.gave;
        few = takes_bytes most_lines_read last.last_read reads.taken lines;
        holds = (
          from reads.taken (of_taken input begun last n most_lines_read Holds reads) (of_input input begun last n most_lines_read Holds reads)
              (of_lines input begun last n n Holds reads (omega arith)),
          lines,
        );
      }

  -- where the reading was stopped
  pub is_stopped : (asked : Option Version) (stop : ProofStop) (n before after : ℕ) (taken : List ℕ) → StopsBy asked taken before after stop
      → IfSome input (λ bytes. StopsBy asked bytes before after stop) → n ≤ lines_read_until stop → TakesLines n last.last_read taken
      → IsStopped asked taken (over input last old new) stop
  is_stopped asked (stops.Input (inputs.NoGame fault)) n before after taken here all few lines = ((here, all), takes_most n 3 last.last_read taken few lines)
  is_stopped asked (stops.Input inputs.Read) n before after taken here all few lines = tt
  is_stopped asked (stops.Refused r) n before after taken here all few lines = ((here, all), takes_most n r.at last.last_read taken few lines)
  is_stopped asked stops.Memory n before after taken here all few lines = (here, all)

pub first_few : (stop : ProofStop) → IsFirstStop stop → (head_lines stop ≤ lines_read_until stop) × (head_lines stop ≤ most_lines_read)
first_few (stops.Refused r) first = (omega arith, omega (arith, first))
first_few (stops.Input (inputs.NoGame fault)) first = (omega arith, omega arith)
first_few (stops.Input inputs.Read) first = (omega arith, omega arith)
first_few stops.Memory first = absurd first

pub first_caused : (asked : Option Version) (a b : Pending) (n before after : ℕ) (X : Type 0) (stop : ProofStop)
    → Reads a b (λ bytes rest. PassesLines n bytes rest × StopsBy asked bytes before after stop) → IsCausedBy (Rose before after) X (Own stop)
first_caused asked a b n before after X stop reads = by stop _ (reads.fact [] (λ _. refl)).1
  where
    by : (stop : ProofStop) (bytes : List ℕ) → StopsBy asked bytes before after stop → IsCausedBy (Rose before after) X (Own stop)
    by (stops.Input (inputs.NoGame fault)) bytes h = tt
    by (stops.Input inputs.Read) bytes h = h
    by (stops.Refused r) bytes h = tt
    by stops.Memory bytes h = tt

-- ---- the lines behind the head

module _ (asked : Option Version) (head : Head) (puts : Position → List Lemma → Lemma → List ℕ) (a b c : Pending) (old new : Option (List ℕ))
    (first : Reads a b (λ bytes rest. PassesLines 3 bytes rest × Begins asked head bytes rest)) (t : Progress) where
  abbrev Read : Bool → (List (List ℕ) → List ℕ → List ℕ → Type 0) → Type 0
  Read whole Ends = HasRead head.version puts whole (begin head.game.position) t b c old new Ends

  few_lines : (whole : Bool) (Ends : List (List ℕ) → List ℕ → List ℕ → Type 0) (read : Read whole Ends) → (t.next ≡ 4 + length read.lines)
      × (t.next ≤ most_lines_read)
  few_lines whole Ends read =
      let few = stand_few head.version (start head.game.position) t.stands first_number read.lines (omega arith) read.passes.stand in
      (read.passes.counted, omega (arith, few, read.passes.counted))

  -- they are all that there are
  pub all_read : (whole : Bool) → Read whole AreAll → (t.next ≤ most_lines_read)
      × Reads a c (λ bytes rest. PassesLines t.next bytes rest × HasLines asked head t bytes [])
  all_read whole read =
      let few = few_lines whole AreAll read in (
        few.1,
        Reads_then a b c _ _ _ first read.reads (λ bytes m rest p q. (
          passes_most (3 + (length read.lines + 1)) t.next bytes rest (omega (arith, few.0))
              (passes_then 3 (length read.lines + 1) bytes m rest p.0 q.0),
          lines_behind asked head t bytes m read.lines [] p.1 read.passes (q.1 ∙ sym (append-nil read.lines)),
        )),
      )

  -- there may be more
  pub some_read : (whole : Bool) → Read whole Cuts → (t.next ≤ most_lines_read)
      × Reads a c (λ bytes rest. PassesLines t.next bytes rest × ((more : List (List ℕ)) × HasLines asked head t bytes more))
  some_read whole read =
      let few = few_lines whole Cuts read in (
        few.1,
        Reads_then a b c _ _ _ first read.reads (λ bytes m rest p q. (
          passes_most (3 + length read.lines) t.next bytes rest (omega (arith, few.0)) (passes_then 3 (length read.lines) bytes m rest p.0 q.0),
          (_, lines_behind asked head t bytes m read.lines _ p.1 read.passes q.1),
        )),
      )

  -- and the next stops the reading
  pub stop_read : (whole : Bool) (before after : ℕ) (X : Type 0) (stop : ProofStop) → Read whole (StopsBehind head.version t stop)
      → IsCausedBy (Rose before after) X (Own stop)
      → (n : ℕ) × (n ≤ lines_read_until stop) × (n ≤ most_lines_read) × Reads a c (λ bytes rest. PassesLines n bytes rest
      × (StopsBy asked bytes before after stop × ((more : List (List ℕ)) × HasLines asked head t bytes more × StopsIn head.version t.stands t.next more stop)))
  stop_read whole before after X stop read cause =
      let few = few_lines whole (StopsBehind head.version t stop) read in
      let here = read.reads.fact [] (λ _. refl) in
      let until = by stop (omega (arith, few.0)) few.1 here.more here.stops in (
        3 + passed_until stop (length read.lines),
        until.0,
        until.1,
        Reads_then a b c _ _ _ first read.reads (λ bytes m rest p q.
            let has = lines_behind asked head t bytes m read.lines q.more p.1 read.passes q.cut in (
              passes_then 3 (passed_until stop (length read.lines)) bytes m rest p.0 q.few,
              (stops_behind asked head t bytes q.more has before after X stop q.stops cause, (q.more, has, q.stops)),
            )),
      )
    where
      by : (stop : ProofStop) → t.next ≡ 4 + length read.lines → t.next ≤ most_lines_read → (more : List (List ℕ))
          → StopsIn head.version t.stands t.next more stop
          → (3 + passed_until stop (length read.lines) ≤ lines_read_until stop) × (3 + passed_until stop (length read.lines) ≤ most_lines_read)
      by (stops.Refused r) counted few more stopped = (omega (arith, counted, stopped.0), omega (arith, counted, few))
      by stops.Memory counted few more stopped = (omega (arith, counted, few), omega (arith, counted, few))
      by (stops.Input inputs.Read) counted few more stopped = (omega (arith, counted, few), omega (arith, counted, few))
      by (stops.Input (inputs.NoGame fault)) counted few more stopped = absurd stopped

-- ---- where nothing is put

-- what is written behind a sink that was kept
pub put_behind : (ok : Bool) (old mid new : Option (List ℕ)) (text : List ℕ) → Keeps old mid → AppendsPrefix ok mid new text → AppendsPrefix ok old new text
put_behind ok old mid new text kept put = AppendsPrefix_more ok old mid new [] text (Appends-kept old old mid [] (Appends-nil old) kept) put

pub appended_none : (old new : Option (List ℕ)) → Appends old new [] → Keeps old new
appended_none None new put = tt
appended_none (Some x) None put = put
appended_none (Some x) (Some y) put = put ∙ append-nil x

module _ (asked : Option Version) (Holds : Position → List Lemma → Type 0) (puts : Position → List Lemma → Lemma → List ℕ)
    (silent : (root : Position) (ls : List Lemma) (l : Lemma) → puts root ls l ≡ []) (input : Option (List ℕ)) (begun : ℕ) (old new : Option (List ℕ))
    (last : Pending) where
  -- it stopped in the head
  pub judged_head : (stop : ProofStop) (before after : ℕ) → IsFirstStop stop
      → Reads (fresh input begun) last (λ bytes rest. PassesLines (head_lines stop) bytes rest × StopsBy asked bytes before after stop)
      → Keeps old new → Judges asked Holds (over input last old new) (Err (Own stop))
  judged_head stop before after first reads kept =
      took input begun last old new (head_lines stop) (λ bytes. StopsBy asked bytes before after stop) _ (first_few stop first).1 reads
      (λ taken here all lines. (is_stopped input begun last old new asked stop (head_lines stop) before after taken here all (first_few stop first).0 lines, kept))

  module _ (head : Head) (mid : Pending) (first : Reads (fresh input begun) mid (λ bytes rest. PassesLines 3 bytes rest × Begins asked head bytes rest)) where
    silent_text : (s t : Progress) (Ends : List (List ℕ) → List ℕ → List ℕ → Type 0) → HasRead head.version puts true s t mid last old new Ends → Keeps old new
    silent_text s t Ends read = appended_none old new
        (subst (Appends old new) (put_none puts s.stands.root (silent s.stands.root) s.lemmas _) read.written)

    -- the proof is right
    pub judged_right : (read : LinesRead) → ReadsLines End head.version (Holds head.game.position) puts head.game.position mid last last.ended old new (Ok read)
        → Judges asked Holds (over input last old new) (Ok (record { head = head; accepted = read.accepted }))
    judged_right read (t, says, got, ended, has) =
        let all = all_read asked head puts (fresh input begun) mid last old new first t true has in
        took input begun last old new t.next (λ bytes. HasLines asked head t bytes []) _ all.0 all.1 (λ taken here everywhere lines.
        let answer : judged asked taken ≡ answers.Accepted read.accepted.verdict read.accepted.lemmas =
        judged_behind asked head t taken [] here ∙ ap (verdict_answer t.next (length t.stands.known)) says.1
        ∙ ap (answers.Accepted read.accepted.verdict) (sym says.2) in (
          (
            right_input asked taken last.left read.accepted.verdict read.accepted.lemmas answer (all.1.last (λ never. absurd (cc never)) ended),
            record { more = here.more; cut = here.cut; text = here.text },
            subst (Holds head.game.position) (sym (says_all asked head t taken here)) got,
          ),
          silent_text (begin head.game.position) t AreAll has,
        ))

    -- or something stopped it
    pub judged_stop : (stop : RunStop ProofStop) (before after : ℕ) (X : Type 0)
        → ReadsLines End head.version (Holds head.game.position) puts head.game.position mid last last.ended old new (Err stop)
        → IsCausedBy (Rose before after) X stop → Judges asked Holds (over input last old new) (Err stop)
    judged_stop (Own stop) before after X (t, going, got, has) cause =
        let read = stop_read asked head puts (fresh input begun) mid last old new first t true before after X stop has cause in
        took input begun last old new read.0 _ _ read.2 read.3 (λ taken here all lines. (
          is_stopped input begun last old new asked stop read.0 before after taken here.0 (IfSome_more input _ _ all (λ bytes h. h.0)) read.1 lines,
          silent_text (begin head.game.position) t (StopsBehind head.version t stop) has,
        ))
    judged_stop Write before after X (t, has) cause =
        absurd (has.some refl (put_none puts head.game.position (silent head.game.position) [] _))

-- ---- causes

pub caused_read : (unread unwritten : Type 0) (stop : RunStop ProofStop) → IsCausedBy unread unwritten stop → run_stop_status stop_status stop ≡ 6 → unread
caused_read unread unwritten (Own (stops.Input inputs.Read)) cause is = cause
caused_read unread unwritten (Own (stops.Input (inputs.NoGame fault))) cause is = absurd (cc is)
caused_read unread unwritten (Own (stops.Refused r)) cause is = absurd (cc is)
caused_read unread unwritten (Own stops.Memory) cause is = absurd (cc is)
caused_read unread unwritten Write cause is = absurd (cc is)

pub caused_write : (unread unwritten : Type 0) (stop : RunStop ProofStop) → IsCausedBy unread unwritten stop → run_stop_status stop_status stop ≡ 7 → unwritten
caused_write unread unwritten Write cause is = cause
caused_write unread unwritten (Own (stops.Input inputs.Read)) cause is = absurd (cc is)
caused_write unread unwritten (Own (stops.Input (inputs.NoGame fault))) cause is = absurd (cc is)
caused_write unread unwritten (Own (stops.Refused r)) cause is = absurd (cc is)
caused_write unread unwritten (Own stops.Memory) cause is = absurd (cc is)

-- where a line or the source stopped it, the sink didn't
pub stop_unwritten : (stop : ProofStop) → stop_status stop ≡ 7 → ⊥
stop_unwritten (stops.Input why) is = unwritten_status why is
stop_unwritten (stops.Refused r) is = cc is
stop_unwritten stops.Memory is = cc is
