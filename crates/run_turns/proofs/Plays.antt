-- How a run ends that plays an input line by line, by what was read and written.
use Rattle.std.proofs.Common.{inl, inr}
use Rattle.std.proofs.Common.{◌≡◌, ℕ, ◌+◌, ◌*◌, ◌≤◌, Bool, true, false, List, [], ◌++◌, length, Option, Some, None, Ok, Err, IfSome, OnOk}
use Rattle.std.proofs.Common.{refl, sym, ap, ◌∙◌, subst, arith, length-append}
use Rattle.std.specs.Io.KnownBytes.{Appends, IsAtEnd}
use Rattle.std.proofs.lemmas.Grind.{flat_map-append}
use Rattle.device_rules.specs.Devices.{AppendsPrefix}
use Rattle.device_rules.proofs.DeviceLaws.{AppendsPrefix_more}
use Rattle.io_ports.specs.Lines.{Cutting, IsUndecided, most_held}
use Rattle.io_ports.specs.Reading.{Pending, pending, Reads, PassesLines}
use Rattle.io_ports.proofs.Reading.{Reads_then, passes_then}
use Rattle.game_rules.specs.Position.{Position}
use Rattle.proof_text.specs.Texts.{longest_line}
use Rattle.play_text.specs.Play as ends
use Rattle.play_text.specs.Play.{PlayEnd, Played, Turn, behind, text_of}
use Rattle.run_frame.specs.Streams.{Streams, Took, TakesLines, WaitsBehind, StillHolds}
use Rattle.run_frame.specs.declared.game_input.InputStop.TheVariants as inputs
use Rattle.run_frame.specs.declared.run_stop.RunStop.TheVariants.{Own, Write}
use Rattle.run_frame.proofs.Inputs.{IfSome_more, appended_still, cut_still}
use Rattle.run_frame.proofs.Owed.{read_status, unwritten_status}
use Rattle.run_frame.proofs.Passing.{takes_bytes}
use Rattle.run_frame.proofs.Taken.{fresh, from_fresh, of_taken, of_input, of_lines, of_waiting}
use Rattle.run_turns.specs.Games.{GameForm, GameEnd, stop_status, end_status, BeginsPlay, HasBegun, answers, Ended, EndedBefore, GamePlays}
use Rattle.run_turns.specs.Inputs.{end_by, EndsSo, StopsPlay, lines_until, Starts}
use Rattle.run_turns.specs.Steps.{GoesOn, turns_by, is_whole, TurnStep, PlaysTurns}
use Rattle.run_turns.specs.declared.game_end.GameStop.{GameStop}
use Rattle.run_turns.specs.declared.game_end.GameStop.TheVariants as stops
use Rattle.run_turns.proofs.Judged.{goes_behind}

-- What a command's lines tell at an end holds of what the definitions give; and so many lines are read at most, where moves come.
pub record HasLaws {H : Type 0} (form : GameForm H) (Told : List ℕ → List (List ℕ) → PlayEnd → Type 0) (most : ℕ) : Type 0 where
  pub told : (bytes : List ℕ) → Told bytes (form.given bytes).lines (form.given bytes).end
  pub head : 2 ≤ form.head
  pub unread : form.unread ≤ form.head
  pub room : form.head + 51 ≤ most

-- the streams of a run that read so far and wrote
abbrev pub over : Option (List ℕ) → Pending → Option (List ℕ) → Option (List ℕ) → Streams
over input last old new = record { input = input; left = last.left; last_read = last.last_read; old = old; new = new }

module _ {H : Type 0} (form : GameForm H) (Told : List ℕ → List (List ℕ) → PlayEnd → Type 0) (most : ℕ) (laws : HasLaws form Told most) where
  abbrev most_bytes : ℕ
  most_bytes = most * (longest_line + 1) + most_held

  -- what would have gone on
  begins : (bytes : List ℕ) (lines : List (List ℕ)) → GoesOn (form.given bytes) lines → BeginsPlay form lines bytes
  begins bytes lines (later, is) = (later.lines, ap (λ played. played.lines) is)

  -- ---- what was read, behind which these lines were written

  module _ (input : Option (List ℕ)) (begun : ℕ) (last : Pending) (o n : Option (List ℕ)) (lines : List (List ℕ)) (few : answers form lines ≤ 50)
      (besides m : ℕ) (within : m ≤ besides + answers form lines) (room : besides + 50 ≤ most) where
    took : (Fact P : List ℕ → Type 0) → Reads (fresh input begun) last (λ bytes rest. PassesLines m bytes rest × Fact bytes)
        → ((taken : List ℕ) → Fact taken → IfSome input Fact → TakesLines (besides + answers form lines) last.last_read taken
        → ((k : ℕ) → m ≤ k → IsUndecided last.ahead → WaitsBehind k taken) → P taken)
        → Took (over input last o n) most_bytes P
    took Fact P reads holds =
        let many = besides + answers form lines in
        let takes = of_lines input begun last m many Fact reads within in
        record {
          taken = reads.taken;
          gave = reads.gave;
          few = takes_bytes most last.last_read reads.taken (takes.0, omega (arith, takes.1, room, few), takes.2, takes.3);
          holds = holds reads.taken (of_taken input begun last m many Fact reads) (of_input input begun last m many Fact reads) takes
              (λ k few waits. of_waiting input begun last m k Fact reads waits few);
        }

    -- it came to an end
    ended_so : (end : PlayEnd) (P : List ℕ → Type 0) → Appends o n (text_of lines)
        → Reads (fresh input begun) last (λ bytes rest. PassesLines m bytes rest × (form.given bytes ≡ record { lines = lines; end = end }))
        → ((taken : List ℕ) → (last.ended ≡ true → IsAtEnd last.left) → Ended form Told taken (over input last o n) end besides → P taken)
        → Took (over input last o n) most_bytes P
    ended_so end P put reads holds =
        took (λ bytes. form.given bytes ≡ record { lines = lines; end = end }) P reads
        (λ taken is all takes waits. holds taken (reads.last (λ never. absurd (cc never))) (lines, (is, all), subst (λ (played : Played). Told taken played.lines played.end) is (laws.told taken), put, takes))

    -- or would have gone on
    cut_so : (P : List ℕ → Type 0) → Reads (fresh input begun) last (λ bytes rest. PassesLines m bytes rest × GoesOn (form.given bytes) lines)
        → ((taken : List ℕ) → HasBegun form taken input lines → TakesLines (besides + answers form lines) last.last_read taken
        → ((k : ℕ) → m ≤ k → IsUndecided last.ahead → WaitsBehind k taken) → P taken)
        → Took (over input last o n) most_bytes P
    cut_so P reads holds = took (λ bytes. GoesOn (form.given bytes) lines) P reads (λ taken goes all.
        holds taken (begins taken lines goes, IfSome_more input _ (BeginsPlay form lines) all (λ bytes. begins bytes lines)))

  -- ---- before the moves

  module _ (input : Option (List ℕ)) (begun : ℕ) (reader : Cutting) (last : Pending) (o n : Option (List ℕ))
      (new : reader ≡ record { ended = false; ahead = []; text = []; fed = false }) where
    none_answered : answers form [] ≤ 50
    none_answered = omega arith

    head_stops : (end : Option PlayEnd) (until : ℕ) → until + 50 ≤ most → Appends o n []
        → Reads (fresh input begun) last (λ bytes rest. PassesLines until bytes rest × EndsSo (form.given bytes) [] end)
        → Took (over input last o n) most_bytes (λ taken. EndedBefore form Told taken (over input last o n) end until)
    head_stops (Some end) until room put reads =
        ended_so input begun last o n [] none_answered until until (omega arith) room end _ put reads (λ taken at_end holds. holds)
    head_stops None until room put reads =
        cut_so input begun last o n [] none_answered until until (omega arith) room _ reads (λ taken begins takes behind. ([], begins, put, takes))

    -- what stopped the game while nothing was written yet
    pub reading_stops : (stop : GameStop H) → Appends o n [] → ((h : H) → stop ≡ stops.Head h → form.until h + 50 ≤ most)
        → (stop ≡ stops.Input inputs.Read → IsUndecided last.ahead)
        → Reads (pending reader input begun) last (λ bytes rest. PassesLines (lines_until form stop) bytes rest × StopsPlay form (form.given bytes) stop)
        → GamePlays form Told most (over input last o n) (Err (Own stop))
    reading_stops (stops.Input (inputs.NoGame fault)) put until waits reads =
        ended_so input begun last o n [] none_answered 2 2 (omega arith) (omega (arith, laws.room, laws.head)) (ends.NoGame fault) _ put
        (from_fresh input begun reader last _ new reads) (λ taken at_end holds. holds)
    reading_stops (stops.Input inputs.Read) put until waits reads =
        cut_so input begun last o n [] none_answered form.head form.unread (omega (arith, laws.unread)) (omega (arith, laws.room)) _
        (from_fresh input begun reader last _ new reads)
        (λ taken begins takes behind. ([], begins, put, inr (refl, behind form.unread (omega arith) (waits refl))))
    reading_stops (stops.NoMove fault) put until waits reads =
        ended_so input begun last o n [] none_answered (form.head + 1) (form.head + 1) (omega arith) (omega (arith, laws.room)) (ends.NoMove fault) _ put
        (from_fresh input begun reader last _ new reads) (λ taken at_end holds. holds)
    reading_stops (stops.Head h) put until waits reads =
        head_stops (form.end_of h) (form.until h) (until h refl) put (from_fresh input begun reader last _ new reads)

    -- the command ended, where it had written all of its lines
    pub opening_ends : (h : H) (end : PlayEnd) (lines : List (List ℕ)) → form.end_of h ≡ Some end → length lines ≤ form.opening → form.until h + 50 ≤ most
        → Appends o n (text_of lines)
        → Reads (pending reader input begun) last (λ bytes rest. PassesLines (form.until h) bytes rest × (form.given bytes ≡ record { lines = lines; end = end }))
        → GamePlays form Told most (over input last o n) (Err (Own (stops.Head h)))
    opening_ends h end lines is few until put pended =
        let P : Option PlayEnd → Type 0 = λ end. Took (over input last o n) most_bytes
        (λ taken. EndedBefore form Told taken (over input last o n) end (form.until h)) in
        subst P (sym is) (ended_so input begun last o n lines (omega (arith, few)) (form.until h) (form.until h) (omega arith) until end _ put
        (from_fresh input begun reader last _ new pended) (λ taken at_end holds. holds))

    -- or they were cut
    pub opening_cut : (lines : List (List ℕ)) → length lines ≤ form.opening → AppendsPrefix false o n (text_of lines)
        → Reads (pending reader input begun) last (λ bytes rest. PassesLines form.head bytes rest × GoesOn (form.given bytes) lines)
        → GamePlays form Told most (over input last o n) (Err Write)
    opening_cut lines few put pended =
        cut_so input begun last o n lines (omega (arith, few)) form.head form.head (omega arith) (omega (arith, laws.room)) _
        (from_fresh input begun reader last _ new pended) (λ taken begins takes behind. (lines, begins, put, takes))

  -- ---- the moves

  module _ {X : Type 0} (stands : X → Position) (turn : X → ℕ → Turn X) (x : X) (first : ℕ) (input : Option (List ℕ)) (begun : ℕ)
      (reader : Cutting) (mid last : Pending) (o p n : Option (List ℕ)) (before after : ℕ) (few : before ≤ 50)
      (new : reader ≡ record { ended = false; ahead = []; text = []; fed = false })
      (start : Starts form stands turn x first (pending reader input begun) mid o p) where
    start_reads : Reads (fresh input begun) mid (λ bytes rest. PassesLines form.head bytes rest
        × (form.given bytes ≡ behind start.lines (turns_by stands turn x first rest)))
    start_reads = from_fresh input begun reader mid _ new start.reads

    module _ (lines : List (List ℕ)) (turns : length lines + after ≤ before) where
      all_lines : List (List ℕ)
      all_lines = start.lines ++ lines

      written : length (start.lines ++ lines) ≡ form.opening + length lines
      written = omega (arith, length-append start.lines lines, start.opened)

      answered : answers form (start.lines ++ lines) ≤ 50
      answered = omega (arith, written, turns, few)

      put : (whole : Bool) → AppendsPrefix whole p n (text_of lines) → AppendsPrefix whole o n (text_of (start.lines ++ lines))
      put whole next = subst (AppendsPrefix whole o n) (sym (flat_map-append (λ line. line) start.lines lines))
          (AppendsPrefix_more whole o p n (text_of start.lines) (text_of lines) start.written next)

      turns_end : (end : PlayEnd) (P : List ℕ → Type 0) → Appends p n (text_of lines)
          → Reads mid last (λ bytes rest. PassesLines (length lines + 1) bytes rest × (turns_by stands turn x first bytes ≡ record { lines = lines; end = end }))
          → ((taken : List ℕ) → (last.ended ≡ true → IsAtEnd last.left) → Ended form Told taken (over input last o n) end (form.head + 1) → P taken)
          → Took (over input last o n) most_bytes P
      turns_end end P next reads =
          ended_so input begun last o n (start.lines ++ lines) answered (form.head + 1) (form.head + (length lines + 1)) (omega (arith, written)) (omega (arith, laws.room)) end P
          (put true next) (Reads_then _ _ _ _ _ _ start_reads reads (λ bytes mid rest p q. (
            passes_then form.head (length lines + 1) bytes mid rest p.0 q.0,
            p.1 ∙ ap (behind start.lines) q.1,
          )))

      turns_cut : (P : List ℕ → Type 0)
          → Reads mid last (λ bytes rest. PassesLines (length lines) bytes rest × GoesOn (turns_by stands turn x first bytes) lines)
          → ((taken : List ℕ) → HasBegun form taken input (start.lines ++ lines) → TakesLines (form.head + answers form (start.lines ++ lines)) last.last_read taken
          → ((k : ℕ) → form.head + length lines ≤ k → IsUndecided last.ahead → WaitsBehind k taken) → P taken)
          → Took (over input last o n) most_bytes P
      turns_cut P reads =
          cut_so input begun last o n (start.lines ++ lines) answered form.head (form.head + length lines) (omega (arith, written)) (omega (arith, laws.room)) P
          (Reads_then _ _ _ _ _ _ start_reads reads (λ bytes mid rest p q. (
            passes_then form.head (length lines) bytes mid rest p.0 q.0,
            goes_behind _ _ start.lines lines p.1 q.1,
          )))

    pub turns_play : (result : GameEnd H) → TurnStep mid last p n (is_whole result) before after (PlaysTurns stands turn x first result)
        → OnOk result (last.ended ≡ true) → (result ≡ Err (Own (stops.Input inputs.Read)) → IsUndecided last.ahead)
        → GamePlays form Told most (over input last o n) result
    turns_play (Ok done) step end waits =
        turns_end step.lines step.few ends.AllPlayed _ step.written step.reads (λ taken at_end holds. (holds, at_end end))
    turns_play (Err (Own (stops.NoMove fault))) step end waits =
        turns_end step.lines step.few (ends.NoMove fault) _ step.written step.reads (λ taken at_end holds. holds)
    turns_play (Err (Own (stops.Input inputs.Read))) step end waits =
        turns_cut step.lines step.few _ step.reads (λ taken begins takes behind. (
          start.lines ++ step.lines,
          begins,
          put step.lines step.few true step.written,
          inl (length step.lines, written step.lines step.few, behind (form.head + length step.lines) (omega arith) (waits refl)),
        ))
    turns_play (Err Write) step end waits =
        turns_cut step.lines step.few _ step.reads (λ taken begins takes behind. (start.lines ++ step.lines, begins, put step.lines step.few false step.written, takes))
    turns_play (Err (Own (stops.Input (inputs.NoGame fault)))) step end waits = absurd (step.reads.fact [] (λ _. refl))
    turns_play (Err (Own (stops.Head h))) step end waits = absurd (step.reads.fact [] (λ _. refl))

  -- ---- where no stream failed

  -- the end of what the definitions give, by that of the run
  abbrev pub end_given : GameEnd H → Option PlayEnd
  end_given (Ok done) = Some ends.AllPlayed
  end_given (Err (Own stop)) = end_by form stop
  end_given (Err Write) = None

  pub ends_as : (status_of : H → ℕ) (s : Streams) (end : GameEnd H) → GamePlays form Told most s end → (end_status status_of end ≡ 6 → ⊥)
      → (end_status status_of end ≡ 7 → ⊥) → ((h : H) → end ≡ Err (Own (stops.Head h)) → form.end_of h ≡ None → ⊥)
      → IfSome s.input (λ bytes. end_given end ≡ Some (form.given bytes).end)
  ends_as status_of s (Ok done) o unread unwritten some = IfSome_more s.input _ _ o.holds.0.1.1 (λ bytes played. ap (λ play. Some play.end) (sym played))
  ends_as status_of s (Err (Own (stops.NoMove fault))) o unread unwritten some =
      IfSome_more s.input _ _ o.holds.1.1 (λ bytes played. ap (λ play. Some play.end) (sym played))
  ends_as status_of s (Err (Own (stops.Input (inputs.NoGame fault)))) o unread unwritten some =
      IfSome_more s.input _ _ o.holds.1.1 (λ bytes played. ap (λ play. Some play.end) (sym played))
  ends_as status_of s (Err (Own (stops.Head h))) o unread unwritten some = of_end (form.end_of h) refl o.holds
    where
      of_end : (end : Option PlayEnd) → form.end_of h ≡ end → EndedBefore form Told o.taken s end (form.until h)
          → IfSome s.input (λ bytes. form.end_of h ≡ Some (form.given bytes).end)
      of_end None e holds = absurd (some h refl e)
      of_end (Some end) e holds = IfSome_more s.input _ _ holds.1.1 (λ bytes played. e ∙ ap (λ play. Some play.end) (sym played))
  ends_as status_of s (Err (Own (stops.Input inputs.Read))) o unread unwritten some = absurd (unread refl)
  ends_as status_of s (Err Write) o unread unwritten some = absurd (unwritten refl)

  -- a run that is stopped isn't played to its end
  pub all_done : (status_of : H → ℕ) → ((h : H) → form.end_of h ≡ Some ends.AllPlayed → ⊥) → (end : GameEnd H)
      → end_given end ≡ Some ends.AllPlayed → end_status status_of end ≡ 0
  all_done status_of other (Ok done) is = refl
  all_done status_of other (Err (Own (stops.Head h))) is = absurd (other h is)
  all_done status_of other (Err (Own (stops.NoMove fault))) is = absurd (cc is)
  all_done status_of other (Err (Own (stops.Input (inputs.NoGame fault)))) is = absurd (cc is)
  all_done status_of other (Err (Own (stops.Input inputs.Read))) is = absurd (cc is)
  all_done status_of other (Err Write) is = absurd (cc is)

  -- ---- however it ends

  still_before : (s : Streams) (taken : List ℕ) (end : Option PlayEnd) (besides : ℕ) → EndedBefore form Told taken s end besides → StillHolds s.old s.new
  still_before s taken (Some end) besides holds = appended_still s.old s.new _ holds.3
  still_before s taken None besides holds = appended_still s.old s.new _ holds.2

  -- what the sink held stands there still
  pub game_held : (s : Streams) (end : GameEnd H) → GamePlays form Told most s end → StillHolds s.old s.new
  game_held s (Ok done) o = appended_still s.old s.new _ o.holds.0.3
  game_held s (Err (Own (stops.NoMove fault))) o = appended_still s.old s.new _ o.holds.3
  game_held s (Err (Own (stops.Input (inputs.NoGame fault)))) o = appended_still s.old s.new _ o.holds.3
  game_held s (Err (Own (stops.Head h))) o = still_before s o.taken (form.end_of h) (form.until h) o.holds
  game_held s (Err (Own (stops.Input inputs.Read))) o = appended_still s.old s.new _ o.holds.2
  game_held s (Err Write) o = cut_still s.old s.new _ o.holds.2

-- where the source failed before the moves, with no head of the command's own that has this status
pub read_stop : {H : Type 0} (status_of : H → ℕ) (stop : GameStop H) → ((h : H) → status_of h ≡ 6 → ⊥) → stop_status status_of stop ≡ 6
    → stop ≡ stops.Input inputs.Read
read_stop status_of (stops.Input why) other is = ap (λ why. stops.Input why) (read_status why is)
read_stop status_of (stops.Head h) other is = absurd (other h is)
read_stop status_of (stops.NoMove fault) other is = absurd (cc is)

pub unwritten_stop : {H : Type 0} (status_of : H → ℕ) (stop : GameStop H) → ((h : H) → status_of h ≡ 7 → ⊥) → stop_status status_of stop ≡ 7 → ⊥
unwritten_stop status_of (stops.Input why) other is = unwritten_status why is
unwritten_stop status_of (stops.Head h) other is = other h is
unwritten_stop status_of (stops.NoMove fault) other is = cc is
