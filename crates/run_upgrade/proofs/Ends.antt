-- How a run of `upgrade` ends.
use Rattle.std.proofs.Common.{◌≡◌, ℕ, Bool, true, false, List, [], ◌++◌, length, Option, Some, Ok, Err, refl, sym}
use Rattle.std.proofs.Common.{ap, ◌∙◌, subst, append-nil, inl, inr, arith}
use Rattle.std.specs.Io.KnownBytes.{Keeps, Appends}
use Rattle.std.proofs.KnownBytes.{Appends-trans, Appends-kept}
use Rattle.device_rules.specs.Devices.{AppendsPrefix, Rose}
use Rattle.device_rules.proofs.DeviceLaws.{AppendsPrefix_all, AppendsPrefix_take, AppendsPrefix_more}
use Rattle.game_rules.specs.Game.{board_played}
use Rattle.io_ports.specs.Reading.{Pending, Reads, PassesLines}
use Rattle.io_ports.proofs.Reading.{Reads_more}
use Rattle.proof_text.specs.Lemma.{Lemma}
use Rattle.proof_text.specs.Right.{AreRight, IsVerdict}
use Rattle.proof_text.specs.Spelling.{lines_of, verdict_line}
use Rattle.proof_text.specs.Texts as answers
use Rattle.proof_text.specs.Texts.{pieces, lines_in, first_line, first_number, start, head_of, verdict_answer, lemmas_among, IsRightText}
use Rattle.proof_text.specs.Upgrade.{upgraded, upgraded_text}
use Rattle.proof_text.specs.Written.{IsLastLine}
use Rattle.proof_text.specs.declared.Verdict.{Verdict}
use Rattle.proof_text.specs.declared.Version.{Version}
use Rattle.proof_text.specs.declared.Version.TheVariants.{One, Two}
use Rattle.proof_text.proofs.Upgraded.{text_upgraded}
use Rattle.run_frame.specs.Streams.{Streams, StillHolds}
use Rattle.run_frame.specs.declared.game_input.InputStop.TheVariants as inputs
use Rattle.run_frame.specs.declared.run_stop.RunStop.{RunStop}
use Rattle.run_frame.specs.declared.run_stop.RunStop.TheVariants.{Own, Write}
use Rattle.run_frame.proofs.Inputs.{of_each, IfSome_more, kept_still, appended_still, cut_still}
use Rattle.run_frame.proofs.Owed.{owed}
use Rattle.run_frame.proofs.Taken.{fresh}
use Rattle.run_proof.specs.Heads.{Begins, StopsBy, IsFirstStop, head_lines}
use Rattle.run_proof.specs.Lines.{Progress, begin, HasLines, HasRead, Cuts, AreAll, StopsIn, StopsBehind, Says, ReadsLines}
use Rattle.run_proof.specs.Stops.{IsCausedBy}
use Rattle.run_proof.specs.Whole.{judged}
use Rattle.run_proof.specs.declared.head.Head.{Head}
use Rattle.run_proof.specs.declared.lines.LinesRead.{LinesRead}
use Rattle.run_proof.specs.declared.lines.Until.TheVariants.{End}
use Rattle.run_proof.specs.declared.stop.ProofStop.{ProofStop}
use Rattle.run_proof.specs.declared.stop.ProofStop.TheVariants as stops
use Rattle.run_proof.proofs.Heads.{lines_behind, judged_behind, says_all}
use Rattle.run_proof.proofs.Judging.{over, took, is_stopped, first_few, all_read, some_read, stop_read}
use Rattle.run_proof.proofs.Known.{right_input}
use Rattle.run_proof.proofs.Named.{named_is_asked}
use Rattle.run_proof.proofs.Stand.{stand_root, stand_right, stand_verdict}
use Rattle.run_proof.proofs.Texts.{text_read, lemmas_read}
use Rattle.run_upgrade.specs.Upgrades.{Upgraded, upgrade_status, IsToldVerdict, HasWritten, StopsWriting, Upgrades, UpgradeCompletes, UpgradeOwes}
use Rattle.run_upgrade.specs.Writing.{upgraded_line}
use Rattle.run_upgrade.proofs.Written.{put_lines}

first_writes : (taken : List ℕ) (old new : Option (List ℕ)) (stop : ProofStop) → IsFirstStop stop → Keeps old new → StopsWriting taken old new stop
first_writes taken old new (stops.Input (inputs.NoGame fault)) first kept = kept
first_writes taken old new (stops.Input inputs.Read) first kept = inl kept
first_writes taken old new (stops.Refused r) first kept = inl (first, kept)
first_writes taken old new stops.Memory first kept = absurd first

-- it stopped in the head
pub ends_first : (input : Option (List ℕ)) (begun : ℕ) (last : Pending) (old new : Option (List ℕ)) (stop : ProofStop) (before after : ℕ) → IsFirstStop stop
    → Reads (fresh input begun) last (λ bytes rest. PassesLines (head_lines stop) bytes rest × StopsBy (Some One) bytes before after stop) → Keeps old new
    → Upgrades (over input last old new) (Err (Own stop))
ends_first input begun last old new stop before after first reads kept =
    took input begun last old new (head_lines stop) (λ bytes. StopsBy (Some One) bytes before after stop) _ (first_few stop first).1 reads
    (λ taken here all lines. (
      is_stopped input begun last old new (Some One) stop (head_lines stop) before after taken here all (first_few stop first).0 lines,
      first_writes taken old new stop first kept,
    ))

-- what is said of the bytes of a proof that is accepted
module _ (head : Head) (t : Progress) (bytes : List ℕ) (has : HasLines (Some One) head t bytes []) (v : Verdict) (count : ℕ)
    (accepted : judged (Some One) bytes ≡ answers.Accepted v count) where
  text : IsRightText head.version bytes v count
  text = text_read (Some One) bytes head.version head.game has.is_asked (record { more = has.more; cut = has.cut; text = has.text }) v count accepted

  lemmas_are : lemmas_among text.entries ≡ t.lemmas
  unfolding text
  lemmas_are = sym (lemmas_read (Some One) bytes head.version head.game has.is_asked (record { more = has.more; cut = has.cut; text = has.text }) v count accepted)
      ∙ says_all (Some One) head t bytes has

  upgrade_right : IsRightText Two (upgraded_text head.game.position (board_played head.game) head.game.moves t.lemmas v) v count
  unfolding text text_read
  upgrade_right =
      let P : Version → Type 0 = λ version. (text : IsRightText version bytes v count)
      → IsRightText Two (upgraded_text text.root text.board text.columns (lemmas_among text.entries) v) v count in
      let one : head.version ≡ One = named_is_asked (Some One) (first_line head.version) head.version has.is_asked in
      subst (λ ls. IsRightText Two (upgraded_text head.game.position (board_played head.game) head.game.moves ls v) v count) lemmas_are
      (subst P (sym one) (text_upgraded bytes v count) text)

module _ (input : Option (List ℕ)) (begun : ℕ) (head : Head) (mid last : Pending) (old held new : Option (List ℕ))
    (first : Reads (fresh input begun) mid (λ bytes rest. PassesLines 3 bytes rest × Begins (Some One) head bytes rest)) where
  abbrev head_text : List ℕ
  head_text = head_of Two (board_played head.game) head.game.moves

  abbrev lemma_text : Progress → List ℕ
  lemma_text t = lines_of (upgraded head.game.position [] t.lemmas)

  has_written : (whole : Bool) (bytes : List ℕ) (t : Progress) (rest : List (List ℕ)) → HasLines (Some One) head t bytes rest → (last : List ℕ)
      → IsLastLine head.game.position t.stands.known last → IsToldVerdict bytes last
      → AppendsPrefix whole old new (head_text ++ (lemma_text t ++ last)) → HasWritten whole bytes t.next last old new
  has_written whole bytes t rest has last ends verdict put = record {
    head = head;
    read = t;
    rest = rest;
    lines = has;
    before = refl;
    right = subst (λ ls. AreRight head.game.position [] ls t.stands.known) (sym has.passes.say)
        (stand_right head.version (start head.game.position) t.stands first_number [] has.lines has.passes.stand refl);
    ends = ends;
    verdict = verdict;
    written = put;
  }

  -- the head couldn't be written
  pub ends_head : AppendsPrefix false old new head_text → Upgrades (over input mid old new) (Err Write)
  ends_head put = took input begun mid old new 3 (λ bytes. HasWritten false bytes first_number [] old new) _ (omega arith)
      (Reads_more _ _ _ _ first (λ bytes rest p. (
        p.0,
        has_written false bytes (begin head.game.position) (lines_in (pieces rest))
            (lines_behind (Some One) head (begin head.game.position) bytes rest [] (lines_in (pieces rest)) p.1
            (record { stand = refl; counted = omega arith; say = refl }) refl)
            [] (inl refl) (inl refl) (AppendsPrefix_take old new head_text [] put),
      )))
      (λ taken here all lines. (first_number, [], here))

  module _ (put : Appends old held head_text) (t : Progress) where
    abbrev Read : Bool → Option (List ℕ) → (List (List ℕ) → List ℕ → List ℕ → Type 0) → Type 0
    Read whole sent Ends = HasRead head.version upgraded_line whole (begin head.game.position) t mid last held sent Ends

    read_text : (whole : Bool) (sent : Option (List ℕ)) (Ends : List (List ℕ) → List ℕ → List ℕ → Type 0) → Read whole sent Ends
        → AppendsPrefix whole held sent (lemma_text t)
    read_text whole sent Ends read = subst (AppendsPrefix whole held sent)
        (put_lines head.game.position _ ∙ ap (λ ls. lines_of (upgraded head.game.position [] ls)) (sym read.passes.say)) read.written

    bare_text : AppendsPrefix false held new (lemma_text t) → AppendsPrefix false old new (head_text ++ (lemma_text t ++ []))
    bare_text text = AppendsPrefix_more false old held new head_text (lemma_text t ++ []) put (AppendsPrefix_take held new (lemma_text t) [] text)

    -- a line couldn't be written
    ends_cut : Read false new Cuts → Upgrades (over input last old new) (Err Write)
    ends_cut read =
        let some = some_read (Some One) head upgraded_line (fresh input begun) mid last held new first t false read in
        took input begun last old new t.next _ _ some.0 some.1 (λ taken here all lines. (
          t.next,
          [],
          has_written false taken t here.0 here.1 [] (inl refl) (inl refl) (bare_text (read_text false new Cuts read)),
        ))

    module _ (sent : Option (List ℕ)) (before after : ℕ) (X : Type 0) (stop : ProofStop) (read : Read true sent (StopsBehind head.version t stop))
        (cause : IsCausedBy (Rose before after) X (Own stop)) (kept : Keeps sent new) where
      text_sent : Appends held new (lemma_text t)
      text_sent = Appends-kept held sent new (lemma_text t) (read_text true sent (StopsBehind head.version t stop) read) kept

      stops_writing : (bytes : List ℕ) (more : List (List ℕ)) (stop : ProofStop) → StopsIn head.version t.stands t.next more stop
          → HasWritten true bytes t.next [] old new → StopsWriting bytes old new stop
      stops_writing bytes more (stops.Refused r) stopped wrote = inr (subst (λ at. HasWritten true bytes at [] old new) (sym stopped.0) wrote)
      stops_writing bytes more (stops.Input (inputs.NoGame fault)) stopped wrote = absurd stopped
      stops_writing bytes more (stops.Input inputs.Read) stopped wrote = inr (t.next, wrote)
      stops_writing bytes more stops.Memory stopped wrote = (t.next, wrote)

      -- a line stopped it
      ends_stop : Upgrades (over input last old new) (Err (Own stop))
      ends_stop =
          let found = stop_read (Some One) head upgraded_line (fresh input begun) mid last held sent first t true before after X stop read cause in
          took input begun last old new found.0 _ _ found.2 found.3 (λ taken here all lines. (
            is_stopped input begun last old new (Some One) stop found.0 before after taken here.0 (IfSome_more input _ _ all (λ bytes h. h.0)) found.1 lines,
            stops_writing taken here.1.0 stop here.1.2 (has_written true taken t here.1.0 here.1.1 [] (inl refl) (inl refl)
                (subst (λ more. Appends old new (head_text ++ more)) (sym (append-nil (lemma_text t)))
                (Appends-trans old held new head_text (lemma_text t) put text_sent))),
          ))

      -- and what was written couldn't be handed on
      ends_unsent : Upgrades (over input last old new) (Err Write)
      ends_unsent =
          let found = stop_read (Some One) head upgraded_line (fresh input begun) mid last held sent first t true before after X stop read cause in
          took input begun last old new found.0 _ _ found.2 found.3 (λ taken here all lines. (
            t.next,
            [],
            has_written false taken t here.1.0 here.1.1 [] (inl refl) (inl refl) (bare_text (AppendsPrefix_all false held new (lemma_text t) text_sent)),
          ))

    module _ (all : Option (List ℕ)) (said : LinesRead) (says : Says t said) (read : Read true all AreAll) where
      abbrev v : Verdict
      v = said.accepted.verdict

      abbrev count : ℕ
      count = said.accepted.lemmas

      answer : (bytes : List ℕ) → HasLines (Some One) head t bytes [] → judged (Some One) bytes ≡ answers.Accepted v count
      answer bytes has = judged_behind (Some One) head t bytes [] has ∙ ap (verdict_answer t.next (length t.stands.known)) says.1
          ∙ ap (answers.Accepted v) (sym says.2)

      -- all was written
      pub ends_done : last.ended ≡ true → Appends all new (verdict_line v) → Upgrades (over input last old new) (Ok tt)
      ends_done ended told =
          let whole = all_read (Some One) head upgraded_line (fresh input begun) mid last held all first t true read in
          took input begun last old new t.next _ _ whole.0 whole.1 (λ taken here everywhere lines. record {
            head = head;
            read = t;
            lines = here;
            say = says_all (Some One) head t taken here;
            verdict = v;
            count = count;
            right = right_input (Some One) taken last.left v count (answer taken here) (whole.1.last (λ never. absurd (cc never)) ended);
            upgrade = upgrade_right head t taken here v count (answer taken here);
            written = Appends-trans old held new head_text (lemma_text t ++ verdict_line v) put
                (Appends-trans held all new (lemma_text t) (verdict_line v) (read_text true all AreAll read) told);
          })

      -- the verdict couldn't be written
      pub ends_last : AppendsPrefix false all new (verdict_line v) → Upgrades (over input last old new) (Err Write)
      ends_last cut =
          let whole = all_read (Some One) head upgraded_line (fresh input begun) mid last held all first t true read in
          took input begun last old new t.next _ _ whole.0 whole.1 (λ taken here everywhere lines.
          let root = stand_root head.version (start head.game.position) t.stands first_number here.lines here.passes.stand in
          let right = stand_verdict head.version (start head.game.position) t.stands first_number here.lines here.passes.stand
          (λ v is. absurd (cc is)) v says.1 in (
            t.next,
            verdict_line v,
            has_written false taken t [] here (verdict_line v) (inr (v, subst (λ root. IsVerdict root t.stands.known v) root right, refl))
                (inr (v, count, answer taken here, refl))
                (AppendsPrefix_more false old held new head_text (lemma_text t ++ verdict_line v) put
                (AppendsPrefix_more false held all new (lemma_text t) (verdict_line v) (read_text true all AreAll read) cut)),
          ))

  -- something stopped the reading behind the head
  module _ (Holds : List Lemma → Type 0) (ended : Bool) (put : Appends old held head_text) (found : RunStop ProofStop) where
    -- a line did, and what was written was handed on, or couldn't be
    pub ends_own : (sent : Option (List ℕ)) (before after : ℕ) (X : Type 0) (stop : ProofStop) → found ≡ Own stop
        → ReadsLines End head.version Holds upgraded_line head.game.position mid last ended held sent (Err found)
        → IsCausedBy (Rose before after) X found → Keeps sent new
        → Upgrades (over input last old new) (Err (Own stop)) × Upgrades (over input last old new) (Err Write)
    ends_own sent before after X stop is read cause kept =
        let P : RunStop ProofStop → Type 0 = λ found. ReadsLines End head.version Holds upgraded_line head.game.position mid last ended held sent (Err found) in
        let own : P (Own stop) = subst P is read in
        let caused : IsCausedBy (Rose before after) X (Own stop) = subst (IsCausedBy (Rose before after) X) is cause in
        (ends_stop put own.0 sent before after X stop own.3 caused kept, ends_unsent put own.0 sent before after X stop own.3 caused kept)

    -- the sink did
    pub ends_write : found ≡ Write → ReadsLines End head.version Holds upgraded_line head.game.position mid last ended held new (Err found)
        → Upgrades (over input last old new) (Err Write)
    ends_write is read =
        let P : RunStop ProofStop → Type 0 = λ found. ReadsLines End head.version Holds upgraded_line head.game.position mid last ended held new (Err found) in
        let cut : P Write = subst P is read in
        ends_cut put cut.0 cut.1

-- ---- what a caller rests on

upgrade_completes : (s : Streams) (end : Upgraded) → Upgrades s end → (upgrade_status end ≡ 6 → ⊥) → (upgrade_status end ≡ 7 → ⊥)
    → UpgradeCompletes s.input (upgrade_status end)
upgrade_completes s (Ok done) o unread unwritten = of_each s.input _ (λ bytes v count right. inl refl)
upgrade_completes s (Err (Own stops.Memory)) o unread unwritten = of_each s.input _ (λ bytes v count right. inr refl)
upgrade_completes s (Err (Own (stops.Input (inputs.NoGame fault)))) o unread unwritten = IfSome_more s.input _ _ o.holds.0.0.0.1
    (λ bytes refused v count right. absurd (cc (sym right ∙ refused)))
upgrade_completes s (Err (Own (stops.Refused refusal))) o unread unwritten = IfSome_more s.input _ _ o.holds.0.0.0.1
    (λ bytes refused v count right. absurd (cc (sym right ∙ refused)))
upgrade_completes s (Err (Own (stops.Input inputs.Read))) o unread unwritten = absurd (unread refl)
upgrade_completes s (Err Write) o unread unwritten = absurd (unwritten refl)

-- however it ends, what the sink held stands there still
put_held : (whole : Bool) (bytes : List ℕ) (at : ℕ) (last : List ℕ) (old new : Option (List ℕ)) → HasWritten whole bytes at last old new → StillHolds old new
put_held true bytes at last old new wrote = appended_still old new _ wrote.written
put_held false bytes at last old new wrote = cut_still old new _ wrote.written

stops_held : (bytes : List ℕ) (old new : Option (List ℕ)) (stop : ProofStop) → StopsWriting bytes old new stop → StillHolds old new
stops_held bytes old new (stops.Input (inputs.NoGame fault)) kept = kept_still old new kept
stops_held bytes old new (stops.Input inputs.Read) (inl kept) = kept_still old new kept
stops_held bytes old new (stops.Input inputs.Read) (inr (at, wrote)) = put_held true bytes at [] old new wrote
stops_held bytes old new (stops.Refused r) (inl (first, kept)) = kept_still old new kept
stops_held bytes old new (stops.Refused r) (inr wrote) = put_held true bytes r.at [] old new wrote
stops_held bytes old new stops.Memory (at, wrote) = put_held true bytes at [] old new wrote

upgrade_held : (s : Streams) (end : Upgraded) → Upgrades s end → StillHolds s.old s.new
upgrade_held s (Ok done) o = appended_still s.old s.new _ o.holds.0.written
upgrade_held s (Err (Own stop)) o = stops_held o.taken s.old s.new stop o.holds.0.1
upgrade_held s (Err Write) o = put_held false o.taken o.holds.0.0 o.holds.0.1 s.old s.new o.holds.0.2

pub upgrade_owes : (s : Streams) (unread unwritten : Type 0) (end : Upgraded) → Upgrades s end → (upgrade_status end ≡ 6 → unread)
    → (upgrade_status end ≡ 7 → unwritten) → UpgradeOwes s unread unwritten end
upgrade_owes s unread unwritten end = owed upgrade_status Upgrades UpgradeCompletes s unread unwritten end (upgrade_held s end) (upgrade_completes s end)
