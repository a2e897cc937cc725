-- How a run of `trim` ends.
use Rattle.std.proofs.Common.{◌≡◌, ℕ, true, false, List, ◌++◌, length, Option, None, Ok, Err, refl, sym, ap, ◌∙◌, subst, inl, inr}
use Rattle.std.proofs.KnownBytes.{Keeps-trans}
use Rattle.game_rules.specs.Position.{Position}
use Rattle.game_rules.specs.Game.{board_played}
use Rattle.proof_text.specs.Lemma.{Lemma}
use Rattle.proof_text.specs.Texts.{lemmas_among, head_of, IsRightText}
use Rattle.tool_text.specs.Trim.{CitesEarlier, numbers_named, trimmed_lines}
use Rattle.proof_tools.specs.Reach.{AreWithin}
use Rattle.run_frame.specs.Streams.{Streams, StillHolds}
use Rattle.run_frame.specs.declared.game_input.InputStop.TheVariants as inputs
use Rattle.run_frame.specs.declared.run_stop.MemoryStop.TheVariants.{Input, Memory}
use Rattle.run_frame.specs.declared.run_stop.RunStop.{RunStop}
use Rattle.run_frame.specs.declared.run_stop.RunStop.TheVariants.{Own, Write}
use Rattle.run_frame.proofs.Owed.{owed}
use Rattle.run_frame.proofs.Inputs.{of_each, IfSome_more, kept_still, appended_still, cut_still}
use Rattle.run_proof.specs.Judged.{Judges}
use Rattle.run_proof.specs.Whole.{IsRightInput}
use Rattle.run_proof.specs.declared.reading.ProofRead.{ProofRead}
use Rattle.run_proof.specs.declared.stop.ProofStop.{ProofStop}
use Rattle.run_proof.specs.declared.stop.ProofStop.TheVariants as stops
use Rattle.run_proof.proofs.Judging.{put_behind}
use Rattle.run_trim.specs.Trims.{IsTrimmed, PutsTrimmed, Trimmed, trimmed_status, TrimsFrom, Trims, TrimCompletes, TrimOwes}
use Rattle.run_proof.proofs.Texts.{version_first, text_read, head_read, lemmas_read}
use Rattle.run_trim.proofs.Trimming.{lemmas_ordered, verdict_within, trims}

-- a book that had no lemma has those that the text says
module _ (s : Streams) (mid : Option (List ℕ)) (book : List Lemma) (proof : ProofRead)
    (judged : Judges None (λ root ls. book ≡ ls) (record s { new = mid }) (Ok proof)) where
  abbrev right : IsRightInput None judged.taken s.left proof.accepted.verdict proof.accepted.lemmas
  right = judged.holds.0.0.0

  text : IsRightText proof.head.version judged.taken proof.accepted.verdict proof.accepted.lemmas
  text = text_read None judged.taken proof.head.version proof.head.game (version_first proof.head.version) judged.holds.0.0.1 proof.accepted.verdict proof.accepted.lemmas right.accepted

  book_is : book ≡ lemmas_among text.entries
  unfolding text
  book_is = judged.holds.0.0.2
      ∙ lemmas_read None judged.taken proof.head.version proof.head.game (version_first proof.head.version) judged.holds.0.0.1 proof.accepted.verdict proof.accepted.lemmas right.accepted

  abbrev head_text : List ℕ
  head_text = head_of proof.head.version (board_played proof.head.game) proof.head.game.moves

  head_is : head_text ≡ head_of proof.head.version text.board text.columns
  unfolding text
  head_is = head_read None judged.taken proof.head.version proof.head.game (version_first proof.head.version) judged.holds.0.0.1 proof.accepted.verdict proof.accepted.lemmas right.accepted

  pub book_ordered : CitesEarlier 1 book
  book_ordered = subst (CitesEarlier 1) (sym book_is)
      (lemmas_ordered proof.head.version judged.taken proof.accepted.verdict proof.accepted.lemmas text)

  pub book_named : AreWithin (length book) (numbers_named proof.accepted.verdict)
  book_named = subst (λ ls. AreWithin (length ls) (numbers_named proof.accepted.verdict)) (sym book_is)
      (verdict_within proof.head.version judged.taken proof.accepted.verdict proof.accepted.lemmas text)

  is : IsTrimmed judged.taken (head_text ++ trimmed_lines book proof.accepted.verdict)
  is = trims proof.head.version judged.taken proof.accepted.verdict proof.accepted.lemmas text (head_text ++ trimmed_lines book proof.accepted.verdict)
      (ap (λ ls. head_text ++ trimmed_lines ls proof.accepted.verdict) book_is
      ∙ ap (λ head. head ++ trimmed_lines (lemmas_among text.entries) proof.accepted.verdict) head_is)

  pub trims_read : (end : Trimmed) → PutsTrimmed proof.head.version proof.head.game book proof.accepted.verdict mid s.new end → Trims s end
  trims_read end puts = record { taken = judged.taken; gave = judged.gave; few = judged.few; holds = (of end puts, judged.holds.1) }
    where
      of : (end : Trimmed) → PutsTrimmed proof.head.version proof.head.game book proof.accepted.verdict mid s.new end → TrimsFrom judged.taken s end
      of (Ok done) puts = record { text = _; is = is; all = right.whole; written = put_behind true s.old mid s.new _ judged.holds.0.1 puts }
      of (Err Write) puts = record { text = _; is = is; all = right.whole; written = put_behind false s.old mid s.new _ judged.holds.0.1 puts }
      of (Err (Own Memory)) kept = ((proof.accepted.verdict, proof.accepted.lemmas, right), Keeps-trans s.old mid s.new judged.holds.0.1 kept)
      of (Err (Own (Input stop))) never = absurd never

pub trims_stop : (Holds : Position → List Lemma → Type 0) (s : Streams) (found : RunStop ProofStop) (stop : ProofStop) → found ≡ Own stop
    → Judges None Holds s (Err found) → Trims s (Err (Own (Input stop)))
trims_stop Holds s found stop is given =
    let P : RunStop ProofStop → Type 0 = λ found. Judges None Holds s (Err found) in
    let judged : P (Own stop) = subst P is given in
    record { taken = judged.taken; gave = judged.gave; few = judged.few; holds = judged.holds }

pub trim_completes : (s : Streams) (end : Trimmed) → Trims s end → (trimmed_status end ≡ 6 → ⊥)
    → (trimmed_status end ≡ 7 → ⊥)
    → TrimCompletes s.input (trimmed_status end)
trim_completes s (Ok done) o unread unwritten = of_each s.input _ (λ bytes v count right. inl refl)
trim_completes s (Err (Own Memory)) o unread unwritten = of_each s.input _ (λ bytes v count right. inr refl)
trim_completes s (Err (Own (Input stops.Memory))) o unread unwritten = of_each s.input _ (λ bytes v count right. inr refl)
trim_completes s (Err (Own (Input (stops.Input (inputs.NoGame fault))))) o unread unwritten = IfSome_more s.input _ _ o.holds.0.0.0.1
    (λ bytes refused v count right. absurd (cc (sym right ∙ refused)))
trim_completes s (Err (Own (Input (stops.Refused refusal)))) o unread unwritten = IfSome_more s.input _ _ o.holds.0.0.0.1
    (λ bytes refused v count right. absurd (cc (sym right ∙ refused)))
trim_completes s (Err (Own (Input (stops.Input inputs.Read)))) o unread unwritten = absurd (unread refl)
trim_completes s (Err Write) o unread unwritten = absurd (unwritten refl)

-- however it ends, what the sink held stands there still
pub trim_held : (s : Streams) (end : Trimmed) → Trims s end → StillHolds s.old s.new
trim_held s (Ok done) o = appended_still s.old s.new _ o.holds.0.written
trim_held s (Err Write) o = cut_still s.old s.new _ o.holds.0.written
trim_held s (Err (Own Memory)) o = kept_still s.old s.new o.holds.0.1
trim_held s (Err (Own (Input stop))) o = kept_still s.old s.new o.holds.0.1

pub trim_owes : (s : Streams) (unread unwritten : Type 0) (end : Trimmed) → Trims s end → (trimmed_status end ≡ 6 → unread)
    → (trimmed_status end ≡ 7 → unwritten) → TrimOwes s unread unwritten end
trim_owes s unread unwritten end = owed trimmed_status Trims TrimCompletes s unread unwritten end (trim_held s end) (trim_completes s end)
