-- How a run of `annotate` ends.
use Rattle.std.proofs.Common.{◌≡◌, ℕ, Ok, Err, refl, sym, ◌∙◌, inl, inr}
use Rattle.run_frame.specs.Streams.{Streams, StillHolds}
use Rattle.run_frame.specs.declared.game_input.InputStop.TheVariants as stops
use Rattle.run_frame.specs.declared.run_stop.MemoryStop.TheVariants.{Input, Memory}
use Rattle.run_frame.specs.declared.run_stop.RunStop.TheVariants.{Own, Write}
use Rattle.run_frame.proofs.Owed.{owed}
use Rattle.run_frame.proofs.Inputs.{IfSome_more, of_each, kept_still, appended_still, cut_still, unread_still}
use Rattle.run_annotate.specs.Annotates.{Annotated, annotated_status, Annotates, AnnotateCompletes, AnnotateOwes}

module _ (nodes reach last : ℕ) (s : Streams) where
  pub annotate_completes : (end : Annotated) → Annotates nodes reach last s end → (annotated_status end ≡ 6 → ⊥) → (annotated_status end ≡ 7 → ⊥)
      → AnnotateCompletes s.input (annotated_status end)
  annotate_completes (Ok done) o unread unwritten = of_each s.input _ (λ bytes p game. inl refl)
  annotate_completes (Err (Own Memory)) o unread unwritten = of_each s.input _ (λ bytes p game. inr refl)
  annotate_completes (Err (Own (Input (stops.NoGame fault)))) o unread unwritten =
      IfSome_more s.input _ _ o.holds.1 (λ bytes at p game. absurd (cc (sym game ∙ at)))
  annotate_completes (Err (Own (Input stops.Read))) o unread unwritten = absurd (unread refl)
  annotate_completes (Err Write) o unread unwritten = absurd (unwritten refl)

  -- however it ends, what the sink held stands there still
  pub annotate_held : (end : Annotated) → Annotates nodes reach last s end → StillHolds s.old s.new
  annotate_held (Ok done) o = appended_still s.old s.new _ o.holds.0.puts.written
  annotate_held (Err Write) o = cut_still s.old s.new _ o.holds.0.puts.written
  annotate_held (Err (Own Memory)) o = kept_still s.old s.new o.holds.2
  annotate_held (Err (Own (Input stop))) o = unread_still s o.taken stop o.holds

  pub annotate_owes : (unread unwritten : Type 0) (end : Annotated) → Annotates nodes reach last s end → (annotated_status end ≡ 6 → unread)
      → (annotated_status end ≡ 7 → unwritten) → AnnotateOwes nodes reach last s unread unwritten end
  annotate_owes unread unwritten end =
      owed annotated_status (Annotates nodes reach last) AnnotateCompletes s unread unwritten end (annotate_held end) (annotate_completes end)
