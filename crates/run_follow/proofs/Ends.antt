-- How a run of `follow` ends.
use Rattle.std.proofs.Common.{◌≡◌, ◌⊎◌, ℕ, ◌+◌, ◌≤◌, Some, None, refl, ap, ◌∙◌, inl, inr, arith}
use Rattle.std.proofs.lemmas.Bool.{cases_eq}
use Rattle.game_rules.specs.declared.Side.{Side}
use Rattle.play_text.specs.Play as ends
use Rattle.follow_text.specs.Told.{IsTold}
use Rattle.follow_text.proofs.Tells.{follow_is_told}
use Rattle.run_frame.specs.Streams.{Streams}
use Rattle.run_frame.specs.declared.game_input.InputStop.TheVariants as inputs
use Rattle.run_frame.proofs.Inputs.{of_each, IfSome_more}
use Rattle.run_frame.proofs.Owed.{owed}
use Rattle.run_proof.specs.Whole.{most_lines_read}
use Rattle.run_proof.specs.declared.stop.ProofStop.TheVariants.{Input, Refused, Memory}
use Rattle.run_turns.specs.Games.{GameEnd}
use Rattle.run_turns.proofs.Plays.{HasLaws, ends_as, all_done, game_held}
use Rattle.run_follow.specs.Follows.{head_status, head_end, follow_form, most_follow_lines, follow_status, Follows, FollowCompletes, FollowOwes}
use Rattle.run_follow.specs.declared.not_followed.NotFollowed.{NotFollowed}
use Rattle.run_follow.specs.declared.not_followed.NotFollowed.TheVariants.{Proof, NoClaim}

pub follow_laws : (holder : Side) (head opening : ℕ) → 3 ≤ head → head + 1 ≤ most_lines_read
    → HasLaws (follow_form holder head opening) (IsTold holder) most_follow_lines
follow_laws holder head opening from few = record {
  told = follow_is_told holder;
  head = omega (arith, from);
  unread = omega arith;
  room = omega (arith, few);
}

-- what would have gone on
open_head : (h : NotFollowed) → head_end h ≡ None → (head_status h ≡ 6) ⊎ (head_status h ≡ 8)
open_head (Proof (Input (inputs.NoGame fault))) none = absurd (cc none)
open_head (Proof (Input inputs.Read)) none = inl refl
open_head (Proof (Refused r)) none = absurd (cc none)
open_head (Proof Memory) none = inr refl
open_head (NoClaim at) none = absurd (cc none)

not_all : (h : NotFollowed) → head_end h ≡ Some ends.AllPlayed → ⊥
not_all (Proof (Input (inputs.NoGame fault))) is = cc is
not_all (Proof (Input inputs.Read)) is = cc is
not_all (Proof (Refused r)) is = cc is
not_all (Proof Memory) is = cc is
not_all (NoClaim at) is = cc is

module _ (holder : Side) (s : Streams) (end : GameEnd NotFollowed) where
  -- where no stream failed
  follow_completes : Follows holder s end → (follow_status end ≡ 6 → ⊥) → (follow_status end ≡ 7 → ⊥) → FollowCompletes holder s.input (follow_status end)
  follow_completes o unread unwritten = elim (cases_eq (follow_status end) 8) [
    | inl memory ↦ of_each s.input _ (λ bytes all. inr memory)
    | inr other ↦
        let form = follow_form holder o.head o.opening in
        let laws = follow_laws holder o.head o.opening o.from o.few in
        IfSome_more s.input _ _
        (ends_as form (IsTold holder) most_follow_lines laws head_status s end o.plays unread unwritten (λ h is none. elim (open_head h none) [
          | inl six ↦ unread (ap follow_status is ∙ six)
          | inr eight ↦ other (ap follow_status is ∙ eight)
        ]))
        (λ bytes is right. inl (all_done form (IsTold holder) most_follow_lines laws head_status not_all end (is ∙ ap Some right)))
  ]

  pub follow_owes : (unread unwritten : Type 0) → Follows holder s end → (follow_status end ≡ 6 → unread) → (follow_status end ≡ 7 → unwritten)
      → FollowOwes holder s unread unwritten end
  follow_owes unread unwritten = owed follow_status (Follows holder) (FollowCompletes holder) s unread unwritten end
      (λ o. game_held (follow_form holder o.head o.opening) (IsTold holder) most_follow_lines (follow_laws holder o.head o.opening o.from o.few) s end o.plays)
      follow_completes
