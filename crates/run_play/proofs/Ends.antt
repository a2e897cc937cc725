-- How a run of `play` ends.
use Rattle.std.proofs.Common.{◌≡◌, Some, None, ap, ◌∙◌, arith}
use Rattle.play_text.specs.Play as ends
use Rattle.play_text.specs.Told.{IsTold}
use Rattle.play_text.proofs.Steps.{play_is_told}
use Rattle.run_frame.specs.Streams.{Streams}
use Rattle.run_frame.proofs.Inputs.{IfSome_more}
use Rattle.run_frame.proofs.Owed.{owed}
use Rattle.run_turns.specs.Games.{GameEnd}
use Rattle.run_turns.proofs.Plays.{HasLaws, ends_as, all_done, game_held}
use Rattle.run_play.specs.Plays.{play_form, head_end, head_status, most_play_lines, play_status, Plays, PlayCompletes, PlayOwes}
use Rattle.run_play.specs.declared.no_plan.NoPlan.{NoPlan}
use Rattle.run_play.specs.declared.no_plan.NoPlan.TheVariants.{NoLine, Refused}

pub play_laws : HasLaws play_form IsTold most_play_lines
play_laws = record {
  told = play_is_told;
  head = omega arith;
  unread = omega arith;
  room = omega arith;
}

-- without a plan play ends, and not by the end of the input
some_end : (none : NoPlan) → head_end none ≡ None → ⊥
some_end NoLine is = cc is
some_end (Refused fault) is = cc is

another_end : (none : NoPlan) → head_end none ≡ Some ends.AllPlayed → ⊥
another_end NoLine is = cc is
another_end (Refused fault) is = cc is

-- where no stream failed
play_completes : (s : Streams) (end : GameEnd NoPlan) → Plays s end → (play_status end ≡ 6 → ⊥) → (play_status end ≡ 7 → ⊥)
    → PlayCompletes s.input (play_status end)
play_completes s end o unread unwritten =
    IfSome_more s.input _ _ (ends_as play_form IsTold most_play_lines play_laws head_status s end o unread unwritten (λ none is. some_end none))
    (λ bytes is right. all_done play_form IsTold most_play_lines play_laws head_status another_end end (is ∙ ap Some right))

pub play_owes : (s : Streams) (unread unwritten : Type 0) (end : GameEnd NoPlan) → Plays s end → (play_status end ≡ 6 → unread)
    → (play_status end ≡ 7 → unwritten) → PlayOwes s unread unwritten end
play_owes s unread unwritten end = owed play_status Plays PlayCompletes s unread unwritten end
    (game_held play_form IsTold most_play_lines play_laws s end) (play_completes s end)
