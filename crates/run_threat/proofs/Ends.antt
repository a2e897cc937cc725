-- How a run of `threat` ends.
use Rattle.std.proofs.Common.{◌≡◌, Some, Ok, Err, refl, ap, ◌∙◌, arith}
use Rattle.play_text.specs.Play as ends
use Rattle.threat_text.specs.Told.{IsTold}
use Rattle.threat_text.proofs.Steps.{threat_is_told}
use Rattle.run_frame.specs.Streams.{Streams}
use Rattle.run_frame.specs.declared.game_input.InputStop.TheVariants as inputs
use Rattle.run_frame.specs.declared.run_stop.RunStop.TheVariants.{Own, Write}
use Rattle.run_frame.proofs.Inputs.{IfSome_more}
use Rattle.run_frame.proofs.Owed.{owed}
use Rattle.run_turns.specs.Games.{GameEnd}
use Rattle.run_turns.specs.declared.game_end.GameStop.TheVariants as stops
use Rattle.run_turns.proofs.Plays.{HasLaws, end_given, ends_as, all_done, game_held}
use Rattle.run_threat.specs.Threatens.{threat_form, head_status, most_threat_lines, threat_status, Threatens, ThreatCompletes, ThreatOwes}
use Rattle.run_threat.specs.declared.no_threat.NoThreat.{NoThreat}

pub threat_laws : HasLaws threat_form IsTold most_threat_lines
threat_laws = record {
  told = threat_is_told;
  head = omega arith;
  unread = omega arith;
  room = omega arith;
}

-- a run that ends without a threat says so
none_said : (end : GameEnd NoThreat) → end_given threat_form IsTold most_threat_lines threat_laws end ≡ Some ends.NoThreat → threat_status end ≡ 5
none_said (Ok done) is = absurd (cc is)
none_said (Err (Own (stops.Head none))) is = refl
none_said (Err (Own (stops.NoMove fault))) is = absurd (cc is)
none_said (Err (Own (stops.Input (inputs.NoGame fault)))) is = absurd (cc is)
none_said (Err (Own (stops.Input inputs.Read))) is = absurd (cc is)
none_said (Err Write) is = absurd (cc is)

-- where no stream failed
threat_completes : (s : Streams) (end : GameEnd NoThreat) → Threatens s end → (threat_status end ≡ 6 → ⊥) → (threat_status end ≡ 7 → ⊥)
    → ThreatCompletes s.input (threat_status end)
threat_completes s end o unread unwritten =
    let ended = ends_as threat_form IsTold most_threat_lines threat_laws head_status s end o unread unwritten (λ none is never. cc never) in (
      IfSome_more s.input _ _ ended
          (λ bytes is right. all_done threat_form IsTold most_threat_lines threat_laws head_status (λ none is. cc is) end (is ∙ ap Some right)),
      IfSome_more s.input _ _ ended (λ bytes is right. none_said end (is ∙ ap Some right)),
    )

pub threat_owes : (s : Streams) (unread unwritten : Type 0) (end : GameEnd NoThreat) → Threatens s end → (threat_status end ≡ 6 → unread)
    → (threat_status end ≡ 7 → unwritten) → ThreatOwes s unread unwritten end
threat_owes s unread unwritten end = owed threat_status Threatens ThreatCompletes s unread unwritten end
    (game_held threat_form IsTold most_threat_lines threat_laws s end) (threat_completes s end)
