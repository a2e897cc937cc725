-- The start law and the step law, at the first move in a zone.
use Rattle.std.proofs.Common.{◌≡◌, Bool, true, List, Option, refl, ◌∙◌}
use Rattle.game_rules.specs.Board.{Square}
use Rattle.game_rules.specs.Position.{Position, after_move}
use Rattle.game_rules.specs.Squares.{is_playable}
use Rattle.game_rules.specs.Groups.{Group}
use Rattle.plan_rules.specs.Laws.{StartLaw, StepLaw}
use Rattle.rule_law.specs.Start.{IsStart, IsAnswer}

pub first_answer : (zone : List Square) (fitted calm : Position → Bool) (reply : Position → Square → Option Square) (line : Option Group)
    → StartLaw fitted calm line → StepLaw zone fitted calm reply → (p : Position) (last : Square) → is_playable p last ≡ true → IsStart zone fitted p last
    → (result : Option Square) → result ≡ reply (after_move p last.0) last → IsAnswer zone calm p last result
first_answer zone fitted calm reply line starts steps p last playable h result same =
    let answer = steps p p last h.fits_now refl (starts p h.fits_now).calm_now h.white playable h.owned h.founded in
    record {
      to = answer.to;
      is_result = same ∙ answer.is_reply;
      in_zone = answer.in_zone;
      playable = answer.playable;
      calm_after = answer.calm_after;
    }
