-- Vertical: White never owns a square of a pair together with the one above.
use Rattle.std.proofs.Common.{None, refl}
use Rattle.std.proofs.lemmas.Bool.{both_ways, and_parts}
use Rattle.game_rules.specs.Board.{Square}
use Rattle.game_rules.specs.Position.{has_man}
use Rattle.game_rules.specs.declared.Side.TheVariants.{White}
use Rattle.plan_rules.specs.Squares.{above}
use Rattle.plan_rules.specs.Rules.{vertical, fits, reply_to, barred, is_supported}
use Rattle.plan_rules.specs.Calm.{is_calm}
use Rattle.plan_rules.specs.Laws.{BarLaw}
use Rattle.plan_rules.proofs.Words.{no_facts}
use Rattle.plan_rules.proofs.Lines.{no_step}
use Rattle.plan_rules.specs.Lawful.{Lawful}

pub vertical_bars : (e : Square) → BarLaw (fits (vertical e)) (is_supported (vertical e)) (is_calm (vertical e)) (barred (vertical e)) None
vertical_bars e p q facts set fitted empty supported calm are_true stay held owns =
    let both = and_parts _ _ held in both_ways (has_man q White (above e)) (are_true.pairs e supported (owns e both.0)) (owns (above e) both.1)

pub vertical_laws : (e : Square) → Lawful (vertical e)
vertical_laws e = record {
  starts = λ p fitted. record { calm_now = refl; line_on_board = tt };
  is_local = λ p q same calm. refl;
  steps = no_step (fits (vertical e)) (is_calm (vertical e)) (reply_to (vertical e));
  keeps = λ p q fitted calm. no_facts q;
  bars = vertical_bars e;
}
