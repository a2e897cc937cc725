-- Aftereven: where White stands above each empty square of the line, all of the line is Black's.
use Rattle.std.proofs.Common.{◌+◌, Some, refl, ◌∙◌, arith}
use Rattle.game_rules.specs.Board.{below}
use Rattle.game_rules.specs.Position.{board_of}
use Rattle.game_rules.specs.Groups.{Group, squares_of}
use Rattle.game_rules.proofs.Lists.{any_gives}
use Rattle.game_rules.proofs.Ends.{on_board_parts}
use Rattle.plan_rules.specs.Rules.{aftereven, fits, reply_to, barred, is_supported, some_above}
use Rattle.plan_rules.specs.Calm.{is_calm}
use Rattle.plan_rules.specs.Laws.{BarLaw}
use Rattle.plan_rules.proofs.Grounds.{fits_more}
use Rattle.plan_rules.proofs.Words.{no_facts}
use Rattle.plan_rules.proofs.Lines.{each_of_gives, open_lies, line_square_on, line_black, black_under, no_step}
use Rattle.plan_rules.specs.Lawful.{Lawful}

pub aftereven_bars : (g : Group) → BarLaw (fits (aftereven g)) (is_supported (aftereven g)) (is_calm (aftereven g)) (barred (aftereven g)) (Some g)
aftereven_bars g p q facts set fitted empty supported calm are_true stay held owns =
    line_black p q g (fits_more (aftereven g) p fitted) stay (λ u in_line empty_at.
    let upper = each_of_gives facts.empty facts.upper (squares_of g) u supported in_line (empty u ∙ empty_at) in
    let over = any_gives (λ i. set (u.0, u.1 + 1 + i)) (below 10)
    (each_of_gives facts.empty (some_above set) (squares_of g) u held in_line (empty u ∙ empty_at)) in
    let row = (on_board_parts (board_of p) u.0 u.1 (line_square_on p g (fits_more (aftereven g) p fitted) u in_line)).1 in
    black_under q u (u.0, u.1 + 1 + over.0) row refl (omega arith) (owns (u.0, u.1 + 1 + over.0) over.2) (are_true.uppers u upper))

pub aftereven_laws : (g : Group) → Lawful (aftereven g)
aftereven_laws g = record {
  starts = λ p fitted. record { calm_now = refl; line_on_board = open_lies p g (fits_more (aftereven g) p fitted) };
  is_local = λ p q same calm. refl;
  steps = no_step (fits (aftereven g)) (is_calm (aftereven g)) (reply_to (aftereven g));
  keeps = λ p q fitted calm. no_facts q;
  bars = aftereven_bars g;
}
