-- Before: where White stands directly above each empty square of the line, all of the line is Black's.
use Rattle.std.proofs.Common.{◌≡◌, true, false, ◌||◌, Some, refl, ◌∙◌, inl, inr, arith}
use Rattle.std.proofs.lemmas.Bool.{both_ways, and_parts, or_cases, false_from_ne_true}
use Rattle.game_rules.specs.Board.{Square}
use Rattle.game_rules.specs.Position.{Position, board_of, has_man}
use Rattle.game_rules.specs.Groups.{Group, squares_of}
use Rattle.game_rules.specs.declared.Side.TheVariants.{White}
use Rattle.game_rules.proofs.Ends.{on_board_parts}
use Rattle.plan_rules.specs.Squares.{above}
use Rattle.plan_rules.specs.Rules.{before, fits, reply_to, barred, is_supported, is_open_line, is_low_line, Facts}
use Rattle.plan_rules.specs.Calm.{is_calm}
use Rattle.plan_rules.specs.Laws.{BarLaw, AreTrue}
use Rattle.plan_rules.proofs.Grounds.{fits_more}
use Rattle.plan_rules.proofs.Words.{no_facts}
use Rattle.plan_rules.proofs.Lines.{each_of_gives, open_lies, line_square_on, line_black, black_under, no_step}
use Rattle.plan_rules.specs.Lawful.{Lawful}

-- White doesn't own an upper square, nor a square of a pair below another one of White's
pub not_white : (facts : Facts) (q : Position) (u : Square) → AreTrue facts.upper facts.pair facts.twin q → (facts.upper u || facts.pair u) ≡ true
    → has_man q White (above u) ≡ true → has_man q White u ≡ false
not_white facts q u are_true one over = elim (or_cases (facts.upper u) (facts.pair u) one) [
  | inl upper ↦ are_true.uppers u upper
  | inr pair ↦ false_from_ne_true _ (λ white. both_ways (has_man q White (above u)) (are_true.pairs u pair white) over)
]

pub low_open : (p : Position) (g : Group) → is_low_line p g ≡ true → is_open_line p g ≡ true
low_open p g h = (and_parts (is_open_line p g) _ h).0

pub before_bars : (g : Group) → BarLaw (fits (before g)) (is_supported (before g)) (is_calm (before g)) (barred (before g)) (Some g)
before_bars g p q facts set fitted empty supported calm are_true stay held owns =
    let is_open = low_open p g (fits_more (before g) p fitted) in
    line_black p q g is_open stay (λ u in_line empty_at.
    let one = each_of_gives facts.empty (λ u. facts.upper u || facts.pair u) (squares_of g) u supported in_line (empty u ∙ empty_at) in
    let over = owns (above u) (each_of_gives facts.empty (λ u. set (above u)) (squares_of g) u held in_line (empty u ∙ empty_at)) in
    let row = (on_board_parts (board_of p) u.0 u.1 (line_square_on p g is_open u in_line)).1 in
    black_under q u (above u) row refl (omega arith) over (not_white facts q u are_true one over))

pub before_laws : (g : Group) → Lawful (before g)
before_laws g = record {
  starts = λ p fitted. record { calm_now = refl; line_on_board = open_lies p g (low_open p g (fits_more (before g) p fitted)) };
  is_local = λ p q same calm. refl;
  steps = no_step (fits (before g)) (is_calm (before g)) (reply_to (before g));
  keeps = λ p q fitted calm. no_facts q;
  bars = before_bars g;
}
