-- Specialbefore: as Before, and one square of the line isn't White's since White owns its twin.
use Rattle.std.proofs.Common.{◌≡◌, true, false, ◌&&◌, ◌||◌, Some, refl, sym, ap, ◌∙◌, inl, inr, arith}
use Rattle.std.proofs.lemmas.Bool.{both_ways, and_parts, or_cases, or_left, or_right, false_from_ne_true}
use Rattle.game_rules.specs.Board.{Square}
use Rattle.game_rules.specs.Position.{Position, board_of, has_man}
use Rattle.game_rules.specs.Groups.{Group, squares_of}
use Rattle.game_rules.specs.Squares.{same_square}
use Rattle.game_rules.specs.declared.Side.TheVariants.{White}
use Rattle.game_rules.proofs.Lists.{any_gives}
use Rattle.game_rules.proofs.Ends.{on_board_parts}
use Rattle.game_rules.proofs.Squares.{same_square_is}
use Rattle.plan_rules.specs.Squares.{above, each_of}
use Rattle.plan_rules.specs.Rules.{specialbefore, fits, reply_to, barred, is_supported, is_open_line, is_low_line, is_twin, Facts}
use Rattle.plan_rules.specs.Calm.{is_calm}
use Rattle.plan_rules.specs.Laws.{BarLaw, AreTrue}
use Rattle.plan_rules.proofs.Squares.{Among-get}
use Rattle.plan_rules.proofs.Grounds.{fits_more}
use Rattle.plan_rules.proofs.Words.{no_facts}
use Rattle.plan_rules.proofs.Lines.{each_of_gives, open_lies, line_square_on, line_black, black_under, no_step}
use Rattle.plan_rules.proofs.Before.{not_white, low_open}
use Rattle.plan_rules.specs.Lawful.{Lawful}

-- of two twins White doesn't own the one where it owns the other
twin_not_white : (facts : Facts) (q : Position) (u v : Square) → AreTrue facts.upper facts.pair facts.twin q → is_twin facts.twin u v ≡ true
    → has_man q White u ≡ true → has_man q White v ≡ false
twin_not_white facts q u v are_true twins white =
    let found = any_gives (λ twin. (same_square u twin.0 && same_square v twin.1) || (same_square u twin.1 && same_square v twin.0)) facts.twin twins in
    let at = Among-get facts.twin found.0 found.1 in
    elim (or_cases _ _ found.2) [
      | inl straight ↦
          let both = and_parts _ _ straight in
          ap (has_man q White) (same_square_is v found.0.1 both.1)
          ∙ are_true.twins at.0 found.0.0 found.0.1 at.1 (ap (has_man q White) (sym (same_square_is u found.0.0 both.0)) ∙ white)
      | inr turned ↦
          let both = and_parts _ _ turned in
          false_from_ne_true _ (λ other. both_ways (has_man q White u)
          (ap (has_man q White) (same_square_is u found.0.1 both.0)
          ∙ are_true.twins at.0 found.0.0 found.0.1 at.1 (ap (has_man q White) (sym (same_square_is v found.0.0 both.1)) ∙ other)) white)
    ]

module _ (g : Group) (f e0 : Square) where
  low_line : (p : Position) → fits (specialbefore g f e0) p ≡ true → is_low_line p g ≡ true
  low_line p fitted = (and_parts (is_low_line p g) _ (and_parts _ _ (fits_more (specialbefore g f e0) p fitted)).0).0

  pub specialbefore_bars : BarLaw (fits (specialbefore g f e0)) (is_supported (specialbefore g f e0)) (is_calm (specialbefore g f e0))
      (barred (specialbefore g f e0)) (Some g)
  specialbefore_bars p q facts set fitted empty supported calm are_true stay held owns =
      line_black p q g is_open stay (λ u in_line empty_at.
      let one : (same_square u e0 || facts.upper u || facts.pair u) ≡ true = each_of_gives facts.empty (λ u. same_square u e0 || facts.upper u || facts.pair u)
      (squares_of g) u others in_line (empty u ∙ empty_at) in
      let over : has_man q White (above u)
      ≡ true = owns (above u) (each_of_gives facts.empty (λ u. set (above u)) (squares_of g) u over_each in_line (empty u ∙ empty_at)) in
      let row = (on_board_parts (board_of p) u.0 u.1 (line_square_on p g is_open u in_line)).1 in
      black_under q u (above u) row refl (omega arith) over (none u one over))
    where
      is_open : is_open_line p g ≡ true
      is_open = low_open p g (low_line p fitted)

      twins : is_twin facts.twin f e0 ≡ true
      twins = (and_parts (is_twin facts.twin f e0) (each_of facts.empty (λ u. same_square u e0 || facts.upper u || facts.pair u) (squares_of g)) supported).0

      others : each_of facts.empty (λ u. same_square u e0 || facts.upper u || facts.pair u) (squares_of g) ≡ true
      others = (and_parts (is_twin facts.twin f e0) (each_of facts.empty (λ u. same_square u e0 || facts.upper u || facts.pair u) (squares_of g)) supported).1

      over_each : each_of facts.empty (λ u. set (above u)) (squares_of g) ≡ true
      over_each = (and_parts (set f) (each_of facts.empty (λ u. set (above u)) (squares_of g)) held).1

      own_f : set f ≡ true
      own_f = (and_parts (set f) (each_of facts.empty (λ u. set (above u)) (squares_of g)) held).0

      none : (u : Square) → (same_square u e0 || facts.upper u || facts.pair u) ≡ true → has_man q White (above u) ≡ true → has_man q White u ≡ false
      none u one over = elim (or_cases (same_square u e0 || facts.upper u) (facts.pair u) one) [
        | inr pair ↦ not_white facts q u are_true (or_right (facts.upper u) (facts.pair u) pair) over
        | inl first ↦ elim (or_cases (same_square u e0) (facts.upper u) first) [
          | inr upper ↦ not_white facts q u are_true (or_left (facts.upper u) (facts.pair u) upper) over
          | inl same ↦ ap (has_man q White) (same_square_is u e0 same) ∙ twin_not_white facts q f e0 are_true twins (owns f own_f)
        ]
      ]

  pub specialbefore_laws : Lawful (specialbefore g f e0)
  specialbefore_laws = record {
    starts = λ p fitted. record { calm_now = refl; line_on_board = open_lies p g (low_open p g (low_line p fitted)) };
    is_local = λ p q same calm. refl;
    steps = no_step (fits (specialbefore g f e0)) (is_calm (specialbefore g f e0)) (reply_to (specialbefore g f e0));
    keeps = λ p q fitted calm. no_facts q;
    bars = specialbefore_bars;
  }
