-- Claimeven: the lower square is answered by the upper, so the upper is never White's.
use Rattle.std.proofs.Common.{◌≡◌, true, false, List, [], ◌∷◌, Some, None, refl, sym, subst, inl, inr, arith}
use Rattle.std.proofs.lemmas.Bool.{cond-true, false_from_ne_true}
use Rattle.game_rules.specs.Board.{Square, on_board}
use Rattle.game_rules.specs.Position.{board_of, man_at, has_man, after_move}
use Rattle.game_rules.specs.Squares.{same_square, is_playable}
use Rattle.game_rules.specs.declared.Side.TheVariants.{White}
use Rattle.game_rules.proofs.Lists.{Among}
use Rattle.game_rules.proofs.Ends.{on_board_parts}
use Rattle.game_rules.proofs.Squares.{same_square_refl, has_gives, has_from}
use Rattle.plan_rules.specs.Squares.{above, word_at}
use Rattle.plan_rules.specs.Rules.{claimeven, zone_of, fits, reply_to, upper_of, pair_of, twin_of, barred, is_supported}
use Rattle.plan_rules.specs.Calm.{even_words, is_calm}
use Rattle.plan_rules.specs.Laws.{StartLaw, LocalLaw, StepLaw, FactLaw, BarLaw, Answers}
use Rattle.plan_rules.proofs.Squares.{other_row}
use Rattle.plan_rules.proofs.Turns.{turn, answer_at, low_above}
use Rattle.plan_rules.proofs.Words.{narrow, is_white, is_free, is_free_over, free_from, free_over_from, words_local, zone_on_board, zone_none}
use Rattle.plan_rules.specs.Lawful.{Lawful}

module _ (x : Square) where
  abbrev zone : List Square
  zone = zone_of (claimeven x)

  pub claimeven_start : StartLaw (fits (claimeven x)) (is_calm (claimeven x)) None
  claimeven_start p fitted =
      let lower = zone_none (claimeven x) p fitted x (inl refl) in
      let upper = zone_none (claimeven x) p fitted (above x) (inr (inl refl)) in
      record { calm_now = rw (lower, upper) refl; line_on_board = tt }

  pub claimeven_local : LocalLaw (zone_of (claimeven x)) (is_calm (claimeven x))
  claimeven_local = words_local even_words zone

  pub claimeven_step : StepLaw (zone_of (claimeven x)) (fits (claimeven x)) (is_calm (claimeven x)) (reply_to (claimeven x))
  claimeven_step p q s fitted board calm white playable owned founded = elim (has_gives zone s owned) [
    | inl here ↦ subst (λ s. Answers zone (is_calm (claimeven x)) (reply_to (claimeven x)) q s) here
        (at_lower (subst (λ s. is_playable q s ≡ true) (sym here) playable))
    | inr later ↦ elim later [
      | inl here ↦ absurd (at_upper (subst (λ s. is_playable q s ≡ true) (sym here) playable))
      | inr more ↦ absurd more
    ]
  ]
    where
      on : (u : Square) → Among u (zone_of (claimeven x)) → on_board (board_of q) u ≡ true
      on = zone_on_board (claimeven x) p q fitted board

      at_upper : is_playable q (above x) ≡ true → ⊥
      at_upper playable = narrow (is_free_over 0 1) even_words (word_at q zone) calm
          (free_over_from q x (on_board_parts (board_of q) x.0 x.1 (on x (inl refl))).1 playable)

      at_lower : is_playable q x ≡ true → Answers (zone_of (claimeven x)) (is_calm (claimeven x)) (reply_to (claimeven x)) q x
      at_lower playable = elim (narrow (is_free 0) even_words (word_at q zone) calm (free_from q x playable)) [
        | inr more ↦ absurd more
        | inl word ↦
            let upper : man_at q (above x) ≡ None = cc in
            let open_now : is_playable (after_move q x.0) (above x) ≡ true =
            answer_at q x (above x) playable (on (above x) (inr (inl refl))) (other_row (above x) x (λ same. omega arith)) upper (low_above q x playable) in
            let after = turn q x (above x) white playable open_now in
            record {
              to = above x;
              is_reply = cond-true (same_square x x) (Some (above x)) None (same_square_refl x);
              in_zone = has_from zone (above x) (inr (inl refl));
              playable = open_now;
              calm_after = rw (after.white, after.black) refl;
            }
      ]

  pub claimeven_keeps : FactLaw (fits (claimeven x)) (is_calm (claimeven x)) (upper_of (claimeven x)) (pair_of (claimeven x)) (twin_of (claimeven x))
  claimeven_keeps p q fitted calm = record {
    uppers = λ u among. elim (has_gives (above x ∷ []) u among) [
      | inl here ↦ subst (λ u. has_man q White u ≡ false) here (false_from_ne_true _ (λ owned. narrow (is_white 1) even_words (word_at q zone) calm owned))
      | inr more ↦ absurd more
    ];
    pairs = λ u h. absurd (cc h);
    twins = λ i u v h. absurd (cc h);
  }

  pub claimeven_bars : BarLaw (fits (claimeven x)) (is_supported (claimeven x)) (is_calm (claimeven x)) (barred (claimeven x)) None
  claimeven_bars p q facts set fitted empty supported calm are_true stay held owns = narrow (is_white 1) even_words (word_at q zone) calm (owns (above x) held)

  pub claimeven_laws : Lawful (claimeven x)
  claimeven_laws = record { starts = claimeven_start; is_local = claimeven_local; steps = claimeven_step; keeps = claimeven_keeps; bars = claimeven_bars }
