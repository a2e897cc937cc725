-- Baseinverse: each of the two squares is answered by the other, so White never owns both.
use Rattle.std.proofs.Common.{◌≡◌, ◌≢◌, ℕ, ◌+◌, ◌<◌, ◌≤◌, zero, suc, true, false, List, Option, Some, None, refl, sym, ap, ◌∙◌, subst, inl, inr, arith}
use Rattle.std.specs.List.{slice_get}
use Rattle.std.proofs.lemmas.Bool.{ltb-true, and_parts, and_from, false_from_ne_true}
use Rattle.game_rules.specs.Board.{Square, on_board}
use Rattle.game_rules.specs.Position.{Position, board_of, height, man_at, has_man, after_move}
use Rattle.game_rules.specs.Squares.{same_square, is_playable}
use Rattle.game_rules.specs.declared.Side.TheVariants.{White}
use Rattle.game_rules.proofs.Lists.{Among}
use Rattle.game_rules.proofs.Squares.{same_square_refl, has_gives, has_from}
use Rattle.plan_rules.specs.Squares.{word_at}
use Rattle.plan_rules.specs.Rules.{baseinverse, zone_of, fits, reply_to, upper_of, pair_of, twin_of, as_list, barred, is_supported}
use Rattle.plan_rules.specs.Calm.{inverse_words, is_calm}
use Rattle.plan_rules.specs.Laws.{StartLaw, LocalLaw, StepLaw, FactLaw, BarLaw, Answers}
use Rattle.plan_rules.proofs.Squares.{other_column}
use Rattle.plan_rules.proofs.Turns.{turn, answer_at, low_kept}
use Rattle.plan_rules.proofs.Grounds.{fits_shape}
use Rattle.plan_rules.proofs.Words.{narrow, are_white, is_free, free_from, words_local, zone_on_board, zone_none, foot_low}
use Rattle.plan_rules.specs.Lawful.{Lawful}

twin_is : (s t u v : Square) → slice_get (as_list (twin_of (baseinverse s t))) 0 ≡ Some (u, v) → (s ≡ u) × (t ≡ v)
twin_is s t u v h = (ap left h, ap right h)
  where
    left : Option (Square × Square) → Square
    left None = s
    left (Some twin) = twin.0

    right : Option (Square × Square) → Square
    right None = t
    right (Some twin) = twin.1

module _ (s t : Square) where
  abbrev zone : List Square
  zone = zone_of (baseinverse s t)

  pub baseinverse_start : StartLaw (fits (baseinverse s t)) (is_calm (baseinverse s t)) None
  baseinverse_start p fitted =
      let left = zone_none (baseinverse s t) p fitted s (inl refl) in
      let right = zone_none (baseinverse s t) p fitted t (inr (inl refl)) in
      record { calm_now = rw (left, right) refl; line_on_board = tt }

  pub baseinverse_local : LocalLaw (zone_of (baseinverse s t)) (is_calm (baseinverse s t))
  baseinverse_local = words_local inverse_words zone

  pub baseinverse_step : StepLaw (zone_of (baseinverse s t)) (fits (baseinverse s t)) (is_calm (baseinverse s t)) (reply_to (baseinverse s t))
  baseinverse_step p q last fitted board calm white playable owned founded = elim (has_gives zone last owned) [
    | inl here ↦ subst (λ u. Answers zone (is_calm (baseinverse s t)) (reply_to (baseinverse s t)) q u) here
        (at_s (subst (λ u. is_playable q u ≡ true) (sym here) playable))
    | inr later ↦ elim later [
      | inl here ↦ subst (λ u. Answers zone (is_calm (baseinverse s t)) (reply_to (baseinverse s t)) q u) here
          (at_t (subst (λ u. is_playable q u ≡ true) (sym here) playable))
      | inr more ↦ absurd more
    ]
  ]
    where
      on : (u : Square) → Among u (zone_of (baseinverse s t)) → on_board (board_of q) u ≡ true
      on = zone_on_board (baseinverse s t) p q fitted board

      apart : s.0 ≢ t.0
      apart same = let order : s.0 < t.0 = ltb-true s.0 t.0 (fits_shape (baseinverse s t) p fitted) in omega arith

      s_t : same_square s t ≡ false
      s_t = other_column s t apart

      t_s : same_square t s ≡ false
      t_s = other_column t s (λ same. apart (sym same))

      foot_s : s.1 ≤ height q s.0 + 1
      foot_s = foot_low (zone_of (baseinverse s t)) q founded s (has_from (zone_of (baseinverse s t)) s (inl refl))
          (λ u owned same. elim (has_gives (zone_of (baseinverse s t)) u owned) [
            | inl here ↦ omega (arith, ap (λ (v : Square). v.1) here)
            | inr later ↦ elim later [ inl here ↦ absurd (apart (sym same ∙ sym (ap (λ (v : Square). v.0) here))) | inr more ↦ absurd more ]
          ])

      foot_t : t.1 ≤ height q t.0 + 1
      foot_t = foot_low (zone_of (baseinverse s t)) q founded t (has_from (zone_of (baseinverse s t)) t (inr (inl refl)))
          (λ u owned same. elim (has_gives (zone_of (baseinverse s t)) u owned) [
            | inl here ↦ absurd (apart (ap (λ (v : Square). v.0) here ∙ same))
            | inr later ↦ elim later [ inl here ↦ omega (arith, ap (λ (v : Square). v.1) here) | inr more ↦ absurd more ]
          ])

      at_s : is_playable q s ≡ true → Answers (zone_of (baseinverse s t)) (is_calm (baseinverse s t)) (reply_to (baseinverse s t)) q s
      at_s playable = elim (narrow (is_free 0) inverse_words (word_at q (zone_of (baseinverse s t))) calm (free_from q s playable)) [
        | inr more ↦ absurd more
        | inl word ↦
            let right : man_at q t ≡ None = cc in
            let open_now : is_playable (after_move q s.0) t ≡ true = answer_at q s t playable (on t (inr (inl refl))) t_s right (low_kept q s t playable foot_t)
            in
            let after = turn q s t white playable open_now in
            record {
              to = t;
              is_reply = let here = same_square_refl s in rw here refl;
              in_zone = has_from (zone_of (baseinverse s t)) t (inr (inl refl));
              playable = open_now;
              calm_after = rw (after.white, after.black) refl;
            }
      ]

      at_t : is_playable q t ≡ true → Answers (zone_of (baseinverse s t)) (is_calm (baseinverse s t)) (reply_to (baseinverse s t)) q t
      at_t playable = elim (narrow (is_free 1) inverse_words (word_at q (zone_of (baseinverse s t))) calm (free_from q t playable)) [
        | inr more ↦ absurd more
        | inl word ↦
            let left : man_at q s ≡ None = cc in
            let open_now : is_playable (after_move q t.0) s ≡ true = answer_at q t s playable (on s (inl refl)) s_t left (low_kept q t s playable foot_s) in
            let after = turn q t s white playable open_now in
            record {
              to = s;
              is_reply = let here = same_square_refl t in rw (t_s, here) refl;
              in_zone = has_from (zone_of (baseinverse s t)) s (inl refl);
              playable = open_now;
              calm_after = rw (after.white, after.black) refl;
            }
      ]

  never_both : (q : Position) → is_calm (baseinverse s t) q ≡ true → has_man q White s ≡ true → has_man q White t ≡ true → ⊥
  never_both q calm left right = narrow (are_white 0 1) inverse_words (word_at q zone) calm (and_from _ _ left right)

  pub baseinverse_keeps : FactLaw (fits (baseinverse s t)) (is_calm (baseinverse s t)) (upper_of (baseinverse s t)) (pair_of (baseinverse s t))
      (twin_of (baseinverse s t))
  baseinverse_keeps p q fitted calm = record {
    uppers = λ u h. absurd (cc h);
    pairs = λ u h. absurd (cc h);
    twins = twin;
  }
    where
      twin : (i : ℕ) (u v : Square) → slice_get (as_list (twin_of (baseinverse s t))) i ≡ Some (u, v) → has_man q White u ≡ true → has_man q White v ≡ false
      twin zero u v h white = false_from_ne_true _
          (λ other. never_both q calm (ap (has_man q White) (twin_is s t u v h).0 ∙ white) (ap (has_man q White) (twin_is s t u v h).1 ∙ other))
      twin (suc i) u v h white = absurd (cc h)

  pub baseinverse_bars : BarLaw (fits (baseinverse s t)) (is_supported (baseinverse s t)) (is_calm (baseinverse s t)) (barred (baseinverse s t)) None
  baseinverse_bars p q facts set fitted empty supported calm are_true stay held owns = let both = and_parts _ _ held in
      never_both q calm (owns s both.0) (owns t both.1)

  pub baseinverse_laws : Lawful (baseinverse s t)
  baseinverse_laws = record {
    starts = baseinverse_start;
    is_local = baseinverse_local;
    steps = baseinverse_step;
    keeps = baseinverse_keeps;
    bars =
        baseinverse_bars;
  }
