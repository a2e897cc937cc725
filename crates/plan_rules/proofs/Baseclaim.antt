-- Baseclaim: White never owns a and the square above b, nor b and e.
use Rattle.std.proofs.Common.{◌≡◌, ◌≢◌, ◌+◌, ◌≤◌, true, false, ◌==◌, List, [], ◌∷◌, Some, None, refl, sym, ap, ◌∙◌, subst, inl, inr, arith}
use Rattle.std.proofs.lemmas.Bool.{and_parts, and_from, or_cases, both_ways, not-true, eq-eqb}
use Rattle.game_rules.specs.Board.{Square, on_board}
use Rattle.game_rules.specs.Position.{Position, board_of, height, man_at, after_move}
use Rattle.game_rules.specs.Squares.{same_square, is_playable}
use Rattle.game_rules.specs.declared.Side.{Side}
use Rattle.game_rules.specs.declared.Side.TheVariants.{White, Black}
use Rattle.game_rules.proofs.Lists.{Among}
use Rattle.game_rules.proofs.Ends.{on_board_parts}
use Rattle.game_rules.proofs.Squares.{same_square_refl, has_gives, has_from}
use Rattle.plan_rules.specs.Squares.{above, word_at}
use Rattle.plan_rules.specs.Rules.{baseclaim, zone_of, fits, reply_to, upper_of, pair_of, twin_of, barred, is_supported}
use Rattle.plan_rules.specs.Calm.{claim_words, is_one_of, is_calm}
use Rattle.plan_rules.specs.Laws.{StartLaw, LocalLaw, StepLaw, FactLaw, BarLaw, Answers}
use Rattle.plan_rules.proofs.Squares.{other_column, other_row}
use Rattle.plan_rules.proofs.Turns.{turn, answer_at, low_kept, low_above, low_over}
use Rattle.plan_rules.proofs.Grounds.{fits_shape}
use Rattle.plan_rules.proofs.Words.{narrow, are_white, is_free, is_free_over, free_from, free_over_from, words_local, zone_on_board, zone_none, foot_low}
use Rattle.plan_rules.proofs.Words.{no_facts, empty_now, filled_now}
use Rattle.plan_rules.specs.Lawful.{Lawful}

module _ (a b e : Square) where
  abbrev zone : List Square
  zone = zone_of (baseclaim a b e)

  in_a : Among a zone
  in_a = inl refl

  in_b : Among b zone
  in_b = inr (inl refl)

  in_e : Among e zone
  in_e = inr (inr (inl refl))

  in_u : Among (above b) zone
  in_u = inr (inr (inr (inl refl)))

  pub baseclaim_start : StartLaw (fits (baseclaim a b e)) (is_calm (baseclaim a b e)) None
  baseclaim_start p fitted =
      let at_a = zone_none (baseclaim a b e) p fitted a in_a in
      let at_b = zone_none (baseclaim a b e) p fitted b in_b in
      let at_e = zone_none (baseclaim a b e) p fitted e in_e in
      let at_u = zone_none (baseclaim a b e) p fitted (above b) in_u in
      record { calm_now = rw (at_a, at_b, at_e, at_u) refl; line_on_board = tt }

  pub baseclaim_local : LocalLaw (zone_of (baseclaim a b e)) (is_calm (baseclaim a b e))
  baseclaim_local = words_local claim_words zone

  -- the columns are three
  record Columns : Type 0 where
    a_b : a.0 ≢ b.0
    a_e : a.0 ≢ e.0
    b_e : b.0 ≢ e.0

  columns : (p : Position) → fits (baseclaim a b e) p ≡ true → Columns
  columns p fitted =
      let even_e = and_parts _ _ (fits_shape (baseclaim a b e) p fitted) in let odd_b = and_parts _ _ even_e.0 in let even_a = and_parts _ _ odd_b.0 in
      let third = and_parts _ _ even_a.0 in let first = and_parts _ _ third.0 in
      record {
        a_b = λ same. both_ways (a.0 == b.0) (not-true _ first.0) (eq-eqb a.0 b.0 same);
        a_e = λ same. both_ways (a.0 == e.0) (not-true _ first.1) (eq-eqb a.0 e.0 same);
        b_e = λ same. both_ways (b.0 == e.0) (not-true _ third.1) (eq-eqb b.0 e.0 same);
      }

  pub baseclaim_step : StepLaw (zone_of (baseclaim a b e)) (fits (baseclaim a b e)) (is_calm (baseclaim a b e)) (reply_to (baseclaim a b e))
  baseclaim_step p q s fitted board calm white playable owned founded = elim (has_gives zone s owned) [
    | inl here ↦ move a here at_a
    | inr later ↦ elim later [
      | inl here ↦ move b here at_b
      | inr more ↦ elim more [
        | inl here ↦ move e here at_e
        | inr last ↦ elim last [ inl here ↦ move (above b) here at_u | inr past ↦ absurd past ]
      ]
    ]
  ]
    where
      move : (v : Square) → v ≡ s → (is_playable q v ≡ true → Answers (zone_of (baseclaim a b e)) (is_calm (baseclaim a b e)) (reply_to (baseclaim a b e)) q v)
          → Answers (zone_of (baseclaim a b e)) (is_calm (baseclaim a b e)) (reply_to (baseclaim a b e)) q s
      move v here at = subst (λ s. Answers (zone_of (baseclaim a b e)) (is_calm (baseclaim a b e)) (reply_to (baseclaim a b e)) q s) here
          (at (subst (λ s. is_playable q s ≡ true) (sym here) playable))

      on : (u : Square) → Among u (zone_of (baseclaim a b e)) → on_board (board_of q) u ≡ true
      on = zone_on_board (baseclaim a b e) p q fitted board

      three : Columns
      three = columns p fitted

      a_b : same_square a b ≡ false
      a_b = other_column a b three.a_b

      a_e : same_square a e ≡ false
      a_e = other_column a e three.a_e

      a_u : same_square a (above b) ≡ false
      a_u = other_column a (above b) three.a_b

      b_a : same_square b a ≡ false
      b_a = other_column b a (λ same. three.a_b (sym same))

      b_e : same_square b e ≡ false
      b_e = other_column b e three.b_e

      b_u : same_square b (above b) ≡ false
      b_u = other_row b (above b) (λ same. omega arith)

      e_a : same_square e a ≡ false
      e_a = other_column e a (λ same. three.a_e (sym same))

      e_b : same_square e b ≡ false
      e_b = other_column e b (λ same. three.b_e (sym same))

      e_u : same_square e (above b) ≡ false
      e_u = other_column e (above b) (λ same. three.b_e (sym same))

      u_a : same_square (above b) a ≡ false
      u_a = other_column (above b) a (λ same. three.a_b (sym same))

      u_b : same_square (above b) b ≡ false
      u_b = other_row (above b) b (λ same. omega arith)

      u_e : same_square (above b) e ≡ false
      u_e = other_column (above b) e three.b_e

      foot_a : a.1 ≤ height q a.0 + 1
      foot_a = foot_low (zone_of (baseclaim a b e)) q founded a (has_from (zone_of (baseclaim a b e)) a in_a)
          (λ u owned same. elim (has_gives (zone_of (baseclaim a b e)) u owned) [
            | inl here ↦ omega (arith, ap (λ (v : Square). v.1) here)
            | inr later ↦ elim later [
              | inl here ↦ absurd (three.a_b (sym (ap (λ (v : Square). v.0) here ∙ same)))
              | inr more ↦ elim more [
                | inl here ↦ absurd (three.a_e (sym (ap (λ (v : Square). v.0) here ∙ same)))
                | inr last ↦ elim last [ inl here ↦ absurd (three.a_b (sym (ap (λ (v : Square). v.0) here ∙ same))) | inr past ↦ absurd past ]
              ]
            ]
          ])

      foot_b : b.1 ≤ height q b.0 + 1
      foot_b = foot_low (zone_of (baseclaim a b e)) q founded b (has_from (zone_of (baseclaim a b e)) b in_b)
          (λ u owned same. elim (has_gives (zone_of (baseclaim a b e)) u owned) [
            | inl here ↦ absurd (three.a_b (ap (λ (v : Square). v.0) here ∙ same))
            | inr later ↦ elim later [
              | inl here ↦ omega (arith, ap (λ (v : Square). v.1) here)
              | inr more ↦ elim more [
                | inl here ↦ absurd (three.b_e (sym (ap (λ (v : Square). v.0) here ∙ same)))
                | inr last ↦ elim last [ inl here ↦ omega (arith, ap (λ (v : Square). v.1) here) | inr past ↦ absurd past ]
              ]
            ]
          ])

      foot_e : e.1 ≤ height q e.0 + 1
      foot_e = foot_low (zone_of (baseclaim a b e)) q founded e (has_from (zone_of (baseclaim a b e)) e in_e)
          (λ u owned same. elim (has_gives (zone_of (baseclaim a b e)) u owned) [
            | inl here ↦ absurd (three.a_e (ap (λ (v : Square). v.0) here ∙ same))
            | inr later ↦ elim later [
              | inl here ↦ absurd (three.b_e (ap (λ (v : Square). v.0) here ∙ same))
              | inr more ↦ elim more [
                | inl here ↦ omega (arith, ap (λ (v : Square). v.1) here)
                | inr last ↦ elim last [ inl here ↦ absurd (three.b_e (ap (λ (v : Square). v.0) here ∙ same)) | inr past ↦ absurd past ]
              ]
            ]
          ])

      -- the square above b answers a, where men stand on b and e
      above_for_a : (m n : Side) → is_playable q a ≡ true → man_at q (above b) ≡ None → man_at q b ≡ Some m → man_at q e ≡ Some n
          → is_one_of claim_words (Some White ∷ Some m ∷ Some n ∷ Some Black ∷ []) ≡ true
          → Answers (zone_of (baseclaim a b e)) (is_calm (baseclaim a b e)) (reply_to (baseclaim a b e)) q a
      above_for_a m n playable none was_b was_e is_calm_word =
          let open_now : is_playable (after_move q a.0) (above b) ≡ true = answer_at q a (above b) playable (on (above b) in_u) u_a none
          (low_over q a b m playable was_b) in
          let after = turn q a (above b) white playable open_now in
          let now_b = after.rest b b_a b_u ∙ was_b in
          let now_e = after.rest e e_a e_u ∙ was_e in
          let e_now = filled_now q a e n playable was_e in
          let here = same_square_refl a in
          record {
            to = (above b);
            is_reply = rw (here, e_now) refl;
            in_zone = has_from (zone_of (baseclaim a b e)) (above b) in_u;
            playable = open_now;
            calm_after = rw (after.white, now_b, now_e, after.black) is_calm_word;
          }

      at_a : is_playable q a ≡ true → Answers (zone_of (baseclaim a b e)) (is_calm (baseclaim a b e)) (reply_to (baseclaim a b e)) q a
      at_a playable = elim (narrow (is_free 0) claim_words (word_at q (zone_of (baseclaim a b e))) calm (free_from q a playable)) [
        | inl word ↦
            let none : man_at q e ≡ None = cc in
            let open_now : is_playable (after_move q a.0) e ≡ true = answer_at q a e playable (on e in_e) e_a none (low_kept q a e playable foot_e) in
            let after = turn q a e white playable open_now in
            let was_b : man_at q b ≡ None = cc in
            let now_b = after.rest b b_a b_e ∙ was_b in
            let was_u : man_at q (above b) ≡ None = cc in
            let now_u = after.rest (above b) u_a u_e ∙ was_u in
            let e_now = empty_now q a e playable (on e in_e) e_a none in
            let here = same_square_refl a in
            record {
              to = e;
              is_reply = rw (here, e_now) refl;
              in_zone = has_from (zone_of (baseclaim a b e)) e in_e;
              playable = open_now;
              calm_after = rw (after.white, now_b, after.black, now_u) refl;
            }
        | inr more ↦ elim more [
          | inl word ↦ above_for_a White Black playable (cc) (cc) (cc) refl
          | inr more ↦ elim more [
            | inl word ↦ above_for_a Black White playable (cc) (cc) (cc) refl
            | inr past ↦ absurd past
          ]
        ]
      ]

      at_b : is_playable q b ≡ true → Answers (zone_of (baseclaim a b e)) (is_calm (baseclaim a b e)) (reply_to (baseclaim a b e)) q b
      at_b playable = elim (narrow (is_free 1) claim_words (word_at q (zone_of (baseclaim a b e))) calm (free_from q b playable)) [
        | inl word ↦
            let none : man_at q e ≡ None = cc in
            let open_now : is_playable (after_move q b.0) e ≡ true = answer_at q b e playable (on e in_e) e_b none (low_kept q b e playable foot_e) in
            let after = turn q b e white playable open_now in
            let was_a : man_at q a ≡ None = cc in
            let now_a = after.rest a a_b a_e ∙ was_a in
            let was_u : man_at q (above b) ≡ None = cc in
            let now_u = after.rest (above b) u_b u_e ∙ was_u in
            let e_now = empty_now q b e playable (on e in_e) e_b none in
            let here = same_square_refl b in
            record {
              to = e;
              is_reply = rw (b_a, here, e_now) refl;
              in_zone = has_from (zone_of (baseclaim a b e)) e in_e;
              playable = open_now;
              calm_after = rw (now_a, after.white, after.black, now_u) refl;
            }
        | inr more ↦ elim more [
          | inl word ↦
              let none : man_at q (above b) ≡ None = cc in
              let open_now : is_playable (after_move q b.0) (above b) ≡ true = answer_at q b (above b) playable (on (above b) in_u) u_b none
              (low_above q b playable) in
              let after = turn q b (above b) white playable open_now in
              let was_a : man_at q a ≡ Some White = cc in
              let now_a = after.rest a a_b a_u ∙ was_a in
              let was_e : man_at q e ≡ Some Black = cc in
              let now_e = after.rest e e_b e_u ∙ was_e in
              let e_now = filled_now q b e Black playable was_e in
              let here = same_square_refl b in
              record {
                to = (above b);
                is_reply = rw (b_a, here, e_now) refl;
                in_zone = has_from (zone_of (baseclaim a b e)) (above b) in_u;
                playable = open_now;
                calm_after = rw (now_a, after.white, now_e, after.black) refl;
              }
          | inr past ↦ absurd past
        ]
      ]

      at_e : is_playable q e ≡ true → Answers (zone_of (baseclaim a b e)) (is_calm (baseclaim a b e)) (reply_to (baseclaim a b e)) q e
      at_e playable = elim (narrow (is_free 2) claim_words (word_at q (zone_of (baseclaim a b e))) calm (free_from q e playable)) [
        | inl word ↦
            let none : man_at q b ≡ None = cc in
            let open_now : is_playable (after_move q e.0) b ≡ true = answer_at q e b playable (on b in_b) b_e none (low_kept q e b playable foot_b) in
            let after = turn q e b white playable open_now in
            let was_a : man_at q a ≡ None = cc in
            let now_a = after.rest a a_e a_b ∙ was_a in
            let was_u : man_at q (above b) ≡ None = cc in
            let now_u = after.rest (above b) u_e u_b ∙ was_u in
            let here = same_square_refl e in
            record {
              to = b;
              is_reply = rw (e_a, e_b, here) refl;
              in_zone = has_from (zone_of (baseclaim a b e)) b in_b;
              playable = open_now;
              calm_after = rw (now_a, after.black, after.white, now_u) refl;
            }
        | inr past ↦ absurd past
      ]

      -- a answers the square above b, where men stand on b and e
      a_for_above : (m n : Side) → is_playable q (above b) ≡ true → man_at q a ≡ None → man_at q b ≡ Some m → man_at q e ≡ Some n
          → is_one_of claim_words (Some Black ∷ Some m ∷ Some n ∷ Some White ∷ []) ≡ true
          → Answers (zone_of (baseclaim a b e)) (is_calm (baseclaim a b e)) (reply_to (baseclaim a b e)) q (above b)
      a_for_above m n playable none was_b was_e is_calm_word =
          let open_now : is_playable (after_move q (above b).0) a ≡ true = answer_at q (above b) a playable (on a in_a) a_u none
          (low_kept q (above b) a playable foot_a) in
          let after = turn q (above b) a white playable open_now in
          let now_b = after.rest b b_u b_a ∙ was_b in
          let now_e = after.rest e e_u e_a ∙ was_e in
          let here = same_square_refl (above b) in
          record {
            to = a;
            is_reply = rw (u_a, u_b, u_e, here) refl;
            in_zone = has_from (zone_of (baseclaim a b e)) a in_a;
            playable = open_now;
            calm_after = rw (after.black, now_b, now_e, after.white) is_calm_word;
          }

      at_u : is_playable q (above b) ≡ true → Answers (zone_of (baseclaim a b e)) (is_calm (baseclaim a b e)) (reply_to (baseclaim a b e)) q (above b)
      at_u playable = elim (narrow (is_free_over 1 3) claim_words (word_at q (zone_of (baseclaim a b e))) calm
          (free_over_from q b (on_board_parts (board_of q) b.0 b.1 (on b in_b)).1 playable)) [
            | inl word ↦ a_for_above White Black playable (cc) (cc) (cc) refl
            | inr more ↦ elim more [
              | inl word ↦ a_for_above Black White playable (cc) (cc) (cc) refl
              | inr past ↦ absurd past
            ]
          ]

  pub baseclaim_keeps : FactLaw (fits (baseclaim a b e)) (is_calm (baseclaim a b e)) (upper_of (baseclaim a b e)) (pair_of (baseclaim a b e))
      (twin_of (baseclaim a b e))
  baseclaim_keeps p q fitted calm = no_facts q

  pub baseclaim_bars : BarLaw (fits (baseclaim a b e)) (is_supported (baseclaim a b e)) (is_calm (baseclaim a b e)) (barred (baseclaim a b e)) None
  baseclaim_bars p q facts set fitted empty supported calm are_true stay held owns = elim (or_cases _ _ held) [
    | inl first ↦ let both = and_parts _ _ first in narrow (are_white 0 3) claim_words (word_at q zone) calm
        (and_from _ _ (owns a both.0) (owns (above b) both.1))
    | inr second ↦ let both = and_parts _ _ second in narrow (are_white 1 2) claim_words (word_at q zone) calm (and_from _ _ (owns b both.0) (owns e both.1))
  ]

  pub baseclaim_laws : Lawful (baseclaim a b e)
  baseclaim_laws = record { starts = baseclaim_start; is_local = baseclaim_local; steps = baseclaim_step; keeps = baseclaim_keeps; bars = baseclaim_bars }
