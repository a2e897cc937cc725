-- Highinverse: what is proved of White's move in one column, with the other beside it, holds of both columns, since the
-- calm words are the same in both orders.
use Rattle.std.proofs.Common.{◌≡◌, ◌≢◌, ◌+◌, ◌≤◌, true, false, List, [], ◌∷◌, ◌++◌, Some, None, refl, sym, ap, ◌∙◌, subst, inl, inr, arith}
use Rattle.std.proofs.lemmas.Bool.{and_parts, and_from, or_cases, cond-true, cond-false, false_from_ne_true}
use Rattle.game_rules.specs.Board.{Square, on_board}
use Rattle.game_rules.specs.Position.{Position, board_of, height, man_at, has_man, side_to_move, after_move}
use Rattle.game_rules.specs.Squares.{same_square, has_square, is_playable}
use Rattle.game_rules.specs.declared.Side.{Side}
use Rattle.game_rules.specs.declared.Side.TheVariants.{White, Black}
use Rattle.game_rules.proofs.Lists.{Among}
use Rattle.game_rules.proofs.Ends.{on_board_parts}
use Rattle.game_rules.proofs.Squares.{same_square_refl, has_gives, has_from}
use Rattle.plan_rules.specs.Squares.{above, column_up, word_at}
use Rattle.plan_rules.specs.Rules.{highinverse, zone_of, fits, high_reply, reply_to, upper_of, pair_of, twin_of, barred, is_supported}
use Rattle.plan_rules.specs.Calm.{Word, high_words, is_one_of, is_calm}
use Rattle.plan_rules.specs.Laws.{StartLaw, LocalLaw, StepLaw, FactLaw, BarLaw, Answers}
use Rattle.plan_rules.proofs.Squares.{other_column, other_row, has_append}
use Rattle.plan_rules.proofs.Turns.{turn, answer_at, low_kept, low_above, low_over}
use Rattle.plan_rules.proofs.Grounds.{TwoColumns, high_two}
use Rattle.plan_rules.proofs.Words.{narrow, mapped, are_white, is_free, is_free_over, free_from, free_over_from, words_local, zone_on_board, zone_none}
use Rattle.plan_rules.proofs.Words.{foot_low, empty_now, filled_now}
use Rattle.plan_rules.specs.Lawful.{Lawful}

-- the other column first
abbrev swap_word : Word → Word
swap_word (a ∷ b ∷ c ∷ d ∷ e ∷ f ∷ []) = d ∷ e ∷ f ∷ a ∷ b ∷ c ∷ []
swap_word word = []

abbrev squares : Square → Square → List Square
squares u v = column_up u 3 ++ column_up v 3

swapped : (u v : Square) (q : Position) → is_one_of high_words (word_at q (squares u v)) ≡ true → is_one_of high_words (word_at q (squares v u)) ≡ true
swapped u v q calm = mapped swap_word high_words high_words (word_at q (squares u v)) calm refl

-- the reply to a move in the column of u, and that the zone is calm after it
record HighAnswer (u v : Square) (q : Position) (s : Square) : Type 0 where
  to : Square
  is_reply : high_reply u v (after_move q s.0) s ≡ Some to
  in_zone : Among to (squares u v)
  playable : is_playable (after_move q s.0) to ≡ true
  calm_after : is_one_of high_words (word_at (after_move (after_move q s.0) to.0) (squares u v)) ≡ true

module _ (u v : Square) (apart : u.0 ≢ v.0) (q : Position) (white : side_to_move q ≡ White)
    (on : (t : Square) → Among t (squares u v) → on_board (board_of q) t ≡ true) (calm : is_one_of high_words (word_at q (squares u v)) ≡ true)
    (foot_v : v.1 ≤ height q v.0 + 1) where
  in_u : Among u (squares u v)
  in_u = inl refl

  in_u1 : Among (above u) (squares u v)
  in_u1 = inr (inl refl)

  in_u2 : Among (above (above u)) (squares u v)
  in_u2 = inr (inr (inl refl))

  in_v : Among v (squares u v)
  in_v = inr (inr (inr (inl refl)))

  in_v2 : Among (above (above v)) (squares u v)
  in_v2 = inr (inr (inr (inr (inr (inl refl)))))

  -- the squares of the one column and of the other
  across : (a b : Square) → a.0 ≡ u.0 → b.0 ≡ v.0 → same_square a b ≡ false
  across a b left right = other_column a b (λ same. apart (sym left ∙ same ∙ right))

  back : (a b : Square) → a.0 ≡ v.0 → b.0 ≡ u.0 → same_square a b ≡ false
  back a b left right = other_column a b (λ same. apart (sym right ∙ sym same ∙ left))

  up_one : (a : Square) → same_square (above a) a ≡ false
  up_one a = other_row (above a) a (λ same. omega arith)

  down_one : (a : Square) → same_square a (above a) ≡ false
  down_one a = other_row a (above a) (λ same. omega arith)

  up_two : (a : Square) → same_square (above (above a)) a ≡ false
  up_two a = other_row (above (above a)) a (λ same. omega arith)

  down_two : (a : Square) → same_square a (above (above a)) ≡ false
  down_two a = other_row a (above (above a)) (λ same. omega arith)

  at_bottom : is_playable q u ≡ true → HighAnswer u v q u
  at_bottom playable = elim (narrow (is_free 0) high_words (word_at q (squares u v)) calm (free_from q u playable)) [
    | inl word ↦
        let none : man_at q (above u) ≡ None = cc in
        let open_now : is_playable (after_move q u.0) (above u) ≡ true = answer_at q u (above u) playable (on (above u) in_u1) (up_one u) none
        (low_above q u playable) in
        let after = turn q u (above u) white playable open_now in
        let was_u2 : man_at q (above (above u)) ≡ None = cc in
        let now_u2 = after.rest (above (above u)) (up_two u) (up_one (above u)) ∙ was_u2 in
        let was_v : man_at q v ≡ None = cc in
        let now_v = after.rest v (back v u refl refl) (back v (above u) refl refl) ∙ was_v in
        let was_v1 : man_at q (above v) ≡ None = cc in
        let now_v1 = after.rest (above v) (back (above v) u refl refl) (back (above v) (above u) refl refl) ∙ was_v1 in
        let was_v2 : man_at q (above (above v)) ≡ None = cc in
        let now_v2 = after.rest (above (above v)) (back (above (above v)) u refl refl) (back (above (above v)) (above u) refl refl) ∙ was_v2 in
        let v_now = empty_now q u v playable (on v in_v) (back v u refl refl) was_v in
        let here = same_square_refl u in
        record {
          to = (above u);
          is_reply = rw (here, v_now) refl;
          in_zone = in_u1;
          playable = open_now;
          calm_after =
              rw (after.white, after.black, now_u2, now_v, now_v1, now_v2) refl;
        }
    | inr more ↦ elim more [
      | inl word ↦
          let none : man_at q (above (above v)) ≡ None = cc in
          let below : man_at q (above v) ≡ Some Black = cc in
          let open_now : is_playable (after_move q u.0) (above (above v)) ≡ true = answer_at q u (above (above v)) playable (on (above (above v)) in_v2)
          (back (above (above v)) u refl refl) none (low_over q u (above v) Black playable below) in
          let after = turn q u (above (above v)) white playable open_now in
          let was_u1 : man_at q (above u) ≡ None = cc in
          let now_u1 = after.rest (above u) (up_one u) (across (above u) (above (above v)) refl refl) ∙ was_u1 in
          let was_u2 : man_at q (above (above u)) ≡ None = cc in
          let now_u2 = after.rest (above (above u)) (up_two u) (across (above (above u)) (above (above v)) refl refl) ∙ was_u2 in
          let was_v : man_at q v ≡ Some White = cc in
          let now_v = after.rest v (back v u refl refl) (down_two v) ∙ was_v in
          let was_v1 : man_at q (above v) ≡ Some Black = cc in
          let now_v1 = after.rest (above v) (back (above v) u refl refl) (down_one (above v)) ∙ was_v1 in
          let v_now = filled_now q u v White playable was_v in
          let here = same_square_refl u in
          record {
            to = (above (above v));
            is_reply = rw (here, v_now) refl;
            in_zone = in_v2;
            playable = open_now;
            calm_after =
                rw (after.white, now_u1, now_u2, now_v, now_v1, after.black) refl;
          }
      | inr past ↦ absurd past
    ]
  ]

  -- the top answers the middle, whatever men stand on the bottom and on the other top
  top_for_middle : (m n : Side) → is_playable q (above u) ≡ true → man_at q (above (above u)) ≡ None → man_at q u ≡ Some m → man_at q v ≡ Some White
      → man_at q (above v) ≡ Some Black → man_at q (above (above v)) ≡ Some n
      → is_one_of high_words (Some m ∷ Some White ∷ Some Black ∷ Some White ∷ Some Black ∷ Some n ∷ []) ≡ true → HighAnswer u v q (above u)
  top_for_middle m n playable none was_u was_v was_v1 was_v2 is_calm_word =
      let open_now : is_playable (after_move q (above u).0) (above (above u)) ≡ true = answer_at q (above u) (above (above u)) playable
      (on (above (above u)) in_u2) (up_one (above u)) none (low_above q (above u) playable) in
      let after = turn q (above u) (above (above u)) white playable open_now in
      let now_u = after.rest u (down_one u) (down_two u) ∙ was_u in
      let now_v = after.rest v (back v (above u) refl refl) (back v (above (above u)) refl refl) ∙ was_v in
      let now_v1 = after.rest (above v) (back (above v) (above u) refl refl) (back (above v) (above (above u)) refl refl) ∙ was_v1 in
      let far_v2 = back (above (above v)) (above (above u)) refl refl in
      let now_v2 = after.rest (above (above v)) (back (above (above v)) (above u) refl refl) far_v2 ∙ was_v2 in
      let not_u = up_one u in
      let here = same_square_refl (above u) in
      record {
        to = (above (above u));
        is_reply = rw (not_u, here) refl;
        in_zone = in_u2;
        playable = open_now;
        calm_after = rw (now_u, after.white, after.black, now_v, now_v1, now_v2) is_calm_word;
      }

  at_middle : is_playable q (above u) ≡ true → HighAnswer u v q (above u)
  at_middle playable = elim (narrow (is_free_over 0 1) high_words (word_at q (squares u v)) calm
      (free_over_from q u (on_board_parts (board_of q) u.0 u.1 (on u in_u)).1 playable)) [
        | inl word ↦ top_for_middle Black White playable (cc) (cc) (cc) (cc) (cc) refl
        | inr more ↦ elim more [
          | inl word ↦ top_for_middle White Black playable (cc) (cc) (cc) (cc) (cc) refl
          | inr past ↦ absurd past
        ]
      ]

  at_top : is_playable q (above (above u)) ≡ true → HighAnswer u v q (above (above u))
  at_top playable = elim (narrow (is_free_over 1 2) high_words (word_at q (squares u v)) calm
      (free_over_from q (above u) (on_board_parts (board_of q) (above u).0 (above u).1 (on (above u) in_u1)).1 playable)) [
        | inl word ↦
            let none : man_at q v ≡ None = cc in
            let open_now : is_playable (after_move q (above (above u)).0) v ≡ true = answer_at q (above (above u)) v playable (on v in_v)
            (back v (above (above u)) refl refl) none (low_kept q (above (above u)) v playable foot_v) in
            let after = turn q (above (above u)) v white playable open_now in
            let was_u : man_at q u ≡ Some White = cc in
            let now_u = after.rest u (down_two u) (across u v refl refl) ∙ was_u in
            let was_u1 : man_at q (above u) ≡ Some Black = cc in
            let now_u1 = after.rest (above u) (down_one (above u)) (across (above u) v refl refl) ∙ was_u1 in
            let was_v1 : man_at q (above v) ≡ None = cc in
            let now_v1 = after.rest (above v) (back (above v) (above (above u)) refl refl) (up_one v) ∙ was_v1 in
            let was_v2 : man_at q (above (above v)) ≡ None = cc in
            let now_v2 = after.rest (above (above v)) (back (above (above v)) (above (above u)) refl refl) (up_two v) ∙ was_v2 in
            let not_u = up_two u in
            let not_u1 = up_one (above u) in
            let here = same_square_refl (above (above u)) in
            record {
              to = v;
              is_reply = rw (not_u, not_u1, here) refl;
              in_zone = in_v;
              playable = open_now;
              calm_after =
                  rw (now_u, now_u1, after.white, after.black, now_v1, now_v2) refl;
            }
        | inr past ↦ absurd past
      ]

  high_answer : (s : Square) → is_playable q s ≡ true → Among s (column_up u 3) → HighAnswer u v q s
  high_answer s playable (inl here) = subst (λ s. HighAnswer u v q s) here (at_bottom (subst (λ s. is_playable q s ≡ true) (sym here) playable))
  high_answer s playable (inr (inl here)) = subst (λ s. HighAnswer u v q s) here (at_middle (subst (λ s. is_playable q s ≡ true) (sym here) playable))
  high_answer s playable (inr (inr (inl here))) = subst (λ s. HighAnswer u v q s) here (at_top (subst (λ s. is_playable q s ≡ true) (sym here) playable))
  high_answer s playable (inr (inr (inr past))) = absurd past

column_of : (u s : Square) → Among s (column_up u 3) → s.0 ≡ u.0
column_of u s (inl here) = ap (λ (s : Square). s.0) (sym here)
column_of u s (inr (inl here)) = ap (λ (s : Square). s.0) (sym here)
column_of u s (inr (inr (inl here))) = ap (λ (s : Square). s.0) (sym here)
column_of u s (inr (inr (inr past))) = absurd past

-- the zone's squares in the other order
turned_among : (u v t : Square) → Among t (squares u v) → Among t (squares v u)
turned_among u v t (inl here) = inr (inr (inr (inl here)))
turned_among u v t (inr (inl here)) = inr (inr (inr (inr (inl here))))
turned_among u v t (inr (inr (inl here))) = inr (inr (inr (inr (inr (inl here)))))
turned_among u v t (inr (inr (inr (inl here)))) = inl here
turned_among u v t (inr (inr (inr (inr (inl here))))) = inr (inl here)
turned_among u v t (inr (inr (inr (inr (inr (inl here)))))) = inr (inr (inl here))
turned_among u v t (inr (inr (inr (inr (inr (inr past)))))) = absurd past

module _ (x y : Square) where
  abbrev zone : List Square
  zone = zone_of (highinverse x y)

  pub highinverse_start : StartLaw (fits (highinverse x y)) (is_calm (highinverse x y)) None
  highinverse_start p fitted =
      let x0 = none x (inl refl) in
      let x1 = none (above x) (inr (inl refl)) in
      let x2 = none (above (above x)) (inr (inr (inl refl))) in
      let y0 = none y (inr (inr (inr (inl refl)))) in
      let y1 = none (above y) (inr (inr (inr (inr (inl refl))))) in
      let y2 = none (above (above y)) (inr (inr (inr (inr (inr (inl refl)))))) in
      record { calm_now = rw (x0, x1, x2, y0, y1, y2) refl; line_on_board = tt }
    where
      none : (u : Square) → Among u (zone_of (highinverse x y)) → man_at p u ≡ None
      none u among = zone_none (highinverse x y) p fitted u among

  pub highinverse_local : LocalLaw (zone_of (highinverse x y)) (is_calm (highinverse x y))
  highinverse_local = words_local high_words zone

  pub highinverse_step : StepLaw (zone_of (highinverse x y)) (fits (highinverse x y)) (is_calm (highinverse x y)) (reply_to (highinverse x y))
  highinverse_step p q s fitted board calm white playable owned founded = elim (has_append (column_up x 3) (column_up y 3) s owned) [
    | inl left ↦ first (has_gives (column_up x 3) s left) (high_answer x y two.apart q white on calm foot_y s playable (has_gives (column_up x 3) s left))
    | inr right ↦ second (has_gives (column_up y 3) s right)
        (high_answer y x (λ same. two.apart (sym same)) q white (λ t among. on t (turned_among y x t among)) (swapped x y q calm) foot_x s playable
        (has_gives (column_up y 3) s right))
  ]
    where
      two : TwoColumns (zone_of (highinverse x y)) x y
      two = high_two x y p fitted

      on : (t : Square) → Among t (squares x y) → on_board (board_of q) t ≡ true
      on = zone_on_board (highinverse x y) p q fitted board

      foot_x : x.1 ≤ height q x.0 + 1
      foot_x = foot_low (zone_of (highinverse x y)) q founded x two.has_x
          (λ u owned same. elim (two.each u owned) [ inl at_x ↦ at_x.1 | inr at_y ↦ absurd (two.apart (sym same ∙ at_y.0)) ])

      foot_y : y.1 ≤ height q y.0 + 1
      foot_y = foot_low (zone_of (highinverse x y)) q founded y two.has_y
          (λ u owned same. elim (two.each u owned) [ inl at_x ↦ absurd (two.apart (sym at_x.0 ∙ same)) | inr at_y ↦ at_y.1 ])

      first : Among s (column_up x 3) → HighAnswer x y q s → Answers (zone_of (highinverse x y)) (is_calm (highinverse x y)) (reply_to (highinverse x y)) q s
      first among answer = record {
        to = answer.to;
        is_reply = cond-true (has_square (column_up x 3) s) _ _ (has_from (column_up x 3) s among) ∙ answer.is_reply;
        in_zone = has_from (zone_of (highinverse x y)) answer.to answer.in_zone;
        playable = answer.playable;
        calm_after = answer.calm_after;
      }

      second : Among s (column_up y 3) → HighAnswer y x q s → Answers (zone_of (highinverse x y)) (is_calm (highinverse x y)) (reply_to (highinverse x y)) q s
      second among answer = record {
        to = answer.to;
        is_reply = cond-false (has_square (column_up x 3) s) (high_reply x y (after_move q s.0) s) (high_reply y x (after_move q s.0) s)
            (false_from_ne_true _ (λ owned. two.apart (sym (column_of x s (has_gives (column_up x 3) s owned)) ∙ column_of y s among))) ∙ answer.is_reply;
        in_zone = has_from (zone_of (highinverse x y)) answer.to (turned_among y x answer.to answer.in_zone);
        playable = answer.playable;
        calm_after = swapped y x (after_move (after_move q s.0) answer.to.0) answer.calm_after;
      }

  pub highinverse_keeps : FactLaw (fits (highinverse x y)) (is_calm (highinverse x y)) (upper_of (highinverse x y)) (pair_of (highinverse x y))
      (twin_of (highinverse x y))
  highinverse_keeps p q fitted calm = record {
    uppers = λ u h. absurd (cc h);
    pairs = λ u among white. elim (has_gives (above x ∷ above y ∷ []) u among) [
      | inl here ↦ subst (λ u. has_man q White (above u) ≡ false) here (false_from_ne_true _ (λ over.
          narrow (are_white 1 2) high_words (word_at q zone) calm (and_from _ _ (ap (has_man q White) here ∙ white) over)))
      | inr later ↦ elim later [
        | inl here ↦ subst (λ u. has_man q White (above u) ≡ false) here (false_from_ne_true _ (λ over.
            narrow (are_white 4 5) high_words (word_at q zone) calm (and_from _ _ (ap (has_man q White) here ∙ white) over)))
        | inr more ↦ absurd more
      ]
    ];
    twins = λ i u v h. absurd (cc h);
  }

  pub highinverse_bars : BarLaw (fits (highinverse x y)) (is_supported (highinverse x y)) (is_calm (highinverse x y)) (barred (highinverse x y)) None
  highinverse_bars p q facts set fitted empty supported calm are_true stay held owns = elim (or_cases _ _ held) [
    | inr last ↦ let both = and_parts _ _ last in narrow (are_white 3 2) high_words (word_at q zone) calm
        (and_from _ _ (owns y both.0) (owns (above (above x)) both.1))
    | inl five ↦ elim (or_cases _ _ five) [
      | inr last ↦ let both = and_parts _ _ last in narrow (are_white 0 5) high_words (word_at q zone) calm
          (and_from _ _ (owns x both.0) (owns (above (above y)) both.1))
      | inl four ↦ elim (or_cases _ _ four) [
        | inr last ↦ let both = and_parts _ _ last in narrow (are_white 4 5) high_words (word_at q zone) calm
            (and_from _ _ (owns (above y) both.0) (owns (above (above y)) both.1))
        | inl three ↦ elim (or_cases _ _ three) [
          | inr last ↦ let both = and_parts _ _ last in narrow (are_white 1 2) high_words (word_at q zone) calm
              (and_from _ _ (owns (above x) both.0) (owns (above (above x)) both.1))
          | inl two ↦ elim (or_cases _ _ two) [
            | inl tops ↦ let both = and_parts _ _ tops in narrow (are_white 2 5) high_words (word_at q zone) calm
                (and_from _ _ (owns (above (above x)) both.0) (owns (above (above y)) both.1))
            | inr middles ↦ let both = and_parts _ _ middles in narrow (are_white 1 4) high_words (word_at q zone) calm
                (and_from _ _ (owns (above x) both.0) (owns (above y) both.1))
          ]
        ]
      ]
    ]
  ]

  pub highinverse_laws : Lawful (highinverse x y)
  highinverse_laws = record {
    starts = highinverse_start;
    is_local = highinverse_local;
    steps = highinverse_step;
    keeps = highinverse_keeps;
    bars =
        highinverse_bars;
  }
