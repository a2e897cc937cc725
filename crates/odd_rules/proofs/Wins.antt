-- The whole play from an odd threat, and that White wins by it.
use Rattle.std.proofs.Common.{◌≡◌, ℕ, zero, suc, ◌+◌, ◌*◌, ◌<◌, ◌≤◌, Bool, true, false, cond, List, [], ◌∷◌, Some, None, is_none, refl, sym, ap, ◌∙◌}
use Rattle.std.proofs.Common.{subst, inl, inr, arith, length}
use Rattle.std.specs.List.{slice_get}
use Rattle.std.specs.Option.{option_map_or, option_and_then}
use Rattle.std.proofs.lemmas.Bool.{cases_Bool, both_ways, and_parts, and_from, cond-true, cond-false, false_from_ne_true}
use Rattle.std.proofs.lemmas.Option.{same_Some}
use Rattle.game_rules.specs.Board.{Square, below, is_board}
use Rattle.game_rules.specs.Position.{Position, board_of, other, side_to_move, has_room, has_line, end_of, is_legal, after_move, empty_count, moved}
use Rattle.game_rules.specs.Position.{open_columns}
use Rattle.game_rules.specs.Value.{wins, same_end}
use Rattle.game_rules.specs.Groups.{Group}
use Rattle.game_rules.specs.declared.Side.TheVariants.{White, Black}
use Rattle.game_rules.specs.declared.End.TheVariants as ends
use Rattle.game_rules.proofs.Lists.{chosen, any_from, all_from, Among-map, Among-map_gives, Among-filter, Among-filter_gives, Among-below}
use Rattle.game_rules.proofs.Moves.{room_column, empty_count_moved, side_moved}
use Rattle.game_rules.proofs.Values.{wins_own, wins_other, value_at_end}
use Rattle.game_rules.proofs.Ends.{has_line_from, ended_parts, legal_parts}
use Rattle.plan_rules.specs.Plan.{is_nil}
use Rattle.plan_rules.proofs.Turns.{playable_room}
use Rattle.odd_rules.specs.Threat.{Pair, IsThreat}
use Rattle.odd_rules.specs.Duel.{answer_of, top_of, answered_move, after_turn, threat_duel, is_playable_list, after_turns, IsKept, IsWon, Stands}
use Rattle.odd_rules.specs.Duel.{IsAnswered, IsTurn, IsHeld}
use Rattle.odd_rules.proofs.Strategy.{first_kept, take_turn}

-- the turn after a move that doesn't end the game
pub turn_is : (pairs : List Pair) (q : Position) (column : ℕ) → end_of (after_move q column) ≡ None
    → after_turn pairs q column ≡ Some (answered_move pairs q column)
turn_is pairs q column going = rw going refl

-- after the end no column is legal
won_over : (q : Position) → IsWon q → (column : ℕ) → is_legal q column ≡ false
won_over q won column = false_from_ne_true _ (λ legal. absurd (cc (won.ended, (legal_parts q column legal).0)))

module _ (p : Position) (g : Group) (pairs : List Pair) (t : Square) (board : is_board (board_of p) ≡ true) (threat : IsThreat p g pairs t) where
  abbrev turn_at : (q : Position) → IsKept p t pairs q → (column : ℕ) → is_legal q column ≡ true → IsAnswered p t pairs q column
  turn_at = take_turn p g pairs t board threat

  -- ---- after some turns

  stands_along : (columns : List ℕ) (q r : Position) → Stands p t pairs q → after_turns pairs q columns ≡ Some r → Stands p t pairs r
  stands_along [] q r stands h = subst (Stands p t pairs) (same_Some q r h) stands
  stands_along (column ∷ columns) q r (inl won) h =
      absurd (cc (sym (cond-false (is_legal q column) (option_and_then (λ next. after_turns pairs next columns) (after_turn pairs q column)) None
      (won_over q won column)) ∙ h))
  stands_along (column ∷ columns) q r (inr kept) h =
      elim (chosen (is_legal q column) (option_and_then (λ next. after_turns pairs next columns) (after_turn pairs q column)) None (Some r) h) [
        | inr illegal ↦ absurd (cc illegal.1)
        | inl legal ↦
            let one = turn_at q kept column legal.0 in
            stands_along columns (answered_move pairs q column) r one.after
            (sym (ap (option_and_then (λ next. after_turns pairs next columns)) (turn_is pairs q column one.going)) ∙ legal.1)
      ]

  pub stands_at : (columns : List ℕ) (q : Position) → after_turns pairs p columns ≡ Some q → Stands p t pairs q
  stands_at columns q h = stands_along columns p q (inr (first_kept p g pairs t board threat)) h

  pub answered_at : (columns : List ℕ) (q : Position) (column : ℕ) → after_turns pairs p columns ≡ Some q → is_legal q column ≡ true
      → IsAnswered p t pairs q column
  answered_at columns q column h legal = elim (stands_at columns q h) [
    | inl won ↦ absurd (both_ways (is_legal q column) (won_over q won column) legal)
    | inr kept ↦ turn_at q kept column legal
  ]

  -- ---- the duel

  -- a duel whose first column is legal goes on with the position after Black's move, and the duel after White's answer
  duel_opens : (q : Position) (column : ℕ) (columns : List ℕ) → is_legal q column ≡ true → end_of (after_move q column) ≡ None
      → threat_duel pairs q (column ∷ columns) ≡ q ∷ after_move q column ∷ threat_duel pairs (answered_move pairs q column) columns
  duel_opens q column columns legal going =
      cond-true (is_legal q column) (q ∷ after_move q column ∷ option_map_or (λ next. threat_duel pairs next columns) (after_turn pairs q column) [])
      (q ∷ []) legal
      ∙ ap (λ o. q ∷ after_move q column ∷ option_map_or (λ next. threat_duel pairs next columns) o []) (turn_is pairs q column going)

  duel_stops : (q : Position) (column : ℕ) (columns : List ℕ) → is_legal q column ≡ false → threat_duel pairs q (column ∷ columns) ≡ q ∷ []
  duel_stops q column columns illegal =
      cond-false (is_legal q column) (q ∷ after_move q column ∷ option_map_or (λ next. threat_duel pairs next columns) (after_turn pairs q column) [])
      (q ∷ []) illegal

  list_opens : (q : Position) (column : ℕ) (columns : List ℕ) → is_playable_list pairs q (column ∷ columns) ≡ true → end_of (after_move q column) ≡ None
      → is_playable_list pairs (answered_move pairs q column) columns ≡ true
  list_opens q column columns played going =
      sym (ap (λ o. option_map_or (λ next. is_playable_list pairs next columns) o (is_nil columns)) (turn_is pairs q column going))
      ∙ (and_parts (is_legal q column) _ played).1

  duel_first : (q : Position) (columns : List ℕ) → slice_get (threat_duel pairs q columns) 0 ≡ Some q
  duel_first q [] = refl
  duel_first q (column ∷ columns) = either (is_legal q column)
      (after_move q column ∷ option_map_or (λ next. threat_duel pairs next columns) (after_turn pairs q column) [])
    where
      either : (b : Bool) (rest : List Position) → slice_get (cond b (q ∷ rest) (q ∷ [])) 0 ≡ Some q
      either true rest = refl
      either false rest = refl

  held_when : (q : Position) → Stands p t pairs q → IsHeld q
  held_when q (inl won) = record { no_line = λ line. both_ways (has_line q Black) won.no_line (has_line_from q Black line); ends_won = inr won.ended }
  held_when q (inr kept) = record {
    no_line = λ line. both_ways (has_line q Black) (ended_parts q kept.going).1 (has_line_from q Black line);
    ends_won = inl kept.going;
  }

  held_alone : (q : Position) → IsHeld q → (i : ℕ) (r : Position) → slice_get (q ∷ []) i ≡ Some r → IsHeld r
  held_alone q held zero r h = subst IsHeld (same_Some q r h) held
  held_alone q held (suc i) r h = absurd (cc h)

  -- Black has no line at any position of the duel, and where it ends, White has one
  held_along : (columns : List ℕ) (q : Position) → Stands p t pairs q → (i : ℕ) (r : Position) → slice_get (threat_duel pairs q columns) i ≡ Some r → IsHeld r
  held_along [] q stands i r h = held_alone q (held_when q stands) i r h
  held_along (column ∷ columns) q (inl won) i r h = held_alone q (held_when q (inl won)) i r
      (ap (λ positions. slice_get positions i) (sym (duel_stops q column columns (won_over q won column))) ∙ h)
  held_along (column ∷ columns) q (inr kept) i r h = elim (cases_Bool (is_legal q column)) [
    | inr illegal ↦ held_alone q (held_when q (inr kept)) i r (ap (λ positions. slice_get positions i) (sym (duel_stops q column columns illegal)) ∙ h)
    | inl legal ↦
        let one = turn_at q kept column legal in
        at i one (λ j. held_along columns (answered_move pairs q column) one.after j r)
        (ap (λ positions. slice_get positions i) (sym (duel_opens q column columns legal one.going)) ∙ h)
  ]
    where
      at : (i : ℕ) (one : IsAnswered p t pairs q column)
          → ((j : ℕ) → slice_get (threat_duel pairs (answered_move pairs q column) columns) j ≡ Some r → IsHeld r)
          → slice_get (q ∷ after_move q column ∷ threat_duel pairs (answered_move pairs q column) columns) i ≡ Some r → IsHeld r
      at zero one later h = subst IsHeld (same_Some q r h) (held_when q (inr kept))
      at (suc zero) one later h = subst IsHeld (same_Some (after_move q column) r h) (record {
        no_line = λ line. both_ways (has_line (after_move q column) Black) one.no_line (has_line_from (after_move q column) Black line);
        ends_won = inl one.going;
      })
      at (suc (suc i)) one later h = later i h

  pub held_in_duel : (columns : List ℕ) (i : ℕ) (r : Position) → slice_get (threat_duel pairs p columns) i ≡ Some r → IsHeld r
  held_in_duel columns i r h = held_along columns p (inr (first_kept p g pairs t board threat)) i r h

  -- each of Black's columns opens a turn of the duel
  turn_along : (columns : List ℕ) (q : Position) → Stands p t pairs q → is_playable_list pairs q columns ≡ true → (i column : ℕ)
      → slice_get columns i ≡ Some column → IsTurn p t pairs (threat_duel pairs q columns) i column
  turn_along [] q stands played i column at = absurd (cc at)
  turn_along (first ∷ columns) q (inl won) played i column at =
      absurd (both_ways (is_legal q first) (won_over q won first) (and_parts (is_legal q first) _ played).0)
  turn_along (first ∷ columns) q (inr kept) played zero column at =
      subst (IsTurn p t pairs (threat_duel pairs q (first ∷ columns)) 0) (same_Some first column at) (opening (and_parts (is_legal q first) _ played).0)
    where
      opening : is_legal q first ≡ true → IsTurn p t pairs (threat_duel pairs q (first ∷ columns)) 0 first
      opening legal = from (turn_at q kept first legal)
        where
          from : IsAnswered p t pairs q first → IsTurn p t pairs (threat_duel pairs q (first ∷ columns)) 0 first
          from one = record {
            now = q;
            is_now = ap (λ positions. slice_get positions 0) (duel_opens q first columns legal one.going);
            kept = kept;
            legal = legal;
            answered = one;
            after_black = ap (λ positions. slice_get positions 1) (duel_opens q first columns legal one.going);
            after_white = ap (λ positions. slice_get positions 2) (duel_opens q first columns legal one.going)
                ∙ duel_first (answered_move pairs q first) columns;
          }
  turn_along (first ∷ columns) q (inr kept) played (suc i) column at =
      let legal = (and_parts (is_legal q first) _ played).0 in
      let one = turn_at q kept first legal in
      later legal one.going (turn_along columns (answered_move pairs q first) one.after (list_opens q first columns played one.going) i column at)
    where
      shifted : is_legal q first ≡ true → end_of (after_move q first) ≡ None → (j k : ℕ) → k ≡ j + 2
          → slice_get (threat_duel pairs q (first ∷ columns)) k ≡ slice_get (threat_duel pairs (answered_move pairs q first) columns) j
      shifted legal going j k two = ap (λ positions. slice_get positions k) (duel_opens q first columns legal going)
          ∙ ap (λ k. slice_get (q ∷ after_move q first ∷ threat_duel pairs (answered_move pairs q first) columns) k) place
        where
          place : k ≡ suc (suc j)
          place = omega arith

      later : is_legal q first ≡ true → end_of (after_move q first) ≡ None
          → IsTurn p t pairs (threat_duel pairs (answered_move pairs q first) columns) i column
          → IsTurn p t pairs (threat_duel pairs q (first ∷ columns)) (suc i) column
      later legal going rest = record {
        now = rest.now;
        is_now = shifted legal going (2 * i) (2 * suc i) (omega arith) ∙ rest.is_now;
        kept = rest.kept;
        legal = rest.legal;
        answered = rest.answered;
        after_black = shifted legal going (2 * i + 1) (2 * suc i + 1) (omega arith) ∙ rest.after_black;
        after_white = shifted legal going (2 * i + 2) (2 * suc i + 2) (omega arith) ∙ rest.after_white;
      }

  pub turn_in_duel : (columns : List ℕ) → is_playable_list pairs p columns ≡ true → (i column : ℕ) → slice_get columns i ≡ Some column
      → IsTurn p t pairs (threat_duel pairs p columns) i column
  turn_in_duel columns played i column at = turn_along columns p (inr (first_kept p g pairs t board threat)) played i column at

  -- ---- the value

  -- where White wins from any position that keeps everything and has fewer empty squares, White wins
  won_step : (q : Position) → IsKept p t pairs q → ((r : Position) → empty_count r < empty_count q → IsKept p t pairs r → wins White r ≡ true)
      → wins White q ≡ true
  won_step q kept lower = wins_other White q kept.going kept.black ∙ all_from (wins White) (moved q) (λ r among.
      let from = Among-map_gives (after_move q) (open_columns q) r among in
      let room = (Among-filter_gives (has_room q) (below (length q.columns)) from.0 from.1).1 in
      subst (λ r. wins White r ≡ true) from.2 (each from.0 room (turn_at q kept from.0 (and_from _ _ (ap is_none kept.going) room))))
    where
      each : (column : ℕ) → has_room q column ≡ true → IsAnswered p t pairs q column → wins White (after_move q column) ≡ true
      each column room one =
          wins_own White (after_move q column) one.going turn_now
          ∙ any_from (wins White) (moved (after_move q column)) (answered_move pairs q column)
          (Among-map (after_move (after_move q column)) (open_columns (after_move q column)) to
          (Among-filter (has_room (after_move q column)) (below (length (after_move q column).columns)) to
          (Among-below (length (after_move q column).columns) to (room_column (after_move q column) to answered)) answered))
          (won one.after)
        where
          to : ℕ
          to = (answer_of pairs (top_of q column)).0

          turn_now : side_to_move (after_move q column) ≡ White
          turn_now = side_moved q column (room_column q column room) ∙ ap other kept.black

          answered : has_room (after_move q column) to ≡ true
          answered = playable_room (after_move q column) (answer_of pairs (top_of q column)) one.playable

          won : Stands p t pairs (answered_move pairs q column) → wins White (answered_move pairs q column) ≡ true
          won (inl is) = ap (same_end ends.White) (value_at_end (answered_move pairs q column) ends.White is.ended)
          won (inr kept_on) =
              let fewer = empty_count_moved q column room in
              let fewer_again = empty_count_moved (after_move q column) (answer_of pairs (top_of q column)).0 answered in
              lower (answered_move pairs q column) (omega arith) kept_on

  won_within : (n : ℕ) (q : Position) → empty_count q ≤ n → IsKept p t pairs q → wins White q ≡ true
  won_within zero q low kept = won_step q kept (λ r fewer later. absurd (omega arith))
  won_within (suc n) q low kept = won_step q kept (λ r fewer later. won_within n r (omega arith) later)

  pub white_wins : wins White p ≡ true
  white_wins = won_within (empty_count p) p (omega arith) (first_kept p g pairs t board threat)
