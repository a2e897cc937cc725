-- What a player by a threat answers: the turn of the definitions.
use Rattle.std.proofs.Common.{◌≡◌, ℕ, ◌+◌, ◌/◌, ◌<◌, true, List, Option, Some, None, option_map, refl, sym, ap, ◌∙◌, subst, arith}
use Rattle.std.proofs.lemmas.Option.{same_Some}
use Rattle.game_rules.specs.Board.{Square}
use Rattle.game_rules.specs.Position.{Position, end_of, lowest_empty, is_legal, after_move, empty_count}
use Rattle.game_rules.specs.declared.End.{End}
use Rattle.game_rules.specs.declared.End.TheVariants as ends
use Rattle.game_rules.proofs.Ends.{legal_parts}
use Rattle.game_rules.proofs.Moves.{empty_count_moved}
use Rattle.plan_rules.proofs.Turns.{playable_room}
use Rattle.odd_rules.specs.Duel.{answer_of, top_of, answered_move, IsAnswered}
use Rattle.odd_rules.proofs.Tests.{threat_gives}
use Rattle.odd_rules.proofs.Theorems.{threat_answers}
use Rattle.odd_rules.proofs.Wins.{turn_is}
use Rattle.threat_rules.specs.Threatened.{Threatened, HasMoved}
use Rattle.threat_text.specs.Threats.{answer_line, turn_text}
use Rattle.run_turns.specs.Turns.{turn_line}
use Rattle.run_turns.specs.declared.turn.TurnEnd.{TurnEnd}
use Rattle.run_threat.specs.Turns.{IsUnderWay, game_with, player_turn, turn_end}

-- how the line of a turn is told
pub line_told : (black white : Square) (ended : Option End) (end : TurnEnd) → end ≡ turn_end ended
    → turn_line (record { theirs = Some black; mine = Some white; end = end }) ≡ answer_line black white ended
line_told black white ended end is = ap (λ end. turn_line (record { theirs = Some black; mine = Some white; end = end })) is ∙ of_end ended
  where
    of_end : (ended : Option End) → turn_line (record { theirs = Some black; mine = Some white; end = turn_end ended }) ≡ answer_line black white ended
    of_end None = refl
    of_end (Some ends.White) = refl
    of_end (Some ends.Black) = refl
    of_end (Some ends.Draw) = refl

-- a legal move goes to the column's lowest empty square
legal_square : (q : Position) (column : ℕ) (last : Square) → is_legal q column ≡ true → lowest_empty q column ≡ Some last → top_of q column ≡ last
legal_square q column last legal lowest = same_Some (top_of q column) last (sym (rw (legal_parts q column legal).1 refl) ∙ lowest)

-- Black's man stands there
pub moved_to : (threat : Threatened) (q now : Position) (column : ℕ) (last : Square) → IsUnderWay threat q → is_legal q column ≡ true
    → now ≡ after_move q column
    → lowest_empty q column ≡ Some last → HasMoved threat now last
moved_to threat q now column last under legal is lowest =
    subst (HasMoved threat now) (legal_square q column last legal lowest) (record {
      earlier = q;
      reached = under.reached;
      legal = legal;
      row = refl;
      now_is = is;
    })

-- each legal move is answered, for some target
record SomeAnswer (threat : Threatened) (q : Position) (column : ℕ) : Type 0 where
  t : Square
  answered : IsAnswered threat.at t threat.pairs q column

module _ (threat : Threatened) (q : Position) (column : ℕ) (under : IsUnderWay threat q) (legal : is_legal q column ≡ true) where
  some_answer : SomeAnswer threat q column
  some_answer =
      let has = threat_gives threat.at threat.group threat.pairs under.is_one in
      record {
        t = has.0;
        answered = threat_answers threat.at threat.group threat.pairs has.0 under.reached.columns q column under.board under.is_one has.1
            under.reached.leads legal;
      }

  -- the turn of the definitions
  turn_made : player_turn (record { threat = threat; stands = q }) column
      ≡ Some (turn_text threat.pairs q column, record { threat = threat; stands = answered_move threat.pairs q column })
  turn_made = ap (option_map (game_with (record { threat = threat; stands = q }) column)) (turn_is threat.pairs q column some_answer.answered.going)

  -- two squares are filled
  two_fewer : empty_count (answered_move threat.pairs q column) + 2 ≡ empty_count q
  two_fewer =
      let mid = after_move q column in
      let white = answer_of threat.pairs (top_of q column) in
      let first = empty_count_moved q column (legal_parts q column legal).1 in
      let second = empty_count_moved mid white.0 (playable_room mid white some_answer.answered.playable) in
      omega (arith, first, second)

  -- what was played in code: Black's man on the lowest empty square, White's answer to it, and the line of both
  module _ (now next : Position) (last reply : Square) (is : now ≡ after_move q column) (lowest : lowest_empty q column ≡ Some last)
      (is_reply : reply ≡ answer_of threat.pairs last) (next_is : next ≡ after_move now reply.0) where
    last_is : top_of q column ≡ last
    last_is = legal_square q column last legal lowest

    reply_is : reply ≡ answer_of threat.pairs (top_of q column)
    reply_is = is_reply ∙ ap (answer_of threat.pairs) (sym last_is)

    stands_is : next ≡ answered_move threat.pairs q column
    stands_is = next_is ∙ ap (λ now. after_move now reply.0) is ∙ ap (λ (reply : Square). after_move (after_move q column) reply.0) reply_is

    line_is : answer_line last reply (end_of next) ≡ turn_text threat.pairs q column
    line_is =
        ap (λ last. answer_line last reply (end_of next)) (sym last_is)
        ∙ ap (λ reply. answer_line (top_of q column) reply (end_of next)) reply_is
        ∙ ap (λ next. answer_line (top_of q column) (answer_of threat.pairs (top_of q column)) (end_of next)) stands_is

    pub turn_answered : (line : List ℕ) → line ≡ answer_line last reply (end_of next)
        → player_turn (record { threat = threat; stands = q }) column ≡ Some (line, record { threat = threat; stands = next })
    turn_answered line told =
        turn_made
        ∙ ap (λ text. Some (text, record { threat = threat; stands = answered_move threat.pairs q column })) (sym line_is ∙ sym told)
        ∙ ap (λ stands. Some (line, record { threat = threat; stands = stands })) (sym stands_is)

    pub fewer_left : empty_count next / 2 < empty_count q / 2
    fewer_left = omega (arith, two_fewer, ap empty_count stands_is)
