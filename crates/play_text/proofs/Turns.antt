-- By a plan the lines of play tell the turns of a duel.
use Rattle.std.proofs.Common.{◌≡◌, ◌≢◌, ℕ, ◌+◌, true, List, [], ◌∷◌, ◌++◌, map, Some, option_map, refl, sym, ap, ◌∙◌}
use Rattle.std.proofs.lemmas.Bool.{and_parts}
use Rattle.std.proofs.lemmas.Option.{same_Some}
use Rattle.game_rules.specs.Board.{Square}
use Rattle.game_rules.specs.Position.{Position, height, is_legal, after_move}
use Rattle.plan_rules.specs.Rules.{RuleInstance}
use Rattle.plan_rules.specs.Plan.{is_plan, plan_reply, after_turn, after_turns, duel, is_playable_list, IsAnswered, IsTurn}
use Rattle.plan_rules.proofs.MoreTurns.{turns_more, turn_made}
use Rattle.plan_rules.proofs.Theorems.{plan_answers, duel_turns, duel_no_line}
use Rattle.play_text.specs.Play.{AllPlayed, NoReply, move_line, turn_text, answer_to, turn_with, plan_turn, play_from}
use Rattle.play_text.specs.Told.{TellsTurn, TellsDuel}
use Rattle.play_text.proofs.Turned.{HasTurn, AreDuels, IsTurnTold, played_in_turns, legal_played, turns_as_many, turns_named, turns_playable, turns_told}

-- ---- one turn

-- an answered move has its answer
pub answer_is : (ws : List RuleInstance) (q : Position) (column : ℕ) (answered : IsAnswered ws q column) → answer_to ws q column ≡ Some answered.reply
answer_is ws q column answered = rw answered.going answered.is_reply

-- What is known of a turn by a plan: the plan's answer, the position after it, and the line that is written.
record IsMade (ws : List RuleInstance) (q : Position) (column : ℕ) (line : List ℕ) (next : Position) : Type 0 where
  reply : Square
  is_reply : plan_reply ws (after_move q column) (column, height q column + 1) ≡ Some reply
  turn : after_turn ws q column ≡ Some next
  is_text : line ≡ turn_text q column reply

-- some turns lead to the position
abbrev IsReached : Position → List RuleInstance → Position → Type 0
IsReached p ws q = (before : List ℕ) × (after_turns ws p before ≡ Some q)

answered_by : (p : Position) (ws : List RuleInstance) → is_plan p ws ≡ true → (q : Position) (column : ℕ) → IsReached p ws q → is_legal q column ≡ true
    → HasTurn (plan_turn ws) (IsMade ws) (IsReached p ws) q column
answered_by p ws is q column (before, reached) legal =
    let answered = plan_answers p ws before q column is reached legal in
    let next = after_move (after_move q column) answered.reply.0 in
    let turn = turn_made ws q column answered in
    record {
      line = turn_text q column answered.reply;
      next = next;
      made = ap (option_map (turn_with q column)) (answer_is ws q column answered);
      fact = record { reply = answered.reply; is_reply = answered.is_reply; turn = turn; is_text = refl };
      kept = (before ++ column ∷ [], turns_more ws p q next before column reached legal turn);
    }

-- the columns of such turns are playable, and their positions are the duel
plan_duels : (ws : List RuleInstance) → AreDuels (λ q. q) (IsMade ws) (is_playable_list ws) (duel ws)
plan_duels ws = record {
  none = λ q. refl;
  first = λ q column columns is. (and_parts (is_legal q column) _ is).0;
  later = λ q column columns line next made is. rw made.turn at (and_parts (is_legal q column) _ is).1;
  more = λ q column columns line next legal made is. rw (legal, made.turn) is;
  opens = λ q column columns line next legal made. rw (legal, made.turn) refl;
}

-- ---- the duel

turn_told : (p : Position) (ws : List RuleInstance) (columns : List ℕ) (i : ℕ) (line : List ℕ)
    (told : IsTurnTold (λ q. q) (IsMade ws) (duel ws) p columns i line) → IsTurn p ws (duel ws p columns) i told.column → TellsTurn p ws columns i line
turn_told p ws columns i line told turn =
    let now : turn.now ≡ told.now = same_Some turn.now told.now (sym turn.is_now ∙ told.is_now) in
    let here : plan_reply ws (after_move told.now told.column) (told.column, height told.now told.column + 1) ≡ Some turn.answered.reply =
    ap (λ q. plan_reply ws (after_move q told.column) (told.column, height q told.column + 1)) (sym now) ∙ turn.answered.is_reply in
    record {
      column = told.column;
      is_column = told.is_column;
      turn = turn;
      is_text = told.fact.is_text ∙ ap (λ q. turn_text q told.column told.fact.reply) (sym now)
          ∙ ap (turn_text turn.now told.column) (same_Some told.fact.reply turn.answered.reply (sym told.fact.is_reply ∙ here));
    }

-- what is played by a plan tells a duel
pub tells_duel : (p : Position) (ws : List RuleInstance) (at : ℕ) (moves : List (List ℕ)) → is_plan p ws ≡ true
    → TellsDuel p ws moves (play_from ws p at moves).lines × ((play_from ws p at moves).end ≢ NoReply)
tells_duel p ws at moves is =
    let goes = played_in_turns (λ q. q) (plan_turn ws) (IsMade ws) (IsReached p ws) (answered_by p ws is) p at moves ([], refl) in
    let lines = (play_from ws p at moves).lines in
    let playable = turns_playable (λ q. q) (IsMade ws) (is_playable_list ws) (duel ws) (plan_duels ws) p moves lines goes.columns goes.turns in (
      record {
        columns = goes.columns;
        playable = playable;
        as_many = turns_as_many (λ q. q) (IsMade ws) p moves lines goes.columns goes.turns;
        named = turns_named (λ q. q) (IsMade ws) p moves lines goes.columns goes.turns;
        tells = λ i line here.
            let told = turns_told (λ q. q) (IsMade ws) (is_playable_list ws) (duel ws) (plan_duels ws) p moves lines goes.columns goes.turns i line here in
            turn_told p ws goes.columns i line told (duel_turns p ws goes.columns i told.column is playable told.is_column);
        no_line = λ i q here line. duel_no_line p ws goes.columns i q is playable here line;
      },
      goes.answered,
    )

-- the lines of columns that are all legal are all played
pub all_legal_played : (p : Position) (ws : List RuleInstance) (at : ℕ) (columns : List ℕ) → is_plan p ws ≡ true → is_playable_list ws p columns ≡ true
    → (play_from ws p at (map move_line columns)).end ≡ AllPlayed
all_legal_played p ws at columns is playable =
    legal_played (λ q. q) (plan_turn ws) (IsMade ws) (IsReached p ws) (answered_by p ws is) (is_playable_list ws) (duel ws) (plan_duels ws) p at columns
    ([], refl) playable
