-- By a threat the lines of play tell the turns of a duel.
use Rattle.std.proofs.Common.{◌≡◌, ◌≢◌, ℕ, true, List, map, Some, option_map, refl, sym, ap, ◌∙◌, inl, inr}
use Rattle.std.proofs.lemmas.Bool.{and_parts}
use Rattle.std.proofs.lemmas.Option.{same_Some}
use Rattle.game_rules.specs.Board.{Square, is_board}
use Rattle.game_rules.specs.Groups.{Group}
use Rattle.game_rules.specs.Position.{Position, board_of, is_legal}
use Rattle.game_rules.proofs.Ends.{legal_parts}
use Rattle.odd_rules.specs.Threat.{Pair, target, is_threat, IsThreat}
use Rattle.odd_rules.specs.Duel.{answered_move, after_turn, threat_duel, is_playable_list, Stands, IsAnswered, IsTurn}
use Rattle.odd_rules.proofs.Strategy.{first_kept, take_turn}
use Rattle.odd_rules.proofs.Tests.{threat_gives}
use Rattle.odd_rules.proofs.Theorems.{duel_turns, duel_held}
use Rattle.odd_rules.proofs.Wins.{turn_is}
use Rattle.play_text.specs.Play.{AllPlayed, NoReply, move_line, Played}
use Rattle.play_text.proofs.Turned.{GoesInTurns, HasTurn, AreDuels, IsTurnTold, played_in_turns, legal_played, turns_as_many, turns_named, turns_playable}
use Rattle.play_text.proofs.Turned.{turns_told}
use Rattle.threat_text.specs.Threats.{turn_text, turn_with, threat_turn, answers_from}
use Rattle.threat_text.specs.Told.{TellsTurn, TellsDuel}

-- ---- one turn

-- What is known of a turn by a threat: the position after it, and the line that is written.
record IsMade (pairs : List Pair) (q : Position) (column : ℕ) (line : List ℕ) (next : Position) : Type 0 where
  turn : after_turn pairs q column ≡ Some next
  is_text : line ≡ turn_text pairs q column

-- where all is kept, a legal move is answered; after White's line none is legal
answered_from : (p : Position) (g : Group) (pairs : List Pair) (t : Square) → is_board (board_of p) ≡ true → IsThreat p g pairs t
    → (q : Position) (column : ℕ) → Stands p t pairs q → is_legal q column ≡ true → IsAnswered p t pairs q column
answered_from p g pairs t board threat q column (inl won) legal = absurd (cc (won.ended, (legal_parts q column legal).0))
answered_from p g pairs t board threat q column (inr kept) legal = take_turn p g pairs t board threat q kept column legal

answered_by : (p : Position) (g : Group) (pairs : List Pair) (t : Square) → is_board (board_of p) ≡ true → IsThreat p g pairs t
    → (q : Position) (column : ℕ) → Stands p t pairs q → is_legal q column ≡ true → HasTurn (threat_turn pairs) (IsMade pairs) (Stands p t pairs) q column
answered_by p g pairs t board threat q column stands legal =
    let answered = answered_from p g pairs t board threat q column stands legal in
    let turn = turn_is pairs q column answered.going in
    record {
      line = turn_text pairs q column;
      next = answered_move pairs q column;
      made = ap (option_map (turn_with pairs q column)) turn;
      fact = record { turn = turn; is_text = refl };
      kept = answered.after;
    }

-- the columns of such turns are playable, and their positions are the duel
threat_duels : (pairs : List Pair) → AreDuels (λ q. q) (IsMade pairs) (is_playable_list pairs) (threat_duel pairs)
threat_duels pairs = record {
  none = λ q. refl;
  first = λ q column columns is. (and_parts (is_legal q column) _ is).0;
  later = λ q column columns line next made is. rw made.turn at (and_parts (is_legal q column) _ is).1;
  more = λ q column columns line next legal made is. rw (legal, made.turn) is;
  opens = λ q column columns line next legal made. rw (legal, made.turn) refl;
}

-- ---- the duel

turn_told : (p : Position) (t : Square) (pairs : List Pair) (columns : List ℕ) (i : ℕ) (line : List ℕ)
    (told : IsTurnTold (λ q. q) (IsMade pairs) (threat_duel pairs) p columns i line) → IsTurn p t pairs (threat_duel pairs p columns) i told.column
    → TellsTurn p t pairs columns i line
turn_told p t pairs columns i line told turn = record {
  column = told.column;
  is_column = told.is_column;
  turn = turn;
  is_text = told.fact.is_text ∙ ap (λ q. turn_text pairs q told.column) (sym (same_Some turn.now told.now (sym turn.is_now ∙ told.is_now)));
}

-- what goes in turns by a threat tells a duel
tells_by : (p : Position) (g : Group) (pairs : List Pair) (t : Square) → is_board (board_of p) ≡ true → is_threat p g pairs ≡ true → target p g ≡ Some t
    → (moves : List (List ℕ)) (played : Played) → GoesInTurns (λ q. q) (IsMade pairs) p moves played
    → TellsDuel p t pairs moves played.lines × (played.end ≢ NoReply)
tells_by p g pairs t board is lacks moves played goes =
    let duels = threat_duels pairs in
    let playable = turns_playable (λ q. q) (IsMade pairs) (is_playable_list pairs) (threat_duel pairs) duels p moves played.lines goes.columns goes.turns in (
      record {
        columns = goes.columns;
        playable = playable;
        as_many = turns_as_many (λ q. q) (IsMade pairs) p moves played.lines goes.columns goes.turns;
        named = turns_named (λ q. q) (IsMade pairs) p moves played.lines goes.columns goes.turns;
        tells = λ i line here.
            let told =
            turns_told (λ q. q) (IsMade pairs) (is_playable_list pairs) (threat_duel pairs) duels p moves played.lines goes.columns goes.turns i line here in
            turn_told p t pairs goes.columns i line told (duel_turns p g pairs t goes.columns i told.column board is lacks playable told.is_column);
        held = λ i q here. duel_held p g pairs goes.columns i q board is here;
      },
      goes.answered,
    )

-- a threat has a target, and lacks nothing there
pub record HasTarget (p : Position) (g : Group) (pairs : List Pair) : Type 0 where
  pub t : Square
  pub lacks : target p g ≡ Some t
  pub threat : IsThreat p g pairs t

pub has_target : (p : Position) (g : Group) (pairs : List Pair) → is_threat p g pairs ≡ true → HasTarget p g pairs
has_target p g pairs is = let some = threat_gives p g pairs is in record { t = some.0; lacks = some.1; threat = some.2 }

module _ (p : Position) (g : Group) (pairs : List Pair) (board : is_board (board_of p) ≡ true) (is : is_threat p g pairs ≡ true) where
  pub tells_duel : (at : ℕ) (moves : List (List ℕ)) (has : HasTarget p g pairs)
      → TellsDuel p has.t pairs moves (answers_from pairs p at moves).lines × ((answers_from pairs p at moves).end ≢ NoReply)
  tells_duel at moves has = tells_by p g pairs has.t board is has.lacks moves (answers_from pairs p at moves)
      (played_in_turns (λ q. q) (threat_turn pairs) (IsMade pairs) (Stands p has.t pairs) (answered_by p g pairs has.t board has.threat) p at moves
      (inr (first_kept p g pairs has.t board has.threat)))

  -- the lines of columns that are all legal are all played
  pub all_legal_played : (at : ℕ) (columns : List ℕ) → is_playable_list pairs p columns ≡ true
      → (answers_from pairs p at (map move_line columns)).end ≡ AllPlayed
  all_legal_played at columns playable =
      let has = has_target p g pairs is in
      legal_played (λ q. q) (threat_turn pairs) (IsMade pairs) (Stands p has.t pairs) (answered_by p g pairs has.t board has.threat) (is_playable_list pairs)
      (threat_duel pairs) (threat_duels pairs) p at columns (inr (first_kept p g pairs has.t board has.threat)) playable
