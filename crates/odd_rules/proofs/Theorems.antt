-- What the laws of the crate say, from the strategy and the tests.
use Rattle.std.proofs.Common.{◌≡◌, ◌↔◌, ℕ, true, false, List, Some, None, refl, sym, ◌∙◌, subst}
use Rattle.std.specs.List.{slice_get}
use Rattle.std.proofs.lemmas.Option.{same_Some}
use Rattle.game_rules.specs.Board.{Square, is_board}
use Rattle.game_rules.specs.Position.{Position, board_of, is_legal}
use Rattle.game_rules.specs.Value.{value, wins, same_end}
use Rattle.game_rules.specs.Groups.{Group}
use Rattle.game_rules.specs.declared.Side.TheVariants as sides
use Rattle.game_rules.specs.declared.End.{End}
use Rattle.game_rules.specs.declared.End.TheVariants as ends
use Rattle.odd_rules.specs.Threat.{Pair, target, is_threat, IsThreat}
use Rattle.odd_rules.specs.Duel.{threat_duel, is_playable_list, after_turns, Stands, IsAnswered, IsTurn, IsHeld}
use Rattle.odd_rules.specs.Refusal.{first_threat}
use Rattle.odd_rules.proofs.Tests.{threat_gives, threat_from}
use Rattle.odd_rules.proofs.Wins.{stands_at, answered_at, held_in_duel, turn_in_duel, white_wins}
use Rattle.odd_rules.proofs.First.{first_none, first_none_from}

pub threat_words : (p : Position) (g : Group) (pairs : List Pair) → (is_threat p g pairs ≡ true) ↔ ((t : Square) × IsThreat p g pairs t)
threat_words p g pairs = ((λ h. let some = threat_gives p g pairs h in (some.0, some.2)), (λ some. threat_from p g pairs some.0 some.1))

-- the words at the target
threat_at : (p : Position) (g : Group) (pairs : List Pair) (t : Square) → is_threat p g pairs ≡ true → target p g ≡ Some t → IsThreat p g pairs t
threat_at p g pairs t h is = let some = threat_gives p g pairs h in
    subst (IsThreat p g pairs) (same_Some some.0 t (sym some.1 ∙ is)) some.2

pub threat_stands : (p : Position) (g : Group) (pairs : List Pair) (t : Square) (columns : List ℕ) (q : Position) → is_board (board_of p) ≡ true
    → is_threat p g pairs ≡ true → target p g ≡ Some t → after_turns pairs p columns ≡ Some q → Stands p t pairs q
threat_stands p g pairs t columns q board h is reached = stands_at p g pairs t board (threat_at p g pairs t h is) columns q reached

pub threat_answers : (p : Position) (g : Group) (pairs : List Pair) (t : Square) (columns : List ℕ) (q : Position) (column : ℕ) → is_board (board_of p) ≡ true
    → is_threat p g pairs ≡ true → target p g ≡ Some t → after_turns pairs p columns ≡ Some q → is_legal q column ≡ true → IsAnswered p t pairs q column
threat_answers p g pairs t columns q column board h is reached legal =
    answered_at p g pairs t board (threat_at p g pairs t h is) columns q column reached legal

pub duel_turns : (p : Position) (g : Group) (pairs : List Pair) (t : Square) (columns : List ℕ) (i column : ℕ) → is_board (board_of p) ≡ true
    → is_threat p g pairs ≡ true → target p g ≡ Some t → is_playable_list pairs p columns ≡ true → slice_get columns i ≡ Some column
    → IsTurn p t pairs (threat_duel pairs p columns) i column
duel_turns p g pairs t columns i column board h is played at =
    turn_in_duel p g pairs t board (threat_at p g pairs t h is) columns played i column at

pub duel_held : (p : Position) (g : Group) (pairs : List Pair) (columns : List ℕ) (i : ℕ) (q : Position) → is_board (board_of p) ≡ true
    → is_threat p g pairs ≡ true → slice_get (threat_duel pairs p columns) i ≡ Some q → IsHeld q
duel_held p g pairs columns i q board h at = let some = threat_gives p g pairs h in held_in_duel p g pairs some.0 board some.2 columns i q at

pub threat_wins : (p : Position) (g : Group) (pairs : List Pair) → is_board (board_of p) ≡ true → is_threat p g pairs ≡ true → wins sides.White p ≡ true
threat_wins p g pairs board h = let some = threat_gives p g pairs h in white_wins p g pairs some.0 board some.2

pub threat_value : (p : Position) (g : Group) (pairs : List Pair) → is_board (board_of p) ≡ true → is_threat p g pairs ≡ true → value p ≡ ends.White
threat_value p g pairs board h = by (value p) (threat_wins p g pairs board h)
  where
    by : (e : End) → same_end ends.White e ≡ true → e ≡ ends.White
    by ends.White won = refl
    by ends.Black won = absurd (cc won)
    by ends.Draw won = absurd (cc won)

pub first_missing : (p : Position) → (first_threat p ≡ None) ↔ ((g : Group) (pairs : List Pair) → is_threat p g pairs ≡ false)
first_missing p = (first_none p, first_none_from p)
