-- What whole inputs give.
use Rattle.std.proofs.Common.{◌≡◌, ◌≢◌, ◌↔◌, ℕ, true, false, List, ◌∷◌, map, Option, Some, None, Result, Ok, Err, refl, sym, ap, ◌∙◌}
use Rattle.game_rules.specs.Groups.{Group}
use Rattle.game_rules.specs.Position.{Position}
use Rattle.game_rules.specs.Text.{game_at}
use Rattle.game_rules.specs.declared.InputFault.{InputFault}
use Rattle.game_rules.proofs.Grammar.{game_board}
use Rattle.odd_rules.specs.Threat.{Pair, is_threat}
use Rattle.odd_rules.specs.Duel.{is_playable_list}
use Rattle.odd_rules.specs.Refusal.{first_threat}
use Rattle.odd_rules.proofs.First.{first_is, first_none, first_none_from}
use Rattle.odd_rules.proofs.Theorems.{threat_value}
use Rattle.proof_text.specs.Texts.{pieces, game_of, behind_game}
use Rattle.play_text.specs.Play.{NoThreat, AllPlayed, move_line, Played}
use Rattle.play_text.proofs.Steps.{ends_so, told_so}
use Rattle.threat_text.specs.Threats.{threat_turn, answers_from, first_move, threat_line, threat_lines, threat_game, threat_of}
use Rattle.threat_text.specs.Told.{TellsThreat, IsTold}
use Rattle.threat_text.proofs.Turns.{has_target, tells_duel, all_legal_played}

pub threat_is_told : (bytes : List ℕ) → IsTold bytes (threat_of bytes).lines (threat_of bytes).end
unfolding threat_of
threat_is_told bytes = of_game (game_at (game_of (pieces bytes))) refl
  where
    Told : Played → Type 0
    Told played = IsTold bytes played.lines played.end

    moves : List (List ℕ)
    moves = behind_game (pieces bytes)

    of_threat : (root : Position) (g : Group) (pairs : List Pair) → game_at (game_of (pieces bytes)) ≡ Ok root → first_threat root ≡ Some (g, pairs)
        → Told (threat_lines root (Some (g, pairs)) (behind_game (pieces bytes)))
    of_threat root g pairs e f =
        let board = game_board (game_of (pieces bytes)) root e in
        let is = first_is root g pairs f in
        let has = has_target root g pairs is in
        let tells = tells_duel root g pairs board is first_move (behind_game (pieces bytes)) has in
        let lines = threat_line g pairs ∷ (answers_from pairs root first_move (behind_game (pieces bytes))).lines in
        let told : TellsThreat bytes lines = record {
          root = root;
          game = e;
          group = g;
          pairs = pairs;
          is_first = f;
          is_one = is;
          target_square = has.t;
          is_target = has.lacks;
          wins = threat_value root g pairs board is;
          turns = (answers_from pairs root first_move (behind_game (pieces bytes))).lines;
          is_lines = refl;
          duel = tells.0;
        } in
        told_so (λ q. q) (threat_turn pairs) (IsTold bytes lines) (λ fault. told) told root first_move (behind_game (pieces bytes)) tells.1

    of_first : (root : Position) (first : Option (Group × List Pair)) → game_at (game_of (pieces bytes)) ≡ Ok root → first_threat root ≡ first
        → Told (threat_lines root first (behind_game (pieces bytes)))
    of_first root None e f = (refl, record { root = root; game = e; none = first_none root f })
    of_first root (Some (g, pairs)) e f = of_threat root g pairs e f

    of_game : (game : Result Position InputFault) → game_at (game_of (pieces bytes)) ≡ game → Told (threat_game game (behind_game (pieces bytes)))
    of_game (Err fault) e = refl
    of_game (Ok root) e = of_first root (first_threat root) e refl

-- that there is no threat is told exactly where there is none
pub none_told : (bytes : List ℕ) (root : Position) → game_at (game_of (pieces bytes)) ≡ Ok root
    → ((threat_of bytes).end ≡ NoThreat) ↔ ((g : Group) (pairs : List Pair) → is_threat root g pairs ≡ false)
unfolding threat_of
none_told bytes root game = (λ told. first_none root (there (first_threat root) refl told), λ none. here (first_none_from root none))
  where
    another : (pairs : List Pair) (moves : List (List ℕ)) → (answers_from pairs root first_move moves).end ≢ NoThreat
    another pairs moves = ends_so (λ q. q) (threat_turn pairs) (λ end. end ≢ NoThreat) (λ fault same. cc) (λ same. cc) (λ same. cc) root first_move moves

    of_root : (first : Option (Group × List Pair)) → (threat_lines root first (behind_game (pieces bytes))).end ≡ NoThreat → first ≡ None
    of_root None told = refl
    of_root (Some (g, pairs)) told = absurd (another pairs (behind_game (pieces bytes)) told)

    there : (first : Option (Group × List Pair)) → first_threat root ≡ first
        → (threat_game (game_at (game_of (pieces bytes))) (behind_game (pieces bytes))).end ≡ NoThreat → first_threat root ≡ None
    there first e told = of_root (first_threat root) (sym (ap (λ game. (threat_game game (behind_game (pieces bytes))).end) game) ∙ told)

    here : first_threat root ≡ None → (threat_game (game_at (game_of (pieces bytes))) (behind_game (pieces bytes))).end ≡ NoThreat
    here none = ap (λ game. (threat_game game (behind_game (pieces bytes))).end) game
        ∙ ap (λ first. (threat_lines root first (behind_game (pieces bytes))).end) none

-- an input with a game, a threat and legal moves is played to its end
pub input_played : (bytes : List ℕ) (root : Position) (g : Group) (pairs : List Pair) (columns : List ℕ) → game_at (game_of (pieces bytes)) ≡ Ok root
    → first_threat root ≡ Some (g, pairs) → behind_game (pieces bytes) ≡ map move_line columns → is_playable_list pairs root columns ≡ true
    → (threat_of bytes).end ≡ AllPlayed
unfolding threat_of
input_played bytes root g pairs columns game first lines playable =
    ap (λ game. (threat_game game (behind_game (pieces bytes))).end) game
    ∙ ap (λ first. (threat_lines root first (behind_game (pieces bytes))).end) first
    ∙ ap (λ moves. (threat_lines root (Some (g, pairs)) moves).end) lines
    ∙ all_legal_played root g pairs (game_board (game_of (pieces bytes)) root game) (first_is root g pairs first) first_move columns playable
