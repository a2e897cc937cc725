-- What is played behind the game: the line of the threat comes first, or that there is none.
use Rattle.std.proofs.Common.{◌≡◌, ℕ, List, [], ◌∷◌, Option, Some, None, option_map, Ok, refl, sym, ap, ◌∙◌, subst, append-nil}
use Rattle.std.specs.Io.KnownBytes.{Appends}
use Rattle.std.proofs.lemmas.Option.{same_Some}
use Rattle.game_rules.specs.Groups.{Group}
use Rattle.game_rules.specs.Position.{Position}
use Rattle.game_rules.specs.Text.{game_at}
use Rattle.odd_rules.specs.Threat.{Pair}
use Rattle.odd_rules.specs.Refusal.{first_threat}
use Rattle.io_ports.specs.Reading.{Pending, Reads, PassesLines}
use Rattle.io_ports.proofs.Reading.{Reads_more}
use Rattle.proof_text.specs.Texts.{pieces, lines_in, game_of, behind_game}
use Rattle.play_text.specs.Play as ends
use Rattle.play_text.specs.Play.{Played, behind}
use Rattle.threat_rules.specs.Threatened.{Threatened, threat_found}
use Rattle.threat_text.specs.Threats.{threat_line, no_threat_line, answers_from, first_move, threat_lines, threat_of}
use Rattle.run_turns.specs.Inputs.{Starts}
use Rattle.run_turns.specs.Steps.{GoesOn, turns_by}
use Rattle.run_threat.specs.Threatens.{threat_form}
use Rattle.run_threat.specs.Steps.{played_at, played_from}
use Rattle.run_threat.specs.Turns.{ThreatGame, threat_stands, player_turn}
use Rattle.run_threat.proofs.Read.{game_goes, turns_by_threat}

-- a threat that was found stands at the position, and its line comes before what is played by it
found_goes : (root : Position) (found : Option (Group × List Pair)) (threat : Threatened) (lines : List (List ℕ)) → Some threat ≡ option_map (threat_found root) found
    → threat_lines root found lines ≡ behind (threat_line threat.group threat.pairs ∷ []) (answers_from threat.pairs threat.at first_move lines)
found_goes root None threat lines h = absurd (cc h)
found_goes root (Some (g, pairs)) threat lines h =
    subst (λ threat. threat_lines root (Some (g, pairs)) lines ≡ behind (threat_line threat.group threat.pairs ∷ []) (answers_from threat.pairs threat.at first_move lines))
    (same_Some (threat_found root (g, pairs)) threat (sym h)) refl

-- where none was found, that is said
none_goes : (root : Position) (found : Option (Group × List Pair)) (lines : List (List ℕ)) → None ≡ option_map (threat_found root) found
    → threat_lines root found lines ≡ record { lines = no_threat_line ∷ []; end = ends.NoThreat }
none_goes root None lines h = refl
none_goes root (Some found) lines h = absurd (cc h)

module _ (a b : Pending) (root : Position)
    (game : Reads a b (λ bytes rest. PassesLines 2 bytes rest
    × ((game_at (game_of (pieces bytes)) ≡ Ok root) × (behind_game (pieces bytes) ≡ lines_in (pieces rest))))) where
  behind_root : (P : Played → List ℕ → Type 0) → ((rest : List ℕ) → P (played_at root rest) rest)
      → Reads a b (λ bytes rest. PassesLines 2 bytes rest × P (threat_of bytes) rest)
  behind_root P holds = Reads_more a b _ _ game
      (λ bytes rest h. (h.0, subst (λ played. P played rest) (sym (game_goes bytes rest root h.1.0 h.1.1)) (holds rest)))

  module _ (threat : Threatened) (found : Some threat ≡ option_map (threat_found root) (first_threat root)) where
    threat_goes : (rest : List ℕ) → played_at root rest ≡ behind (threat_line threat.group threat.pairs ∷ []) (played_from (record { threat = threat; stands = threat.at }) first_move rest)
    unfolding played_at played_from
    threat_goes rest = found_goes root (first_threat root) threat (lines_in (pieces rest)) found

    -- play by the threat goes on behind its line
    pub threat_starts : (player : ThreatGame) (old new : Option (List ℕ)) → player ≡ record { threat = threat; stands = threat.at }
        → Appends old new (threat_line threat.group threat.pairs) → Starts threat_form threat_stands player_turn player first_move a b old new
    threat_starts player old new is put =
        let line = threat_line threat.group threat.pairs in
        record {
          lines = line ∷ [];
          opened = refl;
          written = subst (Appends old new) (sym (append-nil line)) put;
          reads = behind_root (λ played rest. played ≡ behind (line ∷ []) (turns_by threat_stands player_turn player first_move rest))
              (λ rest. threat_goes rest ∙ ap (λ player. behind (line ∷ []) (played_from player first_move rest)) (sym is)
              ∙ ap (behind (line ∷ [])) (sym (turns_by_threat player first_move rest)));
        }

    pub threat_cut : Reads a b (λ bytes rest. PassesLines 2 bytes rest × GoesOn (threat_of bytes) (threat_line threat.group threat.pairs ∷ []))
    threat_cut = behind_root (λ played rest. GoesOn played (threat_line threat.group threat.pairs ∷ []))
        (λ rest. (played_from (record { threat = threat; stands = threat.at }) first_move rest, threat_goes rest))

  module _ (found : None ≡ option_map (threat_found root) (first_threat root)) where
    pub none_ends : Reads a b (λ bytes rest. PassesLines 2 bytes rest × (threat_of bytes ≡ record { lines = no_threat_line ∷ []; end = ends.NoThreat }))
    unfolding played_at
    none_ends = behind_root (λ played rest. played ≡ record { lines = no_threat_line ∷ []; end = ends.NoThreat })
        (λ rest. none_goes root (first_threat root) (lines_in (pieces rest)) found)

    pub none_cut : Reads a b (λ bytes rest. PassesLines 2 bytes rest × GoesOn (threat_of bytes) (no_threat_line ∷ []))
    none_cut = Reads_more a b _ _ none_ends (λ bytes rest h. (h.0, (ends.ended ends.NoThreat, h.1)))
