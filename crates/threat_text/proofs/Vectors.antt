-- What is played by whole inputs, computed where it is known from outside.
use Rattle.std.proofs.Common.{◌≡◌, ℕ, List, [], ◌∷◌, codes, refl}
use Rattle.std.specs.List.{flat_map}
use Rattle.std.specs.Fmt.{digits}
use Rattle.game_rules.specs.Groups.{groups_of}
use Rattle.game_rules.specs.Squares.{squares_of_board}
use Rattle.game_rules.specs.Text.{game_at, read_game, board_at}
use Rattle.odd_rules.specs.Refusal.{pairings, first_threat}
use Rattle.proof_text.specs.Spelling.{as_line}
use Rattle.play_text.specs.Play.{PlayEnd, NoThreat, NoMove, AllPlayed, Played}
use Rattle.play_text.specs.declared.PlayKind.TheVariants.{BadMove, GameOver, ColumnFull}
use Rattle.threat_text.specs.Threats.{threat_of}

abbrev input : List (List ℕ) → List ℕ
input lines = flat_map as_line lines

abbrev gives : List (List ℕ) → PlayEnd → Played
gives lines end = record { lines = lines; end = end }

-- one column alone has room
abbrev one_column : List (List ℕ) → List ℕ
one_column moves = input (codes "board 4 4" ∷ codes "moves dccbbdbbddcca" ∷ moves)

-- two more have an empty square each
abbrev with_pair : List (List ℕ) → List ℕ
with_pair moves = input (codes "board 4 4" ∷ codes "moves dccbbdbaddc" ∷ moves)

won_above : threat_of (one_column (codes "a" ∷ [])) ≡ gives (as_line (codes "threat a3h") ∷ as_line (codes "a2 a3 won") ∷ []) AllPlayed
unfolding threat_of game_at read_game board_at digits groups_of squares_of_board pairings first_threat
won_above = refl

after_the_end : threat_of (one_column (codes "a" ∷ codes "a" ∷ []))
    ≡ gives (as_line (codes "threat a3h") ∷ as_line (codes "a2 a3 won") ∷ []) (NoMove (record { kind = GameOver; at = 4 }))
unfolding threat_of game_at read_game board_at digits groups_of squares_of_board pairings first_threat
after_the_end = refl

full_column : threat_of (one_column (codes "b" ∷ [])) ≡ gives (as_line (codes "threat a3h") ∷ []) (NoMove (record { kind = ColumnFull; at = 3 }))
unfolding threat_of game_at read_game board_at digits groups_of squares_of_board pairings first_threat
full_column = refl

across_a_pair : threat_of (with_pair (codes "c" ∷ codes "a" ∷ []))
    ≡ gives (as_line (codes "threat a3h BI:b4,c4") ∷ as_line (codes "c4 b4") ∷ as_line (codes "a2 a3 won") ∷ []) AllPlayed
unfolding threat_of game_at read_game board_at digits groups_of squares_of_board pairings first_threat
across_a_pair = refl

no_letter : threat_of (with_pair (codes "e" ∷ codes "a" ∷ []))
    ≡ gives (as_line (codes "threat a3h BI:b4,c4") ∷ []) (NoMove (record { kind = BadMove; at = 3 }))
unfolding threat_of game_at read_game board_at digits groups_of squares_of_board pairings first_threat
no_letter = refl

-- White is to move at the empty board; the lines behind the game aren't read
none_there : threat_of (input (codes "board 4 4" ∷ codes "moves -" ∷ codes "x" ∷ [])) ≡ gives (as_line (codes "no threat") ∷ []) NoThreat
unfolding threat_of game_at read_game board_at digits groups_of squares_of_board pairings first_threat
none_there = refl
