-- What is explained of whole inputs, computed where it is known from outside.
use Rattle.std.proofs.Common.{◌≡◌, ℕ, List, [], ◌∷◌, codes, refl, Ok, Result}
use Rattle.std.specs.Result.{result_map_both}
use Rattle.std.specs.List.{flat_map}
use Rattle.std.specs.Fmt.{digits}
use Rattle.game_rules.specs.Groups.{groups_of}
use Rattle.game_rules.specs.Squares.{squares_of_board, squares_where}
use Rattle.game_rules.specs.Text.{game_at, read_game, board_at}
use Rattle.game_rules.specs.declared.InputFault.{InputFault}
use Rattle.proof_text.specs.Spelling.{as_line}
use Rattle.walk_rules.specs.Walk.{walk_within, walk_from}
use Rattle.explain_text.specs.Explanation.{explanation}

abbrev explained : List (List ℕ) → ℕ → Result (List ℕ) InputFault
explained lines reach = result_map_both (λ p. explanation p reach) (λ fault. fault) (game_at (flat_map as_line lines))

abbrev text : List (List ℕ) → Result (List ℕ) InputFault
text lines = Ok (flat_map as_line lines)

empty_board : explained (codes "board 4 4" ∷ codes "moves -" ∷ []) 11
    ≡ text (codes "plan CE:a1 CE:a3 CE:b1 CE:b3 BI:c1,d1 LI:c2-c4,d2-d4" ∷ codes "CE:a1 owns a1 a2" ∷ codes "CE:a3 owns a3 a4" ∷ codes "CE:b1 owns b1 b2"
    ∷ codes "CE:b3 owns b3 b4" ∷ codes "BI:c1,d1 owns c1 d1" ∷ codes "LI:c2-c4,d2-d4 owns c2 c3 c4 d2 d3 d4" ∷ codes "a1h by BI:c1,d1" ∷ codes "a2h by CE:a1"
    ∷ codes "a3h by LI:c2-c4,d2-d4" ∷ codes "a4h by CE:a3" ∷ codes "a1v by CE:a1" ∷ codes "b1v by CE:b1" ∷ codes "c1v by LI:c2-c4,d2-d4"
    ∷ codes "d1v by LI:c2-c4,d2-d4" ∷ codes "a1u by CE:b1" ∷ codes "a4d by CE:a3" ∷ [])
unfolding game_at read_game board_at digits groups_of squares_of_board squares_where walk_within walk_from
empty_board = refl

beyond_reach : explained (codes "board 4 4" ∷ codes "moves -" ∷ []) 10 ≡ text (codes "no plan within reach" ∷ [])
unfolding game_at read_game board_at digits groups_of squares_of_board squares_where walk_within walk_from
beyond_reach = refl

ended : explained (codes "board 4 4" ∷ codes "moves abababa" ∷ []) 1000 ≡ text (codes "no plan" ∷ [])
unfolding game_at read_game board_at digits groups_of squares_of_board squares_where walk_within walk_from
ended = refl
