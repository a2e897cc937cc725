-- The lemmas that whole texts say, computed where they are known from outside.
use Rattle.std.proofs.Common.{◌≡◌, ℕ, List, [], ◌∷◌, ◌++◌, None, codes, refl}
use Rattle.std.specs.List.{flat_map}
use Rattle.std.specs.Fmt.{digits}
use Rattle.game_rules.specs.Text.{game_at, read_game, board_at}
use Rattle.proof_text.specs.Lemma.{ByEnd, ByOne}
use Rattle.proof_text.specs.Spelling.{as_line}
use Rattle.proof_text.specs.declared.Claim.TheVariants.{WhiteWins, WhiteFails}
use Rattle.run_proof.specs.Taken.{text_lemmas}

-- a proof on the 4 by 4 board
abbrev four : List ℕ → List (List ℕ) → List ℕ
four moves lines = flat_map as_line (codes "victor 1" ∷ codes "board 4 4" ∷ (codes "moves " ++ moves) ∷ lines)

-- remarks and the verdict say none
at_root : text_lemmas None (four (codes "abababa") (codes "# a remark" ∷ codes "1 - W+ end" ∷ codes "#" ∷ codes "value loss 1" ∷ []))
    ≡ record { number = 1; path = []; claim = WhiteWins; reason = ByEnd } ∷ []
unfolding text_lemmas game_at read_game board_at digits
at_root = refl

in_order : text_lemmas None (four (codes "cdccddcdaaaabb") (codes "1 bb W- end" ∷ codes "2 b W- one b 1" ∷ []))
    ≡ record { number = 1; path = 1 ∷ 1 ∷ []; claim = WhiteFails; reason = ByEnd }
    ∷ record { number = 2; path = 1 ∷ []; claim = WhiteFails; reason = ByOne (record { column = 1; lemma = 1 }) } ∷ []
unfolding text_lemmas game_at read_game board_at digits
in_order = refl

without_game : text_lemmas None (four (codes "aaaaa") (codes "1 - W+ end" ∷ [])) ≡ []
unfolding text_lemmas game_at read_game board_at digits
without_game = refl
