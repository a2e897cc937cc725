-- What is kept of the lemmas: of a position the number of its men, and the claim apart from them.
use Rattle.std.specs.Prelude.{ℕ, List, [], ◌∷◌}
use Rattle.game_rules.specs.Board.{Board}
use Rattle.board_bits.specs.MenNumber.{position_read}
use Rattle.proof_text.specs.Right.{Shown}
use Rattle.proof_text.specs.declared.Claim.{Claim}

-- what the lemmas show, from the numbers of their positions' men and their claims
abbrev pub shown_in : Board → List ℕ → List Claim → List Shown
shown_in board [] claims = []
shown_in board (men ∷ more) [] = []
shown_in board (men ∷ more) (claim ∷ claims) = (position_read board men, claim) ∷ shown_in board more claims

-- what lemmas at positions of one board show, how many more there is room for, and for how many in all each of the lists
-- has memory
pub record AllShown : Type 0 where
  pub board : Board
  pub shown : List Shown
  pub spare : ℕ
  pub memory : ℕ × ℕ
