-- What stands written of a proof: its head, then for each of two questions a remark or none and right lemmas, and last
-- the verdict.
use Rattle.std.specs.Prelude.{◌≡◌, ◌≢◌, ◌⊎◌, ℕ, true, List, [], ◌++◌, Option, Some, None, ⊤}
use Rattle.std.specs.List.{AllByRecursion}
use Rattle.game_rules.specs.Position.{Position}
use Rattle.game_rules.specs.declared.Side.{Side}
use Rattle.game_rules.specs.declared.Side.TheVariants.{White, Black}
use Rattle.proof_text.specs.Lemma.{claim_side, Lemma, has_reason}
use Rattle.proof_text.specs.Right.{Shown, Shows, AreRight, IsVerdict}
use Rattle.proof_text.specs.Spelling.{as_line, lines_of, verdict_line, is_remark, IsShort}
use Rattle.proof_text.specs.declared.Claim.TheVariants.{WhiteFails}
use Rattle.proof_text.specs.declared.Verdict.{Verdict}
use Rattle.proof_text.specs.declared.Version.{Version}

-- a remark that may stand as a line, and its line; where there is none, nothing
abbrev pub IsRemarkLine : Option (List ℕ) → Type 0
IsRemarkLine None = ⊤
IsRemarkLine (Some bytes) = is_remark bytes ≡ true

abbrev pub remark_line : Option (List ℕ) → List ℕ
remark_line None = []
remark_line (Some bytes) = as_line bytes

-- the lemmas claim something of this side, where one rests on a plan, a line has room for its instances, and the version
-- has their reasons
abbrev pub AreSided : Version → Side → List Lemma → Type 0
AreSided version side ls = AllByRecursion (λ l. (claim_side l.claim ≡ side) × IsShort l × (has_reason version l.reason ≡ true)) ls

-- There are lemmas of the question whether Black wins only where it is shown at the root that White doesn't.
abbrev pub IsAskedInTurn : Position → List Shown → List Lemma → Type 0
IsAskedInTurn root known black = black ≢ [] → (n : ℕ) × Shows known n root WhiteFails

-- Behind its head the text has, for the question whether White wins and then for the one whether Black does, a remark or
-- none and lemmas of that side. Those for White are right from the head on and show what stands in the middle; those for
-- Black are right behind them and show what stands after. Behind them comes the last line.
pub record HasWritten (version : Version) (root : Position) (head : List ℕ) (text : List ℕ) (after : List Shown) (last : List ℕ) : Type 0 where
  pub white_remark : Option (List ℕ)
  pub white : List Lemma
  pub black_remark : Option (List ℕ)
  pub black : List Lemma
  pub mid : List Shown
  pub white_right : AreRight root [] white mid
  pub black_right : AreRight root mid black after
  pub asked : IsAskedInTurn root mid black
  pub white_sided : AreSided version White white
  pub black_sided : AreSided version Black black
  pub white_remarked : IsRemarkLine white_remark
  pub black_remarked : IsRemarkLine black_remark
  pub spelled : text ≡ head ++ (remark_line white_remark ++ (lines_of white ++ (remark_line black_remark ++ (lines_of black ++ last))))

-- nothing more, or a right verdict
abbrev pub IsLastLine : Position → List Shown → List ℕ → Type 0
IsLastLine root after last = (last ≡ []) ⊎ ((v : Verdict) × IsVerdict root after v × (last ≡ verdict_line v))

-- a text as it may stand while it is being written
pub record MayStand (version : Version) (root : Position) (head : List ℕ) (text : List ℕ) : Type 0 where
  pub after : List Shown
  pub last : List ℕ
  pub written : HasWritten version root head text after last
  pub ends : IsLastLine root after last

-- a whole proof with this verdict
pub record IsProof (version : Version) (root : Position) (head : List ℕ) (text : List ℕ) (v : Verdict) : Type 0 where
  pub after : List Shown
  pub written : HasWritten version root head text after (verdict_line v)
  pub verdict : IsVerdict root after v
