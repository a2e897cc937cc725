-- The lines of a proof as plain data, and what a claim says.
use Rattle.std.specs.Prelude.{ℕ, Bool, true, false, not, List, if◌then◌else◌}
use Rattle.game_rules.specs.Position.{Position}
use Rattle.game_rules.specs.Value.{win_of, same_end, value}
use Rattle.game_rules.specs.declared.Side.{Side}
use Rattle.game_rules.specs.declared.Side.TheVariants.{White, Black}
use Rattle.game_rules.specs.declared.End.{End}
use Rattle.plan_rules.specs.Rules.{RuleInstance}
use Rattle.proof_text.specs.declared.Claim.{Claim}
use Rattle.proof_text.specs.declared.Claim.TheVariants.{WhiteWins, WhiteFails, BlackWins, BlackFails}
use Rattle.proof_text.specs.declared.Verdict.{Verdict}
use Rattle.proof_text.specs.declared.Version.{Version}
use Rattle.proof_text.specs.declared.Version.TheVariants.{One, Two}

-- the side that a claim speaks of, and whether it says that this side wins
abbrev pub claim_side : Claim → Side
claim_side WhiteWins = White
claim_side WhiteFails = White
claim_side BlackWins = Black
claim_side BlackFails = Black

abbrev pub claims_win : Claim → Bool
claims_win WhiteWins = true
claims_win WhiteFails = false
claims_win BlackWins = true
claims_win BlackFails = false

-- the claim that a side wins, or that it doesn't
abbrev pub claim_for : Side → Bool → Claim
claim_for White true = WhiteWins
claim_for White false = WhiteFails
claim_for Black true = BlackWins
claim_for Black false = BlackFails

abbrev pub same_claim : Claim → Claim → Bool
same_claim WhiteWins WhiteWins = true
same_claim WhiteFails WhiteFails = true
same_claim BlackWins BlackWins = true
same_claim BlackFails BlackFails = true
same_claim a b = false

-- whether a fact is as it is said to be
abbrev pub agrees : Bool → Bool → Bool
agrees said fact = if said then fact else not fact

-- whether a claim is true of an end, and whether it is true of a position
abbrev pub claim_of_end : Claim → End → Bool
claim_of_end claim end = agrees (claims_win claim) (same_end (win_of (claim_side claim)) end)

abbrev pub claim_holds : Claim → Position → Bool
claim_holds claim p = claim_of_end claim (value p)

-- a move, and the number of the lemma that stands at the position after it
pub record Cite : Type 0 where
  pub column : ℕ
  pub lemma : ℕ

-- why a claim holds: the game has ended so, one move shows it, all moves together do, a plan keeps White from a line, or the
-- lemma with this number shows it of the mirror image
pub data Reason : Type 0 where
  ByEnd : Reason
  ByOne : Cite → Reason
  ByAll : List Cite → Reason
  ByPlan : List RuleInstance → Reason
  ByMirror : ℕ → Reason

-- a lemma's number, its position as the moves from the root, what it claims there, and why that holds
pub record Lemma : Type 0 where
  pub number : ℕ
  pub path : List ℕ
  pub claim : Claim
  pub reason : Reason

-- what a line of a proof says
pub data Line : Type 0 where
  ALemma : Lemma → Line
  ARemark : Line
  AVerdict : Verdict → Line

-- ---- versions

-- mirror images came with the second version
abbrev pub has_images : Version → Bool
has_images One = false
has_images Two = true

abbrev pub has_reason : Version → Reason → Bool
has_reason version (ByMirror n) = has_images version
has_reason version reason = true

-- whether a text of the version may say this
abbrev pub allows : Version → Line → Bool
allows version (ALemma l) = has_reason version l.reason
allows version ARemark = true
allows version (AVerdict v) = true
