-- Which lemmas and verdicts are right, by the rules of the game and the lemmas before them.
use Rattle.std.specs.Prelude.{◌≡◌, ℕ, zero, suc, ◌+◌, Bool, true, false, List, [], ◌∷◌, ◌++◌, map, length, Option, Some, None, slice_get, ⊤}
use Rattle.std.specs.List.{AllByRecursion}
use Rattle.game_rules.specs.Position.{Position, other, same_side, side_to_move, has_room, after_move, end_of, played, open_columns}
use Rattle.game_rules.specs.Value.{win_of, value}
use Rattle.game_rules.specs.Mirror.{mirror}
use Rattle.game_rules.specs.declared.End.{End}
use Rattle.game_rules.specs.declared.End.TheVariants as ends
use Rattle.plan_rules.specs.Rules.{RuleInstance}
use Rattle.plan_rules.specs.Plan.{is_plan}
use Rattle.proof_text.specs.Lemma.{claim_side, claims_win, claim_for, agrees, claim_of_end, claim_holds, Cite, Reason, ByEnd, ByOne, ByAll, ByPlan, ByMirror, Lemma}
use Rattle.proof_text.specs.declared.Claim.{Claim}
use Rattle.proof_text.specs.declared.Claim.TheVariants.{WhiteFails, BlackFails}
use Rattle.proof_text.specs.declared.Verdict.{Verdict}
use Rattle.proof_text.specs.declared.Verdict.TheVariants.{Win, Loss, Draw, Unknown}

-- What a lemma shows: a claim at a position. A list of these stands for lemmas numbered from 1.
abbrev pub Shown : Type 0
Shown = Position × Claim

abbrev pub lemma_at : List Shown → ℕ → Option Shown
lemma_at known zero = None
lemma_at known (suc i) = slice_get known i

-- the lemma with this number shows the claim at the position
abbrev pub Shows : List Shown → ℕ → Position → Claim → Type 0
Shows known n p claim = lemma_at known n ≡ Some (p, claim)

-- One move shows that a side wins where it is to move, and that it doesn't where the other side is. For all other
-- claims every move has to be looked at.
abbrev pub goes_by_one : Claim → Position → Bool
goes_by_one claim p = agrees (claims_win claim) (same_side (claim_side claim) (side_to_move p))

-- the cited lemma makes the same claim at the position after the move
abbrev pub IsCited : List Shown → Position → Claim → Cite → Type 0
IsCited known p claim cite = Shows known cite.lemma (after_move p cite.column) claim

-- the game has ended so that the claim is true
pub record HoldsAtEnd (p : Position) (claim : Claim) : Type 0 where
  pub end : End
  pub ended : end_of p ≡ Some end
  pub holds : claim_of_end claim end ≡ true

-- one playable move leads to a position at which a lemma makes the same claim
pub record FollowsFromOne (known : List Shown) (p : Position) (claim : Claim) (cite : Cite) : Type 0 where
  pub goes_on : end_of p ≡ None
  pub serves : goes_by_one claim p ≡ true
  pub playable : has_room p cite.column ≡ true
  pub cited : IsCited known p claim cite

-- the moves cited are the playable ones in the order of the columns, and after each a lemma makes the same claim
pub record FollowsFromAll (known : List Shown) (p : Position) (claim : Claim) (cites : List Cite) : Type 0 where
  pub goes_on : end_of p ≡ None
  pub serves : goes_by_one claim p ≡ false
  pub playable : map (λ cite. cite.column) cites ≡ open_columns p
  pub cited : AllByRecursion (IsCited known p claim) cites

-- the instances are a plan of Black's at the position, so White doesn't win
pub record FollowsFromPlan (p : Position) (claim : Claim) (ws : List RuleInstance) : Type 0 where
  pub claimed : claim ≡ WhiteFails
  pub plan : is_plan p ws ≡ true

-- which reasons are right
abbrev pub HasReason : List Shown → Position → Claim → Reason → Type 0
HasReason known p claim ByEnd = HoldsAtEnd p claim
HasReason known p claim (ByOne cite) = FollowsFromOne known p claim cite
HasReason known p claim (ByAll cites) = FollowsFromAll known p claim cites
HasReason known p claim (ByPlan ws) = FollowsFromPlan p claim ws
HasReason known p claim (ByMirror n) = Shows known n (mirror p) claim

-- The lemma has the next number, its path leads from the root to p, and its reason is right there.
pub record IsRight (root : Position) (known : List Shown) (l : Lemma) (p : Position) : Type 0 where
  pub next : l.number ≡ length known + 1
  pub along : played root l.path ≡ Some p
  pub reason : HasReason known p l.claim l.reason

-- behind what is shown before, each lemma is right, and they all show what stands after
abbrev pub AreRight : Position → List Shown → List Lemma → List Shown → Type 0
AreRight root known [] after = after ≡ known
AreRight root known (l ∷ ls) after = (p : Position) × IsRight root known l p × AreRight root (known ++ (p, l.claim) ∷ []) ls after

-- The lemmas that a verdict names show it at the root: that the side to move wins, that the other side does, or that
-- neither does.
abbrev pub IsVerdict : Position → List Shown → Verdict → Type 0
IsVerdict root known (Win n) = Shows known n root (claim_for (side_to_move root) true)
IsVerdict root known (Loss n) = Shows known n root (claim_for (other (side_to_move root)) true)
IsVerdict root known (Draw n m) = Shows known n root WhiteFails × Shows known m root BlackFails
IsVerdict root known Unknown = ⊤

-- ---- what is true

-- every claim shown is true of the value of its position
abbrev pub AreTrue : List Shown → Type 0
AreTrue known = (n : ℕ) (p : Position) (claim : Claim) → Shows known n p claim → claim_holds claim p ≡ true

-- what a verdict says of the value of the root
abbrev pub IsTrueVerdict : Position → Verdict → Type 0
IsTrueVerdict root (Win n) = value root ≡ win_of (side_to_move root)
IsTrueVerdict root (Loss n) = value root ≡ win_of (other (side_to_move root))
IsTrueVerdict root (Draw n m) = value root ≡ ends.Draw
IsTrueVerdict root Unknown = ⊤
