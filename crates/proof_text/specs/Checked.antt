-- Which line of a proof is refused, and by which name: the tests of each kind of line in their order, the first that
-- fails giving the name.
use Rattle.std.specs.Prelude.{◌≡◌, ℕ, ◌+◌, Bool, true, false, not, ◌==◌, List, [], ◌∷◌, ◌++◌, map, length, Option, Some, None, is_none, option_map, bytes_eq, ◌&&◌, Result, Ok, Err}
use Rattle.game_rules.specs.Position.{Position, other, side_to_move, has_room, after_move, end_of, played, open_columns, same_position}
use Rattle.game_rules.specs.Mirror.{mirror}
use Rattle.game_rules.specs.declared.End.{End}
use Rattle.proof_text.specs.Lemma.{claim_for, same_claim, claim_of_end, Cite, Reason, ByEnd, ByOne, ByAll, ByPlan, ByMirror, Lemma, Line, ALemma, ARemark, AVerdict}
use Rattle.proof_text.specs.Right.{Shown, lemma_at, goes_by_one, AreRight, IsVerdict}
use Rattle.proof_text.specs.declared.Claim.{Claim}
use Rattle.proof_text.specs.declared.Claim.TheVariants.{WhiteFails, BlackFails}
use Rattle.proof_text.specs.declared.Verdict.{Verdict}
use Rattle.proof_text.specs.declared.Verdict.TheVariants.{Win, Loss, Draw, Unknown}
use Rattle.plan_rules.specs.Rules.{RuleInstance}
use Rattle.plan_rules.specs.Refusal.{PlanFault, plan_refusal}
use Rattle.proof_text.specs.declared.Why.{Why as WhyOf}
use Rattle.proof_text.specs.declared.Why.TheVariants.{BadLine, BadPath, NoSuchLemma, WrongPosition, WrongClaim, MissingMove, BadPlan, BadVerdict}

-- why a line is refused; where a list is no plan, with the reason for that
abbrev pub Why : Type 0
Why = WhyOf PlanFault

-- the name where a test fails
abbrev pub unless : Bool → Why → Option Why
unless true why = None
unless false why = Some why

-- the first name of two
abbrev pub or_then : Option Why → Option Why → Option Why
or_then None later = later
or_then (Some why) later = Some why

-- an end has to be there, and the claim true of it
abbrev pub end_refusal : Claim → Option End → Option Why
end_refusal claim None = Some WrongPosition
end_refusal claim (Some end) = unless (claim_of_end claim end) WrongClaim

-- a cited lemma has to stand before, at the position q, and make this claim
abbrev pub shown_refusal : Position → Claim → Option Shown → Option Why
shown_refusal q claim None = Some NoSuchLemma
shown_refusal q claim (Some (at, shown)) = or_then (unless (same_position at q) WrongPosition) (unless (same_claim shown claim) WrongClaim)

abbrev pub cite_refusal : List Shown → Position → Claim → Cite → Option Why
cite_refusal known p claim cite = shown_refusal (after_move p cite.column) claim (lemma_at known cite.lemma)

abbrev pub cites_refusal : List Shown → Position → Claim → List Cite → Option Why
cites_refusal known p claim [] = None
cites_refusal known p claim (cite ∷ cites) = or_then (cite_refusal known p claim cite) (cites_refusal known p claim cites)

-- claim and side to move have to go with the reason, the game has to go on, and the columns have to be those wanted
abbrev pub move_refusal : Position → Bool → Bool → Option Why
move_refusal p serves playable = or_then (unless serves WrongClaim) (or_then (unless (is_none (end_of p)) WrongPosition) (unless playable MissingMove))

-- a list of instances serves for the claim that White doesn't win alone, and has to be a plan
abbrev pub list_refusal : Position → Claim → List RuleInstance → Option Why
list_refusal p claim ws = or_then (unless (same_claim claim WhiteFails) WrongClaim) (option_map BadPlan (plan_refusal p ws))

abbrev pub reason_refusal : List Shown → Position → Claim → Reason → Option Why
reason_refusal known p claim ByEnd = end_refusal claim (end_of p)
reason_refusal known p claim (ByOne cite) = or_then (move_refusal p (goes_by_one claim p) (has_room p cite.column)) (cite_refusal known p claim cite)
reason_refusal known p claim (ByAll cites) =
    or_then (move_refusal p (not (goes_by_one claim p)) (bytes_eq (map (λ cite. cite.column) cites) (open_columns p))) (cites_refusal known p claim cites)
reason_refusal known p claim (ByPlan ws) = list_refusal p claim ws
reason_refusal known p claim (ByMirror n) = shown_refusal (mirror p) claim (lemma_at known n)

-- where the path leads, the reason is looked at
abbrev pub path_refusal : List Shown → Lemma → Option Position → Option Why
path_refusal known l None = Some BadPath
path_refusal known l (Some p) = reason_refusal known p l.claim l.reason

abbrev pub lemma_refusal : Position → List Shown → Lemma → Option Why
lemma_refusal root known l = or_then (unless (l.number == length known + 1) BadLine) (path_refusal known l (played root l.path))

-- whether what a lemma shows is this claim at this position
abbrev pub is_shown : Position → Claim → Option Shown → Bool
is_shown p claim None = false
is_shown p claim (Some (at, shown)) = same_position at p && same_claim shown claim

abbrev pub verdict_stands : Position → List Shown → Verdict → Bool
verdict_stands root known (Win n) = is_shown root (claim_for (side_to_move root) true) (lemma_at known n)
verdict_stands root known (Loss n) = is_shown root (claim_for (other (side_to_move root)) true) (lemma_at known n)
verdict_stands root known (Draw n m) = is_shown root WhiteFails (lemma_at known n) && is_shown root BlackFails (lemma_at known m)
verdict_stands root known Unknown = true

-- what stands after some lines: what their lemmas show, and the verdict if there was one
pub record CheckerState : Type 0 where
  pub root : Position
  pub known : List Shown
  pub verdict : Option Verdict

-- nothing may follow a verdict
abbrev pub content_refusal : CheckerState → Line → Option Why
content_refusal s (ALemma l) = lemma_refusal s.root s.known l
content_refusal s ARemark = None
content_refusal s (AVerdict v) = unless (verdict_stands s.root s.known v) BadVerdict

abbrev pub line_refusal : CheckerState → Line → Option Why
line_refusal s line = or_then (unless (is_none s.verdict) BadLine) (content_refusal s line)

-- what a lemma shows, where its path leads somewhere
abbrev pub shown_at : Claim → Option Position → List Shown
shown_at claim None = []
shown_at claim (Some p) = (p, claim) ∷ []

abbrev pub shown_of : Position → Lemma → List Shown
shown_of root l = shown_at l.claim (played root l.path)

-- what stands after one more line
abbrev pub with_line : CheckerState → Line → CheckerState
with_line s (ALemma l) = record s { known = s.known ++ shown_of s.root l }
with_line s ARemark = s
with_line s (AVerdict v) = record s { verdict = Some v }

-- ---- lists of lines

abbrev pub checked_on : Option Why → ℕ → Result CheckerState (ℕ × Why) → Result CheckerState (ℕ × Why)
checked_on None at later = later
checked_on (Some why) at later = Err (at, why)

-- what stands after further lines, the first of which has this number; or the first that is refused
abbrev pub checked : CheckerState → ℕ → List Line → Result CheckerState (ℕ × Why)
checked s at [] = Ok s
checked s at (line ∷ lines) = checked_on (line_refusal s line) at (checked (with_line s line) (at + 1) lines)

-- the lemmas of some lines, and their verdict, the first if there are more
abbrev pub lemmas_in : List Line → List Lemma
lemmas_in [] = []
lemmas_in (ALemma l ∷ lines) = l ∷ lemmas_in lines
lemmas_in (ARemark ∷ lines) = lemmas_in lines
lemmas_in (AVerdict v ∷ lines) = lemmas_in lines

abbrev pub first_verdict : List Line → Option Verdict
first_verdict [] = None
first_verdict (ALemma l ∷ lines) = first_verdict lines
first_verdict (ARemark ∷ lines) = first_verdict lines
first_verdict (AVerdict v ∷ lines) = Some v

-- After the lines stands what their lemmas show, which are right, and their verdict, which is right too.
pub record IsStateAfter (s : CheckerState) (lines : List Line) (t : CheckerState) : Type 0 where
  pub root : t.root ≡ s.root
  pub right : AreRight s.root s.known (lemmas_in lines) t.known
  pub verdict : t.verdict ≡ first_verdict lines
  pub verdict_right : (v : Verdict) → t.verdict ≡ Some v → IsVerdict t.root t.known v
