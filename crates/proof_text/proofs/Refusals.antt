-- No refusal comes exactly where a line is right.
use Rattle.std.proofs.Common.{◌≡◌, ◌+◌, Bool, true, false, not, ◌==◌, List, [], ◌∷◌, map, length, Option, Some, None, is_none, refl, ap, ◌∙◌, option_map, sym}
use Rattle.std.specs.List.{AllByRecursion}
use Rattle.std.specs.Str.{bytes_eq}
use Rattle.std.specs.Bool.{Decides}
use Rattle.std.proofs.lemmas.Slice.Eq.{bytes_eq-Decides}
use Rattle.std.proofs.lemmas.Bool.{and_parts, and_from, not-true, not_from_false, eqb-true, eq-eqb}
use Rattle.game_rules.specs.Position.{Position, has_room, after_move, end_of, played, open_columns, same_position}
use Rattle.game_rules.proofs.Moves.{same_position_Decides}
use Rattle.game_rules.specs.Mirror.{mirror}
use Rattle.game_rules.specs.declared.End.{End}
use Rattle.proof_text.specs.Lemma.{same_claim, claim_of_end, Cite, Reason, ByEnd, ByOne, ByAll, ByPlan, ByMirror, Lemma, Line}
use Rattle.proof_text.specs.Right.{Shown, lemma_at, goes_by_one, IsCited, HasReason, IsRight, IsVerdict}
use Rattle.proof_text.specs.Checked.{Why, unless, or_then, end_refusal, shown_refusal, cite_refusal, cites_refusal, move_refusal, reason_refusal, path_refusal}
use Rattle.proof_text.specs.Checked.{lemma_refusal, is_shown, verdict_stands, CheckerState, content_refusal, line_refusal}
use Rattle.proof_text.specs.declared.Claim.{Claim}
use Rattle.proof_text.specs.declared.Claim.TheVariants.{WhiteWins, WhiteFails, BlackWins, BlackFails}
use Rattle.proof_text.specs.declared.Verdict.{Verdict}
use Rattle.proof_text.specs.declared.Verdict.TheVariants.{Win, Loss, Draw, Unknown}
use Rattle.proof_text.specs.declared.Why.TheVariants.{BadLine, WrongPosition, WrongClaim, MissingMove, BadVerdict, BadPlan}
use Rattle.plan_rules.specs.Refusal.{PlanFault, plan_refusal}
use Rattle.plan_rules.proofs.Refusals.{refusal_is}
use Rattle.plan_rules.proofs.Plans.{none_is}

-- ---- tests

pub same_claim_Decides : (a b : Claim) → Decides (same_claim a b) (a ≡ b)
same_claim_Decides a b = (to a b, λ e. rw e (itself b))
  where
    itself : (a : Claim) → same_claim a a ≡ true
    itself WhiteWins = refl
    itself WhiteFails = refl
    itself BlackWins = refl
    itself BlackFails = refl

    to : (a b : Claim) → same_claim a b ≡ true → a ≡ b
    to WhiteWins WhiteWins h = refl
    to WhiteWins WhiteFails h = cc
    to WhiteWins BlackWins h = cc
    to WhiteWins BlackFails h = cc
    to WhiteFails WhiteWins h = cc
    to WhiteFails WhiteFails h = refl
    to WhiteFails BlackWins h = cc
    to WhiteFails BlackFails h = cc
    to BlackWins WhiteWins h = cc
    to BlackWins WhiteFails h = cc
    to BlackWins BlackWins h = refl
    to BlackWins BlackFails h = cc
    to BlackFails WhiteWins h = cc
    to BlackFails WhiteFails h = cc
    to BlackFails BlackWins h = cc
    to BlackFails BlackFails h = refl

-- a test that has no name passed, and of two neither has one
unless_none : (test : Bool) (why : Why) → unless test why ≡ None → test ≡ true
unless_none true why h = refl
unless_none false why h = cc

none_unless : (test : Bool) (why : Why) → test ≡ true → unless test why ≡ None
none_unless test why h = rw h refl

pub or_none : (first later : Option Why) → or_then first later ≡ None → (first ≡ None) × (later ≡ None)
or_none None later h = (refl, h)
or_none (Some why) later h = cc

pub none_or : (first later : Option Why) → first ≡ None → later ≡ None → or_then first later ≡ None
none_or first later one two = rw one two

-- ---- cites

cited_of_none : (q : Position) (claim : Claim) (shown : Option Shown) → shown_refusal q claim shown ≡ None → shown ≡ Some (q, claim)
cited_of_none q claim None h = cc
cited_of_none q claim (Some (at, said)) h =
    let both = or_none (unless (same_position at q) WrongPosition) (unless (same_claim said claim) WrongClaim) h in
    let place : at ≡ q = (same_position_Decides at q).0 (unless_none (same_position at q) WrongPosition both.0) in
    let claim_same : said ≡ claim = (same_claim_Decides said claim).0 (unless_none (same_claim said claim) WrongClaim both.1) in
    ap (λ at. Some (at, said)) place ∙ ap (λ said. Some (q, said)) claim_same

none_of_cited : (q : Position) (claim : Claim) (shown : Option Shown) → shown ≡ Some (q, claim) → shown_refusal q claim shown ≡ None
none_of_cited q claim shown h = rw (h, (same_position_Decides q q).1 refl, (same_claim_Decides claim claim).1 refl) refl

cites_of_none : (known : List Shown) (p : Position) (claim : Claim) (cites : List Cite) → cites_refusal known p claim cites ≡ None
    → AllByRecursion (IsCited known p claim) cites
cites_of_none known p claim [] h = tt
cites_of_none known p claim (cite ∷ cites) h =
    let both = or_none (cite_refusal known p claim cite) (cites_refusal known p claim cites) h in
    (cited_of_none (after_move p cite.column) claim (lemma_at known cite.lemma) both.0, cites_of_none known p claim cites both.1)

none_of_cites : (known : List Shown) (p : Position) (claim : Claim) (cites : List Cite) → AllByRecursion (IsCited known p claim) cites
    → cites_refusal known p claim cites ≡ None
none_of_cites known p claim [] h = refl
none_of_cites known p claim (cite ∷ cites) h = none_or (cite_refusal known p claim cite) (cites_refusal known p claim cites)
    (none_of_cited (after_move p cite.column) claim (lemma_at known cite.lemma) h.0) (none_of_cites known p claim cites h.1)

-- ---- reasons

move_of_none : (p : Position) (serves playable : Bool) → move_refusal p serves playable ≡ None → (serves ≡ true) × (end_of p ≡ None) × (playable ≡ true)
move_of_none p serves playable h =
    let first = or_none (unless serves WrongClaim) _ h in
    let second = or_none (unless (is_none (end_of p)) WrongPosition) (unless playable MissingMove) first.1 in (
      unless_none serves WrongClaim first.0,
      none_is (end_of p) (unless_none (is_none (end_of p)) WrongPosition second.0),
      unless_none playable MissingMove second.1,
    )

none_of_move : (p : Position) (serves playable : Bool) → serves ≡ true → end_of p ≡ None → playable ≡ true → move_refusal p serves playable ≡ None
none_of_move p serves playable serving goes may = rw (serving, goes, may) refl

pub reason_of_none : (known : List Shown) (p : Position) (claim : Claim) (reason : Reason) → reason_refusal known p claim reason ≡ None
    → HasReason known p claim reason
reason_of_none known p claim ByEnd h = ended (end_of p) refl h
  where
    ended : (e : Option End) → end_of p ≡ e → end_refusal claim e ≡ None → HasReason known p claim ByEnd
    ended None same h = cc
    ended (Some end) same h = record { end = end; ended = same; holds = unless_none (claim_of_end claim end) WrongClaim h }
reason_of_none known p claim (ByOne cite) h =
    let both = or_none (move_refusal p (goes_by_one claim p) (has_room p cite.column)) (cite_refusal known p claim cite) h in
    let move = move_of_none p (goes_by_one claim p) (has_room p cite.column) both.0 in
    record { goes_on = move.1; serves = move.0; playable = move.2; cited = cited_of_none (after_move p cite.column) claim (lemma_at known cite.lemma) both.1 }
reason_of_none known p claim (ByAll cites) h =
    let columns = map (λ (cite : Cite). cite.column) cites in
    let both = or_none (move_refusal p (not (goes_by_one claim p)) (bytes_eq columns (open_columns p))) (cites_refusal known p claim cites) h in
    let move = move_of_none p (not (goes_by_one claim p)) (bytes_eq columns (open_columns p)) both.0 in
    record {
      goes_on = move.1;
      serves = not-true (goes_by_one claim p) move.0;
      playable = (bytes_eq-Decides columns (open_columns p)).0 move.2;
      cited = cites_of_none known p claim cites both.1;
    }
reason_of_none known p claim (ByPlan ws) h =
    let both = or_none (unless (same_claim claim WhiteFails) WrongClaim) (option_map BadPlan (plan_refusal p ws)) h in
    record {
      claimed = (same_claim_Decides claim WhiteFails).0 (unless_none (same_claim claim WhiteFails) WrongClaim both.0);
      plan = sym (refusal_is p ws) ∙ none (plan_refusal p ws) both.1;
    }
  where
    none : (fault : Option PlanFault) → option_map BadPlan fault ≡ None → is_none fault ≡ true
    none None h = refl
    none (Some fault) h = cc
reason_of_none known p claim (ByMirror n) h = cited_of_none (mirror p) claim (lemma_at known n) h

pub none_of_reason : (known : List Shown) (p : Position) (claim : Claim) (reason : Reason) → HasReason known p claim reason
    → reason_refusal known p claim reason ≡ None
none_of_reason known p claim ByEnd h = rw (h.ended, h.holds) refl
none_of_reason known p claim (ByOne cite) h =
    none_or (move_refusal p (goes_by_one claim p) (has_room p cite.column)) (cite_refusal known p claim cite)
    (none_of_move p (goes_by_one claim p) (has_room p cite.column) h.serves h.goes_on h.playable)
    (none_of_cited (after_move p cite.column) claim (lemma_at known cite.lemma) h.cited)
none_of_reason known p claim (ByAll cites) h =
    let columns = map (λ (cite : Cite). cite.column) cites in
    none_or (move_refusal p (not (goes_by_one claim p)) (bytes_eq columns (open_columns p))) (cites_refusal known p claim cites)
    (none_of_move p (not (goes_by_one claim p)) (bytes_eq columns (open_columns p)) (not_from_false (goes_by_one claim p) h.serves) h.goes_on
    ((bytes_eq-Decides columns (open_columns p)).1 h.playable))
    (none_of_cites known p claim cites h.cited)
none_of_reason known p claim (ByPlan ws) h =
    none_or (unless (same_claim claim WhiteFails) WrongClaim) (option_map BadPlan (plan_refusal p ws))
    (none_unless (same_claim claim WhiteFails) WrongClaim ((same_claim_Decides claim WhiteFails).1 h.claimed))
    (ap (option_map BadPlan) (none_is (plan_refusal p ws) (refusal_is p ws ∙ h.plan)))
none_of_reason known p claim (ByMirror n) h = none_of_cited (mirror p) claim (lemma_at known n) h

-- ---- lemmas

-- a lemma that isn't refused is right at some position
pub right_of_none : (root : Position) (known : List Shown) (l : Lemma) → lemma_refusal root known l ≡ None → (p : Position) × IsRight root known l p
right_of_none root known l h =
    let both = or_none (unless (l.number == length known + 1) BadLine) (path_refusal known l (played root l.path)) h in
    along (played root l.path) refl (eqb-true l.number (length known + 1) (unless_none (l.number == length known + 1) BadLine both.0)) both.1
  where
    along : (at : Option Position) → played root l.path ≡ at → l.number ≡ length known + 1 → path_refusal known l at ≡ None
        → (p : Position) × IsRight root known l p
    along None same next h = cc
    along (Some p) same next h = (p, record { next = next; along = same; reason = reason_of_none known p l.claim l.reason h })

-- and a right one isn't refused
pub none_of_right : (root : Position) (known : List Shown) (l : Lemma) (p : Position) → IsRight root known l p → lemma_refusal root known l ≡ None
none_of_right root known l p right =
    none_or (unless (l.number == length known + 1) BadLine) (path_refusal known l (played root l.path))
    (none_unless (l.number == length known + 1) BadLine (eq-eqb l.number (length known + 1) right.next))
    (ap (path_refusal known l) right.along ∙ none_of_reason known p l.claim l.reason right.reason)

-- ---- verdicts

pub shown_is : (p : Position) (claim : Claim) (shown : Option Shown) → is_shown p claim shown ≡ true → shown ≡ Some (p, claim)
shown_is p claim None h = cc
shown_is p claim (Some (at, said)) h =
    let both = and_parts (same_position at p) (same_claim said claim) h in
    ap (λ at. Some (at, said)) ((same_position_Decides at p).0 both.0) ∙ ap (λ said. Some (p, said)) ((same_claim_Decides said claim).0 both.1)

pub is_shown_from : (p : Position) (claim : Claim) (shown : Option Shown) → shown ≡ Some (p, claim) → is_shown p claim shown ≡ true
is_shown_from p claim shown h = rw h (and_from _ _ ((same_position_Decides p p).1 refl) ((same_claim_Decides claim claim).1 refl))

pub verdict_Decides : (root : Position) (known : List Shown) (v : Verdict) → Decides (verdict_stands root known v) (IsVerdict root known v)
verdict_Decides root known (Win n) = (shown_is root _ (lemma_at known n), is_shown_from root _ (lemma_at known n))
verdict_Decides root known (Loss n) = (shown_is root _ (lemma_at known n), is_shown_from root _ (lemma_at known n))
verdict_Decides root known (Draw n m) = (
  λ h. let both = and_parts (is_shown root WhiteFails (lemma_at known n)) (is_shown root BlackFails (lemma_at known m)) h in
      (shown_is root WhiteFails (lemma_at known n) both.0, shown_is root BlackFails (lemma_at known m) both.1),
  λ h. and_from _ _ (is_shown_from root WhiteFails (lemma_at known n) h.0) (is_shown_from root BlackFails (lemma_at known m) h.1),
)
verdict_Decides root known Unknown = (λ h. tt, λ h. refl)

pub verdict_of_none : (root : Position) (known : List Shown) (v : Verdict) → unless (verdict_stands root known v) BadVerdict ≡ None → IsVerdict root known v
verdict_of_none root known v h = (verdict_Decides root known v).0 (unless_none (verdict_stands root known v) BadVerdict h)

pub none_of_verdict : (root : Position) (known : List Shown) (v : Verdict) → IsVerdict root known v → unless (verdict_stands root known v) BadVerdict ≡ None
none_of_verdict root known v h = none_unless (verdict_stands root known v) BadVerdict ((verdict_Decides root known v).1 h)

-- ---- lines

no_verdict : (v : Option Verdict) → is_none v ≡ true → v ≡ None
no_verdict None h = refl
no_verdict (Some v) h = cc

-- a line that isn't refused stands behind no verdict
pub line_of_none : (s : CheckerState) (line : Line) → line_refusal s line ≡ None → (s.verdict ≡ None) × (content_refusal s line ≡ None)
line_of_none s line h =
    let both = or_none (unless (is_none s.verdict) BadLine) (content_refusal s line) h in
    (no_verdict s.verdict (unless_none (is_none s.verdict) BadLine both.0), both.1)

pub none_of_line : (s : CheckerState) (line : Line) → s.verdict ≡ None → content_refusal s line ≡ None → line_refusal s line ≡ None
none_of_line s line going content = none_or (unless (is_none s.verdict) BadLine) (content_refusal s line)
    (none_unless (is_none s.verdict) BadLine (rw going refl)) content
