-- What right lemmas claim is true of the value, and so is a right verdict.
use Rattle.std.proofs.Common.{◌≡◌, ◌≢◌, ◌↔◌, ℕ, zero, suc, true, false, not, List, [], ◌∷◌, ◌++◌, map, length, None, refl, sym, ap, ◌∙◌, subst, inl, inr}
use Rattle.std.specs.List.{list_any, list_all, AllByRecursion}
use Rattle.std.proofs.lemmas.Bool.{both_ways, false_from_ne_true, not-true, not-false, not_from_false}
use Rattle.game_rules.specs.Board.{below}
use Rattle.game_rules.specs.Position.{Position, other, same_side, side_to_move, has_room, after_move, end_of, open_columns, moved}
use Rattle.game_rules.specs.Value.{win_of, same_end, value, wins}
use Rattle.game_rules.proofs.Lists.{Among, any_from, any_gives, all_gives, all_from, Among-map, Among-below, Among-filter}
use Rattle.game_rules.proofs.Moves.{same_side_is, other_side, room_column}
use Rattle.game_rules.proofs.Values.{value_at_end, wins_own, wins_other}
use Rattle.game_rules.specs.Mirror.{mirror}
use Rattle.game_rules.proofs.ImageValues.{value_mirrored}
use Rattle.game_rules.specs.declared.Side.{Side}
use Rattle.game_rules.specs.declared.Side.TheVariants as sides
use Rattle.game_rules.specs.declared.End.{End}
use Rattle.game_rules.specs.declared.End.TheVariants.{White, Black, Draw}
use Rattle.proof_text.specs.Lemma.{claim_for, claim_of_end, claim_holds, Cite, Reason, ByEnd, ByOne, ByAll, ByPlan, ByMirror, Lemma}
use Rattle.proof_text.specs.Right.{Shown, goes_by_one, IsCited, HasReason, AreRight, IsVerdict, AreTrue, IsTrueVerdict}
use Rattle.proof_text.specs.Texts.{lemmas_among, IsRightText}
use Rattle.proof_text.proofs.Append.{Shows_push}
use Rattle.proof_text.specs.declared.Claim.{Claim}
use Rattle.proof_text.specs.declared.Claim.TheVariants.{WhiteWins, WhiteFails, BlackWins, BlackFails}
use Rattle.proof_text.specs.declared.Verdict.{Verdict}
use Rattle.proof_text.specs.declared.Version.{Version}
use Rattle.proof_text.specs.declared.Verdict.TheVariants as verdicts
use Rattle.plan_rules.proofs.Theorems.{plan_wins}

-- ---- one move and all moves

own_turn : (side : Side) (p : Position) → same_side side (side_to_move p) ≡ true → side_to_move p ≡ side
own_turn side p h = sym (same_side_is side (side_to_move p) h)

win_by_one : (side : Side) (p q : Position) → end_of p ≡ None → same_side side (side_to_move p) ≡ true → Among q (moved p) → wins side q ≡ true
    → wins side p ≡ true
win_by_one side p q goes own among won = wins_own side p goes (own_turn side p own) ∙ any_from (wins side) (moved p) q among won

fail_by_one : (side : Side) (p q : Position) → end_of p ≡ None → same_side side (side_to_move p) ≡ false → Among q (moved p) → wins side q ≡ false
    → wins side p ≡ false
fail_by_one side p q goes turn among failed =
    wins_other side p goes (other_side side (side_to_move p) turn)
    ∙ false_from_ne_true (list_all (wins side) (moved p)) (λ all. both_ways (wins side q) failed (all_gives (wins side) (moved p) q all among))

win_by_all : (side : Side) (p : Position) → end_of p ≡ None → same_side side (side_to_move p) ≡ false
    → ((q : Position) → Among q (moved p) → wins side q ≡ true) → wins side p ≡ true
win_by_all side p goes turn each = wins_other side p goes (other_side side (side_to_move p) turn) ∙ all_from (wins side) (moved p) each

fail_by_all : (side : Side) (p : Position) → end_of p ≡ None → same_side side (side_to_move p) ≡ true
    → ((q : Position) → Among q (moved p) → wins side q ≡ false) → wins side p ≡ false
fail_by_all side p goes own each =
    wins_own side p goes (own_turn side p own)
    ∙ false_from_ne_true (list_any (wins side) (moved p))
    (λ some. let found = any_gives (wins side) (moved p) some in both_ways (wins side found.0) (each found.0 found.1) found.2)

by_one : (claim : Claim) (p q : Position) → end_of p ≡ None → goes_by_one claim p ≡ true → Among q (moved p) → claim_holds claim q ≡ true
    → claim_holds claim p ≡ true
by_one WhiteWins p q goes serves among holds = win_by_one sides.White p q goes serves among holds
by_one BlackWins p q goes serves among holds = win_by_one sides.Black p q goes serves among holds
by_one WhiteFails p q goes serves among holds = not_from_false _ (fail_by_one sides.White p q goes (not-true _ serves) among (not-true _ holds))
by_one BlackFails p q goes serves among holds = not_from_false _ (fail_by_one sides.Black p q goes (not-true _ serves) among (not-true _ holds))

by_all : (claim : Claim) (p : Position) → end_of p ≡ None → goes_by_one claim p ≡ false → ((q : Position) → Among q (moved p) → claim_holds claim q ≡ true)
    → claim_holds claim p ≡ true
by_all WhiteWins p goes serves each = win_by_all sides.White p goes serves each
by_all BlackWins p goes serves each = win_by_all sides.Black p goes serves each
by_all WhiteFails p goes serves each = not_from_false _ (fail_by_all sides.White p goes (not-false _ serves) (λ q among. not-true _ (each q among)))
by_all BlackFails p goes serves each = not_from_false _ (fail_by_all sides.Black p goes (not-false _ serves) (λ q among. not-true _ (each q among)))

-- the position after a move into a column with room is among those after moves
moved_among : (p : Position) (column : ℕ) → has_room p column ≡ true → Among (after_move p column) (moved p)
moved_among p column room = Among-map (after_move p) (open_columns p) column
    (Among-filter (has_room p) (below (length p.columns)) column (Among-below (length p.columns) column (room_column p column room)) room)

-- ---- lemmas

-- what a right reason shows is true, where everything shown before is
pub true_reason : (known : List Shown) (p : Position) (claim : Claim) (reason : Reason) → AreTrue known → HasReason known p claim reason
    → claim_holds claim p ≡ true
true_reason known p claim ByEnd true_before h = ap (claim_of_end claim) (value_at_end p h.end h.ended) ∙ h.holds
true_reason known p claim (ByOne cite) true_before h = by_one claim p (after_move p cite.column) h.goes_on h.serves (moved_among p cite.column h.playable)
    (true_before cite.lemma (after_move p cite.column) claim h.cited)
true_reason known p claim (ByAll cites) true_before h = by_all claim p h.goes_on h.serves (λ q among. each cites (open_columns p) q h.playable h.cited among)
  where
    each : (cites : List Cite) (columns : List ℕ) (q : Position) → map (λ cite. cite.column) cites ≡ columns → AllByRecursion (IsCited known p claim) cites
        → Among q (map (after_move p) columns) → claim_holds claim q ≡ true
    each [] [] q same cited among = absurd among
    each [] (column ∷ columns) q same cited among = cc
    each (cite ∷ cites) [] q same cited among = cc
    each (cite ∷ cites) (column ∷ columns) q same cited (inr later) = let rest : map (λ cite. cite.column) cites
        ≡ columns = cc in each cites columns q rest cited.1 later
    each (cite ∷ cites) (column ∷ columns) q same cited (inl here) =
        let first : cite.column ≡ column = cc in
        ap (claim_holds claim) (sym here ∙ ap (after_move p) (sym first)) ∙ true_before cite.lemma (after_move p cite.column) claim cited.0
true_reason known p claim (ByPlan ws) true_before h = ap (λ c. claim_holds c p) h.claimed ∙ not_from_false _ (plan_wins p ws h.plan)
true_reason known p claim (ByMirror n) true_before h = ap (claim_of_end claim) (sym (value_mirrored p)) ∙ true_before n (mirror p) claim h

pub AreTrue_none : AreTrue []
AreTrue_none zero p claim h = cc
AreTrue_none (suc i) p claim h = cc

pub AreTrue_push : (known : List Shown) (p : Position) (claim : Claim) → AreTrue known → claim_holds claim p ≡ true → AreTrue (known ++ (p, claim) ∷ [])
AreTrue_push known p claim true_before holds n q said h = elim (Shows_push known n p q claim said h) [
  | inl before ↦ true_before n q said before
  | inr same ↦ ap (claim_holds said) (sym same.0) ∙ ap (λ c. claim_holds c p) (sym same.1) ∙ holds
]

-- what right lemmas claim is true
pub true_lemmas : (root : Position) (known : List Shown) (ls : List Lemma) (after : List Shown) → AreRight root known ls after → AreTrue known → AreTrue after
true_lemmas root known [] after right before = subst AreTrue (sym right) before
true_lemmas root known (l ∷ ls) after (p, one, rest) before =
    true_lemmas root (known ++ (p, l.claim) ∷ []) ls after rest (AreTrue_push known p l.claim before (true_reason known p l.claim l.reason before one.reason))

-- ---- the verdict

true_win : (side : Side) (p : Position) → claim_holds (claim_for side true) p ≡ true → value p ≡ win_of side
true_win sides.White p h = white (value p) h
  where
    white : (e : End) → same_end White e ≡ true → e ≡ White
    white White h = refl
    white Black h = cc
    white Draw h = cc
true_win sides.Black p h = black (value p) h
  where
    black : (e : End) → same_end Black e ≡ true → e ≡ Black
    black White h = cc
    black Black h = refl
    black Draw h = cc

true_draw : (e : End) → not (same_end White e) ≡ true → not (same_end Black e) ≡ true → e ≡ Draw
true_draw White white black = cc
true_draw Black white black = cc
true_draw Draw white black = refl

pub true_verdict : (root : Position) (known : List Shown) (v : Verdict) → AreTrue known → IsVerdict root known v → IsTrueVerdict root v
true_verdict root known (verdicts.Win n) true_before h = true_win (side_to_move root) root (true_before n root _ h)
true_verdict root known (verdicts.Loss n) true_before h = true_win (other (side_to_move root)) root (true_before n root _ h)
true_verdict root known (verdicts.Draw n m) true_before h = true_draw (value root) (true_before n root _ h.0) (true_before m root _ h.1)
true_verdict root known verdicts.Unknown true_before h = tt

-- what the four claims say
pub claims_say : (p : Position) → ((claim_holds WhiteWins p ≡ true) ↔ (value p ≡ White)) × ((claim_holds WhiteFails p ≡ true) ↔ (value p ≢ White))
    × ((claim_holds BlackWins p ≡ true) ↔ (value p ≡ Black)) × ((claim_holds BlackFails p ≡ true) ↔ (value p ≢ Black))
claims_say p = (white (value p), not_white (value p), black (value p), not_black (value p))
  where
    white : (e : End) → (same_end White e ≡ true) ↔ (e ≡ White)
    white White = (λ h. refl, λ h. refl)
    white Black = (λ h. cc, λ h. cc)
    white Draw = (λ h. cc, λ h. cc)

    not_white : (e : End) → (not (same_end White e) ≡ true) ↔ (e ≢ White)
    not_white White = (λ h. cc, λ h. absurd (h refl))
    not_white Black = (λ h e. cc, λ h. refl)
    not_white Draw = (λ h e. cc, λ h. refl)

    black : (e : End) → (same_end Black e ≡ true) ↔ (e ≡ Black)
    black White = (λ h. cc, λ h. cc)
    black Black = (λ h. refl, λ h. refl)
    black Draw = (λ h. cc, λ h. cc)

    not_black : (e : End) → (not (same_end Black e) ≡ true) ↔ (e ≢ Black)
    not_black White = (λ h e. cc, λ h. refl)
    not_black Black = (λ h. cc, λ h. absurd (h refl))
    not_black Draw = (λ h e. cc, λ h. refl)

-- in a right text everything is true
pub true_text : (version : Version) (bytes : List ℕ) (v : Verdict) (count : ℕ) (text : IsRightText version bytes v count)
    → AreTrue text.after × IsTrueVerdict text.root v
true_text version bytes v count text =
    let shown = true_lemmas text.root [] (lemmas_among text.entries) text.after text.right AreTrue_none in
    (shown, true_verdict text.root text.after v shown text.verdict_right)
