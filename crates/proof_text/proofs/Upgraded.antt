-- What becomes of a right proof of the first version is a right proof of the second, and how it is written line by line.
use Rattle.std.proofs.Common.{◌≡◌, ℕ, zero, suc, ◌+◌, ◌≤◌, true, ◌&&◌, cond, List, [], ◌∷◌, ◌++◌, map, length, Option, Some, None, refl, sym}
use Rattle.std.proofs.Common.{ap, ◌∙◌, subst, inl, inr, arith, append-nil}
use Rattle.std.specs.List.{AllByRecursion}
use Rattle.std.specs.Option.{option_or}
use Rattle.std.proofs.lemmas.List.{length-map}
use Rattle.std.proofs.lemmas.Bool.{cases_lt, both_ways}
use Rattle.std.proofs.lemmas.Grind.{flat_map-append}
use Rattle.game_rules.specs.Board.{Board}
use Rattle.game_rules.specs.Position.{Position, played, same_position}
use Rattle.game_rules.specs.Mirror.{mirror}
use Rattle.plan_rules.proofs.PlaceWords.{place_gives, none_at}
use Rattle.plan_rules.proofs.Places.{place_append}
use Rattle.proof_text.specs.Lemma.{Reason, ByEnd, ByOne, ByAll, ByPlan, ByMirror, has_reason, same_claim, Lemma, Line, ALemma, ARemark, AVerdict}
use Rattle.proof_text.specs.Right.{Shown, Shows, IsRight, AreRight}
use Rattle.proof_text.specs.Checked.{is_shown, CheckerState, line_refusal, shown_of, with_line, lemmas_in}
use Rattle.proof_text.specs.Spelling.{lemma_line, lines_of, verdict_line, Fits}
use Rattle.proof_text.specs.Texts.{Entry, LemmaEntry, RemarkEntry, lemmas_among, EntryFits, head_of, IsRightText}
use Rattle.proof_text.specs.Upgrade.{first_shown, image_at, resting_on, upgraded_lemma, upgraded, upgraded_text}
use Rattle.proof_text.specs.declared.Claim.{Claim}
use Rattle.proof_text.specs.declared.Verdict.{Verdict}
use Rattle.proof_text.specs.declared.Version.TheVariants.{One, Two}
use Rattle.proof_text.proofs.Accepted.{shown_along}
use Rattle.proof_text.proofs.Append.{Shows_number, AreRight_push}
use Rattle.proof_text.proofs.Refusals.{line_of_none, right_of_none, shown_is, is_shown_from}
use Rattle.proof_text.proofs.Written.{lemmas_map, entries_map}

-- ---- the first lemma that shows a claim at a position

pub first_shows : (p : Position) (claim : Claim) (known : List Shown) (n : ℕ) → first_shown p claim known ≡ Some n → Shows known n p claim
first_shows p claim known n h =
    let found = place_gives (λ shown. is_shown p claim (Some shown)) 1 known n h in
    subst (λ n. Shows known n p claim) (let e : suc found.index ≡ n = omega (arith, found.counted) in e)
    (found.at ∙ shown_is p claim (Some found.element) found.passes)

-- what shows it passes
passes : (p : Position) (claim : Claim) → is_shown p claim (Some (p, claim)) ≡ true
passes p claim = is_shown_from p claim (Some (p, claim)) refl

pub first_least : (p : Position) (claim : Claim) (known : List Shown) (n m : ℕ) → first_shown p claim known ≡ Some n → Shows known m p claim → n ≤ m
first_least p claim known n zero h shows = cc
first_least p claim known n (suc i) h shows =
    let found = place_gives (λ shown. is_shown p claim (Some shown)) 1 known n h in
    elim (cases_lt i found.index) [
      | inl before ↦ absurd (both_ways _ (found.earlier i (p, claim) before shows) (passes p claim))
      | inr not ↦ omega (arith, found.counted)
    ]

pub none_shows : (p : Position) (claim : Claim) (known : List Shown) (m : ℕ) → first_shown p claim known ≡ None → Shows known m p claim → ⊥
none_shows p claim known zero h shows = cc
none_shows p claim known (suc i) h shows = both_ways _ (none_at (λ shown. is_shown p claim (Some shown)) 1 known h i (p, claim) shows) (passes p claim)

-- with one lemma more: what was found before, or that lemma
pub first_push : (p q : Position) (claim said : Claim) (known : List Shown)
    → first_shown p claim (known ++ (q, said) ∷ [])
    ≡ option_or (first_shown p claim known) (cond (same_position q p && same_claim said claim) (Some (length known + 1)) None)
first_push p q claim said known =
    place_append (λ shown. is_shown p claim (Some shown)) 1 known ((q, said) ∷ [])
    ∙ ap (λ n. option_or (first_shown p claim known) (cond (same_position q p && same_claim said claim) (Some n) None))
    (let e : 1 + length known ≡ length known + 1 = omega arith in e)

-- ---- lemmas

module _ (root : Position) (known : List Shown) (l : Lemma) (p : Position) (one : IsRight root known l p) where
  -- where it rests is the first lemma at the image, where there is one
  found_at : image_at known l.claim (played root l.path) ≡ first_shown (mirror p) l.claim known
  found_at = ap (image_at known l.claim) one.along

  lemma_is : upgraded_lemma root known l ≡ resting_on l (first_shown (mirror p) l.claim known)
  lemma_is = ap (resting_on l) found_at

  -- what becomes of a right lemma is right
  right_resting : (found : Option ℕ) → first_shown (mirror p) l.claim known ≡ found → IsRight root known (resting_on l found) p
  right_resting None e = one
  right_resting (Some n) e = record { next = one.next; along = one.along; reason = first_shows (mirror p) l.claim known n e }

  right_upgraded : IsRight root known (upgraded_lemma root known l) p
  right_upgraded = subst (λ l. IsRight root known l p) (sym lemma_is) (right_resting (first_shown (mirror p) l.claim known) refl)

  -- and has a spelling
  fits_resting : (board : Board) → Fits board l → (found : Option ℕ) → first_shown (mirror p) l.claim known ≡ found → Fits board (resting_on l found)
  fits_resting board fits None e = fits
  fits_resting board fits (Some n) e =
      let number = Shows_number known n (mirror p) l.claim (first_shows (mirror p) l.claim known n e) in
      record { number = fits.number; short = fits.short; columns = fits.columns; reason = (number.0, omega (arith, number.1, one.next, fits.number.1)) }

  fits_upgraded : (board : Board) → Fits board l → Fits board (upgraded_lemma root known l)
  fits_upgraded board fits = subst (Fits board) (sym lemma_is) (fits_resting board fits (first_shown (mirror p) l.claim known) refl)

claim_kept : (root : Position) (known : List Shown) (l : Lemma) → (upgraded_lemma root known l).claim ≡ l.claim
claim_kept root known l = of (image_at known l.claim (played root l.path))
  where
    of : (found : Option ℕ) → (resting_on l found).claim ≡ l.claim
    of None = refl
    of (Some n) = refl

pub all_upgraded : (root : Position) (known : List Shown) (ls : List Lemma) (after : List Shown) → AreRight root known ls after
    → AreRight root known (upgraded root known ls) after
all_upgraded root known [] after right = right
all_upgraded root known (l ∷ ls) after (p, one, rest) = (
  p,
  right_upgraded root known l p one,
  subst (λ claim. AreRight root (known ++ (p, claim) ∷ []) (upgraded root (known ++ shown_of root l) ls) after) (sym (claim_kept root known l))
      (subst (λ more. AreRight root (known ++ (p, l.claim) ∷ []) (upgraded root (known ++ more) ls) after) (sym (shown_along root l p one.along))
      (all_upgraded root (known ++ (p, l.claim) ∷ []) ls after rest)),
)

-- the second version has every reason
had : (reason : Reason) → has_reason Two reason ≡ true
had ByEnd = refl
had (ByOne cite) = refl
had (ByAll cites) = refl
had (ByPlan ws) = refl
had (ByMirror n) = refl

all_fit_upgraded : (board : Board) (root : Position) (known : List Shown) (ls : List Lemma) (after : List Shown) → AreRight root known ls after
    → AllByRecursion (Fits board) ls → AllByRecursion (EntryFits Two board) (map LemmaEntry (upgraded root known ls))
all_fit_upgraded board root known [] after right fit = tt
all_fit_upgraded board root known (l ∷ ls) after (p, one, rest) fit = (
  (had (upgraded_lemma root known l).reason, fits_upgraded root known l p one board fit.0),
  subst (λ more. AllByRecursion (EntryFits Two board) (map LemmaEntry (upgraded root (known ++ more) ls))) (sym (shown_along root l p one.along))
      (all_fit_upgraded board root (known ++ (p, l.claim) ∷ []) ls after rest fit.1),
)

length_upgraded : (root : Position) (known : List Shown) (ls : List Lemma) → length (upgraded root known ls) ≡ length ls
length_upgraded root known [] = refl
length_upgraded root known (l ∷ ls) = omega (arith, length_upgraded root (known ++ shown_of root l) ls)

-- ---- whole texts

lemmas_fit : (board : Board) (entries : List Entry) → AllByRecursion (EntryFits One board) entries → AllByRecursion (Fits board) (lemmas_among entries)
lemmas_fit board [] fit = tt
lemmas_fit board (LemmaEntry l ∷ entries) fit = (fit.0.1, lemmas_fit board entries fit.1)
lemmas_fit board (RemarkEntry bytes ∷ entries) fit = lemmas_fit board entries fit.1

fewer_lemmas : (entries : List Entry) → length (lemmas_among entries) ≤ length entries
fewer_lemmas [] = omega arith
fewer_lemmas (LemmaEntry l ∷ entries) = omega (arith, fewer_lemmas entries)
fewer_lemmas (RemarkEntry bytes ∷ entries) = omega (arith, fewer_lemmas entries)

pub text_upgraded : (bytes : List ℕ) (v : Verdict) (count : ℕ) (text : IsRightText One bytes v count)
    → IsRightText Two (upgraded_text text.root text.board text.columns (lemmas_among text.entries) v) v count
text_upgraded bytes v count text =
    let ls = lemmas_among text.entries in
    let more = upgraded text.root [] ls in
    let right = all_upgraded text.root [] ls text.after text.right in
    record {
      board = text.board;
      columns = text.columns;
      root = text.root;
      entries = map LemmaEntry more;
      after = text.after;
      ended = true;
      has_board = text.has_board;
      has_moves = text.has_moves;
      fit = all_fit_upgraded text.board text.root [] ls text.after text.right (lemmas_fit text.board text.entries text.fit);
      right = subst (λ ls. AreRight text.root [] ls text.after) (sym (lemmas_map more)) right;
      verdict_fits = text.verdict_fits;
      verdict_right = text.verdict_right;
      counted = text.counted ∙ sym (ap length (lemmas_map more) ∙ length_upgraded text.root [] ls);
      few = omega (arith, length-map more LemmaEntry, length_upgraded text.root [] ls, fewer_lemmas text.entries, text.few);
      spelled = ap (λ lines. head_of Two text.board text.columns ++ (lines ++ verdict_line v)) (sym (entries_map more));
    }

-- ---- line by line

-- lemmas and further lemmas
pub upgraded_append : (root : Position) (known mid : List Shown) (ls more : List Lemma) → AreRight root known ls mid
    → upgraded root known (ls ++ more) ≡ upgraded root known ls ++ upgraded root mid more
upgraded_append root known mid [] more right = ap (λ known. upgraded root known more) (sym right)
upgraded_append root known mid (l ∷ ls) more (p, one, rest) =
    ap (λ rest. upgraded_lemma root known l ∷ rest)
    (ap (λ shown. upgraded root (known ++ shown) (ls ++ more)) (shown_along root l p one.along)
    ∙ upgraded_append root (known ++ (p, l.claim) ∷ []) mid ls more rest
    ∙ ap (λ shown. upgraded root (known ++ shown) ls ++ upgraded root mid more) (sym (shown_along root l p one.along)))

-- behind right lemmas a line that isn't refused leaves right ones
pub right_line : (s : CheckerState) (ls : List Lemma) (line : Line) → AreRight s.root [] ls s.known → line_refusal s line ≡ None
    → AreRight s.root [] (ls ++ lemmas_in (line ∷ [])) (with_line s line).known
right_line s ls (ALemma l) right none =
    let one = right_of_none s.root s.known l (line_of_none s (ALemma l) none).1 in
    subst (λ shown. AreRight s.root [] (ls ++ l ∷ []) (s.known ++ shown)) (sym (shown_along s.root l one.0 one.1.along))
    (AreRight_push s.root [] s.known ls l one.0 right one.1)
right_line s ls ARemark right none = subst (λ ls. AreRight s.root [] ls s.known) (sym (append-nil ls)) right
right_line s ls (AVerdict v) right none = subst (λ ls. AreRight s.root [] ls s.known) (sym (append-nil ls)) right

-- what is written goes on with what becomes of the line
pub text_line : (s : CheckerState) (ls : List Lemma) (line : Line) → AreRight s.root [] ls s.known
    → lines_of (upgraded s.root [] (ls ++ lemmas_in (line ∷ [])))
    ≡ lines_of (upgraded s.root [] ls) ++ lines_of (upgraded s.root s.known (lemmas_in (line ∷ [])))
text_line s ls line right =
    ap lines_of (upgraded_append s.root [] s.known ls (lemmas_in (line ∷ [])) right)
    ∙ flat_map-append lemma_line (upgraded s.root [] ls) (upgraded s.root s.known (lemmas_in (line ∷ [])))
