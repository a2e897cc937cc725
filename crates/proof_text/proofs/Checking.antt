-- What stands after lines that were all accepted.
use Rattle.std.proofs.Common.{◌≡◌, ℕ, ◌+◌, List, [], ◌∷◌, ◌++◌, length, Option, Some, None, Result, Ok, refl, sym, ap, ◌∙◌, subst, arith}
use Rattle.proof_text.specs.Lemma.{Line, ALemma, ARemark, AVerdict}
use Rattle.proof_text.specs.Right.{AreRight, IsVerdict}
use Rattle.proof_text.specs.Checked.{Why, CheckerState, line_refusal, shown_of, with_line, checked_on, checked, lemmas_in, IsStateAfter}
use Rattle.proof_text.proofs.Refusals.{line_of_none, right_of_none, verdict_of_none}
use Rattle.proof_text.proofs.Accepted.{shown_along}
use Rattle.proof_text.specs.declared.Verdict.{Verdict}

checked_parts : (r : Option Why) (at : ℕ) (later : Result CheckerState (ℕ × Why)) (t : CheckerState) → checked_on r at later ≡ Ok t
    → (r ≡ None) × (later ≡ Ok t)
checked_parts None at later t h = (refl, h)
checked_parts (Some why) at later t h = cc

-- nothing was accepted behind a verdict
checked_behind : (s : CheckerState) (at : ℕ) (lines : List Line) (t : CheckerState) (v : Verdict) → s.verdict ≡ Some v → checked s at lines ≡ Ok t
    → (lines ≡ []) × (s ≡ t)
checked_behind s at [] t v ended h = (refl, cc)
checked_behind s at (line ∷ lines) t v ended h =
    let parts = checked_parts (line_refusal s line) at (checked (with_line s line) (at + 1) lines) t h in
    let none = (line_of_none s line parts.0).0 in
    cc (none, ended)

pub checked_right : (s : CheckerState) (at : ℕ) (lines : List Line) (t : CheckerState) → s.verdict ≡ None → checked s at lines ≡ Ok t → IsStateAfter s lines t
checked_right s at [] t going h =
    let same : s ≡ t = cc in
    record {
      root = ap (λ (s : CheckerState). s.root) (sym same);
      right = ap (λ (s : CheckerState). s.known) (sym same);
      verdict = ap (λ (s : CheckerState). s.verdict) (sym same) ∙ going;
      verdict_right = λ v some. cc (some, going, ap (λ (s : CheckerState). s.verdict) same);
    }
checked_right s at (ALemma l ∷ lines) t going h =
    let parts = checked_parts (line_refusal s (ALemma l)) at (checked (with_line s (ALemma l)) (at + 1) lines) t h in
    let one = right_of_none s.root s.known l (line_of_none s (ALemma l) parts.0).1 in
    let shown : s.known ++ shown_of s.root l ≡ s.known ++ (one.0, l.claim) ∷ [] = ap (λ more. s.known ++ more) (shown_along s.root l one.0 one.1.along) in
    let rest = checked_right (with_line s (ALemma l)) (at + 1) lines t going parts.1 in
    record {
      root = rest.root;
      right = (one.0, one.1, subst (λ known. AreRight s.root known (lemmas_in lines) t.known) shown rest.right);
      verdict = rest.verdict;
      verdict_right = rest.verdict_right;
    }
checked_right s at (ARemark ∷ lines) t going h =
    let parts = checked_parts (line_refusal s ARemark) at (checked s (at + 1) lines) t h in
    let rest = checked_right s (at + 1) lines t going parts.1 in
    record { root = rest.root; right = rest.right; verdict = rest.verdict; verdict_right = rest.verdict_right }
checked_right s at (AVerdict v ∷ lines) t going h =
    let parts = checked_parts (line_refusal s (AVerdict v)) at (checked (with_line s (AVerdict v)) (at + 1) lines) t h in
    let right : IsVerdict s.root s.known v = verdict_of_none s.root s.known v (line_of_none s (AVerdict v) parts.0).1 in
    let end = checked_behind (with_line s (AVerdict v)) (at + 1) lines t v refl parts.1 in
    let verdict : t.verdict ≡ Some v = ap (λ (s : CheckerState). s.verdict) (sym end.1) in
    record {
      root = ap (λ (s : CheckerState). s.root) (sym end.1);
      right = subst (λ lines. AreRight s.root s.known (lemmas_in lines) t.known) (sym end.0) (ap (λ (s : CheckerState). s.known) (sym end.1));
      verdict = verdict;
      verdict_right = λ w some. subst (λ (t : CheckerState). IsVerdict t.root t.known w) end.1
          (let same : v ≡ w = cc (some, verdict) in subst (IsVerdict s.root s.known) same right);
    }

-- lines and further lines
pub checked_append : (s t : CheckerState) (at : ℕ) (lines more : List Line) → checked s at lines ≡ Ok t
    → checked s at (lines ++ more) ≡ checked t (at + length lines) more
checked_append s t at [] more h = let same : s ≡ t = cc in ap (λ s. checked s at more) same ∙ ap (λ n. checked t n more) (omega arith)
checked_append s t at (line ∷ lines) more h =
    let parts = checked_parts (line_refusal s line) at (checked (with_line s line) (at + 1) lines) t h in
    ap (λ r. checked_on r at (checked (with_line s line) (at + 1) (lines ++ more))) parts.0
    ∙ checked_append (with_line s line) t (at + 1) lines more parts.1 ∙ ap (λ n. checked t n more) (omega arith)
