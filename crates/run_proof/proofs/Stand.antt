-- Lines that stand: what holds of all of them, by going through them one by one.
use Rattle.std.proofs.Common.{◌≡◌, ◌≢◌, ℕ, ◌+◌, ◌≤◌, List, [], ◌∷◌, ◌++◌, length, Some, None, refl, sym, ap, ◌∙◌, subst, inr, append_assoc, append-nil, arith}
use Rattle.std.proofs.lemmas.Bool.{leb-true}
use Rattle.std.proofs.lemmas.List.{length-append}
use Rattle.game_rules.specs.Board.{Board}
use Rattle.game_rules.specs.Position.{Position, board_of}
use Rattle.proof_text.specs.Checked.{CheckerState, line_refusal, with_line}
use Rattle.proof_text.specs.Lemma.{Lemma, Line, ALemma, ARemark, AVerdict}
use Rattle.proof_text.specs.Right.{AreRight, IsVerdict}
use Rattle.proof_text.specs.Texts.{most_lines, with_bytes, with_said, lemmas_said, check_from, line_answer}
use Rattle.proof_text.specs.declared.Verdict.{Verdict}
use Rattle.proof_text.specs.declared.Version.{Version}
use Rattle.proof_text.proofs.Accepted.{with_bytes_root, said_first}
use Rattle.proof_text.proofs.Fold.{bytes_of_none}
use Rattle.proof_text.proofs.Refusals.{line_of_none, verdict_of_none}
use Rattle.proof_text.proofs.Upgraded.{right_line}
use Rattle.run_proof.specs.Lines.{Stand, Progress, said, Passes}
use Rattle.run_proof.specs.Steps.{ReachLemma}
use Rattle.run_proof.specs.Taken.{put_for}
use Rattle.run_proof.specs.Whole.{most_lines_read}

-- ---- what lines say

pub said_more : (version : Version) (board : Board) (xs ys : List (List ℕ))
    → lemmas_said version board (xs ++ ys) ≡ lemmas_said version board xs ++ lemmas_said version board ys
said_more version board [] ys = refl
said_more version board (x ∷ xs) ys =
    let here = lemmas_said version board (x ∷ []) in
    said_first version board x (xs ++ ys) ∙ ap (λ more. here ++ more) (said_more version board xs ys)
    ∙ sym (append_assoc here (lemmas_said version board xs) (lemmas_said version board ys))
    ∙ ap (λ first. first ++ lemmas_said version board ys) (sym (said_first version board x xs))

-- ---- what is put for lemmas

module _ (puts : Position → List Lemma → Lemma → List ℕ) (root : Position) where
  pub put_more : (ls xs ys : List Lemma) → put_for puts root ls (xs ++ ys) ≡ put_for puts root ls xs ++ put_for puts root (ls ++ xs) ys
  put_more ls [] ys = ap (λ ls. put_for puts root ls ys) (sym (append-nil ls))
  put_more ls (x ∷ xs) ys =
      let first = puts root ls x in
      let rest = put_for puts root (ls ++ x ∷ []) xs in
      ap (λ more. first ++ more) (put_more (ls ++ x ∷ []) xs ys)
      ∙ ap (λ before. first ++ (rest ++ put_for puts root before ys)) (append_assoc ls (x ∷ []) xs)
      ∙ sym (append_assoc first rest (put_for puts root (ls ++ x ∷ xs) ys))

  pub put_none : ((ls : List Lemma) (l : Lemma) → puts root ls l ≡ []) → (ls xs : List Lemma) → put_for puts root ls xs ≡ []
  put_none silent ls [] = refl
  put_none silent ls (x ∷ xs) = ap (λ first. first ++ put_for puts root (ls ++ x ∷ []) xs) (silent ls x) ∙ put_none silent (ls ++ x ∷ []) xs

pub some_more : (x y : List ℕ) → y ≢ [] → x ++ y ≢ []
some_more [] y some = some
some_more (b ∷ x) y some = λ none. cc none

-- ---- what stands

-- behind a line that isn't refused a verdict is right
verdict_line : (s : CheckerState) (line : Line) → line_refusal s line ≡ None → ((v : Verdict) → s.verdict ≡ Some v → IsVerdict s.root s.known v)
    → (v : Verdict) → (with_line s line).verdict ≡ Some v → IsVerdict (with_line s line).root (with_line s line).known v
verdict_line s (ALemma l) stands right v is = let none = (line_of_none s (ALemma l) stands).0 in cc (none, is)
verdict_line s ARemark stands right v is = right v is
verdict_line s (AVerdict w) stands right v is =
    let same : w ≡ v = cc is in
    subst (IsVerdict s.root s.known) same (verdict_of_none s.root s.known w (line_of_none s (AVerdict w) stands).1)

module _ (version : Version) where
  pub stand_then : (s t u : CheckerState) (at : ℕ) (xs ys : List (List ℕ)) → Stand version s at xs t → Stand version t (at + length xs) ys u
      → Stand version s at (xs ++ ys) u
  stand_then s t u at [] ys first next =
      let here : at + length {A = List ℕ} [] ≡ at = omega arith in
      subst (λ n. Stand version s n ys u) here (subst (λ t. Stand version t (at + length {A = List ℕ} []) ys u) first next)
  stand_then s t u at (x ∷ xs) ys first next =
      let moved : at + length (x ∷ xs) ≡ at + 1 + length xs = omega arith in
      (first.0, stand_then (with_bytes version s x) t u (at + 1) xs ys first.1 (subst (λ n. Stand version t n ys u) moved next))

  pub stand_root : (s t : CheckerState) (at : ℕ) (lines : List (List ℕ)) → Stand version s at lines t → t.root ≡ s.root
  stand_root s t at [] stand = ap (λ t. t.root) stand
  stand_root s t at (x ∷ xs) stand = stand_root (with_bytes version s x) t (at + 1) xs stand.1 ∙ with_bytes_root version s x

  -- no proof has more lines
  pub stand_few : (s t : CheckerState) (at : ℕ) (lines : List (List ℕ)) → at ≤ most_lines_read → Stand version s at lines t
      → at + length lines ≤ most_lines_read
  stand_few s t at [] few stand = omega (arith, few)
  stand_few s t at (x ∷ xs) few stand =
      let here : at ≤ most_lines = leb-true at most_lines (bytes_of_none version s at x stand.0).3 in
      omega (arith, stand_few (with_bytes version s x) t (at + 1) xs (omega (arith, here)) stand.1)

  -- the answer to further lines is that to those behind them
  pub stand_answer : (s t : CheckerState) (at : ℕ) (lines more : List (List ℕ)) → Stand version s at lines t
      → check_from version s at (lines ++ more) ≡ check_from version t (at + length lines) more
  stand_answer s t at [] more stand =
      let same : at ≡ at + length {A = List ℕ} [] = omega arith in
      ap (λ s. check_from version s at more) (sym stand) ∙ ap (λ n. check_from version t n more) same
  stand_answer s t at (x ∷ xs) more stand =
      let moved : at + 1 + length xs ≡ at + length (x ∷ xs) = omega arith in
      ap (λ r. line_answer r at (check_from version (with_bytes version s x) (at + 1) (xs ++ more))) stand.0
      ∙ stand_answer (with_bytes version s x) t (at + 1) xs more stand.1 ∙ ap (λ n. check_from version t n more) moved

  -- and where those reach a lemma, so do they
  pub stand_reaches : (s t : CheckerState) (at : ℕ) (lines more : List (List ℕ)) → Stand version s at lines t
      → ReachLemma version t (at + length lines) more → ReachLemma version s at (lines ++ more)
  stand_reaches s t at [] more stand reach =
      let same : at + length {A = List ℕ} [] ≡ at = omega arith in
      subst (λ n. ReachLemma version s n more) same (subst (λ t. ReachLemma version t (at + length {A = List ℕ} []) more) stand reach)
  stand_reaches s t at (x ∷ xs) more stand reach =
      let moved : at + length (x ∷ xs) ≡ at + 1 + length xs = omega arith in
      inr (stand.0, stand_reaches (with_bytes version s x) t (at + 1) xs more stand.1 (subst (λ n. ReachLemma version t n more) moved reach))

  -- their lemmas are right
  pub stand_right : (s t : CheckerState) (at : ℕ) (ls : List Lemma) (lines : List (List ℕ)) → Stand version s at lines t
      → AreRight s.root [] ls s.known → AreRight s.root [] (ls ++ said version s lines) t.known
  stand_right s t at ls [] stand right =
      subst (λ ls. AreRight s.root [] ls t.known) (sym (append-nil ls)) (subst (λ t. AreRight s.root [] ls t.known) (sym stand) right)
  stand_right s t at ls (x ∷ xs) stand right =
      let found = bytes_of_none version s at x stand.0 in
      let mid = with_bytes version s x in
      let first = said version s (x ∷ []) in
      let one : AreRight s.root [] (ls ++ first) mid.known = rw found.1 (right_line s ls found.0 right found.2) in
      let R : Position → Type 0 = λ root. AreRight root [] (ls ++ first) mid.known
      → AreRight root [] ((ls ++ first) ++ lemmas_said version (board_of root) xs) t.known in
      subst (λ ls. AreRight s.root [] ls t.known)
      (append_assoc ls first (said version s xs) ∙ ap (λ more. ls ++ more) (sym (said_first version (board_of s.root) x xs)))
      (subst R (with_bytes_root version s x) (stand_right mid t (at + 1) (ls ++ first) xs stand.1) one)

  -- and so is the verdict, if there is one
  pub stand_verdict : (s t : CheckerState) (at : ℕ) (lines : List (List ℕ)) → Stand version s at lines t
      → ((v : Verdict) → s.verdict ≡ Some v → IsVerdict s.root s.known v) → (v : Verdict) → t.verdict ≡ Some v → IsVerdict t.root t.known v
  stand_verdict s t at [] stand right =
      let P : CheckerState → Type 0 = λ s. (v : Verdict) → s.verdict ≡ Some v → IsVerdict s.root s.known v in
      subst P (sym stand) right
  stand_verdict s t at (x ∷ xs) stand right =
      let found = bytes_of_none version s at x stand.0 in
      let P : CheckerState → Type 0 = λ s. (v : Verdict) → s.verdict ≡ Some v → IsVerdict s.root s.known v in
      stand_verdict (with_bytes version s x) t (at + 1) xs stand.1 (subst P (sym (ap (with_said s) found.1)) (verdict_line s found.0 found.2 right))

  -- one after another
  pub pass_then : (s t u : Progress) (xs ys : List (List ℕ)) → Passes version s xs t → Passes version t ys u → Passes version s (xs ++ ys) u
  pass_then s t u xs ys first next =
      let board = board_of s.stands.root in
      record {
        stand = stand_then s.stands t.stands u.stands s.next xs ys first.stand (subst (λ n. Stand version t.stands n ys u.stands) first.counted next.stand);
        counted = omega (arith, first.counted, next.counted, length-append xs ys);
        say = next.say ∙ ap (λ (root : Position). t.lemmas ++ lemmas_said version (board_of root) ys) (stand_root s.stands t.stands s.next xs first.stand)
            ∙ ap (λ ls. ls ++ lemmas_said version board ys) first.say
            ∙ append_assoc s.lemmas (lemmas_said version board xs) (lemmas_said version board ys)
            ∙ ap (λ more. s.lemmas ++ more) (sym (said_more version board xs ys));
      }
