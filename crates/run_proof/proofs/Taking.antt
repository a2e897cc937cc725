-- A line that was accepted is handed to the taker.
use Rattle.std.proofs.Common.{◌≡◌, ◌≢◌, ℕ, List, [], ◌∷◌, ◌++◌, length, Option, Some, false, sym, ap, ◌∙◌, subst, append-nil, arith}
use Rattle.std.specs.Io.KnownBytes.{Appends}
use Rattle.device_rules.specs.Devices.{AppendsPrefix}
use Rattle.game_rules.specs.Position.{Position, board_of, played}
use Rattle.proof_text.specs.Checked.{CheckerState}
use Rattle.proof_text.specs.Lemma.{Lemma, Line, ALemma, ARemark, AVerdict}
use Rattle.proof_text.specs.declared.Version.{Version}
use Rattle.proof_text.proofs.Refusals.{right_of_none, line_of_none}
use Rattle.proof_text.proofs.Spelled.{line_read}
use Rattle.cert_checker.specs.Checking.{IsAt}
use Rattle.run_proof.specs.Lines.{InStep}
use Rattle.run_proof.specs.Steps.{IsAccepted}
use Rattle.run_proof.specs.Taken.{IsBehind, put_for, MayTake, IsLineBehind}

-- ---- it may be, being behind the others

module _ (version : Version) (s t : CheckerState) (at : ℕ) (text : List ℕ) (path : List ℕ) (p : Position) (along : played t.root path ≡ Some p) where
  lemma_behind : (l : Lemma) → IsAccepted version s t at text (ALemma l) → path ≡ l.path → (ls : List Lemma) → length ls ≡ length s.known
      → IsBehind s.root ls l p
  lemma_behind l is there ls many = (
    omega (arith, (right_of_none s.root s.known l (line_of_none s (ALemma l) is.stands).1).1.next, many),
    ap (played s.root) (sym there) ∙ ap (λ root. played root path) (sym (ap (λ t. t.root) is.next)) ∙ along,
  )

  pub line_behind : (line : Line) → IsAccepted version s t at text line → IsAt line path → (ls : List Lemma) → length ls ≡ length s.known
      → IsLineBehind s.root ls line p
  line_behind (ALemma l) is there ls many = lemma_behind l is there ls many
  line_behind ARemark is there ls many = tt
  line_behind (AVerdict v) is there ls many = tt

  pub may_take : (Holds : Position → List Lemma → Type 0) (line : Line) → IsAccepted version s t at text line → IsAt line path → InStep Holds s
      → MayTake Holds line p
  may_take Holds (ALemma l) is there step = record {
    root = s.root;
    lemmas = step.lemmas;
    got = step.got;
    behind = lemma_behind l is there step.lemmas step.many;
    spelled = (board_of s.root, (line_read version (board_of s.root) text (ALemma l) is.said).1.0);
  }
  may_take Holds ARemark is there step = tt
  may_take Holds (AVerdict v) is there step = tt

-- ---- and what it puts is what is put for the lemma that the line says

module _ (Holds : Position → List Lemma → Type 0) (puts : Position → List Lemma → Lemma → List ℕ) (root : Position) (ls : List Lemma)
    (old new : Option (List ℕ)) where
  same_text : (l : Lemma) → puts root ls l ≡ put_for puts root ls (l ∷ [])
  same_text l = sym (append-nil (puts root ls l))

  pub lemma_taken : (l : Lemma) → Holds root (ls ++ l ∷ []) × Appends old new (puts root ls l)
      → Holds root (ls ++ l ∷ []) × Appends old new (put_for puts root ls (l ∷ []))
  lemma_taken l taken = (taken.0, subst (Appends old new) (same_text l) taken.1)

  pub lemma_cut : (l : Lemma) → AppendsPrefix false old new (puts root ls l) × (puts root ls l ≢ [])
      → AppendsPrefix false old new (put_for puts root ls (l ∷ [])) × (put_for puts root ls (l ∷ []) ≢ [])
  lemma_cut l cut = (subst (AppendsPrefix false old new) (same_text l) cut.0, subst (λ text. text ≢ []) (same_text l) cut.1)
