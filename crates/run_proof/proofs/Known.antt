-- What a line that was accepted is, and what a whole text is that is accepted.
use Rattle.std.proofs.Common.{◌≡◌, ℕ, ◌≤◌, List, Option, Some, None, refl, ap, ◌∙◌}
use Rattle.std.proofs.lemmas.Bool.{le-leb}
use Rattle.std.specs.Io.KnownBytes.{IsAtEnd}
use Rattle.game_rules.specs.Board.{Board}
use Rattle.game_rules.specs.Position.{board_of}
use Rattle.proof_text.specs.Checked.{unless, or_then, line_refusal, CheckerState}
use Rattle.proof_text.specs.Lemma.{Lemma, Line, ALemma, ARemark, AVerdict}
use Rattle.proof_text.specs.Reading.{read_line}
use Rattle.proof_text.specs.Texts.{most_lines, Accepted, said_refusal, bytes_refusal}
use Rattle.proof_text.proofs.Sound.{true_text}
use Rattle.proof_text.proofs.Whole.{whole_accepted, accepted_right}
use Rattle.proof_text.specs.declared.Version.{Version}
use Rattle.proof_text.specs.declared.Verdict.{Verdict}
use Rattle.proof_text.specs.declared.Why.TheVariants.{BadLine}
use Rattle.cert_checker.specs.Checking.{IsLemma}
use Rattle.run_proof.specs.Steps.{IsNextLemma}
use Rattle.run_proof.specs.Whole.{judged, IsRightInput, SaysTruth}

-- a line that is read and not refused
module _ (version : Version) (s : CheckerState) (at : ℕ) (bytes : List ℕ) (size : Board) (line : Line) (board : board_of s.root ≡ size)
    (within : at ≤ most_lines)
    (said : read_line version size bytes ≡ Some line) (stands : line_refusal s line ≡ None) where
  here : read_line version (board_of s.root) bytes ≡ Some line
  here = ap (λ board. read_line version board bytes) board ∙ said

  pub not_refused : bytes_refusal version s at bytes ≡ None
  not_refused = ap (λ few. or_then (unless few BadLine) (said_refusal s (read_line version (board_of s.root) bytes))) (le-leb at most_lines within)
      ∙ ap (said_refusal s) here ∙ stands

  -- being a lemma
  pub next_lemma : IsLemma line → IsNextLemma version s at bytes
  next_lemma lemma = let found = lemma_of line lemma in (not_refused, found.0, here ∙ ap (λ line. Some line) found.1)
    where
      lemma_of : (line : Line) → IsLemma line → (l : Lemma) × (line ≡ ALemma l)
      lemma_of (ALemma l) is = (l, refl)
      lemma_of ARemark is = absurd is
      lemma_of (AVerdict v) is = absurd is

-- what is accepted is right, and says what is true
pub right_input : (asked : Option Version) (taken : List ℕ) (left : Option (List ℕ)) (v : Verdict) (count : ℕ) → judged asked taken ≡ Accepted v count
    → IsAtEnd left → IsRightInput asked taken left v count
right_input asked taken left v count accepted whole = record { accepted = accepted; says = says asked accepted; whole = whole }
  where
    says : (asked : Option Version) → judged asked taken ≡ Accepted v count → SaysTruth asked taken v count
    says None accepted =
        let right = accepted_right taken v count accepted in
        let true_ones = true_text right.0 taken v count right.1 in
        record { version = right.0; is_asked = tt; text = right.1; lemmas = true_ones.0; verdict = true_ones.1 }
    says (Some version) accepted =
        let text = whole_accepted version taken v count accepted in
        let true_ones = true_text version taken v count text in
        record { version = version; is_asked = refl; text = text; lemmas = true_ones.0; verdict = true_ones.1 }
