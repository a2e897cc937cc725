-- Lines that are gone through one by one up to a lemma stand up to it, each by its place.
use Rattle.std.proofs.Common.{◌≡◌, ℕ, ◌+◌, ◌<◌, ◌≤◌, List, [], ◌∷◌, ◌++◌, length, Option, Some, Ok, None, sym, ap, ◌∙◌, subst, inl, inr, append_assoc, arith}
use Rattle.std.specs.List.{slice_index_or}
use Rattle.std.proofs.lemmas.Bool.{cases_eq}
use Rattle.std.proofs.lemmas.List.{length-append}
use Rattle.std.proofs.Math.Seq.{take-append_seam}
use Rattle.game_rules.specs.Position.{Position, board_of}
use Rattle.game_rules.specs.Text.{game_at}
use Rattle.proof_text.specs.Reading.{read_line}
use Rattle.proof_text.specs.Texts.{pieces, first_number, game_of, behind_game, bytes_refusal, refusal_at, state_after, start}
use Rattle.proof_text.proofs.Fold.{state_after_push, index_seam}
use Rattle.proof_text.specs.declared.Version.{Version}
use Rattle.run_proof.specs.Whole.{version_named, StandsToLemma, BeginsProof}
use Rattle.run_proof.specs.Steps.{ReachLemma}

module _ (version : Version) (root : Position) where
  -- the refusal of the line behind some lines
  refusal_here : (before : List (List ℕ)) (line : List ℕ) (rest : List (List ℕ))
      → refusal_at version root (before ++ line ∷ rest) (length before) ≡ bytes_refusal version (state_after version root before)
      (length before + first_number) line
  refusal_here before line rest =
      ap (λ prefix. bytes_refusal version (state_after version root prefix) (length before + first_number)
      (slice_index_or (before ++ line ∷ rest) (length before) []))
      (take-append_seam before (line ∷ rest)) ∙ ap (bytes_refusal version (state_after version root before) (length before + first_number))
      (index_seam before line rest)

  -- one line more isn't refused
  stands_more : (before : List (List ℕ)) (line : List ℕ) (rest : List (List ℕ))
      → ((i : ℕ) → i < length before → refusal_at version root (before ++ line ∷ rest) i ≡ None)
      → bytes_refusal version (state_after version root before) (length before + first_number) line ≡ None
      → (i : ℕ) → i ≤ length before → refusal_at version root (before ++ line ∷ rest) i ≡ None
  stands_more before line rest stood here i low = elim (cases_eq i (length before)) [
    | inl same ↦ ap (refusal_at version root (before ++ line ∷ rest)) same ∙ refusal_here before line rest ∙ here
    | inr apart ↦ stood i (omega arith)
  ]

  stands_to : (rest before : List (List ℕ)) → ((i : ℕ) → i < length before → refusal_at version root (before ++ rest) i ≡ None)
      → ReachLemma version (state_after version root before) (length before + first_number) rest → StandsToLemma version root (before ++ rest)
  stands_to [] before stood reach = absurd reach
  stands_to (line ∷ rest) before stood (inl (here, l, said)) = record {
    place = length before;
    there = omega (arith, length-append before (line ∷ rest));
    stands = stands_more before line rest stood here;
    lemma = l;
    said = ap (read_line version (board_of root)) (index_seam before line rest) ∙ said;
  }
  stands_to (line ∷ rest) before stood (inr (here, later)) =
      let longer : length (before ++ line ∷ []) ≡ length before + 1 = length-append before (line ∷ []) in
      let same = append_assoc before (line ∷ []) rest in
      subst (StandsToLemma version root) same (
      stands_to rest (before ++ line ∷ [])
      (λ i low. ap (λ lines. refusal_at version root lines i) same ∙ stands_more before line rest stood here i (omega arith))
      (subst (λ n. ReachLemma version (state_after version root (before ++ line ∷ [])) n rest) (omega (arith, longer))
      (subst (λ s. ReachLemma version s (length before + first_number + 1) rest)
      (sym (state_after_push version root before (length before + first_number) line here)) later)))

pub begins_proof : (asked : Option Version) (version : Version) (bytes first : List ℕ) (more : List (List ℕ)) → pieces bytes ≡ first ∷ more
    → version_named asked first ≡ Some version → (root : Position) → game_at (game_of more) ≡ Ok root
    → ReachLemma version (start root) first_number (behind_game more)
    → BeginsProof asked bytes
begins_proof asked version bytes first more cut named root game reach = record {
  version = version;
  first = first;
  more = more;
  cut = cut;
  named = named;
  root = root;
  game = game;
  lines = stands_to version root (behind_game more) [] (λ i low. absurd (omega arith)) reach;
}
