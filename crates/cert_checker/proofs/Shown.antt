-- What the numbers and claims of more lemmas show.
use Rattle.std.proofs.Common.{◌≡◌, ℕ, zero, suc, ◌-◌, ◌<◌, ◌≤◌, List, [], ◌∷◌, ◌++◌, get_or, Some, None, length, refl, sym, ap, ◌∙◌, arith}
use Rattle.std.specs.List.{slice_get}
use Rattle.std.proofs.lemmas.Option.{slice_get-get_or, slice_get_past}
use Rattle.game_rules.specs.Board.{Board}
use Rattle.board_bits.specs.MenNumber.{position_read}
use Rattle.proof_text.specs.Right.{lemma_at}
use Rattle.proof_text.specs.declared.Claim.{Claim}
use Rattle.cert_checker.specs.Shown.{shown_in}

pub shown_count : (board : Board) (all : List ℕ) (claims : List Claim) → length all ≡ length claims → length (shown_in board all claims) ≡ length claims
shown_count board [] claims same = same
shown_count board (men ∷ all) [] same = refl
shown_count board (men ∷ all) (claim ∷ claims) same = ap suc (shown_count board all claims (omega arith))

pub shown_more : (board : Board) (all : List ℕ) (claims : List Claim) (men : ℕ) (claim : Claim) → length all ≡ length claims
    → shown_in board (all ++ men ∷ []) (claims ++ claim ∷ []) ≡ shown_in board all claims ++ (position_read board men, claim) ∷ []
shown_more board [] [] men claim same = refl
shown_more board [] (other ∷ claims) men claim same = absurd (omega arith)
shown_more board (other ∷ all) [] men claim same = absurd (omega arith)
shown_more board (other ∷ all) (before ∷ claims) men claim same = ap (λ shown. (position_read board other, before) ∷ shown)
    (shown_more board all claims men claim (omega arith))

pub shown_at : (board : Board) (all : List ℕ) (claims : List Claim) (i : ℕ) (men : ℕ) (claim : Claim) → length all ≡ length claims
    → slice_get all i ≡ Some men → slice_get claims i ≡ Some claim
    → slice_get (shown_in board all claims) i ≡ Some (position_read board men, claim)
shown_at board [] claims i men claim same at claimed = absurd (cc at)
shown_at board (other ∷ all) [] i men claim same at claimed = absurd (cc claimed)
shown_at board (other ∷ all) (before ∷ claims) zero men claim same at claimed = cc
shown_at board (other ∷ all) (before ∷ claims) (suc i) men claim same at claimed = shown_at board all claims i men claim (omega arith) at claimed

-- what is lent of one lemma is what the definitions look up
pub found_at : (board : Board) (all : List ℕ) (claims : List Claim) (lemma i : ℕ) (men : ℕ) (claim : Claim) → 1 ≤ lemma → i ≡ lemma - 1
    → length all ≡ length claims → i < length all
    → men ≡ get_or all i men → claim ≡ get_or claims i claim → Some (position_read board men, claim) ≡ lemma_at (shown_in board all claims) lemma
found_at board all claims lemma i men claim some is same within at claimed =
    let here : lemma ≡ suc i = omega arith in
    sym (ap (lemma_at (shown_in board all claims)) here ∙ shown_at board all claims i men claim same (slice_get-get_or all i men within ∙ ap Some (sym at))
    (slice_get-get_or claims i claim (omega arith) ∙ ap Some (sym claimed)))

pub none_at : (board : Board) (all : List ℕ) (claims : List Claim) (lemma i : ℕ) → 1 ≤ lemma → i ≡ lemma - 1 → length all ≡ length claims → length all ≤ i
    → None ≡ lemma_at (shown_in board all claims) lemma
none_at board all claims lemma i some is same past =
    let here : lemma ≡ suc i = omega arith in
    sym (ap (lemma_at (shown_in board all claims)) here ∙ slice_get_past (shown_in board all claims) i (omega (arith, shown_count board all claims same)))
