-- Words in a row: the first, and each of the others behind a space.
use Rattle.std.proofs.Common.{◌≡◌, ℕ, List, [], ◌∷◌, ◌++◌, map, flat_map, decimal, refl, sym, ap, ◌∙◌, append_assoc}
use Rattle.std.proofs.lemmas.List.{append-nil}
use Rattle.game_rules.specs.Grammar.{move_list}
use Rattle.proof_text.specs.Lemma.{Lemma}
use Rattle.proof_text.specs.Spelling.{spaced, claim_word, cite_word, reason_words, lemma_line}
use Rattle.plan_lines.specs.Rules.{RuleInstance}
use Rattle.proof_text.specs.Items.{instance_text}
use Rattle.plan_lines.specs.Items.{members_text}
use Rattle.proof_lines.specs.Shape.{cite_of}
use Rattle.cert_format.specs.Printed.{behind_spaces}
use Rattle.proof_lines.specs.declared.lines.Cite.{Cite}

pub spaced_behind : (word : List ℕ) (words : List (List ℕ)) → spaced (word ∷ words) ≡ word ++ behind_spaces words
spaced_behind word [] = sym (append-nil word)
spaced_behind word (next ∷ words) = ap (λ rest. word ++ (32 ∷ rest)) (spaced_behind next words)

pub cites_behind : (cites : List Cite) → flat_map (λ cite. 32 ∷ cite_word (cite_of cite)) cites ≡ behind_spaces (map cite_word (map cite_of cites))
cites_behind [] = refl
cites_behind (cite ∷ cites) = ap (λ rest. (32 ∷ cite_word (cite_of cite)) ++ rest) (cites_behind cites)

-- the members of a plan, each behind a space
pub members_behind : (ws : List RuleInstance) → members_text ws ≡ behind_spaces (map instance_text ws)
members_behind [] = refl
members_behind (w ∷ ws) = ap (λ rest. (32 ∷ instance_text w) ++ rest) (members_behind ws)

-- the line of a lemma, each of its pieces before what was put, and what is put behind them
pub lemma_pieces : (l : Lemma) (tail reason said path : List ℕ) → reason ++ tail ≡ behind_spaces (reason_words l.reason) ++ 10 ∷ []
    → said ≡ claim_word l.claim ++ reason → path ≡ move_list l.path ++ 32 ∷ said
    → (decimal l.number ++ 32 ∷ path) ++ tail ≡ lemma_line l
lemma_pieces l tail reason said path put_reason put_said put_path =
    append_assoc (decimal l.number) (32 ∷ path) tail
    ∙ pieces (reason ++ tail) (said ++ tail) (path ++ tail) put_reason (ap (λ text. text ++ tail) put_said ∙ append_assoc (claim_word l.claim) reason tail)
    (ap (λ text. text ++ tail) put_path ∙ append_assoc (move_list l.path) (32 ∷ said) tail)
  where
    pieces : (reason said path : List ℕ) → reason ≡ behind_spaces (reason_words l.reason) ++ 10 ∷ [] → said ≡ claim_word l.claim ++ reason
        → path ≡ move_list l.path ++ 32 ∷ said
        → decimal l.number ++ 32 ∷ path ≡ lemma_line l
    pieces reason said path put_reason put_said put_path =
        let words = claim_word l.claim ∷ reason_words l.reason in
        let spelled : claim_word l.claim ++ behind_spaces (reason_words l.reason)
        ≡ spaced words = sym (spaced_behind (claim_word l.claim) (reason_words l.reason)) in
        let claimed : said ≡ spaced words ++ 10 ∷ [] =
        put_said ∙ ap (λ rest. claim_word l.claim ++ rest) put_reason
        ∙ sym (append_assoc (claim_word l.claim) (behind_spaces (reason_words l.reason)) (10 ∷ [])) ∙ ap (λ text. text ++ 10 ∷ []) spelled in
        ap (λ rest. decimal l.number ++ 32 ∷ rest) (put_path ∙ ap (λ rest. move_list l.path ++ 32 ∷ rest) claimed) ∙ sym (simp append_assoc)
