-- A lemma that is taken is written as the upgraded text has it.
use Rattle.std.proofs.Common.{◌≡◌, ◌≢◌, ℕ, ◌+◌, false, List, [], ◌∷◌, ◌++◌, length, Option, Result, Ok, Err, OnOk}
use Rattle.std.proofs.Common.{refl, sym, ap, ◌∙◌, subst, append-nil, append_assoc, arith}
use Rattle.std.proofs.lemmas.List.{length-append}
use Rattle.std.specs.Io.KnownBytes.{Appends}
use Rattle.device_rules.specs.Devices.{AppendsPrefix}
use Rattle.game_rules.specs.Mirror.{mirror}
use Rattle.game_rules.specs.Position.{Position}
use Rattle.proof_text.specs.Checked.{shown_of}
use Rattle.proof_text.specs.Lemma.{Lemma}
use Rattle.proof_text.specs.Spelling.{lemma_text, lemma_line, lines_of}
use Rattle.proof_text.specs.Upgrade.{image_at, upgraded_lemma, upgraded, resting_on}
use Rattle.proof_text.proofs.Accepted.{shown_along}
use Rattle.run_proof.specs.Index.{Numbers, Follows, Keeps, kept_for}
use Rattle.run_proof.specs.Taken.{IsBehind, Takes, put_for}
use Rattle.run_proof.specs.declared.taker.NotTaken.{NotTaken}
use Rattle.run_proof.specs.declared.taker.NotTaken.TheVariants.{Memory, Write}
use Rattle.run_proof.proofs.Follows.{follows_push}
use Rattle.run_proof.proofs.Stand.{some_more}
use Rattle.run_upgrade.specs.Writing.{all_shown, upgraded_line, HasPut, WritesLemma}

-- ---- what further lemmas show, and what becomes of them

shown_more : (root : Position) (ls : List Lemma) (l : Lemma) → all_shown root (ls ++ l ∷ []) ≡ all_shown root ls ++ shown_of root l
shown_more root [] l = append-nil (shown_of root l)
shown_more root (x ∷ ls) l =
    ap (λ more. shown_of root x ++ more) (shown_more root ls l) ∙ sym (append_assoc (shown_of root x) (all_shown root ls) (shown_of root l))

lines_behind : (root : Position) (before ls : List Lemma) → put_for upgraded_line root before ls ≡ lines_of (upgraded root (all_shown root before) ls)
lines_behind root before [] = refl
lines_behind root before (l ∷ ls) = ap (λ more. upgraded_line root before l ++ more)
    (lines_behind root (before ++ l ∷ []) ls ∙ ap (λ known. lines_of (upgraded root known ls)) (shown_more root before l))

pub put_lines : (root : Position) (ls : List Lemma) → put_for upgraded_line root [] ls ≡ lines_of (upgraded root [] ls)
put_lines root ls = lines_behind root [] ls

-- ---- one lemma more

module _ (root : Position) (ls : List Lemma) (l : Lemma) (p : Position) (before : Numbers) (count : ℕ) (has : HasPut before count root ls) where
  module _ (behind : IsBehind root ls l p) where
    text : lemma_line (resting_on l (kept_for (mirror p) l.claim before)) ≡ upgraded_line root ls l
    text = ap (λ found. lemma_line (resting_on l found)) (has.follows (mirror p) l.claim)
        ∙ ap (λ q. lemma_line (resting_on l (image_at (all_shown root ls) l.claim q))) (sym behind.1)

    some : upgraded_line root ls l ≢ []
    some = some_more (lemma_text (upgraded_lemma root (all_shown root ls) l)) (10 ∷ []) (λ none. cc none)

    more : (after : Numbers) (counted : ℕ) → Keeps p l.claim l.number before after → counted ≡ count + 1 → HasPut after counted root (ls ++ l ∷ [])
    more after counted keeps one =
        let shown : all_shown root (ls ++ l ∷ []) ≡ all_shown root ls ++ (p, l.claim) ∷ [] = shown_more root ls l
        ∙ ap (λ one. all_shown root ls ++ one) (shown_along root l p behind.1) in
        let number : l.number ≡ length (all_shown root ls) + 1 = omega (arith, behind.0, has.all) in
        record {
          follows = subst (λ known. Follows known after) (sym shown)
              (follows_push (all_shown root ls) p l.claim before after has.follows (subst (λ n. Keeps p l.claim n before after) number keeps));
          counted = omega (arith, one, has.counted, length-append ls (l ∷ []));
          all = omega (arith, ap length shown, length-append (all_shown root ls) ((p, l.claim) ∷ []), has.all, length-append ls (l ∷ []));
        }

    pub lemma_taken : {X : Type 0} (after : Numbers) (counted : ℕ) (old new : Option (List ℕ)) (result : Result X NotTaken)
        → WritesLemma p l before after old new result → OnOk result (counted ≡ count + 1) → (result ≡ Err Memory → counted ≡ count)
        → Takes (HasPut after counted) upgraded_line root ls l old new result
    lemma_taken after counted old new (Ok x) (keeps, put) one same = (more after counted keeps one, subst (Appends old new) text put)
    lemma_taken after counted old new (Err Memory) (numbers, kept) one same =
        (subst (λ after. HasPut after counted root ls) (sym numbers) (subst (λ count. HasPut before count root ls) (sym (same refl)) has), kept)
    lemma_taken after counted old new (Err Write) put one same = (subst (AppendsPrefix false old new) text put, some)
