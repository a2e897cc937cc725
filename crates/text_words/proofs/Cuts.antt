-- What is cut at a mark, as the code finds it.
use Rattle.std.proofs.Common.{◌≡◌, ℕ, zero, suc, ◌+◌, ◌-◌, ◌<◌, false, ◌==◌, List, [], ◌∷◌, ◌++◌, take, drop, length, get_or, Some, None, refl, sym}
use Rattle.std.proofs.Common.{ap, ◌∙◌, subst, add-one, drop-cons, arith}
use Rattle.std.specs.Option.{option_map}
use Rattle.std.proofs.lemmas.Bool.{eqb-true, false_from_ne_true}
use Rattle.std.proofs.lemmas.List.{take_rest, take-append-drop}
use Rattle.std.proofs.Math.Seq.{take-length}
use Rattle.bstr.specs.Find.{IsFirstByte, is_byte}
use Rattle.plan_text.specs.Words.{split_once}
use Rattle.plan_text.proofs.Spaced.{IsFreeOf, split_once_at}

free_before : (mark : ℕ) (bytes : List ℕ) (end : ℕ) → ((k : ℕ) → k < end → (get_or bytes k 0 == mark) ≡ false) → IsFreeOf mark (take end bytes)
free_before mark bytes zero never = tt
free_before mark [] (suc end) never = tt
free_before mark (byte ∷ bytes) (suc end) never = (never 0 (omega arith), free_before mark bytes end (λ k below. never (suc k) (omega arith)))

pub uncut : (mark : ℕ) (bytes : List ℕ) → IsFreeOf mark bytes → split_once mark bytes ≡ None
uncut mark [] free = refl
uncut mark (byte ∷ bytes) free = rw free.0 (ap (option_map (λ parts. (byte ∷ parts.0, parts.1))) (uncut mark bytes free.1))

pub mark_nowhere : (mark : ℕ) (bytes : List ℕ) → IsFirstByte (is_byte mark) bytes None → split_once mark bytes ≡ None
mark_nowhere mark bytes nowhere =
    uncut mark bytes (subst (IsFreeOf mark) (take-length bytes)
    (free_before mark bytes (length bytes) (λ k below. false_from_ne_true (get_or bytes k 0 == mark) (nowhere k (omega arith) below))))

pub mark_found : (mark : ℕ) (bytes : List ℕ) (end : ℕ) → IsFirstByte (is_byte mark) bytes (Some end)
    → split_once mark bytes ≡ Some (take end bytes, take (length bytes - (end + 1)) (drop (end + 1) bytes))
mark_found mark bytes end found =
    let free = free_before mark bytes end (λ k below. false_from_ne_true (get_or bytes k 0 == mark) (found.0.before k (omega arith) below)) in
    ap (split_once mark) apart ∙ split_once_at mark (take end bytes) (drop (end + 1) bytes) free
    ∙ ap (λ rest. Some (take end bytes, rest)) (sym (take_rest bytes (end + 1)))
  where
    within : end < length bytes
    within = omega (arith, found.0.high)

    behind : drop end bytes ≡ get_or bytes end 0 ∷ drop (end + 1) bytes
    behind = rw add-one (drop-cons bytes end 0 within)

    apart : bytes ≡ take end bytes ++ mark ∷ drop (end + 1) bytes
    apart =
        sym (take-append-drop end bytes) ∙ ap (λ rest. take end bytes ++ rest) behind
        ∙ ap (λ byte. take end bytes ++ byte ∷ drop (end + 1) bytes) (eqb-true (get_or bytes end 0) mark found.1)
