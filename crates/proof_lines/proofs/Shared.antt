-- Lists that are the same up to a place.
use Rattle.std.proofs.Common.{◌≡◌, ℕ, ◌+◌, ◌-◌, ◌≤◌, List, ◌++◌, take, drop, sym, ap, ◌∙◌, subst, arith}
use Rattle.std.proofs.Math.Seq.{take-add}

-- two paths that are the same up to one place, and then up to another
pub same_up_to : (at end : ℕ) (xs ys : List ℕ) → at ≤ end → take at xs ≡ take at ys → take (end - at) (drop at xs) ≡ take (end - at) (drop at ys)
    → take end xs ≡ take end ys
same_up_to at end xs ys ordered first rest =
    let parts : at + (end - at) ≡ end = omega arith in
    subst (λ n. take n xs ≡ take n ys) parts (take-add at (end - at) xs ∙ ap (λ a. a ++ take (end - at) (drop at xs)) first ∙ ap (λ b. take at ys ++ b) rest
    ∙ sym (take-add at (end - at) ys))
