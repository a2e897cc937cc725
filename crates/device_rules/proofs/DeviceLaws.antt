-- Laws on what devices may be held to: counts of faults over several calls, and a text that is put piece by piece.
use Rattle.std.proofs.Common.{◌≡◌, ℕ, ◌+◌, ◌≤◌, min, Bool, true, false, List, ◌++◌, length, take, Option, Result, sym, subst, ◌∙◌, arith}
use Rattle.std.specs.Io.KnownBytes.{Appends}
use Rattle.std.proofs.KnownBytes.{Appends-trans}
use Rattle.std.proofs.lemmas.List.{take-append-le, take_min}
use Rattle.std.proofs.Math.Seq.{take-append-add, take-length}
use Rattle.device_rules.specs.Devices.{Rose, HasCause, AppendsPrefix}

-- A count that rose since a later moment rose since an earlier one.
pub Rose_before : (before mid after : ℕ) → before ≤ mid → Rose mid after → Rose before after
Rose_before before mid after first rose = omega arith

-- The last of several calls gives the cause of all.
pub HasCause_before : {X E : Type 0} (before mid after : ℕ) (result : Result X E) → before ≤ mid → HasCause mid after result → HasCause before after result
HasCause_before before mid after result first cause = record {
  later = omega (arith, cause.later);
  failed = λ wrong. Rose_before before mid after first (cause.failed wrong);
}

-- What was put whole stands either way.
pub AppendsPrefix_all : (ok : Bool) (old new : Option (List ℕ)) (text : List ℕ) → Appends old new text → AppendsPrefix ok old new text
AppendsPrefix_all true old new text whole = whole
AppendsPrefix_all false old new text whole = (length text, subst (Appends old new) (sym (take-length text)) whole)

-- A prefix of x is a prefix of x ++ y.
pub AppendsPrefix_take : (old new : Option (List ℕ)) (x y : List ℕ) → AppendsPrefix false old new x → AppendsPrefix false old new (x ++ y)
AppendsPrefix_take old new x y prefix =
    let n = min prefix.0 (length x) in
    let within : n ≤ length x = omega arith in
    let same : take prefix.0 x ≡ take n (x ++ y) = sym (take-append-le n x y within ∙ take_min prefix.0 x) in
    (n, subst (Appends old new) same prefix.1)

-- The whole of x, and then y either way, is x ++ y that way.
pub AppendsPrefix_more : (ok : Bool) (old mid new : Option (List ℕ)) (x y : List ℕ) → Appends old mid x → AppendsPrefix ok mid new y
    → AppendsPrefix ok old new (x ++ y)
AppendsPrefix_more true old mid new x y first rest = Appends-trans old mid new x y first rest
AppendsPrefix_more false old mid new x y first rest =
    (length x + rest.0, subst (Appends old new) (sym (take-append-add x y rest.0)) (Appends-trans old mid new x (take rest.0 y) first rest.1))
