-- What one more read or write adds to the prefix of a text or of a buffer that is there already.
use Rattle.std.proofs.Common.{◌≡◌, ℕ, ◌+◌, ◌-◌, ◌≤◌, List, [], ◌++◌, length, take, drop, Option, sym, ap, ◌∙◌, subst, arith}
use Rattle.std.specs.Io.KnownBytes.{Appends, Consumes}
use Rattle.std.proofs.KnownBytes.{Appends-trans, Consumes-trans}
use Rattle.std.proofs.lemmas.List.{take_at, take-append-le, take-append-drop, drop-drop, length-take-le, length-drop, length-append, nil_from_length, take_rest}
use Rattle.std.proofs.Math.Seq.{take-add, take-append-add}
use borrow.Rule.Slice.PartMut.{put_mid, post_of}

-- the first d bytes of a text, and then n more of the rest
pub Appends_more : (a b c : Option (List ℕ)) (text : List ℕ) (d n : ℕ)
    → Appends a b (take d text) → Appends b c (take n (take (length text - d) (drop d text))) → Appends a c (take (d + n) text)
Appends_more a b c text d n first next =
    let more : Appends b c (take n (drop d text)) = subst (λ (l : List ℕ). Appends b c (take n l)) (take_rest text d) next in
    subst (Appends a c) (sym (take-add d n text)) (Appends-trans a b c (take d text) (take n (drop d text)) first more)

-- the prefix of a buffer after a read into what was left of it
pub take-put_mid_more : (buf got : List ℕ) (d k n : ℕ) → d ≤ length buf → n ≤ length got
    → take (d + n) (put_mid d k buf got) ≡ take d buf ++ take n got
take-put_mid_more buf got d k n within count =
    let prefix = take d buf in
    let rest = post_of d k buf in
    let at : take (length prefix + n) (prefix ++ (got ++ rest)) ≡ prefix ++ take n (got ++ rest) = take-append-add prefix (got ++ rest) n in
    let here : length prefix ≡ d = length-take-le d buf within in
    sym (ap (λ m. take (m + n) (prefix ++ (got ++ rest))) here) ∙ at ∙ ap (λ l. prefix ++ l) (take-append-le n got rest count)

-- which lies within the buffer
pub put_mid_long : (buf got : List ℕ) (d k n : ℕ) → d ≤ length buf → n ≤ length got → d + n ≤ length (put_mid d k buf got)
put_mid_long buf got d k n within count =
    let rest = post_of d k buf in
    omega (arith, length-append (take d buf) (got ++ rest), length-append got rest, length-take-le d buf within)

-- the first d bytes of a buffer, and then n more
pub Consumes_more : (a b c : Option (List ℕ)) (buf got : List ℕ) (d k n : ℕ) → d ≤ length buf → n ≤ length got
    → Consumes a b (take d buf) → Consumes b c (take n got) → Consumes a c (take (d + n) (put_mid d k buf got))
Consumes_more a b c buf got d k n within count first next =
    subst (Consumes a c) (sym (take-put_mid_more buf got d k n within count)) (Consumes-trans a b c (take d buf) (take n got) first next)

-- a read from memory: n bytes of those from a place on, put at the start of a buffer
pub given_and_left : (bytes left got rest : List ℕ) (at n : ℕ) → left ≡ drop at bytes → n ≤ length left → got ≡ take n left
    → drop at bytes ≡ take n (got ++ rest) ++ drop (at + n) bytes
given_and_left bytes left got rest at n here within is =
    let long : length got ≡ n = ap length is ∙ length-take-le n left within in
    let after : drop n left ≡ drop (at + n) bytes = ap (drop n) here ∙ drop-drop n at bytes in
    sym here ∙ sym (take-append-drop n left) ∙ ap (λ l. take n left ++ l) after
    ∙ ap (λ l. l ++ drop (at + n) bytes) (sym is ∙ sym (take_at got rest n long))

-- and none only where none is left
pub none_left : (bytes left : List ℕ) (at n : ℕ) → left ≡ drop at bytes → n ≡ 0 → length left ≤ 0 → drop (at + n) bytes ≡ []
none_left bytes left at n here none_given none =
    nil_from_length (drop (at + n) bytes) (omega (arith, length-drop (at + n) bytes, length-drop at bytes, ap length here))
