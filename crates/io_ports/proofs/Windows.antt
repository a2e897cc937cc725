-- The bytes of a buffer between two places, after a read past them, a step of their start, or a move to the start.
use Rattle.std.proofs.Common.{◌≡◌, ℕ, ◌+◌, ◌-◌, ◌≤◌, List, [], ◌++◌, length, take, drop, slice_range, Result, OnErr, Ok, Err, Option, sym, ap, ◌∙◌, arith}
use Rattle.std.proofs.Common.{append_assoc}
use Rattle.std.proofs.lemmas.List.{append-nil, take_at, take-append-le, drop-append-le, drop-take, drop-drop, length-take-le, length-drop}
use Rattle.std.proofs.Math.Seq.{take-append-add, take-append_seam}
use Rattle.std.specs.List.{copy_within}
use Rattle.std.specs.Io.KnownBytes.{Keeps}
use Rattle.std.proofs.KnownBytes.{Consumes-nil, Consumes-kept, Consumes-trans}
use Rattle.io_ports.specs.Lines.{Moves}
use borrow.Rule.Slice.PartMut.{put_mid, post_of}

-- n bytes were read past the end
pub grown : (xs ys : List ℕ) (start end k n : ℕ) → start ≤ end → end ≤ length xs → n ≤ length ys
    → slice_range (put_mid end k xs ys) start (end + n) ≡ slice_range xs start end ++ take n ys
grown xs ys start end k n ordered within fits =
    let held = drop start (take end xs) in
    let after = ys ++ post_of end k xs in
    let long : length held ≡ end - start = omega (arith, length-drop start (take end xs), length-take-le end xs within) in
    let parts : end ≡ start + (end - start) = omega arith in
    let same : held ≡ take (end - start) (drop start xs) = ap (λ j. drop start (take j xs)) parts ∙ drop-take start (end - start) xs in
    let more : end + n - start ≡ length held + n = omega arith in
    ap (take (end + n - start)) (drop-append-le start (take end xs) after (omega (arith, length-take-le end xs within)))
    ∙ ap (λ j. take j (held ++ after)) more ∙ take-append-add held after n
    ∙ ap (λ l. held ++ l) (take-append-le n ys (post_of end k xs) fits) ∙ ap (λ l. l ++ take n ys) same

-- and none
pub unmoved : (xs ys : List ℕ) (start end k : ℕ) → start ≤ end → end ≤ length xs → slice_range (put_mid end k xs ys) start end ≡ slice_range xs start end
unmoved xs ys start end k ordered within =
    let none : end ≡ end + 0 = omega arith in
    ap (slice_range (put_mid end k xs ys) start) none ∙ grown xs ys start end k 0 ordered within (omega arith) ∙ append-nil (slice_range xs start end)

-- the start went on
pub skipped : (xs : List ℕ) (start end count : ℕ) → start + count ≤ end → slice_range xs (start + count) end ≡ drop count (slice_range xs start end)
skipped xs start end count inside =
    let parts : end - start ≡ count + (end - (start + count)) = omega arith in
    sym (ap (λ j. drop count (take j (drop start xs))) parts ∙ drop-take count (end - (start + count)) (drop start xs)
    ∙ ap (take (end - (start + count))) (drop-drop count start xs))

-- all of it went to the start
pub moved : (xs : List ℕ) (start end : ℕ) → start ≤ end → end ≤ length xs
    → slice_range (copy_within xs start end 0) 0 (end - start) ≡ slice_range xs start end
moved xs start end ordered within =
    let held = take (end - start) (drop start xs) in
    let long : length held ≡ end - start = length-take-le (end - start) (drop start xs) (omega (arith, length-drop start xs)) in
    let rest = drop (0 + (end - start)) xs in
    let all : end - start - 0 ≡ end - start = omega arith in
    ap (λ j. take j (held ++ rest)) all ∙ take_at held rest (end - start) long

-- bytes went from the source behind those that are held

pub Moves-none : (a b : Option (List ℕ)) (old new : List ℕ) → Keeps a b → new ≡ old → Moves a b old new
Moves-none a b old new kept same = record { taken = []; gave = Consumes-kept a a b [] (Consumes-nil a) kept; grown = same ∙ sym (append-nil old) }

pub Moves-then : (a b c : Option (List ℕ)) (old mid new : List ℕ) → Moves a b old mid → Moves b c mid new → Moves a c old new
Moves-then a b c old mid new first next = record {
  taken = first.taken ++ next.taken;
  gave = Consumes-trans a b c first.taken next.taken first.gave next.gave;
  grown = next.grown ∙ ap (λ l. l ++ next.taken) first.grown ∙ append_assoc old first.taken next.taken;
}

-- what was held stands first
pub Moves-prefix : (a b : Option (List ℕ)) (old new : List ℕ) → Moves a b old new → take (length old) new ≡ old
Moves-prefix a b old new moves = ap (take (length old)) moves.grown ∙ take-append_seam old moves.taken

-- what holds anyhow holds of an error
pub OnErr-from : {T E : Type 0} (r : Result T E) (P : Type 0) → P → OnErr r P
OnErr-from (Ok x) P holds = tt
OnErr-from (Err e) P holds = holds
