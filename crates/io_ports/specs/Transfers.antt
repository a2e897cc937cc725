-- What a loop of reads does to the bytes that a source has left, where those are known.
use Rattle.std.specs.Prelude.{ℕ, ◌<◌, List, length, take, Option, Result, MatchResult}
use Rattle.std.specs.Io.KnownBytes.{Consumes, IsAtEnd}

-- At `Ok(n)` the first n bytes of the buffer were consumed, fewer than it holds only at the end. At `Err` some prefix
-- of the buffer was.
abbrev pub ReadsAll : {E : Type 0} → Option (List ℕ) → Option (List ℕ) → Result ℕ E → List ℕ → Type 0
ReadsAll old new r buf =
    MatchResult r (λ n. Consumes old new (take n buf) × (n < length buf → IsAtEnd new)) (λ _. (n : ℕ) × Consumes old new (take n buf))
