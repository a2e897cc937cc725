-- A device has a count of faults, a u64 that begins at 0 and never falls, and bytes, which it may tell or not.
use Rattle.std.specs.Prelude.{◌≡◌, ◌⊎◌, ◌↔◌, ℕ, ◌+◌, ◌-◌, ◌^◌, ◌<◌, ◌≤◌, min, Bool, true, false, List, take, Option, Result, IsErr, MatchResult}
use Rattle.std.specs.Io.KnownBytes.{Appends}

-- The count rose: it is greater than before, or it stands at the last value of u64, where it can't rise any more.
abbrev pub Rose : ℕ → ℕ → Type 0
Rose before after = min (before + 1) (2 ^ 64 - 1) ≤ after

-- At counts that a u64 holds, that is: greater than before, or at the last value both times.
abbrev pub IsRiseAtLast : Type 0
IsRiseAtLast = (before after : ℕ) → before < 2 ^ 64 → after < 2 ^ 64
    → Rose before after ↔ ((before < after) ⊎ ((before ≡ 2 ^ 64 - 1) × (after ≡ 2 ^ 64 - 1)))

-- The count never falls, and a call fails only where it rose.
pub record HasCause {X E : Type 0} (before after : ℕ) (result : Result X E) : Type 0 where
  pub later : before ≤ after
  pub failed : IsErr result → Rose before after

-- How many bytes the last read gave, before and after a read. One that fails gives none, and isn't counted.
abbrev pub CountsRead : {E : Type 0} → ℕ → ℕ → Result ℕ E → Type 0
CountsRead before after result = MatchResult result (λ n. after ≡ n) (λ _. after ≡ before)

-- A text was put after the bytes that were there: the whole of it where all went well, else some prefix of it.
abbrev pub AppendsPrefix : Bool → Option (List ℕ) → Option (List ℕ) → List ℕ → Type 0
AppendsPrefix true old new text = Appends old new text
AppendsPrefix false old new text = (n : ℕ) × Appends old new (take n text)

-- A text was put into a sink, all of it unless the sink's count rose.
pub record Reports (before after : ℕ) (old new : Option (List ℕ)) (text : List ℕ) : Type 0 where
  pub whole : Bool
  pub written : AppendsPrefix whole old new text
  pub cut : whole ≡ false → Rose before after
