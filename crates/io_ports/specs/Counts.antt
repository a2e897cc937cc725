-- Counts of a u64 that stop at its last value.
use Rattle.std.specs.Prelude.{◌≡◌, ℕ, ◌+◌, ◌-◌, ◌^◌, min, Result, MatchResult}

-- One more.
abbrev pub one_more : ℕ → ℕ
one_more n = min (n + 1) (2 ^ 64 - 1)

-- A count that one more error raises, and nothing else.
abbrev pub CountsErr : {X E : Type 0} → ℕ → ℕ → Result X E → Type 0
CountsErr before after r = MatchResult r (λ _. after ≡ before) (λ _. after ≡ one_more before)
