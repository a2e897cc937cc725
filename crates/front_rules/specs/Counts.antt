-- Numbers that may be infinite: their sum, the least of them, and what is asked of one.
use Rattle.std.specs.Prelude.{ℕ, ◌+◌, Bool, true, false, ◌==◌, nat_lt, if◌then◌else◌}
use Rattle.front_rules.specs.declared.Count.{Count}
use Rattle.front_rules.specs.declared.Count.TheVariants.{Finite, Infinite}

-- a sum with the infinite number is infinite
abbrev pub plus : Count → Count → Count
plus (Finite m) (Finite n) = Finite (m + n)
plus (Finite m) Infinite = Infinite
plus Infinite n = Infinite

abbrev pub least : Count → Count → Count
least (Finite m) (Finite n) = if nat_lt n m then Finite n else Finite m
least (Finite m) Infinite = Finite m
least Infinite n = n

abbrev pub same_count : Count → Count → Bool
same_count (Finite m) (Finite n) = m == n
same_count (Finite m) Infinite = false
same_count Infinite (Finite n) = false
same_count Infinite Infinite = true

abbrev pub is_zero : Count → Bool
is_zero (Finite m) = m == 0
is_zero Infinite = false

abbrev pub is_infinite : Count → Bool
is_infinite (Finite m) = false
is_infinite Infinite = true

-- the number, where it is finite
abbrev pub finite_part : Count → ℕ
finite_part (Finite m) = m
finite_part Infinite = 0
