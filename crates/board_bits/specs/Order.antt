-- The column at each place of the order from the middle outwards, as a formula.
use Rattle.std.specs.Prelude.{ℕ, ◌+◌, ◌-◌, ◌/◌, ◌%◌, ◌==◌, if◌then◌else◌}

abbrev pub column_at : ℕ → ℕ → ℕ
column_at cols place = if (place % 2) == (cols % 2) then (cols - 1) / 2 - (place / 2 + place % 2) else (cols - 1) / 2 + (place / 2 + place % 2)
