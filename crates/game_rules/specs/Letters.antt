-- Columns as letters: `a` is the first, from the left.
use Rattle.std.specs.Prelude.{ℕ, ◌+◌, ◌-◌, Bool, ◌&&◌, nat_le, nat_lt, if◌then◌else◌, Option, Some, None}

-- whether a byte is the letter of a column, on a board with so many, and which column it is
abbrev pub is_letter : ℕ → ℕ → Bool
is_letter cols byte = nat_le 97 byte && nat_lt byte (97 + cols)

abbrev pub column_of : ℕ → ℕ
column_of byte = byte - 97

-- the column with a letter, on a board with so many; none where the byte is no letter of it
abbrev pub column_named : ℕ → ℕ → Option ℕ
column_named cols byte = if is_letter cols byte then Some (column_of byte) else None
