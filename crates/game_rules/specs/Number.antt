-- Numbers as this project's texts and commands write them: in decimal, with no sign and no leading zero, so that each
-- has one spelling.
use Rattle.std.specs.Prelude.{ℕ, ◌&&◌, nat_le, if◌then◌else◌, List, Option, Some, None}
use Rattle.std.specs.Str.{bytes_eq}
use Rattle.std.specs.Str.Parse.{digits_value}
use Rattle.std.specs.Fmt.{decimal}

-- the number in a range that the bytes spell
abbrev pub number_between : ℕ → ℕ → List ℕ → Option ℕ
number_between low high bytes = let n = digits_value 10 bytes in if (nat_le low n && nat_le n high) && bytes_eq bytes (decimal n) then Some n else None
