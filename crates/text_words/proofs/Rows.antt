-- How long the text of a row is.
use Rattle.std.proofs.Common.{ℕ, ◌≤◌, length, decimal, arith}
use Rattle.std.proofs.lemmas.Fmt.{length-decimal-le}

pub row_short : (row : ℕ) → row ≤ 10 → length (decimal row) ≤ 2
row_short row h = length-decimal-le 2 row (omega arith) (omega arith) (omega arith)
