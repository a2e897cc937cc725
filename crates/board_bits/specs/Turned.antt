-- A word with its columns in the other order.
use Rattle.std.specs.Prelude.{ℕ, zero, suc, ◌+◌, ◌-◌, ◌*◌, ◌/◌, ◌%◌, ◌^◌}

-- so many columns from the first on, each over the one before it
unfoldable pub turned : ℕ → ℕ → ℕ
turned word zero = 0
turned word (suc n) = turned word n * 2 ^ 11 + word / 2 ^ (11 * n) % 2 ^ 11

-- the word with so many of the ten columns in the other order
abbrev pub image_word : ℕ → ℕ → ℕ
image_word word cols = turned word 10 / 2 ^ (11 * (10 - cols))
