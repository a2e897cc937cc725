-- The fields of a word that is kept as two halves.
use Rattle.std.specs.Prelude.{◌≡◌, ℕ, ◌+◌, ◌*◌, ◌/◌, ◌%◌, ◌<◌, ◌^◌}
use Rattle.std.proofs.Common.{refl, arith}
use Rattle.board_bits.specs.declared.word.Word.TheInside.{Inside}

abbrev pub halves_number : Inside → ℕ
halves_number a = a.high * 2 ^ 64 + a.low

abbrev pub halves_of : ℕ → Inside
halves_of n = record { low = n % 2 ^ 64; high = n / 2 ^ 64 }

abbrev pub AreHalves : Inside → Type 0
AreHalves a = a.low < 2 ^ 64

low_half : (high low : ℕ) → low < 2 ^ 64 → (high * 2 ^ 64 + low) % 2 ^ 64 ≡ low
low_half high low small = omega arith

high_half : (high low : ℕ) → low < 2 ^ 64 → (high * 2 ^ 64 + low) / 2 ^ 64 ≡ high
high_half high low small = omega arith

pub halves_told : (a : Inside) → AreHalves a → halves_of (halves_number a) ≡ a
halves_told a small = rw (low_half a.high a.low small, high_half a.high a.low small) refl
