-- What a loop over the squares of a line knows when it returns.
use Rattle.std.proofs.Common.{◌≡◌, ℕ, ◌<◌, ◌≤◌, Bool, true, false, arith}
use Rattle.std.specs.List.{list_all}
use Rattle.std.proofs.lemmas.Bool.{false_from_ne_true, both_ways}
use Rattle.game_rules.specs.Board.{Square, step_of, line_at, line_length}
use Rattle.game_rules.specs.declared.Length.{Length}
use Rattle.game_rules.specs.declared.Way.{Way}
use Rattle.game_rules.proofs.Ends.{each_step, from_steps}

pub whole_line : (test : Square → Bool) (len : Length) (way : Way) (s : Square) (i : ℕ) → line_length len ≤ i
    → ((k : ℕ) → k < i → test (step_of way s k) ≡ true) → list_all test (line_at len way s) ≡ true
whole_line test len way s i all each = from_steps test len way s (λ k low. each k (omega arith))

pub broken_line : (test : Square → Bool) (len : Length) (way : Way) (s : Square) (i : ℕ) → i < line_length len → test (step_of way s i) ≡ false
    → list_all test (line_at len way s) ≡ false
broken_line test len way s i low h = false_from_ne_true (list_all test (line_at len way s))
    (λ all. both_ways (test (step_of way s i)) h (each_step test len way s all i low))
