-- How the lines of an input are read, one after another: what a step takes of the source, and a fact of the bytes that were
-- not given before it and of those that are not given after it.
use Rattle.std.specs.Prelude.{◌≡◌, ◌≤◌, ℕ, Bool, true, List, [], ◌++◌, length, Option}
use Rattle.std.specs.Io.KnownBytes.{Consumes, IsAtEnd}
use Rattle.io_ports.specs.Lines.{Cutting, HoldsFew, behind_lines, most_held}

-- What is left of an input: whether its end was reached, the bytes that a reader of its lines holds, and those that the
-- source has left; and how many bytes its last read gave.
pub record Pending : Type 0 where
  pub ended : Bool
  pub ahead : List ℕ
  pub left : Option (List ℕ)
  pub last_read : ℕ

abbrev pub pending : Cutting → Option (List ℕ) → ℕ → Pending
pending lines left last_read = record { ended = lines.ended; ahead = lines.ahead; left = left; last_read = last_read }

-- What a step took from the source, and a fact of the bytes that were pending before it and of those that are after it,
-- whatever the source may give later. Behind the end of the input nothing is taken, and ahead of what was given there are
-- few bytes, if there were few before.
pub record Reads (old new : Pending) (Fact : List ℕ → List ℕ → Type 0) : Type 0 where
  pub taken : List ℕ
  pub gave : Consumes old.left new.left taken
  pub stays : old.ended ≡ true → (taken ≡ []) × (new.ended ≡ true)
  pub last : (old.ended ≡ true → IsAtEnd old.left) → new.ended ≡ true → IsAtEnd new.left
  pub held : length old.ahead ≤ most_held → length new.ahead ≤ most_held
  pub few : HoldsFew old.last_read old.ahead → HoldsFew new.last_read new.ahead
  pub fact : (later : List ℕ) → (new.ended ≡ true → later ≡ []) → Fact (old.ahead ++ (taken ++ later)) (new.ahead ++ later)

-- the second bytes stand behind at most so many lines of the first
abbrev pub PassesLines : ℕ → List ℕ → List ℕ → Type 0
PassesLines most bytes rest = (n : ℕ) × (n ≤ most) × (rest ≡ behind_lines n bytes)
