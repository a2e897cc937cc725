-- What the source has left and what the sink held, before and after a run, how many bytes the source's last read gave, and the
-- bytes that a run took.
use Rattle.std.specs.Prelude.{◌≡◌, ℕ, ◌≤◌, List, [], ◌++◌, Option, IfSome, length}
use Rattle.std.specs.Io.KnownBytes.{Consumes}
use Rattle.io_ports.specs.Lines.{HoldsFew, IsUndecided, behind_lines, most_held}

pub record Streams : Type 0 where
  pub input : Option (List ℕ)
  pub left : Option (List ℕ)
  pub last_read : ℕ
  pub old : Option (List ℕ)
  pub new : Option (List ℕ)

-- those of a run over a source and a sink, by what the two tell of themselves
abbrev pub streams : {S O : Type 0} → (left : S → Option (List ℕ)) (last_read : S → ℕ) (written : O → Option (List ℕ))
    → (source given : S) (out put : O) → Streams
streams left last_read written source given out put =
    record { input = left source; left = left given; last_read = last_read given; old = written out; new = written put }

-- There are bytes, at most so many, which the source gave as far as it tells, and this holds of them. A source that
-- tells its bytes determines them; one that tells nothing doesn't.
pub record Took (s : Streams) (most : ℕ) (Holds : List ℕ → Type 0) : Type 0 where
  pub taken : List ℕ
  pub gave : Consumes s.input s.left taken
  pub few : length taken ≤ most
  pub holds : Holds taken

-- nothing was taken of the source
abbrev pub IsUnread : Streams → Type 0
IsUnread s = Consumes s.input s.left []

-- Behind at most so many lines of the bytes that were taken stand few bytes, since a source gives what it has, and not a line:
-- no more than its last read gave, or the longest that a line may be and no more than that, or the beginning of a line; and
-- no more than a reader holds.
abbrev pub TakesLines : ℕ → ℕ → List ℕ → Type 0
TakesLines most last_read taken =
    (n : ℕ) × (n ≤ most) × HoldsFew last_read (behind_lines n taken) × (length (behind_lines n taken) ≤ most_held)

-- Behind at most so many lines of the bytes that were taken there is no whole line: what stands there, if anything, begins one.
abbrev pub WaitsBehind : ℕ → List ℕ → Type 0
WaitsBehind most taken = (n : ℕ) × (n ≤ most) × IsUndecided (behind_lines n taken)

-- What the sink held stands there still, and more behind it, maybe, where the sink tells what it holds.
abbrev pub StillHolds : Option (List ℕ) → Option (List ℕ) → Type 0
StillHolds before after = IfSome before (λ old. IfSome after (λ new. (more : List ℕ) × (new ≡ old ++ more)))
