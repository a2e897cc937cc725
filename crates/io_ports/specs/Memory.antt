-- The states of a source and a sink in memory, as their callers see them, and what a call makes of them.
use Rattle.std.specs.Prelude.{ℕ, ◌-◌, ◌==◌, ◌++◌, ◌||◌, min, Bool, List, length, drop}
use Rattle.std.specs.List.{list_any}
use Rattle.io_ports.specs.Counts.{one_more}

-- Whether the call of this number is one of those that fail.
abbrev pub stands_in : List ℕ → ℕ → Bool
stands_in failing number = list_any (λ n. n == number) failing

-- The numbers of the calls that fail, from 1, and how many calls were made and have failed.
pub record Numbered : Type 0 where
  pub failing : List ℕ
  pub made : ℕ
  pub faults : ℕ

-- A source: the bytes that are left, how many of them a read gives at most, how many the last read gave, and its calls.
pub record Supply : Type 0 where
  pub left : List ℕ
  pub piece : ℕ
  pub last_read : ℕ
  pub calls : Numbered

-- A sink: the bytes that were written, how many more it has room for, and its calls.
pub record Store : Type 0 where
  pub written : List ℕ
  pub room : ℕ
  pub calls : Numbered

-- Before the first call.
abbrev pub fresh : List ℕ → Numbered
fresh failing = record { failing = failing; made = 0; faults = 0 }

-- Whether the next call is one of those that fail.
abbrev pub next_fails : Numbered → Bool
next_fails calls = stands_in calls.failing (one_more calls.made)

-- After a call that went well, and after one that failed.
abbrev pub made : Numbered → Numbered
made calls = record calls { made = one_more calls.made }

abbrev pub failed : Numbered → Numbered
failed calls = record calls { made = one_more calls.made; faults = one_more calls.faults }

-- How many bytes a read into this much room gives, and a write of this many takes, where it doesn't fail.
abbrev pub read_count : Supply → ℕ → ℕ
read_count supply room = min supply.piece (min room (length supply.left))

abbrev pub write_count : Store → ℕ → ℕ
write_count store len = min len store.room

-- A source that has given n bytes, and a sink that has taken these.
abbrev pub after_read : Supply → ℕ → Supply
after_read supply n = record supply { left = drop n supply.left; last_read = n; calls = made supply.calls }

abbrev pub after_write : Store → List ℕ → Store
after_write store bytes = record { written = store.written ++ bytes; room = store.room - length bytes; calls = made store.calls }

-- Whether the next write fails: by its number, or since no room is free.
abbrev pub write_fails : Store → Bool
write_fails store = next_fails store.calls || store.room == 0
