-- A pool of slots as its callers see it: what each slot holds, in the order of the slots. A slot holds a value or None.
use Rattle.std.specs.Prelude.{◌≡◌, ℕ, ◌-◌, true, List, length, Option, None, is_some, slice_index_or}
use Rattle.std.specs.List.{count_by}

module _ {T : Type 0} where
  -- what the slot holds; a number that is no slot holds nothing
  abbrev pub held : List (Option T) → ℕ → Option T
  held slots at = slice_index_or slots at None

  -- the slot is live: it holds a value
  abbrev pub IsLive : List (Option T) → ℕ → Type 0
  IsLive slots at = is_some (held slots at) ≡ true

  -- how many slots are live
  abbrev pub live_slots : List (Option T) → ℕ
  live_slots slots = count_by is_some slots

  -- how many slots aren't
  abbrev pub free_slots : List (Option T) → ℕ
  free_slots slots = length slots - live_slots slots
