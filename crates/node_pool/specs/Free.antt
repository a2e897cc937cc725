-- How a pool keeps what its slots hold: the values of the slots that were ever used, in their order, and the numbers of
-- those among them that were given back. A value that is left in such a slot counts for nothing.
use Rattle.std.specs.Prelude.{◌≡◌, ◌≢◌, ℕ, ◌+◌, ◌<◌, ◌≤◌, ◌==◌, if◌then◌else◌, Bool, List, length, map, Option, None, slice_index}
use Rattle.std.specs.List.{list_any, range_with_len, slice_get}
use Rattle.node_pool.specs.Slots.{live_slots}
use Rattle.node_pool.specs.declared.pool.TheConstants.{MOST_SLOTS}

-- the slot was given back
abbrev pub is_free : List ℕ → ℕ → Bool
is_free free at = list_any (λ number. number == at) free

module _ {T : Type 0} where
  -- nothing where the slot was given back or never used
  abbrev pub slot_value : List T → List ℕ → ℕ → Option T
  slot_value values free at = if is_free free at then None else slice_get values at

  -- what each of so many slots holds
  abbrev pub slots_of : List T → List ℕ → ℕ → List (Option T)
  slots_of values free slots = map (slot_value values free) (range_with_len 0 slots)

  -- The numbers in `free` are slots that were used, each once, and both lists have room for all slots and no more: a list
  -- that took memory would have other room.
  pub record KeepsFree (values : List T) (free : List ℕ) (slots values_room free_room : ℕ) : Type 0 where
    pub few : slots ≤ MOST_SLOTS
    pub used : length values ≤ slots
    pub counted : length free + live_slots (slots_of values free slots) ≡ length values
    pub within : (k : ℕ) → k < length free → slice_index free k < length values
    pub apart : (j k : ℕ) → j < k → k < length free → slice_index free j ≢ slice_index free k
    pub room_for_values : values_room ≡ slots
    pub room_for_free : free_room ≡ slots
