-- What a table is, and what its calls leave: a list of entries, the most recently used first.
use Rattle.std.specs.Prelude.{ℕ, ◌-◌, ◌≤◌, Bool, ◌&&◌, ◌||◌, nat_lt, List, ◌∷◌, length, take, is_some, if◌then◌else◌}
use Rattle.std.specs.List.{IsDistinct}
use Rattle.std.specs.Option.{option_map_or}
use Rattle.std.specs.Map.{keys_of, lookup, lookup_entry, remove_entry}
use Rattle.game_rules.specs.Position.{Position}
use Rattle.game_rules.specs.declared.Question.{Question}
use Rattle.position_table.specs.declared.table.Found.{Found}
use Rattle.position_key.specs.Keys.{Key, same_key, is_for}

-- Its entries, the most recently used first; how many it has room for; and whether, since it was made, all that was kept
-- is still there.
pub record Entries : Type 0 where
  pub entries : List (Key × Found)
  pub room : ℕ
  pub whole : Bool

-- no two entries are for the same position and question, and there are no more than it has room for
pub record IsTable (t : Entries) : Type 0 where
  pub distinct : IsDistinct same_key (keys_of t.entries)
  pub within : length t.entries ≤ t.room

module _ (p : Position) (q : Question) where
  -- the entry goes to the front, where there is one
  unfoldable pub used : List (Key × Found) → List (Key × Found)
  used es = option_map_or (λ e. e ∷ remove_entry (is_for p q) es) (lookup_entry (is_for p q) es) es

  -- A new entry stands in front, in place of the one for the same position and question; or, where there was none, in
  -- front of as many as there is room for.
  abbrev pub entries_kept : Found → Entries → List (Key × Found)
  entries_kept f t = (record { position = p; question = q }, f) ∷
      (if is_some (lookup (is_for p q) t.entries) then remove_entry (is_for p q) t.entries else take (t.room - 1) t.entries)

  -- what was kept is still there: nothing was refused, and no entry was dropped
  abbrev pub whole_kept : Entries → Bool → Bool
  whole_kept t found_memory = t.whole && (found_memory && (is_some (lookup (is_for p q) t.entries) || nat_lt (length t.entries) t.room))
