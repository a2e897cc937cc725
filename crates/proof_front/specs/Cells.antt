-- What a pool holds, as a list of slots with their values.
use Rattle.std.specs.Prelude.{◌≡◌, ℕ, ◌==◌, if◌then◌else◌, List, [], ◌∷◌, length, Option, Some, None}
use Rattle.node_pool.specs.Slots.{held, live_slots}

-- a slot with the value in it
abbrev pub Cell : Type 0 → Type 0
Cell T = ℕ × T

module _ {T : Type 0} where
  -- what cells say of a slot
  abbrev pub values_at : ℕ → List (Cell T) → List T
  values_at i [] = []
  values_at i (c ∷ cells) = if c.0 == i then c.1 ∷ values_at i cells else values_at i cells

  abbrev pub listed : Option T → List T
  listed None = []
  listed (Some x) = x ∷ []

  -- The cells are what the slots hold, each once.
  pub record Owns (slots : List (Option T)) (cells : List (Cell T)) : Type 0 where
    pub holds : (i : ℕ) → values_at i cells ≡ listed (held slots i)
    pub live : live_slots slots ≡ length cells
