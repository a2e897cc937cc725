-- Columns of a position from which pairs are made.
use Rattle.std.specs.Prelude.{ℕ, Bool, true, ◌&&◌, nat_lt, List, [], ◌∷◌}
use Rattle.std.specs.List.{list_all}
use Rattle.game_rules.specs.Position.{Position, has_room}

-- each has room, and stands left of those behind it
abbrev pub ascends : Position → List ℕ → Bool
ascends p [] = true
ascends p (c ∷ cs) = has_room p c && list_all (nat_lt c) cs && ascends p cs
