-- So many squares of a set that follow one another in one of the four directions of a line, and what shifts of its
-- number say of them.
use Rattle.std.specs.Prelude.{◌≡◌, ◌⊎◌, ℕ, ◌*◌, ◌/◌, ◌^◌, Bool, not, ◌==◌, if◌then◌else◌, List, map, bit_and}
use Rattle.std.specs.List.{list_any, list_all}
use Rattle.game_rules.specs.Board.{Square, below, step_of, ways}
use Rattle.game_rules.specs.Squares.{has_square}
use Rattle.game_rules.specs.declared.Way.{Way}
use Rattle.game_rules.specs.declared.Way.TheVariants.{H, V, U, D}

-- lines have four squares or five
abbrev pub IsLength : ℕ → Type 0
IsLength len = (len ≡ 4) ⊎ (len ≡ 5)

-- the squares from this one on, one step after another, are in the set
abbrev pub runs_from : List Square → ℕ → Way → Square → Bool
runs_from us len way s = list_all (has_square us) (map (step_of way s) (below len))

-- the set holds so many squares one after another in some direction
abbrev pub has_run : List Square → ℕ → Bool
has_run us len = list_any (λ way. list_any (runs_from us len way) us) ways

-- how many bits one step in a direction is
abbrev pub shift_of : Way → ℕ
shift_of H = 11
shift_of V = 1
shift_of U = 12
shift_of D = 10

-- the bits from which so many follow one another at this distance
abbrev pub pairs_in : ℕ → ℕ → ℕ
pairs_in word step = bit_and word (word / 2 ^ step)

abbrev pub fours_in : ℕ → ℕ → ℕ
fours_in word step = bit_and (pairs_in word step) (pairs_in word step / 2 ^ (2 * step))

abbrev pub starts_in : ℕ → ℕ → ℕ → ℕ
starts_in word step len = if len == 4 then fours_in word step else bit_and (fours_in word step) (word / 2 ^ (4 * step))

abbrev pub word_runs : ℕ → ℕ → Bool
word_runs word len = list_any (λ way. not (starts_in word (shift_of way) len == 0)) ways
