-- The columns that have room, one column further, and that a state chooses one of them.
use Rattle.std.proofs.Common.{◌≡◌, ℕ, ◌+◌, ◌%◌, ◌<◌, Bool, true, false, cond, append-nil, List, [], ◌∷◌, ◌++◌, filter, length, None, ap, ◌∙◌, inl, inr}
use Rattle.std.proofs.Common.{arith}
use Rattle.std.specs.List.{list_any}
use Rattle.std.proofs.lemmas.List.Elements.{filter-append}
use Rattle.std.proofs.lemmas.Bool.{cases_Bool}
use Rattle.game_rules.specs.Board.{below}
use Rattle.game_rules.specs.Position.{Position, has_room, end_of, open_columns}
use Rattle.game_rules.proofs.Lists.{Among-at, Among-filter_gives, below_more}
use Rattle.game_rules.proofs.Values.{goes_on_room}
use Rattle.drill_games.specs.Games.{chosen_column}

-- what passes of one number more
filter_below_more : (test : ℕ → Bool) (n : ℕ) → filter test (below (n + 1)) ≡ filter test (below n) ++ cond (test n) (n ∷ []) []
filter_below_more test n = ap (filter test) (below_more n) ∙ filter-append test (below n) (n ∷ [])

pub one_open : (p : Position) (n : ℕ) → has_room p n ≡ true → filter (has_room p) (below (n + 1)) ≡ filter (has_room p) (below n) ++ n ∷ []
one_open p n room = filter_below_more (has_room p) n ∙ ap (λ b. filter (has_room p) (below n) ++ cond b (n ∷ []) []) room

pub one_full : (p : Position) (n : ℕ) → has_room p n ≡ false → filter (has_room p) (below (n + 1)) ≡ filter (has_room p) (below n)
one_full p n full = filter_below_more (has_room p) n ∙ ap (λ b. filter (has_room p) (below n) ++ cond b (n ∷ []) []) full
    ∙ append-nil (filter (has_room p) (below n))

some_passes : {X : Type 0} (test : X → Bool) (xs : List X) → list_any test xs ≡ true → 0 < length (filter test xs)
some_passes test [] h = cc
some_passes test (x ∷ xs) h = elim (cases_Bool (test x)) [
  | inl passes ↦ rw passes (omega arith)
  | inr fails ↦ let later : list_any test xs ≡ true = rw fails at h in rw fails (some_passes test xs later)
]

-- while the game goes on a column has room
pub open_some : (p : Position) → end_of p ≡ None → 0 < length (open_columns p)
open_some p going = some_passes (has_room p) (below (length p.columns)) (goes_on_room p going)

pub chosen_room : (p : Position) (x : ℕ) → end_of p ≡ None → has_room p (chosen_column p x) ≡ true
chosen_room p x going =
    let some : 0 < length (open_columns p) = open_some p going in
    let within : x % length (open_columns p) < length (open_columns p) = omega arith in
    (Among-filter_gives (has_room p) (below (length p.columns)) (chosen_column p x) (Among-at (open_columns p) (x % length (open_columns p)) 0 within)).1
