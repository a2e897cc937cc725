-- Letters as names of columns.
use Rattle.std.specs.Prelude.{◌≡◌, ℕ, ◌<◌, true, List, map}
use Rattle.std.specs.List.{list_all, AllByRecursion}
use Rattle.game_rules.specs.Letters.{is_letter, column_of}

-- the letters of the word are those of the columns of the path, and the board has them all
pub record AreNamed (cols : ℕ) (path word : List ℕ) : Type 0 where
  pub columns : path ≡ map column_of word
  pub letters : list_all (is_letter cols) word ≡ true

-- each move of the path is in one of so many columns
abbrev pub AreBelow : ℕ → List ℕ → Type 0
AreBelow cols path = AllByRecursion (λ column. column < cols) path
