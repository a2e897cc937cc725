-- Lines as words with a single space between each two.
use Rattle.std.specs.Prelude.{ℕ, ◌==◌, if◌then◌else◌, List, [], ◌∷◌, Option, Some, None, option_map, option_and_then}
use Rattle.std.specs.List.{join_with_byte, slice_split}

infixl 10 ◌>>=◌
abbrev pub ◌>>=◌ : {A B : Type 0} → Option A → (A → Option B) → Option B
found >>= next = option_and_then next found

-- words in a row, with a space between each two
abbrev pub spaced : List (List ℕ) → List ℕ
spaced words = join_with_byte 32 words

-- the words of a line
abbrev pub words_of : List ℕ → List (List ℕ)
words_of bytes = slice_split (λ byte. byte == 32) bytes

-- what stands before the first such mark, and what behind it
abbrev pub split_once : ℕ → List ℕ → Option (List ℕ × List ℕ)
split_once mark [] = None
split_once mark (byte ∷ bytes) = if byte == mark then Some ([], bytes) else option_map (λ parts. (byte ∷ parts.0, parts.1)) (split_once mark bytes)
