-- Calm men: the cases of a zone in which its rule has an answer to each move of White's, and no others. They look at
-- the squares of the zone alone, and are this project's own profile "after Allis".
use Rattle.std.specs.Prelude.{ℕ, Bool, true, false, ◌&&◌, ◌||◌, ◌==◌, List, [], ◌∷◌, length, Option, Some, None}
use Rattle.std.specs.List.{list_any}
use Rattle.game_rules.specs.Board.{Square}
use Rattle.game_rules.specs.Position.{Position, same_side}
use Rattle.game_rules.specs.declared.Side.{Side}
use Rattle.game_rules.specs.declared.Side.TheVariants.{White, Black}
use Rattle.plan_rules.specs.Squares.{span, word_at, men_on}
use Rattle.plan_rules.specs.Rules.{RuleInstance, claimeven, baseinverse, lowinverse, highinverse, baseclaim, zone_of}

-- what stands on some squares, in their order
abbrev pub Word : Type 0
Word = List (Option Side)

-- two squares hold the same
abbrev pub same_man : Option Side → Option Side → Bool
same_man None None = true
same_man None (Some m) = false
same_man (Some m) None = false
same_man (Some m) (Some n) = same_side m n

abbrev pub same_word : Word → Word → Bool
same_word [] [] = true
same_word [] (n ∷ ns) = false
same_word (m ∷ ms) [] = false
same_word (m ∷ ms) (n ∷ ns) = same_man m n && same_word ms ns

-- the word is one of the list
abbrev pub is_one_of : List Word → Word → Bool
is_one_of words word = list_any (same_word word) words

-- a square of the words below: empty, White's or Black's
abbrev pub none : Option Side
none = None

abbrev pub white : Option Side
white = Some White

abbrev pub black : Option Side
black = Some Black

-- Claimeven: the lower square, and the upper
abbrev pub even_words : List Word
even_words = (none ∷ none ∷ []) ∷ (white ∷ black ∷ []) ∷ []

-- Baseinverse: s, and t
abbrev pub inverse_words : List Word
inverse_words = (none ∷ none ∷ []) ∷ (white ∷ black ∷ []) ∷ (black ∷ white ∷ []) ∷ []

-- Baseclaim: a, b, e, and the square above b
abbrev pub claim_words : List Word
claim_words =
    (none ∷ none ∷ none ∷ none ∷ [])
    ∷ (white ∷ none ∷ black ∷ none ∷ []) ∷ (none ∷ white ∷ black ∷ none ∷ []) ∷ (none ∷ black ∷ white ∷ none ∷ [])
    ∷ (white ∷ white ∷ black ∷ black ∷ []) ∷ (black ∷ white ∷ black ∷ white ∷ []) ∷ (white ∷ black ∷ white ∷ black ∷ []) ∷ (black ∷ black ∷ white ∷ white ∷ [])
    ∷ []

-- Highinverse: the three squares of the one column, read upwards, and then the three of the other
abbrev pub high_words : List Word
high_words =
    (none ∷ none ∷ none ∷ none ∷ none ∷ none ∷ [])
    ∷ (white ∷ black ∷ none ∷ none ∷ none ∷ none ∷ []) ∷ (none ∷ none ∷ none ∷ white ∷ black ∷ none ∷ [])
    ∷ (white ∷ black ∷ white ∷ black ∷ none ∷ none ∷ []) ∷ (black ∷ none ∷ none ∷ white ∷ black ∷ white ∷ [])
    ∷ (white ∷ black ∷ white ∷ black ∷ white ∷ black ∷ []) ∷ (black ∷ white ∷ black ∷ white ∷ black ∷ white ∷ [])
    ∷ (white ∷ black ∷ black ∷ white ∷ none ∷ none ∷ []) ∷ (white ∷ none ∷ none ∷ white ∷ black ∷ black ∷ [])
    ∷ (white ∷ black ∷ black ∷ white ∷ white ∷ black ∷ []) ∷ (white ∷ white ∷ black ∷ white ∷ black ∷ black ∷ [])
    ∷ []

-- The men of one column of a Lowinverse, read upwards from its even bottom. Since no man hangs over an empty square,
-- the squares above them are empty.

-- White's even square and Black's odd square, zero or more times
abbrev pub is_paired : List Side → Bool
is_paired [] = true
is_paired (White ∷ Black ∷ men) = is_paired men
is_paired (m ∷ men) = false

-- such pairs, and then an even square of White's
abbrev pub is_topped : List Side → Bool
is_topped (White ∷ []) = true
is_topped (White ∷ Black ∷ men) = is_topped men
is_topped men = false

-- such pairs up to a top of White's, which fills the column
abbrev pub is_capped : ℕ → List Side → Bool
is_capped size men = (length men == size) && is_topped men

-- such pairs, then an even square of Black's, and then White's odd square and Black's even square, zero or more times
abbrev pub is_shifted : List Side → Bool
is_shifted (Black ∷ men) = is_paired men
is_shifted (White ∷ Black ∷ men) = is_shifted men
is_shifted men = false

-- both columns are paired, or one is capped and the other shifted
abbrev pub is_calm_low : Position → List Square → List Square → Bool
is_calm_low p us vs =
    (is_paired (men_on p us) && is_paired (men_on p vs))
    || (is_capped (length us) (men_on p us) && is_shifted (men_on p vs))
    || (is_shifted (men_on p us) && is_capped (length vs) (men_on p vs))

-- the cases of each rule; a standing rule is always calm
abbrev pub is_calm : RuleInstance → Position → Bool
is_calm (claimeven x) p = is_one_of even_words (word_at p (zone_of (claimeven x)))
is_calm (baseinverse s t) p = is_one_of inverse_words (word_at p (zone_of (baseinverse s t)))
is_calm (lowinverse x x_top y y_top) p = is_calm_low p (span x x_top) (span y y_top)
is_calm (highinverse x y) p = is_one_of high_words (word_at p (zone_of (highinverse x y)))
is_calm (baseclaim a b e) p = is_one_of claim_words (word_at p (zone_of (baseclaim a b e)))
is_calm w p = true
