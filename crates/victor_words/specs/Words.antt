-- Which lists of words are a written form of the command line, and of which one: what a form's words may be, not how
-- they are read. The commands, the options and their ranges are this project's own.
use Rattle.std.specs.Prelude.{◌≡◌, ℕ, Bool, true, ◌&&◌, ◌⊎◌, List, [], ◌∷◌, ◌++◌, map, filter, Option, Some, None, IfSome, codes}
use Rattle.std.specs.List.{list_all, list_any, AllByRecursion}
use Rattle.std.specs.Int.{IsInRange}
use Rattle.std.specs.Str.{bytes_eq}
use Rattle.std.specs.Fmt.{decimal}
use Rattle.game_rules.specs.Board.{Board, is_board, same_length}
use Rattle.victor_words.specs.declared.form.Form.{Form}
use Rattle.game_rules.specs.declared.Length.TheVariants.{Four}
use Rattle.game_rules.specs.declared.Side.{Side}
use Rattle.game_rules.specs.declared.Side.TheVariants.{White, Black}
use Rattle.victor_words.specs.declared.form.Form.TheVariants.{Prove, Check, Play, Explain, Drill, Upgrade, Threat, Follow, Trim, Annotate}

-- what is said of the written forms where the words are none
abbrev pub usage : List ℕ
usage = codes "usage: victor prove [--nodes N] [--reach K] [--front F] [--table T] [--format V] | check | play | explain [--reach K] | drill COLS ROWS MOVES SEED GAMES [--nodes N] [--reach K] | upgrade | threat | follow white|black | trim | annotate [--nodes N] [--reach K] [--last L]"

-- ---- the options

-- An option: its word, the least and the greatest number that it may have, and its number where it isn't given, if it has
-- one then.
pub record OptionRow : Type 0 where
  pub word : List ℕ
  pub least : ℕ
  pub most : ℕ
  pub usual : Option ℕ

abbrev pub option_row : List ℕ → ℕ → ℕ → Option ℕ → OptionRow
option_row word least most usual = record { word = word; least = least; most = most; usual = usual }

-- how many positions a search may enter
abbrev pub nodes : OptionRow
nodes = option_row (codes "--nodes") 1 10000000 (Some 1000000)

-- at how many sets of zones a walk may look
abbrev pub reach : OptionRow
reach = option_row (codes "--reach") 0 1000000 (Some 1000)

-- how many slots a front may have; there is none where it isn't asked for
abbrev pub front : OptionRow
front = option_row (codes "--front") 1 1000000 None

-- how many settled positions a table may keep
abbrev pub table : OptionRow
table = option_row (codes "--table") 1 1000000 (Some 100000)

-- the version of a proof that is written
abbrev pub format : OptionRow
format = option_row (codes "--format") 1 2 (Some 1)

-- how many of a game's last moves are marked
abbrev pub last : OptionRow
last = option_row (codes "--last") 0 100 (Some 100)

abbrev pub IsNumberOf : OptionRow → ℕ → Type 0
IsNumberOf option n = IsInRange option.least option.most n

abbrev pub AreSlots : ℕ → Type 0
AreSlots n = IsNumberOf front n

abbrev pub IsRoom : ℕ → Type 0
IsRoom n = IsNumberOf table n

abbrev pub IsFormat : ℕ → Type 0
IsFormat n = IsNumberOf format n

-- ---- the forms

-- What a form's words say: its command, its own words in their order, and the options that its command has, each with its
-- number, if it has one.
pub record FormRow : Type 0 where
  pub command : List ℕ
  pub own : List (List ℕ)
  pub options : List (OptionRow × Option ℕ)

abbrev pub form_row : List ℕ → List (List ℕ) → List (OptionRow × Option ℕ) → FormRow
form_row command own options = record { command = command; own = own; options = options }

-- a side's word
abbrev pub side_word : Side → List ℕ
side_word White = codes "white"
side_word Black = codes "black"

abbrev pub row_of : Form → FormRow
row_of (Prove n k slots room v) =
    form_row (codes "prove") [] ((nodes, Some n) ∷ (reach, Some k) ∷ (front, slots) ∷ (table, Some room) ∷ (format, Some v) ∷ [])
row_of Check = form_row (codes "check") [] []
row_of Play = form_row (codes "play") [] []
row_of (Explain k) = form_row (codes "explain") [] ((reach, Some k) ∷ [])
row_of (Drill size moves seed games n k) =
    form_row (codes "drill") (map decimal (size.cols ∷ size.rows ∷ moves ∷ seed ∷ games ∷ [])) ((nodes, Some n) ∷ (reach, Some k) ∷ [])
row_of Upgrade = form_row (codes "upgrade") [] []
row_of Threat = form_row (codes "threat") [] []
row_of (Follow holder) = form_row (codes "follow") (side_word holder ∷ []) []
row_of Trim = form_row (codes "trim") [] []
row_of (Annotate n k m) = form_row (codes "annotate") [] ((nodes, Some n) ∷ (reach, Some k) ∷ (last, Some m) ∷ [])

-- a drill's words tell no length of lines, so its boards have lines of four
abbrev pub is_drilled : Board → Bool
is_drilled board = is_board board && same_length board.len Four

-- games on a board with lines of four, with their most moves, the number that they are made from, and how many they are
pub record AreGames (board : Board) (most from count : ℕ) : Type 0 where
  pub size : is_drilled board ≡ true
  pub moves : IsInRange 0 100 most
  pub seed : IsInRange 1 2147483646 from
  pub games : IsInRange 1 1000 count

-- the numbers that a form's own words give are in their ranges
abbrev pub HasOwnRanges : Form → Type 0
HasOwnRanges (Drill size moves seed games n k) = AreGames size moves seed games
HasOwnRanges _ = Unit {0}

-- and so are those of its options
abbrev pub HasRanges : Form → Type 0
HasRanges form = AllByRecursion (λ (option : OptionRow × Option ℕ). IfSome option.1 (IsNumberOf option.0)) (row_of form).options × HasOwnRanges form

-- ---- words and forms

-- an option that is given, and its value
abbrev pub Given : Type 0
Given = List ℕ × List ℕ

-- The words are given options, each in two words or in one with `=` between its name and its value, and other words,
-- in any order; both lists are from the left.
pub data Says : List (List ℕ) → List Given → List (List ℕ) → Type 0 where
  Nothing : Says [] [] []
  Apart : {words : List (List ℕ)} {given : List Given} {own : List (List ℕ)} (name value : List ℕ) → Says words given own
      → Says (name ∷ value ∷ words) ((name, value) ∷ given) own
  Joined : {words : List (List ℕ)} {given : List Given} {own : List (List ℕ)} (name value : List ℕ) → Says words given own
      → Says ((name ++ 61 ∷ value) ∷ words) ((name, value) ∷ given) own
  Own : {words : List (List ℕ)} {given : List Given} {own : List (List ℕ)} (word : List ℕ) → Says words given own
      → Says (word ∷ words) given (word ∷ own)

-- the values that are given to the option of this name
abbrev pub values : List ℕ → List Given → List (List ℕ)
values name given = map (λ (option : Given). option.1) (filter (λ (option : Given). bytes_eq option.0 name) given)

-- An option has its number: it is given once, with that number, or it isn't given, and that is its usual number.
abbrev pub IsGiven : List Given → OptionRow × Option ℕ → Type 0
IsGiven given (option, number) =
    ((n : ℕ) × (number ≡ Some n) × (values option.word given ≡ decimal n ∷ [])) ⊎ ((values option.word given ≡ []) × (number ≡ option.usual))

-- none but these options are given
abbrev pub is_among : List OptionRow → List ℕ → Bool
is_among options name = list_any (λ (option : OptionRow). bytes_eq name option.word) options

abbrev pub has_only : List OptionRow → List Given → Bool
has_only options given = list_all (λ (option : Given). is_among options option.0) given

abbrev pub options_of : Form → List OptionRow
options_of form = map (λ (option : OptionRow × Option ℕ). option.0) (row_of form).options

-- The words are the command and then, in any order, the form's own words, in their order, and its options.
pub record IsWritten (words : List (List ℕ)) (form : Form) : Type 0 where
  pub behind : List (List ℕ)
  pub given : List Given
  pub command : words ≡ (row_of form).command ∷ behind
  pub says : Says behind given (row_of form).own
  pub options : AllByRecursion (IsGiven given) (row_of form).options
  pub no_others : has_only (options_of form) given ≡ true
  pub ranges : HasRanges form

-- the words are the form, and where they are read as none they are no form
abbrev pub IsReadAs : List (List ℕ) → Option Form → Type 0
IsReadAs words None = (form : Form) → IsWritten words form → ⊥
IsReadAs words (Some form) = IsWritten words form
