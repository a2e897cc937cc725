-- What the reader's functions answer: what stands among words, the number of an option, and the form of a command.
use Rattle.std.specs.Prelude.{ℕ, Bool, false, ◌&&◌, ◌==◌, nat_lt, if◌then◌else◌, List, [], ◌∷◌, ◌++◌, map, length, Option, Some, None, codes, is_none}
use Rattle.std.specs.Prelude.{option_map}
use Rattle.std.specs.Borrow.{Bor}
use Rattle.std.specs.Str.{bytes_eq}
use Rattle.game_rules.specs.Board.{Board, is_board}
use Rattle.game_rules.specs.declared.Length.TheVariants.{Four}
use Rattle.game_rules.specs.declared.Side.{Side}
use Rattle.game_rules.specs.declared.Side.TheVariants.{White, Black}
use Rattle.game_rules.specs.Number.{number_between}
use Rattle.plan_text.specs.Words.{◌>>=◌, split_once}
use Rattle.victor_words.specs.Words.{OptionRow, Given, values, has_only, nodes, reach, front, table, format, last}
use Rattle.victor_words.specs.declared.form.Form.{Form}
use Rattle.victor_words.specs.declared.form.Form.TheVariants.{Prove, Check, Play, Explain, Drill, Upgrade, Threat, Follow, Trim, Annotate}
use Rattle.victor_words.specs.declared.found.Found.{Found}
use Rattle.victor_words.specs.declared.found.Given.{Given as Lent}
use Rattle.victor_words.specs.declared.options.OptionRow.{OptionRow as Row}

-- ---- what stands among the words

-- the options with their values, the other words, and an option whose value is the next word
pub record WordsFound : Type 0 where
  pub given : List Given
  pub own : List (List ℕ)
  pub waiting : Option (List ℕ)

abbrev pub text : Bor (List ℕ) → List ℕ
text word = word.now

abbrev pub pair : Lent → Given
pair option = (option.name.now, option.value.now)

abbrev pub shown : Found → WordsFound
shown found = record {
  given = map pair found.given.items;
  own = map text found.own.items;
  waiting = option_map text found.waiting;
}

abbrev pub nothing_found : WordsFound
nothing_found = record { given = []; own = []; waiting = None }

-- how many options and how many words of its own a command has at most
abbrev pub most_options : ℕ
most_options = 8

abbrev pub most_own : ℕ
most_own = 5

abbrev pub with_option : List ℕ → List ℕ → WordsFound → Option WordsFound
with_option name value found =
    let longer : WordsFound = record { given = found.given ++ (name, value) ∷ []; own = found.own; waiting = None } in
    if nat_lt (length found.given) most_options then Some longer else None

abbrev pub with_own : List ℕ → WordsFound → Option WordsFound
with_own word found =
    let longer : WordsFound = record { given = found.given; own = found.own ++ word ∷ []; waiting = None } in
    if nat_lt (length found.own) most_own then Some longer else None

-- whether the word begins with `--`
abbrev pub is_name : List ℕ → Bool
is_name (first ∷ second ∷ word) = (first == 45) && (second == 45)
is_name _ = false

-- an option's word, or one that is no option's
abbrev pub with_name : List ℕ → Option (List ℕ × List ℕ) → WordsFound → Option WordsFound
with_name word (Some parts) found = with_option parts.0 parts.1 found
with_name word None found = Some (record { given = found.given; own = found.own; waiting = Some word })

-- one word more
abbrev pub after : Option (List ℕ) → List ℕ → WordsFound → Option WordsFound
after (Some name) word found = with_option name word found
after None word found = if is_name word then with_name word (split_once 61 word) found else with_own word found

abbrev pub found_from : List (List ℕ) → WordsFound → Option WordsFound
found_from [] found = if is_none found.waiting then Some found else None
found_from (word ∷ words) found = after found.waiting word found >>= found_from words

-- ---- the options of a command

abbrev pub row : Row → OptionRow
row option = record { word = option.word.now; least = option.least; most = option.most; usual = option.usual }

-- the one value among these and what was found before; None where there is another
abbrev pub only_from : Option (List ℕ) → List (List ℕ) → Option (Option (List ℕ))
only_from found [] = Some found
only_from None (value ∷ others) = only_from (Some value) others
only_from (Some found) (value ∷ others) = None

abbrev pub number_from : OptionRow → Option (List ℕ) → Option (Option ℕ)
number_from option None = Some option.usual
number_from option (Some value) = option_map Some (number_between option.least option.most value)

-- the number of an option, or the usual one
abbrev pub asked : OptionRow → List Given → Option (Option ℕ)
asked option given = only_from None (values option.word given) >>= number_from option

abbrev pub number : OptionRow → List Given → Option ℕ
number option given = asked option given >>= λ n. n

-- the words that are no option's, where no options but these are given
abbrev pub own_with : List OptionRow → WordsFound → Option (List (List ℕ))
own_with options found = if has_only options found.given then Some found.own else None

-- ---- the form of a command with what was found

abbrev pub with_none : Option Form → Option (List (List ℕ)) → Option Form
with_none form (Some []) = form
with_none form _ = None

abbrev pub prove_form : WordsFound → Option Form
prove_form found =
    let given = found.given in
    with_none (number nodes given >>= λ n. number reach given >>= λ k. asked front given >>= λ f. number table given >>= λ t. number format given >>= λ v.
    Some (Prove n k f t v)) (own_with (nodes ∷ reach ∷ front ∷ table ∷ format ∷ []) found)

abbrev pub bare_form : Form → WordsFound → Option Form
bare_form form found = with_none (Some form) (own_with [] found)

abbrev pub explain_form : WordsFound → Option Form
explain_form found = with_none (number reach found.given >>= λ k. Some (Explain k)) (own_with (reach ∷ []) found)

abbrev pub annotate_form : WordsFound → Option Form
annotate_form found =
    let given = found.given in
    with_none (number nodes given >>= λ n. number reach given >>= λ k. number last given >>= λ m. Some (Annotate n k m)) (own_with (nodes ∷ reach ∷ last ∷ []) found)

abbrev pub board_with : ℕ → ℕ → Board
board_with cols rows = record { cols = cols; rows = rows; len = Four }

abbrev pub size_from : List ℕ → List ℕ → Option Board
size_from cols rows =
    number_between 0 255 cols >>= λ cols. number_between 0 255 rows >>= λ rows. if is_board (board_with cols rows) then Some (board_with cols rows) else None

abbrev pub with_five : List Given → Option (List (List ℕ)) → Option Form
with_five given (Some (cols ∷ rows ∷ moves ∷ seed ∷ games ∷ [])) =
    size_from cols rows >>= λ size. number_between 0 100 moves >>= λ moves. number_between 1 2147483646 seed >>= λ seed.
    number_between 1 1000 games >>= λ games. number nodes given >>= λ n. number reach given >>= λ k. Some (Drill size moves seed games n k)
with_five given _ = None

abbrev pub drill_form : WordsFound → Option Form
drill_form found = with_five found.given (own_with (nodes ∷ reach ∷ []) found)

-- the side that a word names
abbrev pub side_named : List ℕ → Option Side
side_named word = if bytes_eq word (codes "white") then Some White else (if bytes_eq word (codes "black") then Some Black else None)

abbrev pub with_one : Option (List (List ℕ)) → Option Form
with_one (Some (side ∷ [])) = side_named side >>= λ holder. Some (Follow holder)
with_one _ = None

abbrev pub follow_form : WordsFound → Option Form
follow_form found = with_one (own_with [] found)

abbrev pub form_with : List ℕ → WordsFound → Option Form
form_with word found =
    if bytes_eq word (codes "prove") then prove_form found else (if bytes_eq word (codes "check") then bare_form Check found else
    (if bytes_eq word (codes "play") then bare_form Play found else (if bytes_eq word (codes "explain") then explain_form found else
    (if bytes_eq word (codes "drill") then drill_form found else
    (if bytes_eq word (codes "upgrade") then bare_form Upgrade found else
    (if bytes_eq word (codes "threat") then bare_form Threat found else
    (if bytes_eq word (codes "follow") then follow_form found else
    (if bytes_eq word (codes "trim") then bare_form Trim found else
    (if bytes_eq word (codes "annotate") then annotate_form found else None)))))))))
