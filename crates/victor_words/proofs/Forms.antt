-- The form of a command with what was found, both ways.
use Rattle.std.proofs.Common.{◌≡◌, ℕ, ◌<◌, ◌^◌, true, cond, List, [], ◌∷◌, map, Option, Some, None, IfSome, codes, refl, sym, ap, ◌∙◌, subst, inl, inr, arith}
use Rattle.std.specs.List.{AllByRecursion}
use Rattle.std.specs.Int.{IsInRange}
use Rattle.std.specs.Str.{bytes_eq}
use Rattle.std.specs.Fmt.{decimal}
use Rattle.std.proofs.lemmas.Bool.{and_parts, and_from}
use Rattle.std.proofs.lemmas.Option.{cond_some, same_Some}
use Rattle.game_rules.specs.Board.{Board, is_board, same_length}
use Rattle.game_rules.specs.Number.{number_between}
use Rattle.game_rules.specs.declared.Length.{Length}
use Rattle.game_rules.specs.declared.Length.TheVariants.{Four, Five}
use Rattle.game_rules.specs.declared.Side.{Side}
use Rattle.game_rules.specs.declared.Side.TheVariants.{White, Black}
use Rattle.game_rules.proofs.Groups.{board_most}
use Rattle.game_rules.proofs.Lists.{chosen}
use Rattle.game_rules.proofs.Numbers.{number_gives, number_spelled}
use Rattle.plan_text.specs.Words.{◌>>=◌}
use Rattle.plan_text.proofs.Spaced.{bind_some, is_text}
use Rattle.victor_words.specs.Words.{OptionRow, Given, IsNumberOf, IsGiven, FormRow, form_row, row_of, is_drilled, AreGames, HasOwnRanges}
use Rattle.victor_words.specs.Words.{HasRanges, nodes, reach, front}
use Rattle.victor_words.specs.Words.{table, format, last, options_of, has_only, side_word}
use Rattle.victor_words.specs.Reading.{WordsFound, asked, number, own_with, with_none, with_five, board_with, size_from, form_with}
use Rattle.victor_words.specs.Reading.{prove_form, bare_form, explain_form, drill_form, annotate_form, side_named, with_one, follow_form}
use Rattle.victor_words.specs.declared.form.Form.{Form}
use Rattle.victor_words.specs.declared.form.Form.TheVariants.{Prove, Check, Play, Explain, Drill, Upgrade, Threat, Follow, Trim, Annotate}
use Rattle.victor_words.proofs.Saying.{settled}
use Rattle.victor_words.proofs.Numbers.{is_right, asked_gives, asked_found}

-- what was found behind the word is what the row says
pub record FitsRow (word : List ℕ) (found : WordsFound) (row : FormRow) : Type 0 where
  pub command : word ≡ row.command
  pub own : found.own ≡ row.own
  pub options : AllByRecursion (IsGiven found.given) row.options
  pub no_others : has_only (map (λ (option : OptionRow × Option ℕ). option.0) row.options) found.given ≡ true
  pub ranges : AllByRecursion (λ (option : OptionRow × Option ℕ). IfSome option.1 (IsNumberOf option.0)) row.options

-- what was found behind the word is the form's
abbrev pub IsFormOf : List ℕ → WordsFound → Form → Type 0
IsFormOf word found form = FitsRow word found (row_of form) × HasOwnRanges form

-- ---- parts of forms

-- the number that was read of an option, and what was read with it
record Told (option : OptionRow) (given : List Given) (next : ℕ → Option Form) (form : Form) : Type 0 where
  n : ℕ
  is : IsGiven given (option, Some n)
  range : IsNumberOf option n
  rest : next n ≡ Some form

told : (option : OptionRow) (given : List Given) (next : ℕ → Option Form) (form : Form) → is_right option ≡ true → (number option given >>= next) ≡ Some form
    → Told option given next form
told option given next form right h =
    let found = bind_some (number option given) next form h in
    let asks = bind_some (asked option given) (λ n. n) found.0 found.1 in
    let gives = asked_gives option given (Some found.0) right (asks.1 ∙ ap Some asks.2) in
    record { n = found.0; is = gives.0; range = gives.1; rest = found.2 }

number_found : (option : OptionRow) (given : List Given) (n : ℕ) → is_right option ≡ true → IsGiven given (option, Some n) → IsNumberOf option n
    → number option given ≡ Some n
number_found option given n right is range = ap (λ found. found >>= λ n. n) (asked_found option given (Some n) right is range)

own_told : (options : List OptionRow) (found : WordsFound) (own : List (List ℕ)) → own_with options found ≡ Some own
    → (has_only options found.given ≡ true) × (found.own ≡ own)
own_told options found own h = cond_some (has_only options found.given) found.own own h

none_told : (form : Option Form) (options : List OptionRow) (found : WordsFound) (y : Form) → with_none form (own_with options found) ≡ Some y
    → (has_only options found.given ≡ true) × (found.own ≡ []) × (form ≡ Some y)
none_told form options found y h = at (own_with options found) refl h
  where
    at : (own : Option (List (List ℕ))) → own_with options found ≡ own → with_none form own ≡ Some y
        → (has_only options found.given ≡ true) × (found.own ≡ []) × (form ≡ Some y)
    at (Some []) is h = let told = own_told options found [] is in (told.0, told.1, h)
    at (Some (word ∷ own)) is h = cc
    at None is h = cc

is_four : (len : Length) → same_length len Four ≡ true → Four ≡ len
is_four Four h = refl
is_four Five h = cc

size_told : (cols rows : List ℕ) (size : Board) → size_from cols rows ≡ Some size
    → (is_drilled size ≡ true) × (cols ≡ decimal size.cols) × (rows ≡ decimal size.rows)
size_told cols rows size h =
    let c = bind_some (number_between 0 255 cols) _ size h in
    let r = bind_some (number_between 0 255 rows) _ size c.2 in
    let board = cond_some (is_board (board_with c.0 r.0)) (board_with c.0 r.0) size r.2 in
    subst (λ (size : Board). (is_drilled size ≡ true) × (cols ≡ decimal size.cols) × (rows ≡ decimal size.rows)) board.1
    (and_from _ true board.0 refl, (number_gives 0 255 cols c.0 c.1).2, (number_gives 0 255 rows r.0 r.1).2)

size_found : (size : Board) → is_drilled size ≡ true → size_from (decimal size.cols) (decimal size.rows) ≡ Some size
size_found size h =
    let tests = and_parts (is_board size) (same_length size.len Four) h in
    let most = board_most size tests.0 in
    rw (
      number_spelled 0 255 size.cols (decimal size.cols) (omega arith) (omega (arith, most.0)) (omega (arith, most.0)) refl,
      number_spelled 0 255 size.rows (decimal size.rows) (omega arith) (omega (arith, most.1)) (omega (arith, most.1)) refl,
      tests.0,
    ) (ap (λ len. Some (record { cols = size.cols; rows = size.rows; len = len })) (is_four size.len tests.1))

-- ---- what is read is the form

prove_told : (found : WordsFound) (form : Form) → prove_form found ≡ Some form → IsFormOf (codes "prove") found form
prove_told found form h =
    let own = none_told _ (nodes ∷ reach ∷ front ∷ table ∷ format ∷ []) found form h in
    let n = told nodes found.given _ form refl own.2 in
    let k = told reach found.given _ form refl n.rest in
    let f = bind_some (asked front found.given) _ form k.rest in
    let of_f = asked_gives front found.given f.0 refl f.1 in
    let t = told table found.given _ form refl f.2 in
    let v = told format found.given _ form refl t.rest in
    let same : Prove n.n k.n f.0 t.n v.n ≡ form = cc (v.rest) in
    let fits : FitsRow (codes "prove") found (row_of (Prove n.n k.n f.0 t.n v.n)) = record {
      command = refl;
      own = own.1;
      options = (n.is, (k.is, (of_f.0, (t.is, (v.is, tt)))));
      no_others = own.0;
      ranges = (n.range, (k.range, (of_f.1, (t.range, (v.range, tt)))));
    } in
    subst (IsFormOf (codes "prove") found) same (fits, tt)

explain_told : (found : WordsFound) (form : Form) → explain_form found ≡ Some form → IsFormOf (codes "explain") found form
explain_told found form h =
    let own = none_told _ (reach ∷ []) found form h in
    let k = told reach found.given _ form refl own.2 in
    let same : Explain k.n ≡ form = cc (k.rest) in
    let fits : FitsRow (codes "explain") found (row_of (Explain k.n)) =
    record { command = refl; own = own.1; options = (k.is, tt); no_others = own.0; ranges = (k.range, tt) } in
    subst (IsFormOf (codes "explain") found) same (fits, tt)

annotate_told : (found : WordsFound) (form : Form) → annotate_form found ≡ Some form → IsFormOf (codes "annotate") found form
annotate_told found form h =
    let own = none_told _ (nodes ∷ reach ∷ last ∷ []) found form h in
    let n = told nodes found.given _ form refl own.2 in
    let k = told reach found.given _ form refl n.rest in
    let m = told last found.given _ form refl k.rest in
    let same : Annotate n.n k.n m.n ≡ form = cc (m.rest) in
    let fits : FitsRow (codes "annotate") found (row_of (Annotate n.n k.n m.n)) = record {
      command = refl;
      own = own.1;
      options = (n.is, (k.is, (m.is, tt)));
      no_others = own.0;
      ranges = (n.range, (k.range, (m.range, tt)));
    } in
    subst (IsFormOf (codes "annotate") found) same (fits, tt)

five_told : (own : List (List ℕ)) (found : WordsFound) (form : Form) → found.own ≡ own → has_only (nodes ∷ reach ∷ []) found.given ≡ true
    → with_five found.given (Some own) ≡ Some form → IsFormOf (codes "drill") found form
five_told (cols ∷ rows ∷ moves ∷ seed ∷ games ∷ []) found form is only h =
    let size = bind_some (size_from cols rows) _ form h in
    let most = bind_some (number_between 0 100 moves) _ form size.2 in
    let from = bind_some (number_between 1 2147483646 seed) _ form most.2 in
    let count = bind_some (number_between 1 1000 games) _ form from.2 in
    let n = told nodes found.given _ form refl count.2 in
    let k = told reach found.given _ form refl n.rest in
    let of_size = size_told cols rows size.0 size.1 in
    let of_most = number_gives 0 100 moves most.0 most.1 in
    let of_from = number_gives 1 2147483646 seed from.0 from.1 in
    let of_count = number_gives 1 1000 games count.0 count.1 in
    let same : Drill size.0 most.0 from.0 count.0 n.n k.n ≡ form = cc (k.rest) in
    let fits : FitsRow (codes "drill") found (row_of (Drill size.0 most.0 from.0 count.0 n.n k.n)) = record {
      command = refl;
      own = cc (is, of_size.1, of_size.2, of_most.2, of_from.2, of_count.2);
      options = (n.is, (k.is, tt));
      no_others = only;
      ranges = (n.range, (k.range, tt));
    } in
    let games : AreGames size.0 most.0 from.0 count.0 = record {
      size = of_size.0;
      moves = (of_most.0, of_most.1);
      seed = (of_from.0, of_from.1);
      games = (of_count.0, of_count.1);
    } in
    subst (IsFormOf (codes "drill") found) same (fits, games)
five_told _ found form is only h = cc

drill_told : (found : WordsFound) (form : Form) → drill_form found ≡ Some form → IsFormOf (codes "drill") found form
drill_told found form h = at (own_with (nodes ∷ reach ∷ []) found) refl h
  where
    at : (own : Option (List (List ℕ))) → own_with (nodes ∷ reach ∷ []) found ≡ own → with_five found.given own ≡ Some form
        → IsFormOf (codes "drill") found form
    at (Some own) is h = let told = own_told (nodes ∷ reach ∷ []) found own is in five_told own found form told.1 told.0 h
    at None is h = cc

side_told : (word : List ℕ) (side : Side) → side_named word ≡ Some side → word ≡ side_word side
side_told word side h = elim (chosen (bytes_eq word (codes "white")) (Some White) _ (Some side) h) [
  | inl white ↦ is_text word (codes "white") white.0 ∙ ap side_word (same_Some White side white.1)
  | inr other ↦ elim (chosen (bytes_eq word (codes "black")) (Some Black) None (Some side) other.1) [
    | inl black ↦ is_text word (codes "black") black.0 ∙ ap side_word (same_Some Black side black.1)
    | inr none ↦ absurd (cc none.1)
  ]
]

follow_told : (found : WordsFound) (form : Form) → follow_form found ≡ Some form → IsFormOf (codes "follow") found form
follow_told found form h = at (own_with [] found) refl h
  where
    at : (own : Option (List (List ℕ))) → own_with [] found ≡ own → with_one own ≡ Some form → IsFormOf (codes "follow") found form
    at (Some (word ∷ [])) is h =
        let told = own_told [] found (word ∷ []) is in
        let side = bind_some (side_named word) _ form h in
        let same : Follow side.0 ≡ form = cc (side.2) in
        let fits : FitsRow (codes "follow") found (row_of (Follow side.0)) = record {
          command = refl;
          own = told.1 ∙ ap (λ word. word ∷ []) (side_told word side.0 side.1);
          options = tt;
          no_others = told.0;
          ranges = tt;
        } in
        subst (IsFormOf (codes "follow") found) same (fits, tt)
    at (Some []) is h = cc
    at (Some (word ∷ next ∷ own)) is h = cc
    at None is h = cc

bare_told : (text : List ℕ) (found : WordsFound) (bare form : Form) → row_of bare ≡ form_row text [] [] → HasOwnRanges bare
    → bare_form bare found ≡ Some form → IsFormOf text found form
bare_told text found bare form is ranges h =
    let own = none_told (Some bare) [] found form h in
    let fits : FitsRow text found (form_row text [] []) = record { command = refl; own = own.1; options = tt; no_others = own.0; ranges = tt } in
    let same : bare ≡ form = cc (own.2) in
    subst (IsFormOf text found) same (subst (FitsRow text found) (sym is) fits, ranges)

-- one command, or another
command_told : (word text : List ℕ) (found : WordsFound) (one others : Option Form) (form : Form) → (one ≡ Some form → IsFormOf text found form)
    → (others ≡ Some form → IsFormOf word found form)
    → cond (bytes_eq word text) one others ≡ Some form → IsFormOf word found form
command_told word text found one others form here later h = elim (chosen (bytes_eq word text) one others (Some form) h) [
  | inl is ↦ subst (λ word. IsFormOf word found form) (sym (is_text word text is.0)) (here is.1)
  | inr other ↦ later other.1
]

pub form_told : (word : List ℕ) (found : WordsFound) (form : Form) → form_with word found ≡ Some form → IsFormOf word found form
form_told word found form h =
    command_told word (codes "prove") found _ _ form (prove_told found form)
    (command_told word (codes "check") found _ _ form (bare_told (codes "check") found Check form refl tt)
    (command_told word (codes "play") found _ _ form (bare_told (codes "play") found Play form refl tt)
    (command_told word (codes "explain") found _ _ form (explain_told found form)
    (command_told word (codes "drill") found _ _ form (drill_told found form)
    (command_told word (codes "upgrade") found _ _ form (bare_told (codes "upgrade") found Upgrade form refl tt)
    (command_told word (codes "threat") found _ _ form (bare_told (codes "threat") found Threat form refl tt)
    (command_told word (codes "follow") found _ _ form (follow_told found form)
    (command_told word (codes "trim") found _ _ form (bare_told (codes "trim") found Trim form refl tt)
    (command_told word (codes "annotate") found _ None form (annotate_told found form) (λ h. cc)))))))))) h

-- ---- the form is what is read

pub form_found : (form : Form) (given : List Given) → AllByRecursion (IsGiven given) (row_of form).options → has_only (options_of form) given ≡ true
    → HasRanges form → form_with (row_of form).command (settled given (row_of form).own) ≡ Some form
form_found (Prove n k f t v) given is only ranges =
    rw (
      only,
      number_found nodes given n refl is.0 ranges.0.0,
      number_found reach given k refl is.1.0 ranges.0.1.0,
      asked_found front given f refl is.1.1.0 ranges.0.1.1.0,
      number_found table given t refl is.1.1.1.0 ranges.0.1.1.1.0,
      number_found format given v refl is.1.1.1.1.0 ranges.0.1.1.1.1.0,
    ) refl
form_found (Explain k) given is only ranges = rw (only, number_found reach given k refl is.0 ranges.0.0) refl
form_found (Annotate n k m) given is only ranges =
    rw (
      only,
      number_found nodes given n refl is.0 ranges.0.0,
      number_found reach given k refl is.1.0 ranges.0.1.0,
      number_found last given m refl is.1.1.0 ranges.0.1.1.0,
    ) refl
form_found (Drill size moves seed games n k) given is only ranges =
    rw (
      only,
      size_found size ranges.1.size,
      spelled 0 100 moves ranges.1.moves (omega arith),
      spelled 1 2147483646 seed ranges.1.seed (omega arith),
      spelled 1 1000 games ranges.1.games (omega arith),
      number_found nodes given n refl is.0 ranges.0.0,
      number_found reach given k refl is.1.0 ranges.0.1.0,
    ) refl
  where
    spelled : (low high m : ℕ) → IsInRange low high m → high < 2 ^ 64 → number_between low high (decimal m) ≡ Some m
    spelled low high m range wide = number_spelled low high m (decimal m) range.0 range.1 (omega (arith, range.1, wide)) refl
form_found (Follow White) given is only ranges = rw only refl
form_found (Follow Black) given is only ranges = rw only refl
form_found _ given is only ranges = rw only refl
