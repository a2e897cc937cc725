-- Words and their one form: what is read of words is their form, or they have none.
use Rattle.std.proofs.Common.{◌≡◌, ℕ, ◌<◌, ◌≤◌, ◌-◌, ◌^◌, Bool, true, ◌&&◌, not, nat_le, List, [], ◌∷◌, map, take, drop, get_or, length, Option, Some}
use Rattle.std.proofs.Common.{None, IfSome, refl, sym, ap, ◌∙◌, subst, inl, inr, arith}
use Rattle.std.specs.List.{list_all, AllByRecursion}
use Rattle.std.specs.Fmt.{decimal}
use Rattle.std.proofs.lemmas.Bool.{ne_eqb, and_parts, leb-true}
use Rattle.std.proofs.lemmas.List.{take_rest}
use Rattle.game_rules.specs.Board.{is_board, same_length}
use Rattle.game_rules.specs.declared.Length.TheVariants.{Four}
use Rattle.game_rules.specs.declared.Side.TheVariants.{White, Black}
use Rattle.game_rules.proofs.Groups.{board_most}
use Rattle.game_rules.proofs.Lists.{Among}
use Rattle.plan_text.specs.Words.{◌>>=◌}
use Rattle.plan_text.proofs.Spaced.{IsDigits, digits_decimal, bind_some}
use Rattle.victor_words.specs.Words.{OptionRow, Given, values, IsGiven, HasRanges, row_of, options_of, Says, IsWritten, IsReadAs}
use Rattle.victor_words.specs.Reading.{is_name, most_options, most_own, nothing_found, found_from, form_with}
use Rattle.victor_words.specs.declared.form.Form.{Form}
use Rattle.victor_words.specs.declared.form.Form.TheVariants.{Check, Drill, Follow}
use Rattle.victor_words.proofs.Saying.{AreProper, found_says, says_found}
use Rattle.victor_words.proofs.Numbers.{is_right, names_right, few_given}
use Rattle.victor_words.proofs.Forms.{form_told, form_found}

-- ---- what holds of each form

-- its options are right, and they and its own words are few
abbrev is_fit : Form → Bool
is_fit form = list_all is_right (options_of form) && (nat_le (length (options_of form)) most_options && nat_le (length (row_of form).own) most_own)

rows_fit : (form : Form) → is_fit form ≡ true
rows_fit Check = refl
rows_fit _ = refl

-- its own words are no option's
unnamed : (word : List ℕ) → IsDigits word → not (is_name word) ≡ true
unnamed [] digits = refl
unnamed (byte ∷ []) digits = refl
unnamed (byte ∷ second ∷ word) digits = rw (ne_eqb byte 45 (λ (e : byte ≡ 45). omega (arith, digits.0.0))) refl

number_unnamed : (n high : ℕ) → n ≤ high → high < 2 ^ 64 → not (is_name (decimal n)) ≡ true
number_unnamed n high range wide = unnamed (decimal n) (digits_decimal n (omega arith))

own_unnamed : (form : Form) → HasRanges form → list_all (λ word. not (is_name word)) (row_of form).own ≡ true
own_unnamed (Drill size moves seed games n k) ranges =
    let most = board_most size (and_parts (is_board size) (same_length size.len Four) ranges.1.size).0 in
    rw (
      number_unnamed size.cols 10 most.0 (omega arith),
      number_unnamed size.rows 10 most.1 (omega arith),
      number_unnamed moves 100 ranges.1.moves.1 (omega arith),
      number_unnamed seed 2147483646 ranges.1.seed.1 (omega arith),
      number_unnamed games 1000 ranges.1.games.1 (omega arith),
    ) refl
own_unnamed (Follow White) ranges = refl
own_unnamed (Follow Black) ranges = refl
own_unnamed _ ranges = refl

-- an option is given at most once
once : (given : List Given) (options : List (OptionRow × Option ℕ)) → AllByRecursion (IsGiven given) options
    → (option : OptionRow) → Among option (map (λ (option : OptionRow × Option ℕ). option.0) options) → length (values option.word given) ≤ 1
once given [] is option among = absurd among
once given (one ∷ options) is option (inr later) = once given options is.1 option later
once given (one ∷ options) is option (inl same) = subst (λ (option : OptionRow). length (values option.word given) ≤ 1) same (at is.0)
  where
    at : IsGiven given one → length (values one.0.word given) ≤ 1
    at (inl (n, same, are)) = omega (arith, ap length are)
    at (inr (none, same)) = omega (arith, ap length none)

-- ---- words and what is read of them

abbrev pub read_from : List ℕ → List (List ℕ) → Option Form
read_from word words = found_from words nothing_found >>= form_with word

written_read : (word : List ℕ) (words : List (List ℕ)) (form : Form) → IsWritten (word ∷ words) form → read_from word words ≡ Some form
written_read word words form written =
    let fit = and_parts _ _ (rows_fit form) in
    let few_rows = and_parts _ _ fit.1 in
    let few_options : length (options_of form) ≤ most_options = leb-true _ _ few_rows.0 in
    let few = few_given (options_of form) written.given (once written.given (row_of form).options written.options) written.no_others in
    let names = names_right (options_of form) written.given fit.0 written.no_others in
    let proper : AreProper written.given (row_of form).own = record { options = names; others = own_unnamed form written.ranges } in
    let found = found_says written.says proper [] written.given [] (row_of form).own refl refl (omega (arith, few, few_options)) (leb-true _ _ few_rows.1) in
    let first : word ≡ (row_of form).command = cc (written.command) in
    let rest : words ≡ written.behind = cc (written.command) in
    ap (λ word. read_from word words) first
    ∙ ap (read_from (row_of form).command) rest
    ∙ ap (λ found. found >>= form_with (row_of form).command) found
    ∙ form_found form written.given written.options written.no_others written.ranges

read_written : (word : List ℕ) (words : List (List ℕ)) (form : Form) → read_from word words ≡ Some form → IsWritten (word ∷ words) form
read_written word words form h =
    let found = bind_some (found_from words nothing_found) (form_with word) form h in
    let adds = says_found words [] [] None found.0 found.1 in
    let is = form_told word found.0 form found.2 in
    record {
      behind = words;
      given = found.0.given;
      command = ap (λ word. word ∷ words) is.0.command;
      says = subst (Says words found.0.given) is.0.own (subst (λ own. Says words found.0.given own) (sym adds.all_own)
          (subst (λ given. Says words given adds.own) (sym adds.all_given) adds.says));
      options = is.0.options;
      no_others = is.0.no_others;
      ranges = (is.0.ranges, is.1);
    }

pub reads : (words : List (List ℕ)) (word : List ℕ) (rest : List (List ℕ)) (read : Option Form) → words ≡ word ∷ rest → read_from word rest ≡ read
    → IsReadAs words read
reads words word rest read whole h = subst (λ words. IsReadAs words read) (sym whole) (at read h)
  where
    at : (read : Option Form) → read_from word rest ≡ read → IsReadAs (word ∷ rest) read
    at (Some form) h = read_written word rest form h
    at None h = λ form written. let never : None ≡ Some form = sym h ∙ written_read word rest form written in cc

pub read_ranges : (words : List (List ℕ)) (read : Option Form) → IsReadAs words read → IfSome read HasRanges
read_ranges words None is = tt
read_ranges words (Some form) is = is.ranges

pub one_form : (words : List (List ℕ)) (one another : Form) → IsWritten words one → IsWritten words another → one ≡ another
one_form [] one another of_one of_another = cc (of_one.command)
one_form (word ∷ words) one another of_one of_another =
    let same : Some one ≡ Some another = sym (written_read word words one of_one) ∙ written_read word words another of_another in cc

-- ---- the first word

pub first_word : {X : Type 0} (text : X → List ℕ) (words : List X) (word : X) (bytes : List ℕ) → 1 ≤ length words → word ≡ get_or words 0 word
    → bytes ≡ text word
    → map text words ≡ bytes ∷ map text (take (length words - 1) (drop 1 words))
first_word text [] word bytes some h same = absurd (omega arith)
first_word text (first ∷ words) word bytes some h same = rw (take_rest, same) (ap (λ word. text word ∷ map text words) (sym h))
