-- What stands among words is what they say, both ways.
use Rattle.std.proofs.Common.{◌≡◌, ℕ, ◌≤◌, Bool, true, false, ◌&&◌, ◌==◌, not, cond, nat_lt, List, [], ◌∷◌, ◌++◌, length, Option, Some, None, is_none}
use Rattle.std.proofs.Common.{refl, sym, ap}
use Rattle.std.proofs.Common.{◌∙◌, subst, append_assoc, append-nil, length-append, inl, inr, arith}
use Rattle.std.specs.List.{list_all}
use Rattle.std.specs.Option.{option_map}
use Rattle.std.proofs.lemmas.Bool.{and_parts, lt-ltb}
use Rattle.std.proofs.lemmas.Option.{cond_some}
use Rattle.game_rules.proofs.Lists.{chosen}
use Rattle.plan_text.specs.Words.{split_once}
use Rattle.plan_text.proofs.Spaced.{bind_some, split_once_gives}
use Rattle.victor_words.specs.Words.{Given, Says}
use Rattle.victor_words.specs.Words.Says.{Nothing, Apart, Joined, Own}
use Rattle.victor_words.specs.Reading.{WordsFound, with_option, with_own, with_name, after, is_name, found_from, most_options, most_own}

abbrev pub settled : List Given → List (List ℕ) → WordsFound
settled given own = record { given = given; own = own; waiting = None }

-- ---- what the words say is found

abbrev pub is_option : List ℕ → Bool
is_option word = is_name word && is_none (split_once 61 word)

name_longer : (name more : List ℕ) → is_name name ≡ true → is_name (name ++ more) ≡ true
name_longer [] more h = cc
name_longer (first ∷ []) more h = cc
name_longer (first ∷ second ∷ name) more h = h

is_cut : (name value : List ℕ) → is_none (split_once 61 name) ≡ true → split_once 61 (name ++ 61 ∷ value) ≡ Some (name, value)
is_cut [] value h = refl
is_cut (byte ∷ name) value h = at (is_cut name value) (byte == 61) h
  where
    longer : Option (List ℕ × List ℕ) → Option (List ℕ × List ℕ)
    longer found = option_map (λ parts. (byte ∷ parts.0, parts.1)) found

    none_before : (found : Option (List ℕ × List ℕ)) → is_none (longer found) ≡ true → is_none found ≡ true
    none_before None h = refl
    none_before (Some parts) h = cc

    at : (is_none (split_once 61 name) ≡ true → split_once 61 (name ++ 61 ∷ value) ≡ Some (name, value))
        → (b : Bool) → is_none (cond b (Some ([], name)) (longer (split_once 61 name))) ≡ true
        → cond b (Some ([], name ++ 61 ∷ value)) (longer (split_once 61 (name ++ 61 ∷ value))) ≡ Some (byte ∷ name, value)
    at behind true h = cc
    at behind false h = ap longer (behind (none_before (split_once 61 name) h))

uncut : (parts : Option (List ℕ × List ℕ)) → is_none parts ≡ true → parts ≡ None
uncut None h = refl
uncut (Some parts) h = cc

is_false : (b : Bool) → not b ≡ true → b ≡ false
is_false true h = cc
is_false false h = refl

-- there is room for one more
has_room : {X : Type 0} (before more all : List X) (x : X) (most : ℕ) → before ++ x ∷ more ≡ all → length all ≤ most → nat_lt (length before) most ≡ true
has_room before more all x most whole few = lt-ltb (length before) most (omega (arith, ap length whole, length-append before (x ∷ more)))

-- options have names, other words have none
pub record AreProper (given : List Given) (own : List (List ℕ)) : Type 0 where
  pub options : list_all (λ (option : Given). is_option option.0) given ≡ true
  pub others : list_all (λ word. not (is_name word)) own ≡ true

pub found_says : {words : List (List ℕ)} {given : List Given} {own : List (List ℕ)} → Says words given own → AreProper given own
    → (before all : List Given) (mine all_own : List (List ℕ)) → before ++ given ≡ all → mine ++ own ≡ all_own → length all ≤ most_options
    → length all_own ≤ most_own → found_from words (settled before mine) ≡ Some (settled all all_own)
found_says Nothing proper before all mine all_own g o few few_own = cc (append-nil before, append-nil mine)
found_says (Apart {words} {given} {own} name value says) proper before all mine all_own g o few few_own =
    let parts = and_parts (is_option name) (list_all (λ (option : Given). is_option option.0) given) proper.options in
    let named = and_parts (is_name name) (is_none (split_once 61 name)) parts.0 in
    rw (named.0, uncut (split_once 61 name) named.1, has_room before given all (name, value) most_options g few)
    (found_says says (record { options = parts.1; others = proper.others }) (before ++ (name, value) ∷ []) all mine all_own
    (append_assoc before ((name, value) ∷ []) given ∙ g) o few few_own)
found_says (Joined {words} {given} {own} name value says) proper before all mine all_own g o few few_own =
    let parts = and_parts (is_option name) (list_all (λ (option : Given). is_option option.0) given) proper.options in
    let named = and_parts (is_name name) (is_none (split_once 61 name)) parts.0 in
    rw (name_longer name (61 ∷ value) named.0, is_cut name value named.1, has_room before given all (name, value) most_options g few)
    (found_says says (record { options = parts.1; others = proper.others }) (before ++ (name, value) ∷ []) all mine all_own
    (append_assoc before ((name, value) ∷ []) given ∙ g) o few few_own)
found_says (Own {words} {given} {own} word says) proper before all mine all_own g o few few_own =
    let parts = and_parts (not (is_name word)) (list_all (λ word. not (is_name word)) own) proper.others in
    rw (is_false (is_name word) parts.0, has_room mine own all_own word most_own o few_own)
    (found_says says (record { options = proper.options; others = parts.1 }) before all (mine ++ word ∷ []) all_own g
    (append_assoc mine (word ∷ []) own ∙ o) few few_own)

-- ---- what is found the words say

-- more words were found, and say what they add
pub record Adds (words : List (List ℕ)) (before : List Given) (mine : List (List ℕ)) (last : WordsFound) : Type 0 where
  pub given : List Given
  pub own : List (List ℕ)
  pub says : Says words given own
  pub all_given : last.given ≡ before ++ given
  pub all_own : last.own ≡ mine ++ own

adds_option : (words all : List (List ℕ)) (before : List Given) (mine : List (List ℕ)) (name value : List ℕ) (last : WordsFound)
    → (adds : Adds words (before ++ (name, value) ∷ []) mine last) → Says all ((name, value) ∷ adds.given) adds.own → Adds all before mine last
adds_option words all before mine name value last adds says = record {
  given = (name, value) ∷ adds.given;
  own = adds.own;
  says = says;
  all_given = adds.all_given ∙ append_assoc before ((name, value) ∷ []) adds.given;
  all_own = adds.all_own;
}

-- the words with an option before them that waits for its value
abbrev awaited : Option (List ℕ) → List (List ℕ) → List (List ℕ)
awaited None words = words
awaited (Some name) words = name ∷ words

pub says_found : (words : List (List ℕ)) (before : List Given) (mine : List (List ℕ)) (waiting : Option (List ℕ)) (last : WordsFound)
    → found_from words (record { given = before; own = mine; waiting = waiting }) ≡ Some last → Adds (awaited waiting words) before mine last
says_found [] before mine None last h =
    let same : settled before mine ≡ last = cc (h) in
    subst (Adds [] before mine) same (record { given = []; own = []; says = Nothing; all_given = sym (append-nil before); all_own = sym (append-nil mine) })
says_found [] before mine (Some name) last h = cc
says_found (word ∷ words) before mine (Some name) last h =
    let step = bind_some (with_option name word (record { given = before; own = mine; waiting = Some name })) (found_from words) last h in
    let next = (cond_some _ _ _ step.1).1 in
    let adds = says_found words (before ++ (name, word) ∷ []) mine None last (ap (found_from words) next ∙ step.2) in
    adds_option words (name ∷ word ∷ words) before mine name word last adds (Apart name word adds.says)
says_found (word ∷ words) before mine None last h =
    let step = bind_some (after None word (settled before mine)) (found_from words) last h in
    elim (chosen (is_name word) (with_name word (split_once 61 word) (settled before mine)) (with_own word (settled before mine)) (Some step.0) step.1) [
      | inl name ↦ at_name (split_once 61 word) refl step.0 name.1 (λ before waiting. says_found words before mine waiting last) step.2
      | inr other ↦ let next = (cond_some _ _ _ other.1).1 in
          let adds = says_found words before (mine ++ word ∷ []) None last (ap (found_from words) next ∙ step.2) in
          record {
            given = adds.given;
            own = word ∷ adds.own;
            says = Own word adds.says;
            all_given = adds.all_given;
            all_own = adds.all_own ∙ append_assoc mine (word ∷ []) adds.own;
          }
    ]
  where
    at_name : (parts : Option (List ℕ × List ℕ)) → split_once 61 word ≡ parts → (next : WordsFound) → with_name word parts (settled before mine) ≡ Some next
        → ((before : List Given) (waiting : Option (List ℕ)) → found_from words (record { given = before; own = mine; waiting = waiting }) ≡ Some last
        → Adds (awaited waiting words) before mine last)
        → found_from words next ≡ Some last → Adds (word ∷ words) before mine last
    at_name (Some parts) cut next h more found =
        let same = (cond_some _ _ _ h).1 in
        let adds = more (before ++ (parts.0, parts.1) ∷ []) None (ap (found_from words) same ∙ found) in
        subst (λ word. Adds (word ∷ words) before mine last) (sym (split_once_gives 61 word parts cut))
        (adds_option words ((parts.0 ++ 61 ∷ parts.1) ∷ words) before mine parts.0 parts.1 last adds (Joined parts.0 parts.1 adds.says))
    at_name None cut next h more found =
        let same : record { given = before; own = mine; waiting = Some word } ≡ next = cc (h) in
        more before (Some word) (ap (found_from words) same ∙ found)
