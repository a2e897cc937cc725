-- Words with a single space between each two, and parts with a mark between them: how they are told apart, and what
-- bytes they have.
use Rattle.std.proofs.Common.{◌≡◌, ℕ, ◌+◌, ◌%◌, ◌<◌, ◌≤◌, ◌^◌, Bool, true, false, cond, ◌==◌, nat_le, nat_lt, List, [], ◌∷◌, ◌++◌, flat_map, Option, Some, None}
use Rattle.std.proofs.Common.{refl, sym, ap, ◌∙◌, subst, append-nil, inl, inr, arith, lit≤}
use Rattle.std.specs.List.{All, AllByRecursion, list_all}
use Rattle.std.specs.Str.{bytes_eq}
use Rattle.std.specs.Fmt.{decimal}
use Rattle.std.specs.Option.{option_map}
use Rattle.std.proofs.lemmas.Fmt.{decimal_by_steps}
use Rattle.std.proofs.lemmas.List.Elements.{All-nil, All-cons}
use Rattle.std.proofs.lemmas.List.Splits.{slice_split_none, slice_split_at, join_with_byte-slice_split}
use Rattle.std.proofs.lemmas.Slice.Eq.{bytes_eq-Decides}
use Rattle.std.proofs.lemmas.Bool.{and_parts, and_from, ltb-true, lt-ltb, leb-true, le-leb, eqb-true, eq-eqb, ne_eqb}
use Rattle.game_rules.specs.Grammar.{letter_of}
use Rattle.game_rules.specs.Letters.{is_letter, column_of}
use Rattle.game_rules.proofs.Lists.{chosen}
use Rattle.plan_text.specs.Words.{◌>>=◌, spaced, words_of, split_once}

-- ---- options

pub bind_some : {A B : Type 0} (found : Option A) (next : A → Option B) (y : B) → (found >>= next) ≡ Some y → (x : A) × (found ≡ Some x) × (next x ≡ Some y)
bind_some None next y h = cc
bind_some (Some x) next y h = (x, refl, h)

pub map_some : {A B : Type 0} (f : A → B) (found : Option A) (y : B) → option_map f found ≡ Some y → (x : A) × (found ≡ Some x) × (f x ≡ y)
map_some f None y h = cc
map_some f (Some x) y h = (x, refl, cc)

-- what is found where a test passes
pub chosen_some : {X : Type 0} (b : Bool) (found : Option X) (x : X) → cond b found None ≡ Some x → (b ≡ true) × (found ≡ Some x)
chosen_some true found x h = (refl, h)
chosen_some false found x h = cc

-- ---- all elements

pub all_append : {X : Type 0} (P : X → Type 0) (xs ys : List X) → AllByRecursion P xs → AllByRecursion P ys → AllByRecursion P (xs ++ ys)
all_append P [] ys left right = right
all_append P (x ∷ xs) ys left right = (left.0, all_append P xs ys left.1 right)

pub all_left : {X : Type 0} (P : X → Type 0) (xs ys : List X) → AllByRecursion P (xs ++ ys) → AllByRecursion P xs
all_left P [] ys h = tt
all_left P (x ∷ xs) ys h = (h.0, all_left P xs ys h.1)

pub all_right : {X : Type 0} (P : X → Type 0) (xs ys : List X) → AllByRecursion P (xs ++ ys) → AllByRecursion P ys
all_right P [] ys h = h
all_right P (x ∷ xs) ys h = all_right P xs ys h.1

pub all_each : {X : Type 0} (P Q : X → Type 0) (xs : List X) → ((x : X) → P x → Q x) → AllByRecursion P xs → AllByRecursion Q xs
all_each P Q [] each h = tt
all_each P Q (x ∷ xs) each h = (each x h.0, all_each P Q xs each h.1)

-- ---- bytes

-- the least byte of a word is `+`
abbrev pub IsPlain : List ℕ → Type 0
IsPlain word = AllByRecursion (λ byte. 43 ≤ byte) word

abbrev pub IsDigits : List ℕ → Type 0
IsDigits word = AllByRecursion (λ byte. (48 ≤ byte) × (byte ≤ 57)) word

-- the word is this text, or isn't
pub is_text : (word text : List ℕ) → bytes_eq word text ≡ true → word ≡ text
is_text word text h = (bytes_eq-Decides word text).0 h

pub digits_decimal : (n : ℕ) → n < 2 ^ 64 → IsDigits (decimal n)
digits_decimal n h = decimal_by_steps (λ n ds. IsDigits ds) (λ n low. ((omega arith, omega arith), tt))
    (λ n ds high rest. all_append (λ byte. (48 ≤ byte) × (byte ≤ 57)) ds ((48 + n % 10) ∷ []) rest ((omega arith, omega arith), tt)) n h

-- a text whose bytes are known
pub plain_text : (word : List ℕ) → list_all (nat_le 43) word ≡ true → IsPlain word
plain_text [] h = tt
plain_text (byte ∷ word) h = let both = and_parts (nat_le 43 byte) (list_all (nat_le 43) word) h in (leb-true 43 byte both.0, plain_text word both.1)

-- ---- letters

pub letter_read : (cols byte : ℕ) → is_letter cols byte ≡ true → (byte ≡ letter_of (column_of byte)) × (column_of byte < cols)
letter_read cols byte h =
    let both = and_parts (nat_le 97 byte) (nat_lt byte (97 + cols)) h in
    let low : 97 ≤ byte = leb-true 97 byte both.0 in
    let high : byte < 97 + cols = ltb-true byte (97 + cols) both.1 in
    (omega arith, omega arith)

pub letter_spelled : (cols column : ℕ) → column < cols → (is_letter cols (letter_of column) ≡ true) × (column_of (letter_of column) ≡ column)
letter_spelled cols column h = (and_from _ _ (le-leb 97 (97 + column) (omega arith)) (lt-ltb (97 + column) (97 + cols) (omega arith)), omega arith)

-- ---- words and spaces

no_space : (word : List ℕ) → IsPlain word → All (λ byte. (byte == 32) ≡ false) word
no_space [] h = All-nil (λ (byte : ℕ). (byte == 32) ≡ false)
no_space (byte ∷ word) h = All-cons (λ (byte : ℕ). (byte == 32) ≡ false) byte word (ne_eqb byte 32 (λ (e : byte ≡ 32). omega arith)) (no_space word h.1)

-- words are determined by their row
pub words_of_spaced : (word : List ℕ) (words : List (List ℕ)) → AllByRecursion IsPlain (word ∷ words) → words_of (spaced (word ∷ words)) ≡ word ∷ words
words_of_spaced word [] h = slice_split_none (λ byte. byte == 32) word (no_space word h.0)
words_of_spaced word (next ∷ words) h =
    slice_split_at (λ byte. byte == 32) word 32 (spaced (next ∷ words)) (no_space word h.0) refl ∙ ap (λ rest. word ∷ rest) (words_of_spaced next words h.1)

pub spaced_words : (bytes : List ℕ) (words : List (List ℕ)) → words_of bytes ≡ words → bytes ≡ spaced words
spaced_words bytes words h = sym (join_with_byte-slice_split 32 bytes) ∙ ap spaced h

-- no byte is below the space
pub spaced_bytes : (words : List (List ℕ)) → AllByRecursion IsPlain words → AllByRecursion (λ byte. 32 ≤ byte) (spaced words)
spaced_bytes [] h = tt
spaced_bytes (word ∷ []) h = all_each (λ byte. 43 ≤ byte) (λ byte. 32 ≤ byte) word (λ byte low. omega arith) h.0
spaced_bytes (word ∷ next ∷ words) h =
    all_append (λ byte. 32 ≤ byte) word (32 ∷ spaced (next ∷ words)) (all_each (λ byte. 43 ≤ byte) (λ byte. 32 ≤ byte) word (λ byte low. omega arith) h.0)
    (lit≤ tt, spaced_bytes (next ∷ words) h.1)

-- a row of words: the first, and each of the others behind a space
pub spaced_behind : (word : List ℕ) (words : List (List ℕ)) → spaced (word ∷ words) ≡ word ++ flat_map (λ word. 32 ∷ word) words
spaced_behind word [] = sym (append-nil word)
spaced_behind word (next ∷ words) = ap (λ rest. word ++ (32 ∷ rest)) (spaced_behind next words)

-- ---- parts and marks

-- the mark isn't in the word
abbrev pub IsFreeOf : ℕ → List ℕ → Type 0
IsFreeOf mark word = AllByRecursion (λ byte. (byte == mark) ≡ false) word

-- what is cut at a mark had it there
pub split_once_gives : (mark : ℕ) (bytes : List ℕ) (parts : List ℕ × List ℕ) → split_once mark bytes ≡ Some parts → bytes ≡ parts.0 ++ mark ∷ parts.1
split_once_gives mark [] parts h = cc
split_once_gives mark (byte ∷ bytes) parts h = elim (chosen (byte == mark) (Some ([], bytes)) _ (Some parts) h) [
  | inl here ↦
      let same : ◌≡◌ {A = List ℕ × List ℕ} ([], bytes) parts = cc (here.1) in
      subst (λ (parts : List ℕ × List ℕ). byte ∷ bytes ≡ parts.0 ++ mark ∷ parts.1) same (ap (λ b. b ∷ bytes) (eqb-true byte mark here.0))
  | inr later ↦
      let rest = map_some (λ parts. (byte ∷ parts.0, parts.1)) (split_once mark bytes) parts later.1 in
      subst (λ (parts : List ℕ × List ℕ). byte ∷ bytes ≡ parts.0 ++ mark ∷ parts.1) rest.2
      (ap (λ bytes. byte ∷ bytes) (split_once_gives mark bytes rest.0 rest.1))
]

-- and what has no mark before it is cut there
pub split_once_at : (mark : ℕ) (left right : List ℕ) → IsFreeOf mark left → split_once mark (left ++ mark ∷ right) ≡ Some (left, right)
split_once_at mark [] right h = rw (eq-eqb mark mark refl) refl
split_once_at mark (byte ∷ left) right h = rw h.0 (ap (option_map (λ parts. (byte ∷ parts.0, parts.1))) (split_once_at mark left right h.1))

-- ---- one spelling

-- what is read from its own text has no other's
pub read_apart : {X : Type 0} (read : List ℕ → Option X) (text : X → List ℕ) (x y : X) → read (text x) ≡ Some x → read (text y) ≡ Some y → text x ≡ text y
    → x ≡ y
read_apart read text x y x_is y_is same = let found : Some x ≡ Some y = sym x_is ∙ ap read same ∙ y_is in cc
