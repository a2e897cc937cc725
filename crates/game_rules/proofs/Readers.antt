-- How the readers of a game text go: what is read at each step, how much of the text it takes, and that what follows
-- decides nothing.
use Rattle.std.proofs.Common.{◌≡◌, ℕ, suc, ◌+◌, ◌-◌, ◌<◌, ◌≤◌, Bool, true, false, ◌==◌, cond, List, [], ◌∷◌, ◌++◌, length, take, drop, take_while, Option}
use Rattle.std.proofs.Common.{Some, None, is_some, is_none, Result, Ok, Err, refl, sym, ap, ◌∙◌, subst, nat_le, nat_lt, eqb, inl, inr, arith}
use Rattle.std.proofs.lemmas.Bool.{cases_Bool, cases_lt, and_parts, and_from, lt-ltb, leb-true, le-leb, eqb-true, eq-eqb, ne_eqb}
use Rattle.std.proofs.lemmas.List.{length-append, drop-append-le, take-append-le, take-append-drop}
use Rattle.std.proofs.lemmas.List.Folds.{prefix_len-append, length-prefix_len}
use Rattle.std.specs.List.{prefix_len}
use Rattle.game_rules.specs.Letters.{is_letter, column_of, column_named}
use Rattle.game_rules.specs.Position.{Position, has_room, after_move, end_of, empty_count, is_legal}
use Rattle.game_rules.specs.Text.{stop, ◌>>=◌, after_text, is_digit, read_as, size_at, move_into, letter_read, at_end, letters_from, after_dash, moves_at}
use Rattle.game_rules.specs.declared.Stop.{Stop}
use Rattle.game_rules.proofs.Lists.{chosen}
use Rattle.game_rules.proofs.Moves.{empty_count_moved, room_column}
use Rattle.game_rules.proofs.Ends.{legal_parts}
use Rattle.game_rules.specs.declared.End.{End}
use Rattle.game_rules.specs.declared.InputKind.TheVariants.{BadHeader, BadSize, ColumnFull, GameOver, Trailing}

pub bind_ok : {A B : Type 0} (r : Result A Stop) (f : A → Result B Stop) (y : B) → (r >>= f) ≡ Ok y → (x : A) × (r ≡ Ok x) × (f x ≡ Ok y)
bind_ok (Ok x) f y h = (x, refl, h)
bind_ok (Err s) f y h = cc

-- ---- how much a reader takes

-- Of a text of so many bytes a reader takes at most `near`, up to its rest or the place of its fault.
abbrev pub Spends : {X : Type 0} → (X → ℕ) → ℕ → ℕ → Result X Stop → Type 0
Spends rest size near (Ok x) = (rest x ≤ size) × (size ≤ rest x + near)
Spends rest size near (Err s) = (s.left ≤ size) × (size ≤ s.left + near)

pub spends_bind : {A B : Type 0} (rest : A → ℕ) (rest_after : B → ℕ) (size near more : ℕ) (r : Result A Stop) (f : A → Result B Stop)
    → Spends rest size near r → ((x : A) → r ≡ Ok x → Spends rest_after (rest x) more (f x)) → Spends rest_after size (near + more) (r >>= f)
spends_bind rest rest_after size near more (Err s) f first each = (first.0, omega arith)
spends_bind rest rest_after size near more (Ok x) f first each = joined (f x) (each x refl)
  where
    joined : (r : Result _ Stop) → Spends rest_after (rest x) more r → Spends rest_after size (near + more) r
    joined (Ok y) h = (omega arith, omega arith)
    joined (Err s) h = (omega arith, omega arith)

pub spends_more : {A : Type 0} (rest : A → ℕ) (size near more : ℕ) (r : Result A Stop) → near ≤ more → Spends rest size near r → Spends rest size more r
spends_more rest size near more (Ok x) h spent = (spent.0, omega arith)
spends_more rest size near more (Err s) h spent = (spent.0, omega arith)

-- ---- what a reader gives where n more bytes follow: the same, with as many more bytes left

abbrev pub with_more : {X : Type 0} → (X → X) → ℕ → Result X Stop → Result X Stop
with_more f n (Ok x) = Ok (f x)
with_more f n (Err s) = Err (record { kind = s.kind; left = s.left + n })

pub more_bind : {A B : Type 0} (f : A → A) (g : B → B) (n : ℕ) (r : Result A Stop) (next longer : A → Result B Stop)
    → ((x : A) → r ≡ Ok x → longer (f x) ≡ with_more g n (next x)) → (with_more f n r >>= longer) ≡ with_more g n (r >>= next)
more_bind f g n (Ok x) next longer each = each x refl
more_bind f g n (Err s) next longer each = refl

-- ---- a fixed text

pub after_text_spends : (text bytes : List ℕ) → Spends length (length bytes) (length text) (after_text text bytes)
after_text_spends [] bytes = (omega arith, omega arith)
after_text_spends (x ∷ text) [] = (omega arith, omega arith)
after_text_spends (x ∷ text) (byte ∷ bytes) = elim (cases_Bool (byte == x)) [
  | inl same ↦ rw same (one_more (after_text text bytes) (after_text_spends text bytes))
  | inr other ↦ rw other (omega arith, omega arith)
]
  where
    one_more : (r : Result (List ℕ) Stop) → Spends length (length bytes) (length text) r → Spends length (length (byte ∷ bytes)) (length (x ∷ text)) r
    one_more (Ok rest) h = (omega arith, omega arith)
    one_more (Err s) h = (omega arith, omega arith)

pub after_text_more : (text bytes ys : List ℕ) → length text ≤ length bytes
    → after_text text (bytes ++ ys) ≡ with_more (λ rest. rest ++ ys) (length ys) (after_text text bytes)
after_text_more [] bytes ys h = refl
after_text_more (x ∷ text) [] ys h = absurd (omega arith)
after_text_more (x ∷ text) (byte ∷ bytes) ys h = elim (cases_Bool (byte == x)) [
  | inl same ↦ rw same (after_text_more text bytes ys (omega arith))
  | inr other ↦ rw other (ap (stop BadHeader) (omega (arith, length-append bytes ys)))
]

pub after_text_gives : (text bytes rest : List ℕ) → after_text text bytes ≡ Ok rest → bytes ≡ text ++ rest
after_text_gives [] bytes rest h = cc
after_text_gives (x ∷ text) [] rest h = cc
after_text_gives (x ∷ text) (byte ∷ bytes) rest h = elim (chosen (byte == x) (after_text text bytes) (stop BadHeader (length (byte ∷ bytes))) (Ok rest) h) [
  | inl same ↦ let first : byte ≡ x = eqb-true byte x same.0 in let later : bytes ≡ text ++ rest = after_text_gives text bytes rest same.1 in cc
  | inr other ↦ absurd (cc other.1)
]

pub after_text_of : (text rest : List ℕ) → after_text text (text ++ rest) ≡ Ok rest
after_text_of [] rest = refl
after_text_of (x ∷ text) rest = rw (eq-eqb x x refl) (after_text_of text rest)

-- ---- a number or a length

-- how many bytes stand behind a value
abbrev pub behind : {A : Type 0} → A × List ℕ → ℕ
behind x = length x.1

-- what is spelled has at most so many digits
module _ {X : Type 0} (most : ℕ) (spelled : List ℕ → Option X) (too_long : (run : List ℕ) → most < length run → spelled run ≡ None) where
  -- what was read spells it, and is the longest run of digits
  pub size_gives : (bytes : List ℕ) (x : X × List ℕ) → size_at spelled bytes ≡ Ok x → (spelled (take_while is_digit bytes) ≡ Some x.0)
      × (bytes ≡ take_while is_digit bytes ++ x.1)
  size_gives bytes x h = read (spelled (take_while is_digit bytes)) refl h
    where
      whole : take_while is_digit bytes ++ drop (length (take_while is_digit bytes)) bytes ≡ bytes
      whole = ap (λ n. take_while is_digit bytes ++ drop n bytes) (length-prefix_len is_digit bytes) ∙ take-append-drop (prefix_len is_digit bytes) bytes

      read : (n : Option X) → n ≡ spelled (take_while is_digit bytes) → read_as n (drop (length (take_while is_digit bytes)) bytes) bytes ≡ Ok x
          → (spelled (take_while is_digit bytes) ≡ Some x.0) × (bytes ≡ take_while is_digit bytes ++ x.1)
      read None e h = cc
      read (Some n) e h =
          let pair : (n, drop (length (take_while is_digit bytes)) bytes) ≡ x = cc in
          (sym e ∙ ap (λ (p : X × List ℕ). Some p.0) pair, sym whole ∙ ap (λ (p : X × List ℕ). take_while is_digit bytes ++ p.1) pair)

  pub size_spends : (bytes : List ℕ) → Spends behind (length bytes) most (size_at spelled bytes)
  size_spends bytes = read (size_at spelled bytes) refl
    where
      read : (r : Result (X × List ℕ) Stop) → r ≡ size_at spelled bytes → Spends behind (length bytes) most r
      read (Ok x) e =
          let given = size_gives bytes x (sym e) in
          elim (cases_lt most (length (take_while is_digit bytes))) [
            | inr short ↦ let size : length bytes ≡ length (take_while is_digit bytes) + length x.1 = ap length given.1
                ∙ length-append (take_while is_digit bytes) x.1 in (omega arith, omega arith)
            | inl long ↦ absurd (cc (given.0, too_long (take_while is_digit bytes) long))
          ]
      read (Err s) e = stopped (spelled (take_while is_digit bytes)) e
        where
          stopped : (n : Option X) → Err s ≡ read_as n (drop (length (take_while is_digit bytes)) bytes) bytes
              → Spends (behind {A = X}) (length bytes) most (Err s)
          stopped None e = let same : s ≡ record { kind = BadSize; left = length bytes } = cc in rw same (omega arith, omega arith)
          stopped (Some n) e = cc

  pub size_more : (bytes ys : List ℕ) → most < length bytes
      → size_at spelled (bytes ++ ys) ≡ with_more (λ x. (x.0, x.1 ++ ys)) (length ys) (size_at spelled bytes)
  size_more bytes ys h = elim (cases_lt (prefix_len is_digit bytes) (length bytes)) [
    | inl within ↦
        let same : prefix_len is_digit (bytes ++ ys) ≡ prefix_len is_digit bytes = prefix_len-append is_digit bytes ys
        ∙ cond_past _ _ _ (ne_eqb (prefix_len is_digit bytes) (length bytes) (λ (e : prefix_len is_digit bytes ≡ length bytes). omega arith)) in
        let run : take_while is_digit (bytes ++ ys) ≡ take_while is_digit bytes = ap (λ n. take n (bytes ++ ys)) same
        ∙ take-append-le (prefix_len is_digit bytes) bytes ys (omega arith) in
        ap (λ run. read_as (spelled run) (drop (length run) (bytes ++ ys)) (bytes ++ ys)) run
        ∙ ap (λ rest. read_as (spelled (take_while is_digit bytes)) rest (bytes ++ ys))
        (drop-append-le (length (take_while is_digit bytes)) bytes ys (omega (arith, length-prefix_len is_digit bytes)))
        ∙ read_more (spelled (take_while is_digit bytes)) (drop (length (take_while is_digit bytes)) bytes)
    | inr all ↦
        let longer : length bytes ≤ prefix_len is_digit (bytes ++ ys) = rw (prefix_len-append is_digit bytes ys)
        (cond_low (eqb (prefix_len is_digit bytes) (length bytes)) (length bytes + prefix_len is_digit ys) (prefix_len is_digit bytes) (omega arith) all) in
        ap (λ n. read_as n (drop (length (take_while is_digit (bytes ++ ys))) (bytes ++ ys)) (bytes ++ ys))
        (too_long (take_while is_digit (bytes ++ ys)) (omega (arith, length-prefix_len is_digit (bytes ++ ys))))
        ∙ ap (stop BadSize) (length-append bytes ys)
        ∙ ap (λ n. with_more (λ x. (x.0, x.1 ++ ys)) (length ys) (read_as n (drop (length (take_while is_digit bytes)) bytes) bytes))
        (sym (too_long (take_while is_digit bytes) (omega (arith, length-prefix_len is_digit bytes))))
  ]
    where
      read_more : (n : Option X) (rest : List ℕ) → read_as n (rest ++ ys) (bytes ++ ys) ≡ with_more (λ x. (x.0, x.1 ++ ys)) (length ys) (read_as n rest bytes)
      read_more None rest = ap (stop BadSize) (length-append bytes ys)
      read_more (Some n) rest = refl

      cond_past : (b : Bool) (m n : ℕ) → b ≡ false → cond b m n ≡ n
      cond_past b m n e = rw e refl

      cond_low : (b : Bool) (m n : ℕ) → length bytes ≤ m → length bytes ≤ n → length bytes ≤ cond b m n
      cond_low true m n first second = first
      cond_low false m n first second = second

-- ---- letters

-- a letter that was read is a legal move
pub letter_moves : (p q : Position) (byte left : ℕ) → letter_read p byte left ≡ Ok q → (column : ℕ) × (byte ≡ 97 + column) × (is_legal p column ≡ true)
    × (q ≡ after_move p column)
letter_moves p q byte left h = elim (chosen (is_letter (length p.columns) byte) (Some (column_of byte)) None (column_named (length p.columns) byte) refl) [
  | inr outside ↦ absurd (none (column_named (length p.columns) byte) outside.1 h)
  | inl named ↦
      let letter = and_parts (nat_le 97 byte) (nat_lt byte (97 + length p.columns)) named.0 in
      let low : 97 ≤ byte = leb-true 97 byte letter.0 in
      let moved = move (byte - 97) (subst (λ c. move_into p left c ≡ Ok q) (sym named.1) h) in
      (byte - 97, omega arith, moved.0, moved.1)
]
  where
    none : (c : Option ℕ) → None ≡ c → move_into p left c ≡ Ok q → ⊥
    none None e h = cc
    none (Some c) e h = cc

    open_end : (e : Option End) → is_some e ≡ false → is_none e ≡ true
    open_end None h = refl
    open_end (Some e) h = cc

    move : (column : ℕ) → move_into p left (Some column) ≡ Ok q → (is_legal p column ≡ true) × (q ≡ after_move p column)
    move column h = elim (chosen (is_some (end_of p)) (stop GameOver left) _ (Ok q) h) [
      | inl over ↦ absurd (cc over.1)
      | inr goes ↦ elim (chosen (has_room p column) (Ok (after_move p column)) (stop ColumnFull left) (Ok q) goes.1) [
        | inl room ↦ (and_from _ _ (open_end (end_of p) goes.0) room.0, cc)
        | inr full ↦ absurd (cc full.1)
      ]
    ]

-- a letter of a column in which a move is legal is read
pub letter_of_move : (p : Position) (column left : ℕ) → is_legal p column ≡ true → letter_read p (97 + column) left ≡ Ok (after_move p column)
letter_of_move p column left h =
    let parts = legal_parts p column h in
    let within : column < length p.columns = room_column p column parts.1 in
    let back : (97 + column) - 97 ≡ column = omega arith in
    rw (and_from _ _ (le-leb 97 (97 + column) (omega arith)) (lt-ltb (97 + column) (97 + length p.columns) (omega arith)), back, parts.0, parts.1) refl

pub letter_spends : (p : Position) (byte n : ℕ) → Spends (λ q. n) (suc n) 1 (letter_read p byte (suc n))
letter_spends p byte n = move (column_named (length p.columns) byte)
  where
    move : (c : Option ℕ) → Spends (λ (q : Position). n) (suc n) 1 (move_into p (suc n) c)
    move None = (omega arith, omega arith)
    move (Some column) = elim (cases_Bool (is_some (end_of p))) [
      | inl over ↦ rw over (omega arith, omega arith)
      | inr goes ↦ elim (cases_Bool (has_room p column)) [
        | inl room ↦ rw (goes, room) (omega arith, omega arith)
        | inr full ↦ rw (goes, full) (omega arith, omega arith)
      ]
    ]

pub letter_more : (p : Position) (byte left n : ℕ) → letter_read p byte (left + n) ≡ with_more (λ q. q) n (letter_read p byte left)
letter_more p byte left n = move (column_named (length p.columns) byte)
  where
    move : (c : Option ℕ) → move_into p (left + n) c ≡ with_more (λ q. q) n (move_into p left c)
    move None = refl
    move (Some column) = elim (cases_Bool (is_some (end_of p))) [
      | inl over ↦ rw over refl
      | inr goes ↦ elim (cases_Bool (has_room p column)) [
        | inl room ↦ rw (goes, room) refl
        | inr full ↦ rw (goes, full) refl
      ]
    ]

-- ---- lists of moves

-- nothing is behind the list
abbrev pub nothing : Position → ℕ
nothing p = 0

-- one letter, and more behind it
module _ (byte : ℕ) (bytes : List ℕ) (p : Position) where
  fewer_empty : (q : Position) → letter_read p byte (length (byte ∷ bytes)) ≡ Ok q → empty_count q + 1 ≡ empty_count p
  fewer_empty q read = let letter = letter_moves p q byte (length (byte ∷ bytes)) read in
      rw letter.3 (empty_count_moved p letter.0 (legal_parts p letter.0 letter.2).1)

  letter_then_spends : ((q : Position) → Spends nothing (length bytes) (empty_count q + 1) (letters_from q bytes))
      → Spends nothing (length (byte ∷ bytes)) (empty_count p + 1) (letter_read p byte (length (byte ∷ bytes)) >>= λ q. letters_from q bytes)
  letter_then_spends later = spends_more nothing (length (byte ∷ bytes)) (1 + empty_count p) (empty_count p + 1) _ (omega arith)
      (spends_bind (λ q. length bytes) nothing (length (byte ∷ bytes)) 1 (empty_count p) (letter_read p byte (length (byte ∷ bytes)))
      (λ q. letters_from q bytes)
      (letter_spends p byte (length bytes))
      (λ q read. let fewer : empty_count q + 1 ≡ empty_count p = fewer_empty q read in
      spends_more nothing (length bytes) (empty_count q + 1) (empty_count p) (letters_from q bytes) (omega arith) (later q)))

  letter_then_more : (ys : List ℕ)
      → ((q : Position) → empty_count q + 1 ≡ empty_count p → letters_from q (bytes ++ ys) ≡ with_more (λ q. q) (length ys) (letters_from q bytes))
      → (letter_read p byte (length (byte ∷ (bytes ++ ys))) >>= λ q. letters_from q (bytes ++ ys))
      ≡ with_more (λ q. q) (length ys) (letter_read p byte (length (byte ∷ bytes)) >>= λ q. letters_from q bytes)
  letter_then_more ys later =
      ap (λ left. letter_read p byte left >>= λ q. letters_from q (bytes ++ ys)) (length-append (byte ∷ bytes) ys)
      ∙ ap (λ r. r >>= λ q. letters_from q (bytes ++ ys)) (letter_more p byte (length (byte ∷ bytes)) (length ys))
      ∙ more_bind (λ q. q) (λ q. q) (length ys) (letter_read p byte (length (byte ∷ bytes))) (λ q. letters_from q bytes) (λ q. letters_from q (bytes ++ ys))
      (λ q read. later q (fewer_empty q read))

-- there is a letter for each empty square at most, and a line feed
pub letters_spend : (bytes : List ℕ) (p : Position) → Spends nothing (length bytes) (empty_count p + 1) (letters_from p bytes)
letters_spend [] p = (omega arith, omega arith)
letters_spend (byte ∷ bytes) p = elim (cases_Bool (byte == 10)) [
  | inl feed ↦ rw feed (at_end_spends bytes)
  | inr other ↦ rw other (letter_then_spends byte bytes p (λ q. letters_spend bytes q))
]
  where
    at_end_spends : (bytes : List ℕ) → Spends nothing (length (byte ∷ bytes)) (empty_count p + 1) (at_end p bytes)
    at_end_spends [] = (omega arith, omega arith)
    at_end_spends (next ∷ bytes) = (omega arith, omega arith)

-- where more letters stand than squares are empty, the fault is among them
pub letters_more : (bytes : List ℕ) (p : Position) (ys : List ℕ) → empty_count p + 2 ≤ length bytes
    → letters_from p (bytes ++ ys) ≡ with_more (λ q. q) (length ys) (letters_from p bytes)
letters_more [] p ys h = absurd (omega arith)
letters_more (byte ∷ bytes) p ys h = elim (cases_Bool (byte == 10)) [
  | inl feed ↦ rw feed (behind_feed bytes (omega arith))
  | inr other ↦ rw other (letter_then_more byte bytes p ys (λ q fewer. letters_more bytes q ys (omega arith)))
]
  where
    behind_feed : (bytes : List ℕ) → 1 ≤ length bytes → at_end p (bytes ++ ys) ≡ with_more (λ q. q) (length ys) (at_end p bytes)
    behind_feed [] h = absurd (omega arith)
    behind_feed (next ∷ bytes) h = ap (stop Trailing) (length-append (next ∷ bytes) ys)

pub moves_spend : (p : Position) (bytes : List ℕ) → 1 ≤ empty_count p → Spends nothing (length bytes) (empty_count p + 1) (moves_at p bytes)
moves_spend p [] h = (omega arith, omega arith)
moves_spend p (byte ∷ bytes) h = elim (cases_Bool (byte == 45)) [
  | inl dash ↦ rw dash (dash_spends bytes)
  | inr other ↦ rw other (letter_then_spends byte bytes p (λ q. letters_spend bytes q))
]
  where
    at_end_spends : (next : ℕ) (bytes : List ℕ) → Spends nothing (length (byte ∷ next ∷ bytes)) (empty_count p + 1) (at_end p bytes)
    at_end_spends next [] = (omega arith, omega arith)
    at_end_spends next (last ∷ bytes) = (omega arith, omega arith)

    dash_spends : (bytes : List ℕ) → Spends nothing (length (byte ∷ bytes)) (empty_count p + 1) (after_dash p bytes)
    dash_spends [] = (omega arith, omega arith)
    dash_spends (next ∷ bytes) = elim (cases_Bool (next == 10)) [
      | inl feed ↦ rw feed (at_end_spends next bytes)
      | inr other ↦ rw other (omega arith, omega arith)
    ]

pub moves_more : (p : Position) (bytes ys : List ℕ) → 1 ≤ empty_count p → empty_count p + 2 ≤ length bytes
    → moves_at p (bytes ++ ys) ≡ with_more (λ q. q) (length ys) (moves_at p bytes)
moves_more p [] ys some h = absurd (omega arith)
moves_more p (byte ∷ bytes) ys some h = elim (cases_Bool (byte == 45)) [
  | inl dash ↦ rw dash (behind_dash bytes (omega arith))
  | inr other ↦ rw other (letter_then_more byte bytes p ys (λ q fewer. letters_more bytes q ys (omega arith)))
]
  where
    behind_dash : (bytes : List ℕ) → 2 ≤ length bytes → after_dash p (bytes ++ ys) ≡ with_more (λ q. q) (length ys) (after_dash p bytes)
    behind_dash [] h = absurd (omega arith)
    behind_dash (next ∷ []) h = absurd (omega arith)
    behind_dash (next ∷ last ∷ bytes) h = elim (cases_Bool (next == 10)) [
      | inl feed ↦ rw feed (ap (stop Trailing) (length-append (last ∷ bytes) ys))
      | inr other ↦ rw other (ap (stop Trailing) (length-append (next ∷ last ∷ bytes) ys))
    ]
