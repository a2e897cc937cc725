-- Where each reader of a game text stops: what stands before the place, and what stands from it on.
use Rattle.std.proofs.Common.{◌≡◌, ◌≢◌, ◌⊎◌, ℕ, suc, ◌+◌, ◌-◌, ◌<◌, ◌≤◌, Bool, true, false, ◌&&◌, ◌==◌, cond, nat_le, nat_lt, List, [], ◌∷◌, ◌++◌, map, length}
use Rattle.std.proofs.Common.{take, drop, take_while, Option, Some, None, is_some, Result, Ok, Err, refl, sym, ap, ◌∙◌, subst, inl, inr, arith}
use Rattle.std.specs.List.{prefix_len}
use Rattle.std.proofs.lemmas.Bool.{cases_Bool, and_parts, and_from, leb-true, le-leb, lt-ltb, ltb-true, eqb-true, eq-eqb, ne_eqb, false_from_ne_true, both_ways}
use Rattle.std.proofs.lemmas.List.Folds.{length-prefix_len}
use Rattle.game_rules.specs.Position.{Position, has_room, after_move, end_of, is_legal, played}
use Rattle.game_rules.specs.Text.{stop, ◌>>=◌, after_text, is_digit, line_of, read_as, size_at, length_at, move_into, letter_read, letters_from, moves_at}
use Rattle.game_rules.specs.Grammar.{letter_of}
use Rattle.game_rules.specs.Faults.{IsOther, run_of}
use Rattle.game_rules.specs.declared.Stop.{Stop}
use Rattle.game_rules.specs.declared.End.{End}
use Rattle.game_rules.specs.declared.InputKind.TheVariants.{BadHeader, BadSize, BadColumn, ColumnFull, GameOver}
use Rattle.game_rules.proofs.Lists.{chosen}
use Rattle.game_rules.proofs.Readers.{size_gives, letter_of_move}
use Rattle.game_rules.proofs.BoardLine.{long_lines, line_gives}
use Rattle.game_rules.specs.declared.Length.{Length}
use Rattle.game_rules.specs.declared.Length.TheVariants.{Four}

-- a stop at the first of two readers, or at the second
pub bind_err : {A B : Type 0} (r : Result A Stop) (f : A → Result B Stop) (s : Stop) → (r >>= f) ≡ Err s → (r ≡ Err s) ⊎ ((x : A) × (r ≡ Ok x) × (f x ≡ Err s))
bind_err (Ok x) f s h = inr (x, refl, h)
bind_err (Err t) f s h = inl (cc)

-- ---- a fixed text

pub record TextStop (text bytes : List ℕ) (s : Stop) : Type 0 where
  pub before : List ℕ
  pub byte : ℕ
  pub later : List ℕ
  pub behind : List ℕ
  pub fixed : text ≡ before ++ byte ∷ later
  pub whole : bytes ≡ before ++ behind
  pub other : IsOther byte behind
  pub is_stop : s ≡ record { kind = BadHeader; left = length behind }

pub text_stop : (text bytes : List ℕ) (s : Stop) → after_text text bytes ≡ Err s → TextStop text bytes s
text_stop [] bytes s h = cc
text_stop (x ∷ text) [] s h = record { before = []; byte = x; later = text; behind = []; fixed = refl; whole = refl; other = tt; is_stop = cc }
text_stop (x ∷ text) (byte ∷ bytes) s h = elim (cases_Bool (byte == x)) [
  | inr other ↦ record {
    before = [];
    byte = x;
    later = text;
    behind = byte ∷ bytes;
    fixed = refl;
    whole = refl;
    other = λ same. both_ways (byte == x) other (eq-eqb byte x same);
    is_stop = at_other (byte == x) other h;
  }
  | inl same ↦
      let rest = text_stop text bytes s (at_same (byte == x) same h) in
      record {
        before = x ∷ rest.before;
        byte = rest.byte;
        later = rest.later;
        behind = rest.behind;
        fixed = ap (λ more. x ∷ more) rest.fixed;
        whole = ap (λ first. first ∷ bytes) (eqb-true byte x same) ∙ ap (λ more. x ∷ more) rest.whole;
        other = rest.other;
        is_stop = rest.is_stop;
      }
]
  where
    at_other : (b : Bool) → b ≡ false → cond b (after_text text bytes) (stop BadHeader (length (byte ∷ bytes))) ≡ Err s
        → s ≡ record { kind = BadHeader; left = length (byte ∷ bytes) }
    at_other true e h = absurd (cc e)
    at_other false e h = cc

    at_same : (b : Bool) → b ≡ true → cond b (after_text text bytes) (stop BadHeader (length (byte ∷ bytes))) ≡ Err s → after_text text bytes ≡ Err s
    at_same true e h = h
    at_same false e h = absurd (cc e)

pub text_stops : (before : List ℕ) (byte : ℕ) (later behind : List ℕ) → IsOther byte behind
    → after_text (before ++ byte ∷ later) (before ++ behind) ≡ stop BadHeader (length behind)
text_stops [] byte later [] other = refl
text_stops [] byte later (first ∷ behind) other = rw (ne_eqb first byte other) refl
text_stops (x ∷ before) byte later behind other = rw (eq-eqb x x refl) (text_stops before byte later behind other)

-- ---- a number or a length

-- a run of digits ends where no digit stands
pub run_none : (bytes : List ℕ) → run_of bytes ≡ [] → prefix_len is_digit bytes ≡ 0
run_none bytes h = sym (length-prefix_len is_digit bytes) ∙ ap length h

pub run_after : (bytes : List ℕ) → prefix_len is_digit (drop (prefix_len is_digit bytes) bytes) ≡ 0
run_after [] = refl
run_after (byte ∷ bytes) = elim (cases_Bool (is_digit byte)) [
  | inl digit ↦ rw digit (ap (prefix_len is_digit) (past (prefix_len is_digit bytes)) ∙ run_after bytes)
  | inr other ↦ rw (other, other) refl
]
  where
    past : (n : ℕ) → drop (1 + n) (byte ∷ bytes) ≡ drop n bytes
    past n = let same : 1 + n ≡ suc n = omega arith in ap (λ m. drop m (byte ∷ bytes)) same

pub size_ends : {X : Type 0} (spelled : List ℕ → Option X) (bytes : List ℕ) (x : X × List ℕ) → size_at spelled bytes ≡ Ok x → run_of x.1 ≡ []
size_ends {X = X} spelled bytes x h = read (spelled (take_while is_digit bytes)) h
  where
    none : run_of (drop (length (run_of bytes)) bytes) ≡ []
    none = ap (λ n. run_of (drop n bytes)) (length-prefix_len is_digit bytes) ∙ ap (λ n. take n (drop (prefix_len is_digit bytes) bytes)) (run_after bytes)

    read : (n : Option X) → read_as n (drop (length (run_of bytes)) bytes) bytes ≡ Ok x → run_of x.1 ≡ []
    read None h = cc
    read (Some n) h = let pair : (n, drop (length (run_of bytes)) bytes) ≡ x = cc in sym (ap (λ (p : X × List ℕ). run_of p.1) pair) ∙ none

pub size_stop : {X : Type 0} (spelled : List ℕ → Option X) (bytes : List ℕ) (s : Stop) → size_at spelled bytes ≡ Err s
    → (spelled (run_of bytes) ≡ None) × (s ≡ record { kind = BadSize; left = length bytes })
size_stop {X = X} spelled bytes s h = read (spelled (run_of bytes)) h
  where
    read : (n : Option X) → read_as n (drop (length (run_of bytes)) bytes) bytes ≡ Err s → (n ≡ None) × (s ≡ record { kind = BadSize; left = length bytes })
    read None h = (refl, cc)
    read (Some n) h = cc

pub size_stops : {X : Type 0} (spelled : List ℕ → Option X) (bytes : List ℕ) → spelled (run_of bytes) ≡ None
    → size_at spelled bytes ≡ stop BadSize (length bytes)
size_stops spelled bytes h = ap (λ n. read_as n (drop (length (run_of bytes)) bytes) bytes) h

-- behind a length no digit stands, and behind the rows no space
pub length_ends : (bytes : List ℕ) (x : Length × List ℕ) → length_at bytes ≡ Ok x → run_of bytes ≡ [] → (run_of x.1 ≡ []) × (x.0 ≡ Four → IsOther 32 x.1)
length_ends [] x h ends = let pair : (Four, []) ≡ x = cc in
    subst (λ (x : Length × List ℕ). (run_of x.1 ≡ []) × (x.0 ≡ Four → IsOther 32 x.1)) pair (refl, λ four. tt)
length_ends (byte ∷ bytes) x h ends = elim (chosen (byte == 32) (size_at line_of bytes) (Ok (Four, byte ∷ bytes)) (Ok x) h) [
  | inl space ↦
      let line = line_gives (run_of bytes) x.0 (size_gives 1 line_of long_lines bytes x space.1).0 in
      (size_ends line_of bytes x space.1, λ (four : x.0 ≡ Four). absurd (cc (four, line.0)))
  | inr other ↦
      let pair : (Four, byte ∷ bytes) ≡ x = cc other.1 in
      subst (λ (x : Length × List ℕ). (run_of x.1 ≡ []) × (x.0 ≡ Four → IsOther 32 x.1)) pair
      (ends, λ four same. both_ways (byte == 32) other.0 (eq-eqb byte 32 same))
]

-- behind a space there is no length
pub record LengthStop (bytes : List ℕ) (s : Stop) : Type 0 where
  pub behind : List ℕ
  pub whole : bytes ≡ 32 ∷ behind
  pub none : line_of (run_of behind) ≡ None
  pub is_stop : s ≡ record { kind = BadSize; left = length behind }

pub length_stop : (bytes : List ℕ) (s : Stop) → length_at bytes ≡ Err s → LengthStop bytes s
length_stop [] s h = cc
length_stop (byte ∷ bytes) s h = elim (chosen (byte == 32) (size_at line_of bytes) (Ok (Four, byte ∷ bytes)) (Err s) h) [
  | inl space ↦
      let size = size_stop line_of bytes s space.1 in
      record { behind = bytes; whole = ap (λ byte. byte ∷ bytes) (eqb-true byte 32 space.0); none = size.0; is_stop = size.1 }
  | inr other ↦ absurd (cc other.1)
]

-- ---- a letter

abbrev pub Letterless : Position → ℕ → Type 0
Letterless p byte = (column : ℕ) → column < length p.columns → byte ≢ letter_of column

-- why a letter isn't read: it is none, or it is a column's and the game has ended, or the column is full
pub data LetterStop (p : Position) (byte left : ℕ) (s : Stop) : Type 0 where
  no_letter : Letterless p byte → s ≡ record { kind = BadColumn; left = left } → LetterStop p byte left s
  over : (column : ℕ) (ending : End) → byte ≡ letter_of column → column < length p.columns → end_of p ≡ Some ending
      → s ≡ record { kind = GameOver; left = left } → LetterStop p byte left s
  full : (column : ℕ) → byte ≡ letter_of column → column < length p.columns → end_of p ≡ None → has_room p column ≡ false
      → s ≡ record { kind = ColumnFull; left = left } → LetterStop p byte left s

pub letter_stop : (p : Position) (byte left : ℕ) (s : Stop) → letter_read p byte left ≡ Err s → LetterStop p byte left s
letter_stop p byte left s h = elim (cases_Bool (nat_le 97 byte && nat_lt byte (97 + length p.columns))) [
  | inr none ↦ no_letter (λ column low same. both_ways (nat_le 97 byte && nat_lt byte (97 + length p.columns)) none
      (and_from _ _ (le-leb 97 byte (omega arith)) (lt-ltb byte (97 + length p.columns) (omega arith))))
      (unnamed (nat_le 97 byte && nat_lt byte (97 + length p.columns)) none h)
  | inl named ↦
      let both = and_parts (nat_le 97 byte) (nat_lt byte (97 + length p.columns)) named in
      let low : 97 ≤ byte = leb-true 97 byte both.0 in
      let high : byte < 97 + length p.columns = ltb-true byte (97 + length p.columns) both.1 in
      moving (byte - 97) (omega arith) (omega arith) (end_of p) refl (letter (nat_le 97 byte && nat_lt byte (97 + length p.columns)) named h)
]
  where
    unnamed : (b : Bool) → b ≡ false → move_into p left (cond b (Some (byte - 97)) None) ≡ Err s → s ≡ record { kind = BadColumn; left = left }
    unnamed true e h = absurd (cc e)
    unnamed false e h = cc

    letter : (b : Bool) → b ≡ true → move_into p left (cond b (Some (byte - 97)) None) ≡ Err s → move_into p left (Some (byte - 97)) ≡ Err s
    letter true e h = h
    letter false e h = absurd (cc e)

    moving : (column : ℕ) → byte ≡ letter_of column → column < length p.columns → (ending : Option End) → end_of p ≡ ending
        → cond (is_some ending) (stop GameOver left) (cond (has_room p column) (Ok (after_move p column)) (stop ColumnFull left)) ≡ Err s
        → LetterStop p byte left s
    moving column is low (Some ending) e h = over column ending is low e (cc)
    moving column is low None e h = elim (cases_Bool (has_room p column)) [
      | inl room ↦ absurd (roomy (has_room p column) room h)
      | inr none ↦ full column is low e none (roomless (has_room p column) none h)
    ]
      where
        roomy : (b : Bool) → b ≡ true → cond b (Ok (after_move p column)) (stop ColumnFull left) ≡ Err s → ⊥
        roomy true e h = cc
        roomy false e h = cc e

        roomless : (b : Bool) → b ≡ false → cond b (Ok (after_move p column)) (stop ColumnFull left) ≡ Err s → s ≡ record { kind = ColumnFull; left = left }
        roomless true e h = absurd (cc e)
        roomless false e h = cc

pub letterless_stops : (p : Position) (byte left : ℕ) → Letterless p byte → letter_read p byte left ≡ stop BadColumn left
letterless_stops p byte left none = ap (λ b. move_into p left (cond b (Some (byte - 97)) None))
    (false_from_ne_true (nat_le 97 byte && nat_lt byte (97 + length p.columns)) outside)
  where
    outside : (nat_le 97 byte && nat_lt byte (97 + length p.columns)) ≡ true → ⊥
    outside h =
        let both = and_parts (nat_le 97 byte) (nat_lt byte (97 + length p.columns)) h in
        let low : 97 ≤ byte = leb-true 97 byte both.0 in
        let high : byte < 97 + length p.columns = ltb-true byte (97 + length p.columns) both.1 in
        none (byte - 97) (omega arith) (omega arith)

letter_into : (p : Position) (column left : ℕ) → column < length p.columns → letter_read p (letter_of column) left ≡ move_into p left (Some column)
letter_into p column left low =
    let back : (97 + column) - 97 ≡ column = omega arith in
    rw (and_from _ _ (le-leb 97 (97 + column) (omega arith)) (lt-ltb (97 + column) (97 + length p.columns) (omega arith)), back) refl

pub over_stops : (p : Position) (column left : ℕ) (ending : End) → column < length p.columns → end_of p ≡ Some ending
    → letter_read p (letter_of column) left ≡ stop GameOver left
over_stops p column left ending low e = letter_into p column left low ∙ rw e refl

pub full_stops : (p : Position) (column left : ℕ) → column < length p.columns → end_of p ≡ None → has_room p column ≡ false
    → letter_read p (letter_of column) left ≡ stop ColumnFull left
full_stops p column left low e none = letter_into p column left low ∙ rw (e, none) refl

-- ---- the letters of legal moves

-- they are read, whatever follows
pub letters_read : (columns : List ℕ) (p q : Position) (behind : List ℕ) → played p columns ≡ Some q
    → letters_from p (map letter_of columns ++ behind) ≡ letters_from q behind
letters_read [] p q behind h = let same : p ≡ q = cc in ap (λ p. letters_from p behind) same
letters_read (column ∷ columns) p q behind h = elim (chosen (is_legal p column) (played (after_move p column) columns) None (Some q) h) [
  | inr illegal ↦ absurd (cc illegal.1)
  | inl legal ↦
      let past : ((97 + column) == 10) ≡ false = ne_eqb (97 + column) 10 (λ (e : 97 + column ≡ 10). omega arith) in
      rw past (ap (λ r. r >>= λ next. letters_from next (map letter_of columns ++ behind)) (letter_of_move p column _ legal.0)
      ∙ letters_read columns (after_move p column) q behind legal.1)
]

-- the first is read where a list begins
pub moves_read : (column : ℕ) (columns : List ℕ) (p q : Position) (behind : List ℕ) → played p (column ∷ columns) ≡ Some q
    → moves_at p (map letter_of (column ∷ columns) ++ behind) ≡ letters_from q behind
moves_read column columns p q behind h = elim (chosen (is_legal p column) (played (after_move p column) columns) None (Some q) h) [
  | inr illegal ↦ absurd (cc illegal.1)
  | inl legal ↦
      let past : ((97 + column) == 45) ≡ false = ne_eqb (97 + column) 45 (λ (e : 97 + column ≡ 45). omega arith) in
      rw past (ap (λ r. r >>= λ next. letters_from next (map letter_of columns ++ behind)) (letter_of_move p column _ legal.0)
      ∙ letters_read columns (after_move p column) q behind legal.1)
]

-- one more move at the end
pub played_push : (columns : List ℕ) (p q : Position) (column : ℕ) → played p columns ≡ Some q → is_legal q column ≡ true
    → played p (columns ++ column ∷ []) ≡ Some (after_move q column)
played_push [] p q column h legal = let same : p ≡ q = cc in rw (ap (λ p. is_legal p column) same ∙ legal) (ap (λ p. Some (after_move p column)) same)
played_push (first ∷ columns) p q column h legal = elim (chosen (is_legal p first) (played (after_move p first) columns) None (Some q) h) [
  | inr illegal ↦ absurd (cc illegal.1)
  | inl one ↦ rw (one.0) (played_push columns (after_move p first) q column one.1 legal)
]
