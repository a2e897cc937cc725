-- The line of the board: which sizes are read, how much of the text the line takes, and its one spelling.
use Rattle.std.proofs.Common.{◌≡◌, ◌⊎◌, ℕ, ◌+◌, ◌-◌, ◌*◌, ◌<◌, ◌≤◌, Bool, true, ◌&&◌, ◌||◌, ◌==◌, nat_le, cond, List, [], ◌∷◌, ◌++◌, length, take, drop}
use Rattle.std.proofs.Common.{take_while, append_assoc, Option, Some, None, Result, Ok, Err, codes, refl, sym, ap, ◌∙◌, subst, inl, inr, arith, lit<}
use Rattle.std.proofs.lemmas.Bool.{cases_Bool, cases_lt, and_parts, and_from, or_cases, leb-true, le-leb, eqb-true, eq-eqb, ne_eqb}
use Rattle.std.proofs.lemmas.List.Folds.{sum_by-replicate}
use Rattle.game_rules.specs.Board.{Board, is_board, is_cols, is_rows}
use Rattle.game_rules.specs.Position.{Position, board_of, empty_position, empty_count}
use Rattle.game_rules.specs.Text.{◌>>=◌, after_text, cols_of, rows_of, line_of, size_at, length_at, board_at}
use Rattle.game_rules.specs.declared.Stop.{Stop}
use Rattle.game_rules.proofs.Lists.{chosen}
use Rattle.game_rules.proofs.Readers.{bind_ok, Spends, spends_bind, with_more, more_bind, after_text_spends, after_text_more, after_text_gives, after_text_of}
use Rattle.game_rules.proofs.Readers.{behind, size_gives, size_spends, size_more}
use Rattle.game_rules.specs.declared.Side.{Side}
use Rattle.std.specs.Fmt.{decimal, digits}
use Rattle.std.proofs.lemmas.Fmt.{decimal_digit}
use Rattle.std.proofs.lemmas.List.Elements.{All-nil, All-cons}
use Rattle.std.specs.List.{All}
use Rattle.std.proofs.lemmas.List.Sums.{sum_by-le}
use Rattle.std.proofs.Math.Seq.{take-append_seam, drop-append_seam}
use Rattle.std.proofs.lemmas.List.Folds.{prefix_len-append}
use Rattle.std.specs.List.{prefix_len}
use Rattle.game_rules.specs.Text.{is_digit, read_as}
use Rattle.game_rules.specs.declared.Stop.{Stop}
use Rattle.game_rules.specs.Grammar.{board_line, length_text}
use Rattle.game_rules.specs.Faults.{IsOther}
use Rattle.game_rules.specs.declared.Length.{Length}
use Rattle.game_rules.specs.declared.Length.TheVariants.{Four, Five}

-- ---- the sizes of boards

pub long_cols : (run : List ℕ) → 2 < length run → cols_of run ≡ None
long_cols [] h = absurd (omega arith)
long_cols (a ∷ []) h = absurd (omega arith)
long_cols (a ∷ b ∷ []) h = absurd (omega arith)
long_cols (a ∷ b ∷ c ∷ run) h = refl

pub long_rows : (run : List ℕ) → 2 < length run → rows_of run ≡ None
long_rows [] h = absurd (omega arith)
long_rows (a ∷ []) h = absurd (omega arith)
long_rows (a ∷ b ∷ []) h = absurd (omega arith)
long_rows (a ∷ b ∷ c ∷ run) h = refl

pub long_lines : (run : List ℕ) → 1 < length run → line_of run ≡ None
long_lines [] h = absurd (omega arith)
long_lines (a ∷ []) h = absurd (omega arith)
long_lines (a ∷ b ∷ run) h = refl

decimal_ten : decimal 10 ≡ 49 ∷ 48 ∷ []
unfolding digits
decimal_ten = refl

-- digits that spell a number of columns or rows are its decimal spelling
pub cols_give : (run : List ℕ) (n : ℕ) → cols_of run ≡ Some n → (is_cols n ≡ true) × (run ≡ decimal n)
cols_give [] n h = cc
cols_give (a ∷ []) n h = elim (chosen (nat_le 52 a && nat_le a 57) (Some (a - 48)) None (Some n) h) [
  | inr other ↦ absurd (cc other.1)
  | inl digit ↦
      let both = and_parts (nat_le 52 a) (nat_le a 57) digit.0 in
      let low : 52 ≤ a = leb-true 52 a both.0 in
      let high : a ≤ 57 = leb-true a 57 both.1 in
      let same : a - 48 ≡ n = cc in
      let byte : a ≡ 48 + n = omega arith in
      (and_from _ _ (le-leb 4 n (omega arith)) (le-leb n 10 (omega arith)), rw byte (sym (decimal_digit n (omega arith))))
]
cols_give (a ∷ b ∷ []) n h = elim (chosen (a == 49 && b == 48) (Some 10) None (Some n) h) [
  | inr other ↦ absurd (cc other.1)
  | inl ten ↦
      let both = and_parts (a == 49) (b == 48) ten.0 in
      let same : 10 ≡ n = cc in
      (rw (← same) refl, rw (← same, eqb-true a 49 both.0, eqb-true b 48 both.1) (sym decimal_ten))
]
cols_give (a ∷ b ∷ c ∷ run) n h = cc

pub rows_give : (run : List ℕ) (n : ℕ) → rows_of run ≡ Some n → (is_rows n ≡ true) × (run ≡ decimal n)
rows_give [] n h = cc
rows_give (a ∷ []) n h = elim (chosen (a == 52 || a == 54 || a == 56) (Some (a - 48)) None (Some n) h) [
  | inr other ↦ absurd (cc other.1)
  | inl digit ↦
      let same : a - 48 ≡ n = cc in
      elim (or_cases (a == 52 || a == 54) (a == 56) digit.0) [
        | inr eight ↦ of_digit 8 a n (eqb-true a 56 eight) same (lit< tt) refl
        | inl less ↦ elim (or_cases (a == 52) (a == 54) less) [
          | inl four ↦ of_digit 4 a n (eqb-true a 52 four) same (lit< tt) refl
          | inr six ↦ of_digit 6 a n (eqb-true a 54 six) same (lit< tt) refl
        ]
      ]
]
  where
    of_digit : (m a n : ℕ) → a ≡ 48 + m → a - 48 ≡ n → m < 10 → is_rows m ≡ true → (is_rows n ≡ true) × (a ∷ [] ≡ decimal n)
    of_digit m a n byte same low rows =
        let number : n ≡ m = omega arith in
        (rw number rows, rw (number, byte) (sym (decimal_digit m low)))
rows_give (a ∷ b ∷ []) n h = elim (chosen (a == 49 && b == 48) (Some 10) None (Some n) h) [
  | inr other ↦ absurd (cc other.1)
  | inl ten ↦
      let both = and_parts (a == 49) (b == 48) ten.0 in
      let same : 10 ≡ n = cc in
      (rw (← same) refl, rw (← same, eqb-true a 49 both.0, eqb-true b 48 both.1) (sym decimal_ten))
]
rows_give (a ∷ b ∷ c ∷ run) n h = cc

-- the greatest board has 100 squares
squares_within : (cols rows : ℕ) → is_cols cols ≡ true → is_rows rows ≡ true → (1 ≤ cols * rows) × (cols * rows ≤ 100)
squares_within cols rows wide high =
    let both = and_parts (nat_le 4 cols) (nat_le cols 10) wide in
    of_rows (leb-true 4 cols both.0) (leb-true cols 10 both.1) (or_cases (rows == 4 || rows == 6 || rows == 8) (rows == 10) high)
  where
    of_rows : 4 ≤ cols → cols ≤ 10 → ((rows == 4 || rows == 6 || rows == 8) ≡ true) ⊎ ((rows == 10) ≡ true) → (1 ≤ cols * rows) × (cols * rows ≤ 100)
    of_rows low high (inr ten) = rw (eqb-true rows 10 ten) (omega arith, omega arith)
    of_rows low high (inl less) = elim (or_cases (rows == 4 || rows == 6) (rows == 8) less) [
      | inr eight ↦ rw (eqb-true rows 8 eight) (omega arith, omega arith)
      | inl least ↦ elim (or_cases (rows == 4) (rows == 6) least) [
        | inl four ↦ rw (eqb-true rows 4 four) (omega arith, omega arith)
        | inr six ↦ rw (eqb-true rows 6 six) (omega arith, omega arith)
      ]
    ]

-- a board has at most 100 empty squares
pub empty_count_within : (p : Position) → is_board (board_of p) ≡ true → empty_count p ≤ 100
empty_count_within p h =
    let both = and_parts (is_cols (length p.columns)) (is_rows p.rows) h in
    let size = squares_within (length p.columns) p.rows both.0 both.1 in
    let each : All (λ men. p.rows - length men ≤ p.rows) p.columns = each_within p.columns in
    let most : empty_count p ≤ length p.columns * p.rows = sum_by-le (λ (men : List Side). p.rows - length men) p.rows p.columns each in
    omega arith
  where
    each_within : (columns : List (List Side)) → All (λ men. p.rows - length men ≤ p.rows) columns
    each_within [] = All-nil (λ (men : List Side). p.rows - length men ≤ p.rows)
    each_within (men ∷ columns) = All-cons (λ (men : List Side). p.rows - length men ≤ p.rows) men columns (omega arith) (each_within columns)

pub first_empty : (board : Board) → is_board board ≡ true → (1 ≤ empty_count (empty_position board)) × (empty_count (empty_position board) ≤ 100)
first_empty board h =
    let both = and_parts (is_cols board.cols) (is_rows board.rows) h in
    let size = squares_within board.cols board.rows both.0 both.1 in
    let all : empty_count (empty_position board) ≡ board.cols * (board.rows - 0) = sum_by-replicate (λ (men : List Side). board.rows - length men) board.cols []
    in
    let rows : board.rows - 0 ≡ board.rows = omega arith in
    let whole : empty_count (empty_position board) ≡ board.cols * board.rows = all ∙ ap (λ n. board.cols * n) rows in
    (omega arith, omega arith)

-- ---- the line of the board, by its steps

abbrev pub rest_of_line : ℕ → ℕ → Length → List ℕ → Result (Board × List ℕ) Stop
rest_of_line cols rows len bytes = after_text (10 ∷ codes "moves ") bytes >>= λ rest. Ok (record { cols = cols; rows = rows; len = len }, rest)

abbrev pub length_on : ℕ → ℕ → List ℕ → Result (Board × List ℕ) Stop
length_on cols rows bytes = length_at bytes >>= λ len. rest_of_line cols rows len.0 len.1

abbrev pub rows_on : ℕ → List ℕ → Result (Board × List ℕ) Stop
rows_on cols bytes = size_at rows_of bytes >>= λ rows. length_on cols rows.0 rows.1

abbrev pub gap_on : ℕ → List ℕ → Result (Board × List ℕ) Stop
gap_on cols bytes = after_text (codes " ") bytes >>= λ gap. rows_on cols gap

abbrev pub cols_on : List ℕ → Result (Board × List ℕ) Stop
cols_on bytes = size_at cols_of bytes >>= λ cols. gap_on cols.0 cols.1

pub board_at_steps : (bytes : List ℕ) → board_at bytes ≡ (after_text (codes "board ") bytes >>= λ head. cols_on head)
unfolding board_at
board_at_steps bytes = refl

length_spends : (bytes : List ℕ) → Spends behind (length bytes) 2 (length_at bytes)
length_spends [] = (omega arith, omega arith)
length_spends (byte ∷ bytes) = elim (cases_Bool (byte == 32)) [
  | inl space ↦ rw space (one_more (size_at line_of bytes) (size_spends 1 line_of long_lines bytes))
  | inr other ↦ rw other (omega arith, omega arith)
]
  where
    one_more : (r : Result (Length × List ℕ) Stop) → Spends behind (length bytes) 1 r → Spends behind (length (byte ∷ bytes)) 2 r
    one_more (Ok x) h = (omega arith, omega arith)
    one_more (Err s) h = (omega arith, omega arith)

rest_spends : (cols rows : ℕ) (len : Length) (bytes : List ℕ) → Spends behind (length bytes) 7 (rest_of_line cols rows len bytes)
rest_spends cols rows len bytes = spends_bind length behind (length bytes) 7 0 (after_text (10 ∷ codes "moves ") bytes)
    (λ rest. Ok (record { cols = cols; rows = rows; len = len }, rest))
    (after_text_spends (10 ∷ codes "moves ") bytes) (λ rest read. (omega arith, omega arith))

length_on_spends : (cols rows : ℕ) (bytes : List ℕ) → Spends behind (length bytes) 9 (length_on cols rows bytes)
length_on_spends cols rows bytes = spends_bind behind behind (length bytes) 2 7 (length_at bytes) (λ len. rest_of_line cols rows len.0 len.1)
    (length_spends bytes) (λ len read. rest_spends cols rows len.0 len.1)

rows_spend : (cols : ℕ) (bytes : List ℕ) → Spends behind (length bytes) 11 (rows_on cols bytes)
rows_spend cols bytes = spends_bind behind behind (length bytes) 2 9 (size_at rows_of bytes) (λ rows. length_on cols rows.0 rows.1)
    (size_spends 2 rows_of long_rows bytes) (λ rows read. length_on_spends cols rows.0 rows.1)

gap_spends : (cols : ℕ) (bytes : List ℕ) → Spends behind (length bytes) 12 (gap_on cols bytes)
gap_spends cols bytes = spends_bind length behind (length bytes) 1 11 (after_text (codes " ") bytes) (λ gap. rows_on cols gap)
    (after_text_spends (codes " ") bytes) (λ gap read. rows_spend cols gap)

cols_spend : (bytes : List ℕ) → Spends behind (length bytes) 14 (cols_on bytes)
cols_spend bytes = spends_bind behind behind (length bytes) 2 12 (size_at cols_of bytes) (λ cols. gap_on cols.0 cols.1)
    (size_spends 2 cols_of long_cols bytes) (λ cols read. gap_spends cols.0 cols.1)

pub board_spends : (bytes : List ℕ) → Spends behind (length bytes) 20 (board_at bytes)
board_spends bytes = rw (board_at_steps bytes) (spends_bind length behind (length bytes) 6 14 (after_text (codes "board ") bytes) (λ head. cols_on head)
    (after_text_spends (codes "board ") bytes) (λ head read. cols_spend head))

-- with more bytes behind
abbrev pub with_rest : {A : Type 0} → List ℕ → A × List ℕ → A × List ℕ
with_rest ys x = (x.0, x.1 ++ ys)

length_more : (bytes ys : List ℕ) → 3 ≤ length bytes → length_at (bytes ++ ys) ≡ with_more (with_rest ys) (length ys) (length_at bytes)
length_more [] ys h = absurd (omega arith)
length_more (byte ∷ bytes) ys h = elim (cases_Bool (byte == 32)) [
  | inl space ↦ rw space (size_more 1 line_of long_lines bytes ys (omega arith))
  | inr other ↦ rw other refl
]

rest_more : (cols rows : ℕ) (len : Length) (bytes ys : List ℕ) → 7 ≤ length bytes
    → rest_of_line cols rows len (bytes ++ ys) ≡ with_more (with_rest ys) (length ys) (rest_of_line cols rows len bytes)
rest_more cols rows len bytes ys h =
    ap (λ r. r >>= λ rest. Ok (record { cols = cols; rows = rows; len = len }, rest)) (after_text_more (10 ∷ codes "moves ") bytes ys h)
    ∙ more_bind (λ rest. rest ++ ys) (with_rest ys) (length ys) (after_text (10 ∷ codes "moves ") bytes)
    (λ rest. Ok (record { cols = cols; rows = rows; len = len }, rest)) (λ rest. Ok (record { cols = cols; rows = rows; len = len }, rest))
    (λ rest read. refl)

length_on_more : (cols rows : ℕ) (bytes ys : List ℕ) → 9 ≤ length bytes
    → length_on cols rows (bytes ++ ys) ≡ with_more (with_rest ys) (length ys) (length_on cols rows bytes)
length_on_more cols rows bytes ys h =
    ap (λ r. r >>= λ len. rest_of_line cols rows len.0 len.1) (length_more bytes ys (omega arith))
    ∙ more_bind (with_rest ys) (with_rest ys) (length ys) (length_at bytes) (λ len. rest_of_line cols rows len.0 len.1)
    (λ len. rest_of_line cols rows len.0 len.1)
    (λ len read. let spent = subst (Spends behind (length bytes) 2) read (length_spends bytes) in rest_more cols rows len.0 len.1 ys (omega arith))

rows_more : (cols : ℕ) (bytes ys : List ℕ) → 11 ≤ length bytes → rows_on cols (bytes ++ ys) ≡ with_more (with_rest ys) (length ys) (rows_on cols bytes)
rows_more cols bytes ys h =
    ap (λ r. r >>= λ rows. length_on cols rows.0 rows.1) (size_more 2 rows_of long_rows bytes ys (omega arith))
    ∙ more_bind (with_rest ys) (with_rest ys) (length ys) (size_at rows_of bytes) (λ rows. length_on cols rows.0 rows.1)
    (λ rows. length_on cols rows.0 rows.1)
    (λ rows read. let spent = subst (Spends behind (length bytes) 2) read (size_spends 2 rows_of long_rows bytes) in
    length_on_more cols rows.0 rows.1 ys (omega arith))

gap_more : (cols : ℕ) (bytes ys : List ℕ) → 12 ≤ length bytes → gap_on cols (bytes ++ ys) ≡ with_more (with_rest ys) (length ys) (gap_on cols bytes)
gap_more cols bytes ys h =
    ap (λ r. r >>= λ gap. rows_on cols gap) (after_text_more (codes " ") bytes ys (omega arith))
    ∙ more_bind (λ rest. rest ++ ys) (with_rest ys) (length ys) (after_text (codes " ") bytes) (λ gap. rows_on cols gap) (λ gap. rows_on cols gap)
    (λ gap read. let spent = subst (Spends length (length bytes) 1) read (after_text_spends (codes " ") bytes) in rows_more cols gap ys (omega arith))

cols_more : (bytes ys : List ℕ) → 14 ≤ length bytes → cols_on (bytes ++ ys) ≡ with_more (with_rest ys) (length ys) (cols_on bytes)
cols_more bytes ys h =
    ap (λ r. r >>= λ cols. gap_on cols.0 cols.1) (size_more 2 cols_of long_cols bytes ys (omega arith))
    ∙ more_bind (with_rest ys) (with_rest ys) (length ys) (size_at cols_of bytes) (λ cols. gap_on cols.0 cols.1) (λ cols. gap_on cols.0 cols.1)
    (λ cols read. let spent = subst (Spends behind (length bytes) 2) read (size_spends 2 cols_of long_cols bytes) in gap_more cols.0 cols.1 ys (omega arith))

pub board_more : (bytes ys : List ℕ) → 20 ≤ length bytes → board_at (bytes ++ ys) ≡ with_more (with_rest ys) (length ys) (board_at bytes)
board_more bytes ys h =
    board_at_steps (bytes ++ ys)
    ∙ ap (λ r. r >>= λ head. cols_on head) (after_text_more (codes "board ") bytes ys (omega arith))
    ∙ more_bind (λ rest. rest ++ ys) (with_rest ys) (length ys) (after_text (codes "board ") bytes) (λ head. cols_on head) (λ head. cols_on head)
    (λ head read. let spent = subst (Spends length (length bytes) 6) read (after_text_spends (codes "board ") bytes) in cols_more head ys (omega arith))
    ∙ ap (with_more (with_rest ys) (length ys)) (sym (board_at_steps bytes))

-- ---- what a line that was read says

rest_gives : (cols rows : ℕ) (len : Length) (bytes : List ℕ) (x : Board × List ℕ) → rest_of_line cols rows len bytes ≡ Ok x
    → (x.0 ≡ record { cols = cols; rows = rows; len = len }) × (bytes ≡ (10 ∷ codes "moves ") ++ x.1)
rest_gives cols rows len bytes x h =
    let read = bind_ok (after_text (10 ∷ codes "moves ") bytes) (λ rest. Ok (record { cols = cols; rows = rows; len = len }, rest)) x h in
    let pair : (record { cols = cols; rows = rows; len = len }, read.0) ≡ x = cc (read.2) in (
      sym (ap (λ (x : Board × List ℕ). x.0) pair),
      after_text_gives (10 ∷ codes "moves ") bytes read.0 read.1 ∙ ap (λ (x : Board × List ℕ). (10 ∷ codes "moves ") ++ x.1) pair,
    )

-- `5` alone says a length
pub line_gives : (run : List ℕ) (len : Length) → line_of run ≡ Some len → (len ≡ Five) × (run ≡ codes "5")
line_gives [] len h = cc
line_gives (a ∷ []) len h = elim (chosen (a == 53) (Some Five) None (Some len) h) [
  | inl five ↦ (cc five.1, ap (λ a. a ∷ []) (eqb-true a 53 five.0))
  | inr other ↦ absurd (cc other.1)
]
line_gives (a ∷ b ∷ run) len h = cc

pub length_gives : (bytes : List ℕ) (x : Length × List ℕ) → length_at bytes ≡ Ok x → bytes ≡ length_text x.0 ++ x.1
length_gives [] x h = let pair : (Four, []) ≡ x = cc in ap (λ (x : Length × List ℕ). length_text x.0 ++ x.1) pair
length_gives (byte ∷ bytes) x h = elim (chosen (byte == 32) (size_at line_of bytes) (Ok (Four, byte ∷ bytes)) (Ok x) h) [
  | inl space ↦
      let size = size_gives 1 line_of long_lines bytes x space.1 in
      let line = line_gives (take_while is_digit bytes) x.0 size.0 in
      ap (λ byte. byte ∷ bytes) (eqb-true byte 32 space.0) ∙ ap (λ bytes. 32 ∷ bytes) (size.1 ∙ ap (λ run. run ++ x.1) line.1)
      ∙ ap (λ len. length_text len ++ x.1) (sym line.0)
  | inr other ↦ let pair : (Four, byte ∷ bytes) ≡ x = cc other.1 in ap (λ (x : Length × List ℕ). length_text x.0 ++ x.1) pair
]

length_on_gives : (cols rows : ℕ) (bytes : List ℕ) (x : Board × List ℕ) → length_on cols rows bytes ≡ Ok x
    → (x.0.cols ≡ cols) × (x.0.rows ≡ rows) × (bytes ≡ length_text x.0.len ++ ((10 ∷ codes "moves ") ++ x.1))
length_on_gives cols rows bytes x h =
    let read = bind_ok (length_at bytes) (λ len. rest_of_line cols rows len.0 len.1) x h in
    let rest = rest_gives cols rows read.0.0 read.0.1 x read.2 in (
      ap (λ (b : Board). b.cols) rest.0,
      ap (λ (b : Board). b.rows) rest.0,
      length_gives bytes read.0 read.1 ∙ ap (λ len. length_text len ++ read.0.1) (sym (ap (λ (b : Board). b.len) rest.0))
          ∙ ap (λ more. length_text x.0.len ++ more) rest.1,
    )

rows_on_gives : (cols : ℕ) (bytes : List ℕ) (x : Board × List ℕ) → rows_on cols bytes ≡ Ok x
    → (is_rows x.0.rows ≡ true) × (x.0.cols ≡ cols) × (bytes ≡ decimal x.0.rows ++ (length_text x.0.len ++ ((10 ∷ codes "moves ") ++ x.1)))
rows_on_gives cols bytes x h =
    let read = bind_ok (size_at rows_of bytes) (λ rows. length_on cols rows.0 rows.1) x h in
    let size = size_gives 2 rows_of long_rows bytes read.0 read.1 in
    let number = rows_give (take_while is_digit bytes) read.0.0 size.0 in
    let rest = length_on_gives cols read.0.0 read.0.1 x read.2 in (
      rw (rest.1) number.0,
      rest.0,
      size.1
          ∙ ap (λ run. run ++ read.0.1) (number.1 ∙ ap decimal (sym rest.1)) ∙ ap (λ more. decimal x.0.rows ++ more) rest.2,
    )

gap_gives : (cols : ℕ) (bytes : List ℕ) (x : Board × List ℕ) → gap_on cols bytes ≡ Ok x
    → (is_rows x.0.rows ≡ true) × (x.0.cols ≡ cols)
    × (bytes ≡ codes " " ++ (decimal x.0.rows ++ (length_text x.0.len ++ ((10 ∷ codes "moves ") ++ x.1))))
gap_gives cols bytes x h =
    let read = bind_ok (after_text (codes " ") bytes) (λ gap. rows_on cols gap) x h in
    let rows = rows_on_gives cols read.0 x read.2 in
    (rows.0, rows.1, after_text_gives (codes " ") bytes read.0 read.1 ∙ ap (λ more. codes " " ++ more) rows.2)

cols_on_gives : (bytes : List ℕ) (x : Board × List ℕ) → cols_on bytes ≡ Ok x
    → (is_board x.0 ≡ true)
    × (bytes ≡ decimal x.0.cols ++ (codes " " ++ (decimal x.0.rows ++ (length_text x.0.len ++ ((10 ∷ codes "moves ") ++ x.1)))))
cols_on_gives bytes x h =
    let read = bind_ok (size_at cols_of bytes) (λ cols. gap_on cols.0 cols.1) x h in
    let size = size_gives 2 cols_of long_cols bytes read.0 read.1 in
    let number = cols_give (take_while is_digit bytes) read.0.0 size.0 in
    let gap = gap_gives read.0.0 read.0.1 x read.2 in (
      and_from _ _ (rw (gap.1) number.0) gap.0,
      size.1 ∙ ap (λ run. run ++ read.0.1) (number.1 ∙ ap decimal (sym gap.1)) ∙ ap (λ more. decimal x.0.cols ++ more) gap.2,
    )

-- the parts of the line, put together
pub line_parted : (cols rows len rest : List ℕ) → codes "board " ++ (cols ++ (codes " " ++ (rows ++ (len ++ rest))))
    ≡ (codes "board " ++ (cols ++ (codes " " ++ (rows ++ len)))) ++ rest
line_parted cols rows len rest = sym (append_assoc (codes "board ") (cols ++ (codes " " ++ (rows ++ len))) rest ∙ ap (λ more. codes "board " ++ more)
    (append_assoc cols (codes " " ++ (rows ++ len)) rest ∙ ap (λ more. cols ++ more)
    (append_assoc (codes " ") (rows ++ len) rest ∙ ap (λ more. codes " " ++ more) (append_assoc rows len rest))))

-- the board is one, and its line is its spelling
pub board_gives : (bytes : List ℕ) (x : Board × List ℕ) → board_at bytes ≡ Ok x
    → (is_board x.0 ≡ true) × (bytes ≡ board_line x.0 ++ (10 ∷ (codes "moves " ++ x.1)))
board_gives bytes x h =
    let read = bind_ok (after_text (codes "board ") bytes) cols_on x (sym (board_at_steps bytes) ∙ h) in
    let cols = cols_on_gives read.0 x read.2 in (
      cols.0,
      after_text_gives (codes "board ") bytes read.0 read.1 ∙ ap (λ more. codes "board " ++ more) cols.1
          ∙ line_parted (decimal x.0.cols) (decimal x.0.rows) (length_text x.0.len) ((10 ∷ codes "moves ") ++ x.1),
    )

-- ---- what is spelled so is read

pub size_of : {X : Type 0} (spelled : List ℕ → Option X) (run rest : List ℕ) (n : X) → spelled run ≡ Some n → prefix_len is_digit run ≡ length run
    → prefix_len is_digit rest ≡ 0
    → size_at spelled (run ++ rest) ≡ Ok (n, rest)
size_of spelled run rest n h digits other =
    let size : prefix_len is_digit (run ++ rest) ≡ length run = prefix_len-append is_digit run rest
    ∙ at (prefix_len is_digit run == length run) (eq-eqb _ _ digits) in
    let prefix : take_while is_digit (run ++ rest) ≡ run = ap (λ n. take n (run ++ rest)) size ∙ take-append_seam run rest in
    ap (λ prefix. read_as (spelled prefix) (drop (length prefix) (run ++ rest)) (run ++ rest)) prefix
    ∙ ap (λ n. read_as n (drop (length run) (run ++ rest)) (run ++ rest)) h
    ∙ ap (λ rest. Ok (n, rest)) (drop-append_seam run rest)
  where
    at : (b : Bool) → b ≡ true → cond b (length run + prefix_len is_digit rest) (prefix_len is_digit run) ≡ length run
    at b e = rw (e, other) (omega arith)

-- the digits of a number of columns or rows
pub cols_spelled : (n : ℕ) → is_cols n ≡ true → (cols_of (decimal n) ≡ Some n) × (prefix_len is_digit (decimal n) ≡ length (decimal n))
cols_spelled n h =
    let both = and_parts (nat_le 4 n) (nat_le n 10) h in
    elim (cases_lt n 10) [
      | inl digit ↦
          let low : 4 ≤ n = leb-true 4 n both.0 in
          let back : (48 + n) - 48 ≡ n = omega arith in
          rw (
            decimal_digit n digit,
            and_from _ _ (le-leb 52 (48 + n) (omega arith)) (le-leb (48 + n) 57 (omega arith)),
            le-leb 48 (48 + n) (omega arith),
            le-leb (48 + n) 57 (omega arith),
            back,
          ) (refl, refl)
      | inr ten ↦
          let high : n ≤ 10 = leb-true n 10 both.1 in
          let same : n ≡ 10 = omega arith in
          rw (same, decimal_ten) (refl, refl)
    ]

pub rows_spelled : (n : ℕ) → is_rows n ≡ true → (rows_of (decimal n) ≡ Some n) × (prefix_len is_digit (decimal n) ≡ length (decimal n))
rows_spelled n h = elim (or_cases (n == 4 || n == 6 || n == 8) (n == 10) h) [
  | inr ten ↦ rw (eqb-true n 10 ten, decimal_ten) (refl, refl)
  | inl less ↦ elim (or_cases (n == 4 || n == 6) (n == 8) less) [
    | inr eight ↦ rw (eqb-true n 8 eight, decimal_digit 8 (lit< tt)) (refl, refl)
    | inl least ↦ elim (or_cases (n == 4) (n == 6) least) [
      | inl four ↦ rw (eqb-true n 4 four, decimal_digit 4 (lit< tt)) (refl, refl)
      | inr six ↦ rw (eqb-true n 6 six, decimal_digit 6 (lit< tt)) (refl, refl)
    ]
  ]
]

-- where the digits end, and lines of four aren't told by a space
pub length_of : (len : Length) (rest : List ℕ) → prefix_len is_digit rest ≡ 0 → (len ≡ Four → IsOther 32 rest)
    → length_at (length_text len ++ rest) ≡ Ok (len, rest)
length_of Four [] ends other = refl
length_of Four (byte ∷ rest) ends other = rw (ne_eqb byte 32 (other refl)) refl
length_of Five rest ends other = size_of line_of (codes "5") rest Five refl refl ends

-- no digit stands behind the rows
pub length_ends_rows : (len : Length) (rest : List ℕ) → prefix_len is_digit rest ≡ 0 → prefix_len is_digit (length_text len ++ rest) ≡ 0
length_ends_rows Four rest ends = ends
length_ends_rows Five rest ends = refl

-- the spelling of a board is read
pub board_of_spelling : (board : Board) (rest : List ℕ) → is_board board ≡ true
    → board_at (board_line board ++ (10 ∷ (codes "moves " ++ rest))) ≡ Ok (board, rest)
board_of_spelling board rest h =
    let both = and_parts (is_cols board.cols) (is_rows board.rows) h in
    let cols = cols_spelled board.cols both.0 in
    let rows = rows_spelled board.rows both.1 in
    let list : List ℕ = 10 ∷ (codes "moves " ++ rest) in
    let len : List ℕ = length_text board.len ++ list in
    board_at_steps (board_line board ++ list)
    ∙ ap (λ bytes. after_text (codes "board ") bytes >>= cols_on) (sym (line_parted (decimal board.cols) (decimal board.rows) (length_text board.len) list))
    ∙ ap (λ r. r >>= cols_on) (after_text_of (codes "board ") (decimal board.cols ++ (codes " " ++ (decimal board.rows ++ len))))
    ∙ ap (λ r. r >>= λ cols. gap_on cols.0 cols.1)
    (size_of cols_of (decimal board.cols) (codes " " ++ (decimal board.rows ++ len)) board.cols cols.0 cols.1 refl)
    ∙ ap (λ r. r >>= λ gap. rows_on board.cols gap) (after_text_of (codes " ") (decimal board.rows ++ len))
    ∙ ap (λ r. r >>= λ rows. length_on board.cols rows.0 rows.1)
    (size_of rows_of (decimal board.rows) len board.rows rows.0 rows.1 (length_ends_rows board.len list refl))
    ∙ ap (λ r. r >>= λ len. rest_of_line board.cols board.rows len.0 len.1) (length_of board.len list refl (λ four (e : 10 ≡ 32). omega arith))
    ∙ ap (λ r. r >>= λ rest. Ok (board, rest)) (after_text_of (10 ∷ codes "moves ") rest)
