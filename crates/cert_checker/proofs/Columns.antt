-- The columns with room, from a column on, and those that are cited.
use Rattle.std.proofs.Common.{◌≡◌, ℕ, zero, suc, ◌+◌, ◌-◌, ◌<◌, Bool, true, false, cond, List, [], ◌∷◌, filter, get_or, length, refl, sym, ap, ◌∙◌, subst}
use Rattle.std.proofs.Common.{arith}
use Rattle.std.specs.List.{AllByRecursion, range_with_len}
use Rattle.std.specs.Str.{bytes_eq}
use Rattle.game_rules.specs.Position.{Position, has_room, open_columns}
use Rattle.proof_lines.specs.declared.lines.Cite.{Cite}
use Rattle.cert_checker.specs.Checking.{columns_of}

abbrev pub open_from : Position → ℕ → List ℕ
open_from p i = filter (has_room p) (range_with_len i (length p.columns - i))

pub open_step : (p : Position) (i : ℕ) → i < length p.columns → open_from p i ≡ cond (has_room p i) (i ∷ open_from p (i + 1)) (open_from p (i + 1))
open_step p i within =
    let count : length p.columns - i ≡ suc (length p.columns - (i + 1)) = omega arith in
    ap (λ k. filter (has_room p) (range_with_len i k)) count

pub open_yes : (p : Position) (i : ℕ) → i < length p.columns → has_room p i ≡ true → open_from p i ≡ i ∷ open_from p (i + 1)
open_yes p i within room = open_step p i within ∙ ap (λ b. cond b (i ∷ open_from p (i + 1)) (open_from p (i + 1))) room

pub open_no : (p : Position) (i : ℕ) → i < length p.columns → has_room p i ≡ false → open_from p i ≡ open_from p (i + 1)
open_no p i within room = open_step p i within ∙ ap (λ b. cond b (i ∷ open_from p (i + 1)) (open_from p (i + 1))) room

-- ---- the columns cited have room, where they are the open ones

filter_all : (test : ℕ → Bool) (xs : List ℕ) → AllByRecursion (λ x. test x ≡ true) (filter test xs)
filter_all test [] = tt
filter_all test (x ∷ xs) = at (test x) refl (filter_all test xs)
  where
    at : (b : Bool) → test x ≡ b → AllByRecursion (λ x. test x ≡ true) (filter test xs)
        → AllByRecursion (λ x. test x ≡ true) (cond b (x ∷ filter test xs) (filter test xs))
    at true e rest = (e, rest)
    at false e rest = rest

room_at : (p : Position) (cites : List Cite) (i : ℕ) (d : Cite) → AllByRecursion (λ column. has_room p column ≡ true) (columns_of cites) → i < length cites
    → has_room p (get_or cites i d).column ≡ true
room_at p [] i d all within = absurd (omega arith)
room_at p (cite ∷ cites) zero d all within = all.0
room_at p (cite ∷ cites) (suc i) d all within = room_at p cites i d all.1 (omega arith)

pub cited_room : (p : Position) (cites : List Cite) (i : ℕ) (cite : Cite) → columns_of cites ≡ open_columns p → i < length cites → cite ≡ get_or cites i cite
    → has_room p cite.column ≡ true
cited_room p cites i cite same within is =
    ap (λ cite. has_room p cite.column) is
    ∙ room_at p cites i cite (subst (λ columns. AllByRecursion (λ column. has_room p column ≡ true) columns) (sym same)
    (filter_all (has_room p) (range_with_len 0 (length p.columns)))) within

-- ---- one column more

pub column_missed : (p : Position) (i column : ℕ) (left : List ℕ) (b : Bool) → column ≡ i → i < length p.columns → has_room p column ≡ true
    → bytes_eq left (open_from p i) ≡ b
    → ((columns : List ℕ) → bytes_eq left (column ∷ columns) ≡ false) → false ≡ b
column_missed p i column left b is within room same missed =
    sym (subst (λ i. bytes_eq left (i ∷ open_from p (i + 1)) ≡ false) is (missed (open_from p (column + 1))))
    ∙ ap (bytes_eq left) (sym (open_yes p i within (subst (λ i. has_room p i ≡ true) is room))) ∙ same

pub column_cited : (p : Position) (i column : ℕ) (left rest : List ℕ) (b : Bool) → column ≡ i → i < length p.columns → has_room p column ≡ true
    → bytes_eq left (open_from p i) ≡ b
    → ((columns : List ℕ) → bytes_eq left (column ∷ columns) ≡ bytes_eq rest columns) → bytes_eq rest (open_from p (i + 1)) ≡ b
column_cited p i column left rest b is within room same cited =
    sym (subst (λ i. bytes_eq left (i ∷ open_from p (i + 1)) ≡ bytes_eq rest (open_from p (i + 1))) is (cited (open_from p (column + 1))))
    ∙ ap (bytes_eq left) (sym (open_yes p i within (subst (λ i. has_room p i ≡ true) is room))) ∙ same

pub column_closed : (p : Position) (i column : ℕ) (left : List ℕ) (b : Bool) → column ≡ i → i < length p.columns → has_room p column ≡ false
    → bytes_eq left (open_from p i) ≡ b
    → bytes_eq left (open_from p (i + 1)) ≡ b
column_closed p i column left b is within full same = ap (bytes_eq left) (sym (open_no p i within (subst (λ i. has_room p i ≡ false) is full))) ∙ same
