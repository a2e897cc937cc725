-- The columns of a set, found one by one by the first square of what is left of it.
use Rattle.std.proofs.Common.{◌≡◌, ℕ, ◌<◌, ◌==◌, Bool, true, false, not, ◌&&◌, ◌||◌, List, [], ◌∷◌, length, filter, Some, None, slice_get, refl, sym, ap, ◌∙◌}
use Rattle.std.proofs.Common.{inl, inr, arith}
use Rattle.std.specs.List.{list_any}
use Rattle.std.proofs.lemmas.Bool.{cases_Bool, and_parts, and_from, eqb-true, eq-eqb, both_ways, false_from_ne_true}
use Rattle.std.proofs.lemmas.List.Filters.{length-filter_both}
use Rattle.std.proofs.lemmas.Option.{none-some, same_Some}
use Rattle.game_rules.specs.Board.{Square, on_board}
use Rattle.game_rules.specs.Squares.{has_square, squares_of_board, squares_where, widest, IsSetOf}
use Rattle.game_rules.proofs.Lists.{any_gives, any_from}
use Rattle.game_rules.proofs.Narrowed.{filter_both}
use Rattle.game_rules.proofs.Squares.{agree, has_gives, has_from, has_where, where_same, set_on, set_same}
use Rattle.board_squares.specs.WholeColumns.{in_columns_of}
use Rattle.board_squares.specs.Words.{has_bit, squares_of}

-- the squares of a number are those that they have
pub own_set : (n : ℕ) → IsSetOf (has_square (squares_of n)) (squares_of n)
own_set n = record { in_order = where_same (has_bit n) (has_square (squares_of n)) (λ u on. sym (has_where (has_bit n) u on)); has = λ u. refl }

-- where the first one fails, fewer pass than there are
fewer : {X : Type 0} (test : X → Bool) (xs : List X) (x : X) → slice_get xs 0 ≡ Some x → test x ≡ false → length (filter test xs) < length xs
fewer test [] x first fails = absurd (none-some x first)
fewer test (y ∷ ys) x first fails =
    rw (ap test (same_Some y x first) ∙ fails) (omega (arith, length-filter_both test (λ z. not (test z)) (λ z. refl) ys))

pub fewer_left : (rest column less : List Square) (first : Square) → IsSetOf (has_square rest) rest → slice_get rest 0 ≡ Some first
    → has_square column first ≡ true
    → IsSetOf (λ u. has_square rest u && not (has_square column u)) less → length less < length rest
unfolding squares_where
fewer_left rest column less first own is has made = rw same (fewer (λ u. not (has_square column u)) rest first is (ap not has))
  where
    same : less ≡ filter (λ u. not (has_square column u)) rest
    same = made.in_order ∙ sym (filter_both (has_square rest) (λ u. not (has_square column u)) (squares_of_board widest))
        ∙ ap (filter (λ u. not (has_square column u))) (sym own.in_order)

-- what is left without a column has all other columns
pub column_apart : (rest column less : List Square) (first u : Square) → has_square rest first ≡ true
    → ((v : Square) → has_square column v ≡ (on_board widest v && (first.0 == v.0)))
    → ((v : Square) → has_square less v ≡ (has_square rest v && not (has_square column v)))
    → (has_square column u || in_columns_of less u) ≡ in_columns_of rest u
column_apart rest column less first u has whole made = agree _ _ there back
  where
    there : (has_square column u || in_columns_of less u) ≡ true → in_columns_of rest u ≡ true
    there h = elim (cases_Bool (has_square column u)) [
      | inl in_it ↦
          let both = and_parts (on_board widest u) (first.0 == u.0) (sym (whole u) ∙ in_it) in
          and_from _ _ both.0 (any_from (λ v. v.0 == u.0) rest first (has_gives rest first has) both.1)
      | inr out ↦
          let both = and_parts (on_board widest u) (list_any (λ v. v.0 == u.0) less) (ap (λ b. b || in_columns_of less u) (sym out) ∙ h) in
          let found = any_gives (λ v. v.0 == u.0) less both.1 in
          let of_rest = (and_parts (has_square rest found.0) _ (sym (made found.0) ∙ has_from less found.0 found.1)).0 in
          and_from _ _ both.0 (any_from (λ v. v.0 == u.0) rest found.0 (has_gives rest found.0 of_rest) found.2)
    ]

    back : in_columns_of rest u ≡ true → (has_square column u || in_columns_of less u) ≡ true
    back h =
        let both = and_parts (on_board widest u) (list_any (λ v. v.0 == u.0) rest) h in
        let found = any_gives (λ v. v.0 == u.0) rest both.1 in
        elim (cases_Bool (has_square column u)) [
          | inl in_it ↦ ap (λ b. b || in_columns_of less u) in_it
          | inr out ↦
              let apart : has_square column found.0 ≡ false = whole found.0 ∙ other found.0 (eqb-true found.0.0 u.0 found.2) out in
              let of_less = made found.0 ∙ and_from _ _ (has_from rest found.0 found.1) (ap not apart) in
              ap (λ b. b || in_columns_of less u) out ∙ and_from _ _ both.0 (any_from (λ v. v.0 == u.0) less found.0 (has_gives less found.0 of_less) found.2)
        ]
      where
        fails : (on same : Bool) → on ≡ true → (on && same) ≡ false → same ≡ false
        fails true same is h = h
        fails false same is h = absurd (both_ways false refl is)

        none : (on same : Bool) → same ≡ false → (on && same) ≡ false
        none true same h = h
        none false same h = refl

        other : (v : Square) → v.0 ≡ u.0 → has_square column u ≡ false → (on_board widest v && (first.0 == v.0)) ≡ false
        other v same out = none (on_board widest v) (first.0 == v.0)
            (ap (λ n. first.0 == n) same ∙ fails (on_board widest u) (first.0 == u.0) (and_parts (on_board widest u) _ h).0 (sym (whole u) ∙ out))

-- nothing is left of the columns where no square is
pub none_left : (rest : List Square) (u : Square) (none : slice_get rest 0 ≡ None) → in_columns_of rest u ≡ false
none_left [] u none = elim (cases_Bool (on_board widest u)) [
  | inl on ↦ ap (λ b. b && false) on
  | inr off ↦ ap (λ b. b && false) off
]
none_left (v ∷ vs) u none = absurd (none-some v (sym none))

-- the first square
pub first_has : (rest : List Square) (first : Square) → slice_get rest 0 ≡ Some first → has_square rest first ≡ true
first_has [] first is = absurd (none-some first is)
first_has (u ∷ us) first is = has_from (u ∷ us) first (inl (same_Some u first is))

pub first_on : (rest : List Square) (first : Square) (column : ℕ) → IsSetOf (has_square rest) rest → slice_get rest 0 ≡ Some first → column ≡ first.0
    → (on_board widest first && (column == first.0)) ≡ true
first_on rest first column own is same = and_from _ _ (set_on (has_square rest) rest own first (first_has rest first is)) (eq-eqb column first.0 same)

-- where there are no squares there are no columns
pub no_columns : (us : List Square) → IsSetOf (λ _. false) us → IsSetOf (in_columns_of us) us
no_columns us none = set_same _ _ us none (λ u. sym (ap (λ b. on_board widest u && b) (no_one u) ∙ neither (on_board widest u)))
  where
    neither : (b : Bool) → (b && false) ≡ false
    neither true = refl
    neither false = refl

    no_one : (u : Square) → list_any (λ v. v.0 == u.0) us ≡ false
    no_one u = false_from_ne_true _
        (λ h. let found = any_gives (λ v. v.0 == u.0) us h in both_ways (has_square us found.0) (none.has found.0) (has_from us found.0 found.1))
