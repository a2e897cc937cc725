-- Which two may stand together, told by sets of squares: whether two zones share a square or a column, and whether a
-- Claimeven is above a zone, each as whether two sets meet.
use Rattle.std.proofs.Common.{◌≡◌, ◌≤◌, Bool, true, not, ◌&&◌, ◌||◌, ◌==◌, nat_lt, nat_le, List, refl, sym, ap, ◌∙◌, inl, inr, arith}
use Rattle.std.specs.List.{list_all, list_any}
use Rattle.std.proofs.lemmas.Bool.{cases_Bool, cases_lt, both_ways, and_parts, and_from, or_cases, or_left, or_right, not-true, not_from_false}
use Rattle.std.proofs.lemmas.Bool.{false_from_ne_true, lt-ltb, ltb-true, le-leb, leb-true, eq-eqb, eqb-true}
use Rattle.game_rules.specs.Board.{Square, on_board}
use Rattle.game_rules.specs.Squares.{has_square, widest, IsSetOf}
use Rattle.game_rules.proofs.Ends.{on_board_parts}
use Rattle.game_rules.proofs.Lists.{any_gives, any_from, all_gives, all_from}
use Rattle.game_rules.proofs.Squares.{agree, has_gives, has_from, set_on}
use Rattle.plan_rules.specs.Rules.{RuleInstance, zone_of, no_shared_square, no_shared_column, is_over, stands_over, together}
use Rattle.plan_rules.proofs.Table.{Apart, left_zoneless, right_zoneless, columns_apart, left_over, right_over, apart_gives, apart_from, no_shared, no_column}
use Rattle.plan_rules.proofs.Table.{zoneless_owns_none}

-- ---- by columns first

-- zones of different columns share no square
columns_give : (us vs : List Square) → no_shared_column us vs ≡ true → no_shared_square us vs ≡ true
columns_give us vs columns = all_from (λ u. not (has_square vs u)) us (λ u among.
    not_from_false _ (false_from_ne_true (has_square vs u) (λ shared. no_column us vs u u columns (has_from us u among) shared refl)))

-- a list without squares shares no column
none_left : (us vs : List Square) → ((u : Square) → has_square us u ≡ true → ⊥) → no_shared_column us vs ≡ true
none_left us vs none = all_from (λ u. list_all (λ v. not (u.0 == v.0)) vs) us (λ u among. absurd (none u (has_from us u among)))

none_right : (us vs : List Square) → ((v : Square) → has_square vs v ≡ true → ⊥) → no_shared_column us vs ≡ true
none_right us vs none = all_from (λ u. list_all (λ v. not (u.0 == v.0)) vs) us
    (λ u _. all_from (λ v. not (u.0 == v.0)) vs (λ v among. absurd (none v (has_from vs v among))))

-- Two may stand together exactly where they share no column, or share no square and one is over the other. So of two
-- that share no column nothing else has to be asked, whether they own a zone or not.
pub together_by_columns : (v w : RuleInstance)
    → together v w ≡ (no_shared_column (zone_of v) (zone_of w) || (no_shared_square (zone_of v) (zone_of w) && (stands_over v w || stands_over w v)))
together_by_columns v w = agree _ _ (λ h. to (apart_gives v w h)) from
  where
    to : Apart v w → (no_shared_column (zone_of v) (zone_of w) || (no_shared_square (zone_of v) (zone_of w) && (stands_over v w || stands_over w v))) ≡ true
    to (left_zoneless h) = or_left _ _ (none_left (zone_of v) (zone_of w) (zoneless_owns_none v h))
    to (right_zoneless h) = or_left _ _ (none_right (zone_of v) (zone_of w) (zoneless_owns_none w h))
    to (columns_apart squares columns) = or_left _ _ columns
    to (left_over squares over) = or_right _ _ (and_from _ _ squares (or_left _ _ over))
    to (right_over squares over) = or_right _ _ (and_from _ _ squares (or_right _ _ over))

    from : (no_shared_column (zone_of v) (zone_of w) || (no_shared_square (zone_of v) (zone_of w) && (stands_over v w || stands_over w v))) ≡ true
        → together v w ≡ true
    from h = elim (or_cases _ _ h) [
      | inl columns ↦ apart_from v w (columns_apart (columns_give (zone_of v) (zone_of w) columns) columns)
      | inr over ↦ let both = and_parts _ _ over in elim (or_cases (stands_over v w) (stands_over w v) both.1) [
        | inl left ↦ apart_from v w (left_over both.0 left)
        | inr right ↦ apart_from v w (right_over both.0 right)
      ]
    ]

-- ---- as sets that meet

-- two sets meet
abbrev meets : List Square → List Square → Bool
meets a b = list_any (has_square b) a

meets_from : (a b : List Square) (u : Square) → has_square a u ≡ true → has_square b u ≡ true → meets a b ≡ true
meets_from a b u in_a in_b = any_from (has_square b) a u (has_gives a u in_a) in_b

pub squares_by_sets : (us vs a b : List Square) → IsSetOf (has_square us) a → IsSetOf (has_square vs) b
    → no_shared_square us vs ≡ not (list_any (has_square b) a)
squares_by_sets us vs a b left right = agree _ _ to from
  where
    to : no_shared_square us vs ≡ true → not (meets a b) ≡ true
    to apart = not_from_false _ (false_from_ne_true (meets a b) (λ h.
        let found = any_gives (has_square b) a h in
        no_shared us vs found.0 apart (sym (left.has found.0) ∙ has_from a found.0 found.1) (sym (right.has found.0) ∙ found.2)))

    from : not (meets a b) ≡ true → no_shared_square us vs ≡ true
    from h = all_from (λ u. not (has_square vs u)) us (λ u among. not_from_false _ (false_from_ne_true (has_square vs u) (λ shared.
        both_ways (meets a b) (not-true _ h) (meets_from a b u (left.has u ∙ has_from us u among) (right.has u ∙ shared)))))

-- the whole columns of one set, and the other
pub columns_by_sets : (us vs a b columns : List Square) → IsSetOf (has_square us) a → IsSetOf (has_square vs) b
    → IsSetOf (λ u. on_board widest u && list_any (λ v. v.0 == u.0) a) columns
    → no_shared_column us vs ≡ not (list_any (has_square b) columns)
columns_by_sets us vs a b columns left right whole = agree _ _ to from
  where
    to : no_shared_column us vs ≡ true → not (meets columns b) ≡ true
    to apart = not_from_false _ (false_from_ne_true (meets columns b) (λ h.
        let found = any_gives (has_square b) columns h in
        let both = and_parts (on_board widest found.0) _ (sym (whole.has found.0) ∙ has_from columns found.0 found.1) in
        let beside = any_gives (λ v. v.0 == found.0.0) a both.1 in
        no_column us vs beside.0 found.0 apart (sym (left.has beside.0) ∙ has_from a beside.0 beside.1) (sym (right.has found.0) ∙ found.2)
        (eqb-true beside.0.0 found.0.0 beside.2)))

    from : not (meets columns b) ≡ true → no_shared_column us vs ≡ true
    from h = all_from (λ u. list_all (λ v. not (u.0 == v.0)) vs) us
        (λ u in_u. all_from (λ v. not (u.0 == v.0)) vs (λ v in_v. not_from_false _ (false_from_ne_true (u.0 == v.0) (λ same.
        let in_b = right.has v ∙ has_from vs v in_v in
        let in_column = any_from (λ u. u.0 == v.0) a u (has_gives a u (left.has u ∙ has_from us u in_u)) same in
        both_ways (meets columns b) (not-true _ h)
        (meets_from columns b v (whole.has v ∙ and_from _ _ (set_on (has_square vs) b right v (has_from vs v in_v)) in_column) in_b)))))

-- the column part from a square up, and the set that the square is to be above
pub over_by_sets : (x : Square) (us a up : List Square) (top : Square) → IsSetOf (has_square us) a
    → IsSetOf (λ u. (u.0 == x.0) && (nat_le x.1 u.1 && nat_le u.1 top.1)) up → 10 ≤ top.1
    → is_over x us ≡ not (list_any (has_square a) up)
over_by_sets x us a up top set part high = agree _ _ to from
  where
    to : is_over x us ≡ true → not (meets up a) ≡ true
    to over = not_from_false _ (false_from_ne_true (meets up a) (λ h.
        let found = any_gives (has_square a) up h in
        let column = and_parts (found.0.0 == x.0) _ (sym (part.has found.0) ∙ has_from up found.0 found.1) in
        let rows = and_parts (nat_le x.1 found.0.1) (nat_le found.0.1 top.1) column.1 in
        let in_us = sym (set.has found.0) ∙ found.2 in
        not_over found.0 (eqb-true found.0.0 x.0 column.0) (leb-true x.1 found.0.1 rows.0)
        (all_gives (λ u. not (x.0 == u.0) || nat_lt u.1 x.1) us found.0 over (has_gives us found.0 in_us))))
      where
        not_over : (u : Square) → u.0 ≡ x.0 → x.1 ≤ u.1 → (not (x.0 == u.0) || nat_lt u.1 x.1) ≡ true → ⊥
        not_over u same low h = elim (or_cases (not (x.0 == u.0)) (nat_lt u.1 x.1) h) [
          | inl other ↦ both_ways (x.0 == u.0) (not-true _ other) (eq-eqb x.0 u.0 (sym same))
          | inr under ↦ let less = ltb-true u.1 x.1 under in omega (arith, less)
        ]

    from : not (meets up a) ≡ true → is_over x us ≡ true
    from h = all_from (λ u. not (x.0 == u.0) || nat_lt u.1 x.1) us (λ u among. elim (cases_Bool (x.0 == u.0)) [
      | inr other ↦ or_left _ _ (not_from_false _ other)
      | inl same ↦ elim (cases_lt u.1 x.1) [
        | inl under ↦ or_right _ _ (lt-ltb u.1 x.1 under)
        | inr above ↦
            let in_us = has_from us u among in
            let on = on_board_parts widest u.0 u.1 (set_on (has_square us) a set u in_us) in
            let in_up = part.has u ∙ and_from _ _ (eq-eqb u.0 x.0 (sym (eqb-true x.0 u.0 same)))
            (and_from _ _ (le-leb x.1 u.1 above) (le-leb u.1 top.1 (omega (arith, on.2)))) in
            absurd (both_ways (meets up a) (not-true _ h) (meets_from up a u in_up (set.has u ∙ in_us)))
      ]
    ])

-- ---- the table

-- of two instances with the sets of squares that they own, and the columns of the first one
pub together_of_sets : (v w : RuleInstance) (a b columns : List Square) → IsSetOf (has_square (zone_of v)) a → IsSetOf (has_square (zone_of w)) b
    → IsSetOf (λ u. on_board widest u && list_any (λ s. s.0 == u.0) a) columns
    → together v w ≡ (not (list_any (has_square b) columns) || (not (list_any (has_square b) a) && (stands_over v w || stands_over w v)))
together_of_sets v w a b columns left right whole =
    together_by_columns v w
    ∙ ap (λ apart. apart || (no_shared_square (zone_of v) (zone_of w) && (stands_over v w || stands_over w v)))
    (columns_by_sets (zone_of v) (zone_of w) a b columns left right whole)
    ∙ ap (λ apart. not (list_any (has_square b) columns) || (apart && (stands_over v w || stands_over w v)))
    (squares_by_sets (zone_of v) (zone_of w) a b left right)
