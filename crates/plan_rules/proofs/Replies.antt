-- Where a rule names no square to reply with.
use Rattle.std.proofs.Common.{◌≡◌, ◌≢◌, ◌⊎◌, ℕ, zero, suc, ◌+◌, ◌-◌, ◌<◌, ◌≤◌, Bool, true, false, not, nat_lt, ◌&&◌, ◌||◌, ◌==◌, List, ◌++◌, Option, Some, None}
use Rattle.std.proofs.Common.{is_none, is_some, refl, sym, ap, ◌∙◌, subst, arith, cond, inl, inr}
use Rattle.std.specs.List.{list_any}
use Rattle.std.proofs.lemmas.List.Folds.{list_any-append}
use Rattle.std.proofs.Math.Bool.{or-false}
use Rattle.std.proofs.lemmas.Bool.{cases_lt, and_parts, eqb-true, eq-eqb, ne_eqb, ltb-true, leb-true, cond-true, cond-false, false_from_ne_true}
use Rattle.game_rules.specs.Board.{Square}
use Rattle.game_rules.specs.Position.{Position, board_of, height, has_room, lowest_empty}
use Rattle.game_rules.specs.Squares.{same_square, has_square, is_empty}
use Rattle.game_rules.proofs.Squares.{same_square_is, same_square_refl, has_gives, has_from}
use Rattle.plan_rules.specs.Squares.{above, span, column_up}
use Rattle.plan_rules.specs.Causes.{names_twins, is_top, is_full_beside, names_no_reply}
use Rattle.plan_rules.specs.Rules.{RuleInstance, kind_of, claimeven, baseinverse, lowinverse, highinverse, baseclaim, vertical, aftereven, before}
use Rattle.plan_rules.specs.Rules.{specialbefore, zone_of, is_low_column, has_shape, twin_of, high_reply, low_reply, reply_to, has_no_answer}
use Rattle.plan_rules.proofs.Squares.{other_row, same_place, has_append, has_left, has_right, column_gives, column_from}

-- what the rule says of each square
abbrev IsNamed : RuleInstance → Position → Square → Type 0
IsNamed w now last = is_none (reply_to w now last) ≡ (not (has_square (zone_of w) last) || has_no_answer w now last)

-- two squares apart are not both the same as a third
not_both : (u v last : Square) → same_square u v ≡ false → same_square last u ≡ true → same_square last v ≡ false
not_both u v last apart same = subst (λ s. same_square s v ≡ false) (sym (same_square_is last u same)) apart

-- ---- rule by rule

claimeven_named : (x : Square) (now : Position) (last : Square) → IsNamed (claimeven x) now last
claimeven_named x now last = at (same_square last x) (same_square last (above x)) (not_both x (above x) last (other_row x (above x) (omega arith)))
  where
    at : (a b : Bool) → (a ≡ true → b ≡ false) → is_none (cond {A = Option Square} a (Some (above x)) None) ≡ (not (a || (b || false)) || b)
    at true true apart = absurd (cc (apart refl))
    at true false apart = refl
    at false true apart = refl
    at false false apart = refl

baseinverse_named : (s t : Square) (now : Position) (last : Square) → IsNamed (baseinverse s t) now last
baseinverse_named s t now last = at (same_square last s) (same_square last t)
  where
    at : (a b : Bool) → is_none (cond {A = Option Square} a (Some t) (cond b (Some s) None)) ≡ (not (a || (b || false)) || false)
    at true b = refl
    at false true = refl
    at false false = refl

baseclaim_named : (a b e : Square) (now : Position) (last : Square) → IsNamed (baseclaim a b e) now last
baseclaim_named a b e now last = at (same_square last a) (same_square last b) (same_square last e) (same_square last (above b)) (is_empty now e)
  where
    at : (i j k l free : Bool)
        → is_none (cond {A = Option Square} i (cond free (Some e) (Some (above b)))
        (cond j (cond free (Some e) (Some (above b))) (cond k (Some b) (cond l (Some a) None))))
        ≡ (not (i || (j || (k || (l || false)))) || false)
    at true j k l true = refl
    at true j k l false = refl
    at false true k l true = refl
    at false true k l false = refl
    at false false true l free = refl
    at false false false true free = refl
    at false false false false free = refl

-- in the column of u, whatever else is asked
high_named : (u v : Square) (now : Position) (last : Square) → is_none (high_reply u v now last) ≡ not (has_square (column_up u 3) last)
high_named u v now last = at (same_square last u) (same_square last (above u)) (same_square last (above (above u))) (is_empty now v)
  where
    at : (i j k free : Bool)
        → is_none (cond {A = Option Square} i (cond free (Some (above u)) (Some (above (above v)))) (cond j (Some (above (above u))) (cond k (Some v) None)))
        ≡ not (i || (j || (k || false)))
    at true j k true = refl
    at true j k false = refl
    at false true k free = refl
    at false false true free = refl
    at false false false free = refl

highinverse_named : (x y : Square) (now : Position) (last : Square) → IsNamed (highinverse x y) now last
highinverse_named x y now last =
    at (has_square (column_up x 3) last) (has_square (column_up y 3) last) (high_reply x y now last) (high_reply y x now last) (high_named x y now last)
    (high_named y x now last)
    ∙ ap (λ owned. not owned || false) (sym (list_any-append (same_square last) (column_up x 3) (column_up y 3)))
  where
    at : (a b : Bool) (u v : Option Square) → is_none u ≡ not a → is_none v ≡ not b → is_none (cond a u v) ≡ (not (a || b) || false)
    at true b u v left right = left
    at false b u v left right = right ∙ sym (or-false (not b))

-- ---- Lowinverse

lowest_none : (now : Position) (c : ℕ) → is_none (lowest_empty now c) ≡ not (has_room now c)
lowest_none now c = at (has_room now c) (c, height now c + 1)
  where
    at : (b : Bool) (u : Square) → is_none (cond {A = Option Square} b (Some u) None) ≡ not b
    at true u = refl
    at false u = refl

-- in the column up to this top
low_named : (top other : Square) (now : Position) (last : Square)
    → is_none (low_reply top other now last) ≡ (same_square last top && not (has_room now other.0))
low_named top other now last = at (same_square last top) (has_room now other.0) (lowest_empty now other.0) (lowest_none now other.0)
  where
    at : (a room : Bool) (u : Option Square) → is_none u ≡ not room → is_none (cond a u (Some (above last))) ≡ (a && not room)
    at true room u none = none
    at false room u none = refl

lowinverse_named : (x x_top y y_top : Square) (now : Position) (last : Square) → IsNamed (lowinverse x x_top y y_top) now last
lowinverse_named x x_top y y_top now last =
    at (has_square (span x x_top) last) (has_square (span y y_top) last) _ _ (low_reply x_top y now last) (low_reply y_top x now last)
    (low_named x_top y now last) (low_named y_top x now last)
    ∙ ap (λ owned. not owned || has_no_answer (lowinverse x x_top y y_top) now last) (sym (list_any-append (same_square last) (span x x_top) (span y y_top)))
  where
    at : (a b m n : Bool) (u v : Option Square) → is_none u ≡ m → is_none v ≡ n → is_none (cond a u (cond b v None)) ≡ (not (a || b) || cond a m n)
    at true b m n u v left right = left
    at false true m n u v left right = right
    at false false m n u v left right = refl

-- ---- all nine

pub reply_named : (w : RuleInstance) (now : Position) (last : Square) → IsNamed w now last
reply_named (claimeven x) now last = claimeven_named x now last
reply_named (baseinverse s t) now last = baseinverse_named s t now last
reply_named (lowinverse x x_top y y_top) now last = lowinverse_named x x_top y y_top now last
reply_named (highinverse x y) now last = highinverse_named x y now last
reply_named (baseclaim a b e) now last = baseclaim_named a b e now last
reply_named (vertical e) now last = refl
reply_named (aftereven g) now last = refl
reply_named (before g) now last = refl
reply_named (specialbefore g f e0) now last = refl

-- ---- by the kind and the zone

-- of a Claimeven, the upper square is the top of the zone
pub claimeven_missing : (x : Square) (now : Position) (last : Square)
    → is_none (reply_to (claimeven x) now last) ≡ names_no_reply (kind_of (claimeven x)) (zone_of (claimeven x)) now last
claimeven_missing x now last =
    at (same_square last x) (same_square last (above x)) (same_square (above last) x) (same_square (above last) (above x))
    (λ here. ap (λ u. same_square (above u) (above x)) (same_square_is last x here) ∙ same_square_refl (above x))
    (λ over. other_over (same_square_is last (above x) over))
  where
    other_over : last ≡ above x → (same_square last x ≡ false) × (same_square (above last) x ≡ false) × (same_square (above last) (above x) ≡ false)
    other_over is =
        let row : last.1 ≡ x.1 + 1 = ap (λ u. u.1) is in
        (other_row last x (omega (arith, row)), other_row (above last) x (omega (arith, row)), other_row (above last) (above x) (omega (arith, row)))

    at : (a b i j : Bool) → (a ≡ true → j ≡ true) → (b ≡ true → (a ≡ false) × (i ≡ false) × (j ≡ false))
        → is_none (cond {A = Option Square} a (Some (above x)) None) ≡ (not (a || (b || false)) || not (i || (j || false)))
    at true b true j lower upper = refl
    at true b false j lower upper = rw (lower refl) refl
    at false true i j lower upper = let none = upper refl in rw (none.1, none.2) refl
    at false false i j lower upper = refl

or_same : (z a b : Bool) → (z ≡ true → a ≡ b) → (not z || a) ≡ (not z || b)
or_same true a b same = same refl
or_same false a b same = refl

-- what is so of each square of a column, and of at least one, is so of some
any_column : (test : Square → Bool) (b : Bool) (bottom : Square) (size : ℕ) → ((u : Square) → u.0 ≡ bottom.0 → test u ≡ b) → 1 ≤ size
    → list_any test (column_up bottom size) ≡ b
any_column test b bottom zero each some = absurd (omega arith)
any_column test b bottom (suc zero) each some = ap (λ first. first || false) (each bottom refl) ∙ or-false b
any_column test b bottom (suc (suc size)) each some =
    ap (λ first. first || list_any test (column_up (above bottom) (suc size))) (each bottom refl)
    ∙ ap (λ rest. b || rest) (any_column test b (above bottom) (suc size) each (omega arith)) ∙ twice b
  where
    twice : (b : Bool) → (b || b) ≡ b
    twice true = refl
    twice false = refl

-- what a column of a Lowinverse is
pub record IsLow (bottom top : Square) : Type 0 where
  pub column : bottom.0 ≡ top.0
  pub rows : bottom.1 + 2 ≤ top.1

pub low_column : (bottom top : Square) → is_low_column bottom top ≡ true → IsLow bottom top
low_column bottom top h =
    let rows = and_parts _ _ h in
    record { column = eqb-true bottom.0 top.0 (and_parts _ _ (and_parts _ _ rows.0).0).0; rows = leb-true (bottom.1 + 2) top.1 rows.1 }

-- the one column of the zone of a Lowinverse, with the other beside it
module _ (bottom top beside : Square) (beside_top : Square) (zone : List Square) (low : IsLow bottom top) (low_beside : IsLow beside beside_top)
    (apart : bottom.0 ≢ beside.0)
    (from_own : (u : Square) → has_square (span bottom top) u ≡ true → has_square zone u ≡ true)
    (each : (u : Square) → has_square zone u ≡ true → (has_square (span bottom top) u ≡ true) ⊎ (has_square (span beside beside_top) u ≡ true)) where
  in_column : (b t u : Square) → has_square (span b t) u ≡ true → (i : ℕ) × (i < t.1 + 1 - b.1) × (u ≡ (b.0, b.1 + i))
  in_column b t u owned = column_gives b (t.1 + 1 - b.1) u (has_gives (span b t) u owned)

  top_of_column : (i : ℕ) → i < top.1 + 1 - bottom.1 → is_top zone (bottom.0, bottom.1 + i) ≡ same_square (bottom.0, bottom.1 + i) top
  top_of_column i within = elim (cases_lt (i + 1) (top.1 + 1 - bottom.1)) [
    | inl more ↦
        let over : has_square zone (bottom.0, bottom.1 + i + 1)
        ≡ true = from_own (bottom.0, bottom.1 + i + 1) (subst (λ r. has_square (span bottom top) (bottom.0, r) ≡ true) (omega arith)
        (has_from (span bottom top) (bottom.0, bottom.1 + (i + 1)) (column_from bottom (top.1 + 1 - bottom.1) (i + 1) more))) in
        ap not over ∙ sym (other_row (bottom.0, bottom.1 + i) top (λ same. omega arith))
    | inr last ↦
        let here : (bottom.0, bottom.1 + i) ≡ top = same_place (bottom.0, bottom.1 + i) top low.column (omega (arith, low.rows)) in
        ap not (false_from_ne_true (has_square zone (bottom.0, bottom.1 + i + 1)) (none last)) ∙ sym (ap (λ u. same_square u top) here ∙ same_square_refl top)
  ]
    where
      none : top.1 + 1 - bottom.1 ≤ i + 1 → has_square zone (bottom.0, bottom.1 + i + 1) ≡ true → ⊥
      none last owned = elim (each (bottom.0, bottom.1 + i + 1) owned) [
        | inl own ↦ let at = in_column bottom top (bottom.0, bottom.1 + i + 1) own in omega (arith, at.1, ap (λ (u : Square). u.1) at.2)
        | inr other ↦ let at = in_column beside beside_top (bottom.0, bottom.1 + i + 1) other in apart (ap (λ (u : Square). u.0) at.2)
      ]

  -- the test of a full column beside, over the two columns
  full_own : (now : Position) (last : Square) → last.0 ≡ bottom.0 → list_any (λ u. not (u.0 == last.0) && not (has_room now u.0)) (span bottom top) ≡ false
  full_own now last here = any_column _ false bottom (top.1 + 1 - bottom.1)
      (λ u column. ap (λ b. not b && not (has_room now u.0)) (eq-eqb u.0 last.0 (column ∙ sym here))) (omega (arith, low.rows))

  full_other : (now : Position) (last : Square) → last.0 ≡ bottom.0 → list_any (λ u. not (u.0 == last.0) && not (has_room now u.0)) (span beside beside_top)
      ≡ not (has_room now beside.0)
  full_other now last here = any_column _ (not (has_room now beside.0)) beside (beside_top.1 + 1 - beside.1)
      (λ u column. ap (λ b. not b && not (has_room now u.0)) (ne_eqb u.0 last.0 (λ same. apart (sym here ∙ sym same ∙ column)))
      ∙ ap (λ c. not (has_room now c)) column) (omega (arith, low_beside.rows))

lowinverse_missing : (x x_top y y_top : Square) (now : Position) (last : Square) → has_shape (lowinverse x x_top y y_top) (board_of now) ≡ true
    → is_none (reply_to (lowinverse x x_top y y_top) now last) ≡ names_no_reply (kind_of (lowinverse x x_top y y_top)) (zone_of (lowinverse x x_top y y_top))
    now last
lowinverse_missing x x_top y y_top now last h =
    lowinverse_named x x_top y y_top now last
    ∙ or_same (has_square zone last) (has_no_answer (lowinverse x x_top y y_top) now last) (is_top zone last && is_full_beside zone now last)
    (λ owned. at (has_append (span x x_top) (span y y_top) last owned))
  where
    zone : List Square
    zone = span x x_top ++ span y y_top

    parts : ((nat_lt x.0 y.0 && is_low_column x x_top) ≡ true) × (is_low_column y y_top ≡ true)
    parts = and_parts (nat_lt x.0 y.0 && is_low_column x x_top) (is_low_column y y_top) h

    low_x : IsLow x x_top
    low_x = low_column x x_top (and_parts (nat_lt x.0 y.0) (is_low_column x x_top) parts.0).1

    low_y : IsLow y y_top
    low_y = low_column y y_top parts.1

    order : x.0 < y.0
    order = ltb-true x.0 y.0 (and_parts (nat_lt x.0 y.0) (is_low_column x x_top) parts.0).0

    turned : (u : Square) → has_square zone u ≡ true → (has_square (span y y_top) u ≡ true) ⊎ (has_square (span x x_top) u ≡ true)
    turned u owned = elim (has_append (span x x_top) (span y y_top) u owned) [ inl left ↦ inr left | inr right ↦ inl right ]

    at : (has_square (span x x_top) last ≡ true) ⊎ (has_square (span y y_top) last ≡ true)
        → has_no_answer (lowinverse x x_top y y_top) now last ≡ (is_top zone last && is_full_beside zone now last)
    at (inl left) =
        let place = column_gives x (x_top.1 + 1 - x.1) last (has_gives (span x x_top) last left) in
        let here : last.0 ≡ x.0 = ap (λ (u : Square). u.0) place.2 in
        let top : is_top zone last ≡ same_square last x_top =
        ap (is_top zone) place.2 ∙ top_of_column x x_top y y_top zone low_x low_y (λ same. omega (arith, order)) (has_left (span x x_top) (span y y_top))
        (has_append (span x x_top) (span y y_top)) place.0 place.1
        ∙ sym (ap (λ u. same_square u x_top) place.2) in
        let full : is_full_beside zone now last ≡ not (has_room now y.0) =
        list_any-append (λ u. not (u.0 == last.0) && not (has_room now u.0)) (span x x_top) (span y y_top)
        ∙ ap (λ b. b || list_any (λ u. not (u.0 == last.0) && not (has_room now u.0)) (span y y_top))
        (full_own x x_top y y_top zone low_x low_y (λ same. omega (arith, order)) (has_left (span x x_top) (span y y_top))
        (has_append (span x x_top) (span y y_top)) now last here)
        ∙ full_other x x_top y y_top zone low_x low_y (λ same. omega (arith, order)) (has_left (span x x_top) (span y y_top))
        (has_append (span x x_top) (span y y_top)) now last here in
        cond-true {A = Bool} _ _ _ left ∙ sym (ap (λ b. b && is_full_beside zone now last) top ∙ ap (λ b. same_square last x_top && b) full)
    at (inr right) =
        let place = column_gives y (y_top.1 + 1 - y.1) last (has_gives (span y y_top) last right) in
        let here : last.0 ≡ y.0 = ap (λ (u : Square). u.0) place.2 in
        let top : is_top zone last ≡ same_square last y_top =
        ap (is_top zone) place.2 ∙ top_of_column y y_top x x_top zone low_y low_x (λ same. omega (arith, order)) (has_right (span x x_top) (span y y_top))
        turned place.0 place.1
        ∙ sym (ap (λ u. same_square u y_top) place.2) in
        let full : is_full_beside zone now last ≡ not (has_room now x.0) =
        list_any-append (λ u. not (u.0 == last.0) && not (has_room now u.0)) (span x x_top) (span y y_top)
        ∙ ap (λ b. b || list_any (λ u. not (u.0 == last.0) && not (has_room now u.0)) (span y y_top))
        (full_other y y_top x x_top zone low_y low_x (λ same. omega (arith, order)) (has_right (span x x_top) (span y y_top)) turned now last here)
        ∙ ap (λ b. not (has_room now x.0) || b)
        (full_own y y_top x x_top zone low_y low_x (λ same. omega (arith, order)) (has_right (span x x_top) (span y y_top)) turned now last here)
        ∙ or-false (not (has_room now x.0)) in
        let beside : has_square (span x x_top) last ≡ false = false_from_ne_true _ (λ left.
        let other = column_gives x (x_top.1 + 1 - x.1) last (has_gives (span x x_top) last left) in
        omega (arith, order, here, ap (λ (u : Square). u.0) other.2)) in
        cond-false {A = Bool} _ _ _ beside ∙ sym (ap (λ b. b && is_full_beside zone now last) top ∙ ap (λ b. same_square last y_top && b) full)

-- all nine: of an instance with its shape, by its kind and its zone
pub missing_by_kind : (w : RuleInstance) (now : Position) (last : Square) → has_shape w (board_of now) ≡ true
    → is_none (reply_to w now last) ≡ names_no_reply (kind_of w) (zone_of w) now last
missing_by_kind (claimeven x) now last h = claimeven_missing x now last
missing_by_kind (baseinverse s t) now last h = baseinverse_named s t now last
missing_by_kind (lowinverse x x_top y y_top) now last h = lowinverse_missing x x_top y y_top now last h
missing_by_kind (highinverse x y) now last h = highinverse_named x y now last
missing_by_kind (baseclaim a b e) now last h = baseclaim_named a b e now last
missing_by_kind (vertical e) now last h = refl
missing_by_kind (aftereven g) now last h = refl
missing_by_kind (before g) now last h = refl
missing_by_kind (specialbefore g f e0) now last h = refl

pub twins_by_kind : (w : RuleInstance) → is_some (twin_of w) ≡ names_twins (kind_of w)
twins_by_kind (claimeven x) = refl
twins_by_kind (baseinverse s t) = refl
twins_by_kind (lowinverse x x_top y y_top) = refl
twins_by_kind (highinverse x y) = refl
twins_by_kind (baseclaim a b e) = refl
twins_by_kind (vertical e) = refl
twins_by_kind (aftereven g) = refl
twins_by_kind (before g) = refl
twins_by_kind (specialbefore g f e0) = refl
