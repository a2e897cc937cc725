-- Why the columns of a zone are filled below it when White plays there: the zone was founded at the plan's position, or
-- White's square stands on the column itself, or the zone is an inverse and both floors were filled by a Baseinverse.
use Rattle.std.proofs.Common.{◌≡◌, ◌≢◌, ◌⊎◌, ℕ, ◌+◌, ◌-◌, ◌<◌, ◌≤◌, true, false, List, [], ◌∷◌, ◌++◌, Option, Some, None, is_none, refl, sym, ap, ◌∙◌, subst}
use Rattle.std.proofs.Common.{inl, inr, arith}
use Rattle.std.specs.List.{list_all}
use Rattle.std.proofs.lemmas.Bool.{cases_lt, cases_order, both_ways, and_parts, or_cases, ltb-true, leb-true}
use Rattle.game_rules.specs.Board.{Square, on_board}
use Rattle.game_rules.specs.Position.{Position, board_of, height, man_at}
use Rattle.game_rules.specs.Squares.{has_square, is_empty, is_playable}
use Rattle.game_rules.specs.declared.Side.{Side}
use Rattle.game_rules.specs.declared.Side.TheVariants.{White, Black}
use Rattle.game_rules.proofs.Ends.{on_board_parts}
use Rattle.game_rules.proofs.Lists.{Among}
use Rattle.game_rules.proofs.Squares.{has_gives, has_from}
use Rattle.plan_rules.specs.Squares.{above, under, column_up, span, men_on}
use Rattle.plan_rules.specs.Rules.{RuleInstance, claimeven, baseinverse, lowinverse, highinverse, baseclaim, vertical, aftereven, before, specialbefore}
use Rattle.plan_rules.specs.Rules.{zone_of, owns_no_zone, has_shape, is_shaped, is_grounded, fits_besides, fits, rests_on, stands_over, together}
use Rattle.plan_rules.specs.Calm.{is_one_of, inverse_words, is_calm}
use Rattle.plan_rules.specs.Laws.{IsFounded}
use Rattle.plan_rules.specs.Plan.{IsMember, SomeMember, IsPlan, bottoms_of, HasFloors}
use Rattle.plan_rules.proofs.Squares.{has_append, has_left, has_right, column_gives, column_from}
use Rattle.plan_rules.proofs.Turns.{playable_parts, playable_empty, playable_on_board, filled_height, empty_height, filled_under, height_stays}
use Rattle.plan_rules.proofs.Columns.{none_on, men_on_append}
use Rattle.plan_rules.proofs.Table.{RestsOn, together_sym, floor_owner}
use Rattle.std.proofs.lemmas.Option.{same_Some}

pub fits_shape : (w : RuleInstance) (p : Position) → fits w p ≡ true → has_shape w (board_of p) ≡ true
fits_shape w p h = (and_parts (list_all (on_board (board_of p)) (zone_of w)) (has_shape w (board_of p))
    (and_parts (is_shaped w (board_of p)) _ (and_parts _ (fits_besides w p) h).0).0).1

pub fits_on_board : (w : RuleInstance) (p : Position) → fits w p ≡ true → list_all (on_board (board_of p)) (zone_of w) ≡ true
fits_on_board w p h = (and_parts (list_all (on_board (board_of p)) (zone_of w)) (has_shape w (board_of p))
    (and_parts (is_shaped w (board_of p)) _ (and_parts _ (fits_besides w p) h).0).0).0

pub fits_empty : (w : RuleInstance) (p : Position) → fits w p ≡ true → list_all (is_empty p) (zone_of w) ≡ true
fits_empty w p h = (and_parts (is_shaped w (board_of p)) (list_all (is_empty p) (zone_of w)) (and_parts _ (fits_besides w p) h).0).1

pub fits_more : (w : RuleInstance) (p : Position) → fits w p ≡ true → fits_besides w p ≡ true
fits_more w p h = (and_parts _ (fits_besides w p) h).1

-- ---- founded zones

-- below the square, in its column, the zone has a square that stands on the column
pub record Foot (zone : List Square) (q : Position) (u : Square) : Type 0 where
  pub foot : Square
  pub same_column : foot.0 ≡ u.0
  pub in_zone : has_square zone foot ≡ true
  pub low : foot.1 ≤ height q foot.0 + 1

pub founded_by : (zone : List Square) (q : Position) → ((u : Square) → has_square zone u ≡ true → Foot zone q u) → IsFounded zone q
founded_by zone q feet u owned lowest = by_case (feet u owned)
  where
    by_case : Foot zone q u → u.1 ≤ height q u.0 + 1
    by_case f = elim (cases_lt f.foot.1 u.1) [
      | inl lower ↦ absurd (both_ways (has_square zone (u.0, f.foot.1)) (lowest f.foot.1 lower)
          (subst (λ c. has_square zone (c, f.foot.1) ≡ true) f.same_column f.in_zone))
      | inr high ↦ let low : f.foot.1 ≤ height q f.foot.0 + 1 = f.low in omega (arith, ap (height q) f.same_column)
    ]

-- the low squares of the two columns of an inverse
pub record TwoColumns (zone : List Square) (x y : Square) : Type 0 where
  pub has_x : has_square zone x ≡ true
  pub has_y : has_square zone y ≡ true
  pub apart : x.0 ≢ y.0
  pub each : (u : Square) → has_square zone u ≡ true → ((u.0 ≡ x.0) × (x.1 ≤ u.1)) ⊎ ((u.0 ≡ y.0) × (y.1 ≤ u.1))

two_founded : (zone : List Square) (x y : Square) (q : Position) → TwoColumns zone x y → x.1 ≤ height q x.0 + 1 → y.1 ≤ height q y.0 + 1 → IsFounded zone q
two_founded zone x y q two low_x low_y = founded_by zone q (λ u owned. elim (two.each u owned) [
  | inl at_x ↦ record { foot = x; same_column = sym at_x.0; in_zone = two.has_x; low = low_x }
  | inr at_y ↦ record { foot = y; same_column = sym at_y.0; in_zone = two.has_y; low = low_y }
])

pub low_two : (x x_top y y_top : Square) (p : Position) → fits (lowinverse x x_top y y_top) p ≡ true → TwoColumns (span x x_top ++ span y y_top) x y
low_two x x_top y y_top p h =
    let shape = fits_shape (lowinverse x x_top y y_top) p h in
    let outer = and_parts _ _ shape in let inner = and_parts _ _ outer.0 in
    let size_x = leb-true (x.1 + 2) x_top.1 (and_parts _ _ inner.1).1 in
    let size_y = leb-true (y.1 + 2) y_top.1 (and_parts _ _ outer.1).1 in
    let order : x.0 < y.0 = ltb-true x.0 y.0 inner.0 in
    record {
      has_x = has_left (span x x_top) (span y y_top) x (bottom x x_top (omega (arith, size_x)));
      has_y = has_right (span x x_top) (span y y_top) y (bottom y y_top (omega (arith, size_y)));
      apart = λ same. omega arith;
      each = λ u owned. elim (has_append (span x x_top) (span y y_top) u owned)
          [ inl left ↦ inl (within x x_top u left) | inr right ↦ inr (within y y_top u right) ];
    }
  where
    bottom : (x x_top : Square) → x.1 ≤ x_top.1 → has_square (span x x_top) x ≡ true
    bottom x x_top size = has_from (span x x_top) x
        (subst (λ r. Among (x.0, r) (span x x_top)) (omega arith) (column_from x (x_top.1 + 1 - x.1) 0 (omega arith)))

    within : (x x_top u : Square) → has_square (span x x_top) u ≡ true → (u.0 ≡ x.0) × (x.1 ≤ u.1)
    within x x_top u owned =
        let at = column_gives x (x_top.1 + 1 - x.1) u (has_gives (span x x_top) u owned) in
        let row : u.1 ≡ x.1 + at.0 = ap (λ (s : Square). s.1) at.2 in
        (ap (λ (s : Square). s.0) at.2, omega arith)

pub high_two : (x y : Square) (p : Position) → fits (highinverse x y) p ≡ true → TwoColumns (column_up x 3 ++ column_up y 3) x y
high_two x y p h =
    let shape = fits_shape (highinverse x y) p h in
    let order : x.0 < y.0 = ltb-true x.0 y.0 (and_parts _ _ (and_parts _ _ shape).0).0 in
    record {
      has_x = has_from (column_up x 3 ++ column_up y 3) x (inl refl);
      has_y = has_from (column_up x 3 ++ column_up y 3) y (inr (inr (inr (inl refl))));
      apart = λ same. omega arith;
      each = λ u owned. elim (has_append (column_up x 3) (column_up y 3) u owned) [ inl left ↦ inl (within x u left) | inr right ↦ inr (within y u right) ];
    }
  where
    within : (x u : Square) → has_square (column_up x 3) u ≡ true → (u.0 ≡ x.0) × (x.1 ≤ u.1)
    within x u owned =
        let at = column_gives x 3 u (has_gives (column_up x 3) u owned) in
        let row : u.1 ≡ x.1 + at.0 = ap (λ (s : Square). s.1) at.2 in
        (ap (λ (s : Square). s.0) at.2, omega arith)

-- of a calm Baseinverse both squares are filled or both are empty
both_or_none : (m n : Option Side) → is_one_of inverse_words (m ∷ n ∷ []) ≡ true → is_none m ≡ is_none n
both_or_none None None h = refl
both_or_none None (Some White) h = cc
both_or_none None (Some Black) h = cc
both_or_none (Some White) None h = cc
both_or_none (Some Black) None h = cc
both_or_none (Some m) (Some n) h = refl

filled : (m : Option Side) → is_none m ≡ false → (side : Side) × (m ≡ Some side)
filled None h = absurd (cc h)
filled (Some side) h = (side, refl)

some_pair : (a b : Square × Square) → Some a ≡ Some b → a ≡ b
some_pair a b h = cc

module _ (p q : Position) (ws : List RuleInstance) (plan : IsPlan p ws)
    (stay : (u : Square) (m : Side) → man_at p u ≡ Some m → man_at q u ≡ Some m)
    (calms : (i : ℕ) (w : RuleInstance) → IsMember ws i w → is_calm w q ≡ true) where
  -- a square that was playable stands on its column still
  still_low : (u : Square) → is_playable p u ≡ true → u.1 ≤ height q u.0 + 1
  still_low u h = omega (arith, (playable_parts p u h).1, height_stays p q stay u.0)

  -- two members, by their places
  pub members_together : (i j : ℕ) (v w : RuleInstance) → i ≢ j → IsMember ws i v → IsMember ws j w → together v w ≡ true
  members_together i j v w apart left right = elim (cases_order i j) [
    | inl same ↦ absurd (apart same)
    | inr order ↦ elim order [
      | inl first ↦ plan.compatible i j v w first left right
      | inr second ↦ together_sym w v (plan.compatible j i w v second right left)
    ]
  ]

  -- the floors of an inverse that isn't playable itself: the column of White's square is filled below it, and so is the other
  module _ (i : ℕ) (w : RuleInstance) (x y : Square) (member : IsMember ws i w) (moving : owns_no_zone w ≡ false) (none : (a b : Square)
      → rests_on a b w ≡ false)
      (over : (v : RuleInstance) → stands_over w v ≡ true → rests_on x y v ≡ true) (two : TwoColumns (zone_of w) x y) where
    inverse_owner : (v : RuleInstance) (j : ℕ) → IsMember ws j v → is_playable p (under x) ≡ true → has_square (zone_of v) (under x) ≡ true → RestsOn x y v
    inverse_owner v j member_v floor owned =
        let on = on_board_parts (board_of p) (under x).0 (under x).1 (playable_on_board p (under x) floor) in
        floor_owner x y x w v moving none (over v) two.has_x (omega (arith, on.1)) (members_together j i v w (λ same. not_own same on.1) member_v member) owned
      where
        not_own : j ≡ i → 1 ≤ x.1 - 1 → ⊥
        not_own same low =
            let own : v ≡ w = same_Some v w (sym member_v ∙ subst (λ k. IsMember ws k w) (sym same) member) in
            elim (two.each (under x) (subst (λ w. has_square (zone_of w) (under x) ≡ true) own owned)) [
              | inl at_x ↦ omega (arith, at_x.1)
              | inr at_y ↦ two.apart at_y.0
            ]

    -- both floors are filled, or neither
    floors_alike : is_playable p (under x) ≡ true → is_none (man_at q (under x)) ≡ is_none (man_at q (under y))
    floors_alike floor = by_case (plan.covered (under x) (playable_empty p (under x) floor))
      where
        by_case : SomeMember ws (λ v. has_square (zone_of v) (under x) ≡ true) → is_none (man_at q (under x)) ≡ is_none (man_at q (under y))
        by_case some =
            let rest = inverse_owner some.member some.place some.is_member floor some.has_it in
            let calm : is_calm (baseinverse rest.s rest.t) q
            ≡ true = subst (λ v. is_calm v q ≡ true) rest.is_inverse (calms some.place some.member some.is_member) in
            ap (λ u. is_none (man_at q (under u))) (sym rest.below_x)
            ∙ ap (λ r. is_none (man_at q (rest.s.0, r))) (omega arith)
            ∙ both_or_none (man_at q rest.s) (man_at q rest.t) calm
            ∙ ap (λ r. is_none (man_at q (rest.t.0, r))) (omega arith)
            ∙ ap (λ u. is_none (man_at q (under u))) rest.below_y

    inverse_founded : is_grounded p x y ≡ true → (s : Square) → is_playable q s ≡ true → has_square (zone_of w) s ≡ true → IsFounded (zone_of w) q
    inverse_founded grounded s playable owned = elim (or_cases _ _ grounded) [
      | inl bottoms ↦ let both = and_parts _ _ bottoms in two_founded (zone_of w) x y q two (still_low x both.0) (still_low y both.1)
      | inr floors ↦
          let both = and_parts _ _ floors in
          let at_left = on_board_parts (board_of p) (under x).0 (under x).1 (playable_on_board p (under x) both.0) in
          let at_right = on_board_parts (board_of p) (under y).0 (under y).1 (playable_on_board p (under y) both.1) in
          let row = (playable_parts q s playable).1 in
          elim (two.each s owned) [
            | inl at_x ↦
                let low_x : x.1 ≤ height q x.0 + 1 = omega (arith, at_x.1, row, ap (height q) at_x.0) in
                let floor = filled_under q (under x) at_left.1 (omega arith) in
                let other = filled (man_at q (under y)) (sym (floors_alike both.0) ∙ ap is_none floor.1) in
                let low_y = filled_height q (under y) other.0 other.1 in
                two_founded (zone_of w) x y q two low_x (omega (arith, low_y.1))
            | inr at_y ↦
                let low_y : y.1 ≤ height q y.0 + 1 = omega (arith, at_y.1, row, ap (height q) at_y.0) in
                let floor = filled_under q (under y) at_right.1 (omega arith) in
                let other = filled (man_at q (under x)) (floors_alike both.0 ∙ ap is_none floor.1) in
                let low_x = filled_height q (under x) other.0 other.1 in
                two_founded (zone_of w) x y q two (omega (arith, low_x.1)) low_y
          ]
    ]

  -- an inverse has both floors, or neither and no man
  two_floors : (i : ℕ) (w : RuleInstance) (x y : Square) → IsMember ws i w → owns_no_zone w ≡ false → ((a b : Square) → rests_on a b w ≡ false)
      → ((v : RuleInstance) → stands_over w v ≡ true → rests_on x y v ≡ true) → TwoColumns (zone_of w) x y → is_grounded p x y ≡ true
      → (height q x.0 < x.1 → height q y.0 < y.1 → men_on q (zone_of w) ≡ []) → HasFloors q (zone_of w) (x, y)
  two_floors i w x y member moving none over two grounded empty = elim (or_cases _ _ grounded) [
    | inl bottoms ↦ let both = and_parts _ _ bottoms in inl (still_low x both.0, still_low y both.1)
    | inr floors ↦
        let both = and_parts _ _ floors in
        let at_x = on_board_parts (board_of p) (under x).0 (under x).1 (playable_on_board p (under x) both.0) in
        let at_y = on_board_parts (board_of p) (under y).0 (under y).1 (playable_on_board p (under y) both.1) in
        by_case at_x.1 at_y.1 (man_at q (under x)) refl (man_at q (under y)) refl (floors_alike i w x y member moving none over two both.0)
  ]
    where
      by_case : 1 ≤ x.1 - 1 → 1 ≤ y.1 - 1 → (a : Option Side) → man_at q (under x) ≡ a → (b : Option Side) → man_at q (under y) ≡ b
          → is_none (man_at q (under x)) ≡ is_none (man_at q (under y)) → HasFloors q (zone_of w) (x, y)
      by_case low_x low_y None at_x None at_y alike =
          let past_x : height q x.0 < x.1 - 1 = empty_height q (under x) at_x low_x in
          let past_y : height q y.0 < y.1 - 1 = empty_height q (under y) at_y low_y in
          inr (omega arith, omega arith, empty (omega arith) (omega arith))
      by_case low_x low_y None at_x (Some b) at_y alike = absurd (cc (alike, at_x, at_y))
      by_case low_x low_y (Some a) at_x None at_y alike = absurd (cc (alike, at_x, at_y))
      by_case low_x low_y (Some a) at_x (Some b) at_y alike =
          let up_x = (filled_height q (under x) a at_x).1 in
          let up_y = (filled_height q (under y) b at_y).1 in
          inl (omega arith, omega arith)

  pub has_floors : (i : ℕ) (w : RuleInstance) (bottoms : Square × Square) → IsMember ws i w → bottoms_of w ≡ Some bottoms → HasFloors q (zone_of w) bottoms
  has_floors i (claimeven x) bottoms member is = absurd (cc is)
  has_floors i (baseinverse s t) bottoms member is = absurd (cc is)
  has_floors i (lowinverse x x_top y y_top) bottoms member is =
      let fit = plan.fitting i (lowinverse x x_top y y_top) member in
      subst (HasFloors q (span x x_top ++ span y y_top)) (some_pair (x, y) bottoms is)
      (two_floors i (lowinverse x x_top y y_top) x y member refl (λ a b. refl) (λ v h. h) (low_two x x_top y y_top p fit)
      (fits_more (lowinverse x x_top y y_top) p fit)
      (λ past_x past_y. men_on_append q (span x x_top) (span y y_top)
      ∙ ap (λ men. men ++ men_on q (span y y_top)) (none_on q (x_top.1 + 1 - x.1) x past_x) ∙ none_on q (y_top.1 + 1 - y.1) y past_y))
  has_floors i (highinverse x y) bottoms member is =
      let fit = plan.fitting i (highinverse x y) member in
      subst (HasFloors q (column_up x 3 ++ column_up y 3)) (some_pair (x, y) bottoms is)
      (two_floors i (highinverse x y) x y member refl (λ a b. refl) (λ v h. h) (high_two x y p fit) (fits_more (highinverse x y) p fit)
      (λ past_x past_y. men_on_append q (column_up x 3) (column_up y 3)
      ∙ ap (λ men. men ++ men_on q (column_up y 3)) (none_on q 3 x past_x) ∙ none_on q 3 y past_y))
  has_floors i (baseclaim a b e) bottoms member is = absurd (cc is)
  has_floors i (vertical e) bottoms member is = absurd (cc is)
  has_floors i (aftereven g) bottoms member is = absurd (cc is)
  has_floors i (before g) bottoms member is = absurd (cc is)
  has_floors i (specialbefore g f e0) bottoms member is = absurd (cc is)

  pub founded : (i : ℕ) (w : RuleInstance) → IsMember ws i w → (s : Square) → is_playable q s ≡ true → has_square (zone_of w) s ≡ true → IsFounded (zone_of w) q
  founded i (claimeven x) member s playable owned = founded_by (x ∷ above x ∷ []) q (λ u among. elim (has_gives (x ∷ above x ∷ []) u among) [
    | inl here ↦ record { foot = x; same_column = ap (λ (s : Square). s.0) here; in_zone = has_from (x ∷ above x ∷ []) x (inl refl); low = low }
    | inr later ↦ elim later [
      | inl here ↦ record { foot = x; same_column = ap (λ (s : Square). s.0) here; in_zone = has_from (x ∷ above x ∷ []) x (inl refl); low = low }
      | inr more ↦ absurd more
    ]
  ])
    where
      row : s.1 ≡ height q s.0 + 1
      row = (playable_parts q s playable).1

      low : x.1 ≤ height q x.0 + 1
      low = elim (has_gives (x ∷ above x ∷ []) s owned) [
        | inl here ↦ omega (arith, row, ap (λ (s : Square). s.1) here, ap (height q) (ap (λ (s : Square). s.0) here))
        | inr later ↦ elim later [
          | inl here ↦ omega (arith, row, ap (λ (s : Square). s.1) here, ap (height q) (ap (λ (s : Square). s.0) here))
          | inr more ↦ absurd more
        ]
      ]
  founded i (baseinverse a b) member s playable owned =
      let both = and_parts _ _ (fits_more (baseinverse a b) p (plan.fitting i (baseinverse a b) member)) in
      founded_by (a ∷ b ∷ []) q (λ u among. elim (has_gives (a ∷ b ∷ []) u among) [
        | inl here ↦ record { foot = a; same_column = ap (λ (s : Square). s.0) here; in_zone = has_from (a ∷ b ∷ []) a (inl refl); low = still_low a both.0 }
        | inr later ↦ elim later [
          | inl here ↦ record {
            foot = b;
            same_column = ap (λ (s : Square). s.0) here;
            in_zone = has_from (a ∷ b ∷ []) b (inr (inl refl));
            low =
                still_low b both.1;
          }
          | inr more ↦ absurd more
        ]
      ])
  founded i (lowinverse x x_top y y_top) member s playable owned =
      inverse_founded i (lowinverse x x_top y y_top) x y member refl (λ a b. refl) (λ v h. h)
      (low_two x x_top y y_top p (plan.fitting i (lowinverse x x_top y y_top) member))
      (fits_more (lowinverse x x_top y y_top) p (plan.fitting i (lowinverse x x_top y y_top) member)) s playable owned
  founded i (highinverse x y) member s playable owned =
      inverse_founded i (highinverse x y) x y member refl (λ a b. refl) (λ v h. h) (high_two x y p (plan.fitting i (highinverse x y) member))
      (fits_more (highinverse x y) p (plan.fitting i (highinverse x y) member)) s playable owned
  founded i (baseclaim a b e) member s playable owned =
      let outer = and_parts _ _ (fits_more (baseclaim a b e) p (plan.fitting i (baseclaim a b e) member)) in
      let inner = and_parts _ _ outer.0 in
      founded_by zone q (λ u among. elim (has_gives zone u among) [
        | inl here ↦ record { foot = a; same_column = ap (λ (s : Square). s.0) here; in_zone = has_from zone a (inl refl); low = still_low a inner.0 }
        | inr later ↦ elim later [
          | inl here ↦ record { foot = b; same_column = ap (λ (s : Square). s.0) here; in_zone = has_from zone b (inr (inl refl)); low = still_low b inner.1 }
          | inr more ↦ elim more [
            | inl here ↦ record {
              foot = e;
              same_column = ap (λ (s : Square). s.0) here;
              in_zone = has_from zone e (inr (inr (inl refl)));
              low =
                  still_low e outer.1;
            }
            | inr last ↦ elim last [
              | inl here ↦ record {
                foot = b;
                same_column = ap (λ (s : Square). s.0) here;
                in_zone = has_from zone b (inr (inl refl));
                low =
                    still_low b inner.1;
              }
              | inr past ↦ absurd past
            ]
          ]
        ]
      ])
    where
      zone : List Square
      zone = a ∷ b ∷ e ∷ above b ∷ []
  founded i (vertical e) member s playable owned = absurd (cc owned)
  founded i (aftereven g) member s playable owned = absurd (cc owned)
  founded i (before g) member s playable owned = absurd (cc owned)
  founded i (specialbefore g f e0) member s playable owned = absurd (cc owned)
