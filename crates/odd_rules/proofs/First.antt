-- The first threat of a position: whatever list of pairs makes a group a threat, one of the pairings of the columns does.
use Rattle.std.proofs.Common.{◌≡◌, ◌≢◌, ◌⊎◌, ℕ, zero, suc, ◌+◌, ◌<◌, ◌≤◌, true, false, not, ◌&&◌, ◌==◌, List, [], ◌∷◌, length, map, Option, Some, None}
use Rattle.std.proofs.Common.{refl, sym, ap, ◌∙◌, subst, inl, inr, arith}
use Rattle.std.specs.List.{list_any, slice_get, find}
use Rattle.std.specs.Option.{option_map, option_or, option_and_then}
use Rattle.std.proofs.lemmas.Bool.{cases_Bool, cases_order, both_ways, and_parts, and_from, or_left, or_right, not-true, not_from_false}
use Rattle.std.proofs.lemmas.Bool.{false_from_ne_true, eq-eqb, ne_eqb, cond-true, cond-false}
use Rattle.std.proofs.lemmas.Option.{same_Some, some_pair_parts, option_and_then_some}
use Rattle.game_rules.specs.Board.{Square, below}
use Rattle.game_rules.specs.Position.{Position, board_of, height}
use Rattle.game_rules.specs.Groups.{Group, groups_of}
use Rattle.game_rules.specs.Groups.{Precedes as GroupPrecedes}
use Rattle.game_rules.specs.Squares.{is_empty}
use Rattle.game_rules.proofs.Lists.{Among, any_gives, any_from, Among-map, Among-flat_map, Among-filter, Among-filter_gives, Among-below, Among-below_gives}
use Rattle.game_rules.proofs.Groups.{Ordered, Ordered-filter, Ordered-range, Among-groups, groups_in_order}
use Rattle.plan_rules.specs.Squares.{is_even, is_odd}
use Rattle.plan_rules.proofs.Squares.{Among-get, get-Among, find_one, same_place}
use Rattle.plan_rules.proofs.FaultWords.{groups_one_way}
use Rattle.plan_rules.proofs.Turns.{playable_parts}
use Rattle.odd_rules.specs.Threat.{Pair, target, is_in_column, share_column, is_of_pair, is_safe, is_threat, IsPairAt, IsThreat}
use Rattle.odd_rules.specs.Duel.{top_of}
use Rattle.odd_rules.specs.Refusal.{odd_columns, Pick, picks, tops, pairings, threat_by, first_by, first_threat}
use Rattle.odd_rules.proofs.Pairs.{PairParts, pair_parts, in_gives, share_gives, apart_columns, odd_from}
use Rattle.odd_rules.proofs.Tests.{found_one, threat_gives, threat_from}

-- ---- one column taken out of a list

abbrev Ascending : List ℕ → Type 0
Ascending cs = Ordered (λ a b. a < b) cs

record Picked (d : ℕ) (cs : List ℕ) : Type 0 where
  others : List ℕ
  among : Among (d, others) (picks cs)
  back : (e : ℕ) → Among e others → Among e cs × (e ≢ d)
  kept : (e : ℕ) → Among e cs → (e ≡ d) ⊎ Among e others
  order : Ascending others
  fewer : length others + 1 ≡ length cs

pick : (cs : List ℕ) → Ascending cs → (d : ℕ) → Among d cs → Picked d cs
pick [] order d among = absurd among
pick (c ∷ cs) order d (inl same) = record {
  others = cs;
  among = inl (ap (λ e. (e, cs)) same);
  back = λ e among. (inr among, λ here. let above = order.0 e among in omega (arith, above, here, same));
  kept = λ e among. elim among [ inl here ↦ inl (sym here ∙ same) | inr later ↦ inr later ];
  order = order.1;
  fewer = omega arith;
}
pick (c ∷ cs) order d (inr later) = from (pick cs order.1 d later)
  where
    from : Picked d cs → Picked d (c ∷ cs)
    from rest = record {
      others = c ∷ rest.others;
      among = inr (Among-map (λ (pick : Pick). (pick.0, c ∷ pick.1)) (picks cs) (d, rest.others) rest.among);
      back = λ e among. elim among [
        | inl here ↦ (inl here, λ same. let above = order.0 d later in omega (arith, above, here, same))
        | inr more ↦ let old = rest.back e more in (inr old.0, old.1)
      ];
      kept = λ e among. elim among [
        | inl here ↦ inr (inl here)
        | inr more ↦ elim (rest.kept e more) [ inl same ↦ inl same | inr old ↦ inr (inr old) ]
      ];
      order = (λ e among. order.0 e (rest.back e among).0, rest.order);
      fewer = let fewer = rest.fewer in omega arith;
    }

-- ---- a pairing out of given pairs

-- The pairs are each of the lowest empty squares of two columns, and no two of them share a column.
module _ (p : Position) (pairs : List Pair) (top : (x : Pair) → Among x pairs → x ≡ tops p x.0.0 x.1.0) (left : (x : Pair) → Among x pairs → x.0.0 < x.1.0)
    (one : (x y : Pair) (c : ℕ) → Among x pairs → Among y pairs → is_in_column c x ≡ true → is_in_column c y ≡ true → x ≡ y) where
  -- each of some columns is in a pair, both columns of which are of them
  abbrev Joined : List ℕ → Type 0
  Joined cs = (c : ℕ) → Among c cs → (x : Pair) × Among x pairs × (is_in_column c x ≡ true) × Among x.0.0 cs × Among x.1.0 cs

  -- a pairing of the columns of which each pair is given
  record Paired (n : ℕ) (cs : List ℕ) : Type 0 where
    list : List Pair
    among : Among list (pairings n p cs)
    given : (y : Pair) → Among y list → Among y pairs
    within : (y : Pair) (c : ℕ) → Among y list → is_in_column c y ≡ true → Among c cs
    covers : (c : ℕ) → Among c cs → (y : Pair) × Among y list × (is_in_column c y ≡ true)
    apart : (i j : ℕ) (x y : Pair) → i < j → IsPairAt list i x → IsPairAt list j y → share_column x y ≡ false

  none_paired : (n : ℕ) → Paired n []
  unfolding pairings
  none_paired n = record {
    list = [];
    among = inl refl;
    given = λ y among. absurd among;
    within = λ y c among in_y. absurd among;
    covers = λ c among. absurd among;
    apart = λ i j x y order first second. absurd (cc first);
  }

  among_pairings : (n c d : ℕ) (cs others : List ℕ) (list : List Pair) → Among (d, others) (picks cs) → Among list (pairings n p others)
      → Among (tops p c d ∷ list) (pairings (suc n) p (c ∷ cs))
  unfolding pairings
  among_pairings n c d cs others list picked among =
      Among-flat_map (λ (pick : Pick). map (λ rest. tops p c pick.0 ∷ rest) (pairings n p pick.1)) (picks cs) (d, others) (tops p c d ∷ list) picked
      (Among-map (λ rest. tops p c d ∷ rest) (pairings n p others) list among)

  -- the first column with that of its pair, and then the others
  one_paired : (n c : ℕ) (cs : List ℕ) → Ascending (c ∷ cs) → Joined (c ∷ cs) → length cs ≤ n
      → ((others : List ℕ) → length others ≤ n → Ascending others → Joined others → Paired n others) → Paired (suc n) (c ∷ cs)
  one_paired n c cs order joined low shorter = from (joined c (inl refl)).0 (joined c (inl refl)).1 (joined c (inl refl)).2 (joined c (inl refl)).3
      (joined c (inl refl)).4
    where
      from : (x : Pair) → Among x pairs → is_in_column c x ≡ true → Among x.0.0 (c ∷ cs) → Among x.1.0 (c ∷ cs) → Paired (suc n) (c ∷ cs)
      from x given in_x first second = by (pick cs order.1 x.1.0 right)
        where
          least : (d : ℕ) → Among d (c ∷ cs) → c ≤ d
          least d (inl same) = omega arith
          least d (inr later) = let above = order.0 d later in omega arith

          c_first : x.0.0 ≡ c
          c_first = elim (in_gives c x in_x) [
            | inl is ↦ is
            | inr is ↦ absurd (let before = left x given in let low = least x.0.0 first in omega arith)
          ]

          right : Among x.1.0 cs
          right = elim second [
            | inl same ↦ absurd (let before = left x given in omega (arith, c_first))
            | inr later ↦ later
          ]

          by : Picked x.1.0 cs → Paired (suc n) (c ∷ cs)
          by picked = with (shorter picked.others (let fewer = picked.fewer in omega arith) picked.order joined_others)
            where
              -- the pair of another column is another pair
              other_pair : (e : ℕ) → Among e picked.others → (y : Pair) → Among y pairs → is_in_column e y ≡ true → (d : ℕ) → Among d (c ∷ cs)
                  → is_in_column d y ≡ true → Among d picked.others
              other_pair e among y given_y in_y d (inl same) d_in = absurd (
                  let is = one x y c given given_y in_x (ap (λ n. is_in_column n y) same ∙ d_in) in
                  let e_in : is_in_column e x ≡ true = ap (is_in_column e) is ∙ in_y in
                  let old = picked.back e among in
                  elim (in_gives e x e_in) [
                    | inl here ↦ let above = order.0 e old.0 in omega (arith, above, here, c_first)
                    | inr here ↦ old.1 (sym here)
                  ])
              other_pair e among y given_y in_y d (inr later) d_in = elim (picked.kept d later) [
                | inr old ↦ old
                | inl same ↦ absurd (
                    let d_x : is_in_column d x ≡ true = or_right _ _ (eq-eqb x.1.0 d (sym same)) in
                    let is = one x y d given given_y d_x d_in in
                    let e_in : is_in_column e x ≡ true = ap (is_in_column e) is ∙ in_y in
                    let old = picked.back e among in
                    elim (in_gives e x e_in) [
                      | inl here ↦ let above = order.0 e old.0 in omega (arith, above, here, c_first)
                      | inr here ↦ old.1 (sym here)
                    ])
              ]

              joined_others : Joined picked.others
              joined_others e among =
                  let old = joined e (inr (picked.back e among).0) in (
                    old.0,
                    old.1,
                    old.2,
                    other_pair e among old.0 old.1 old.2 old.0.0.0 old.3 (or_left _ _ (eq-eqb old.0.0.0 old.0.0.0 refl)),
                    other_pair e among old.0 old.1 old.2 old.0.1.0 old.4 (or_right _ _ (eq-eqb old.0.1.0 old.0.1.0 refl)),
                  )

              with : Paired n picked.others → Paired (suc n) (c ∷ cs)
              with rest = record {
                list = x ∷ rest.list;
                among = subst (λ y. Among (y ∷ rest.list) (pairings (suc n) p (c ∷ cs))) (sym (top x given ∙ ap (λ d. tops p d x.1.0) c_first))
                    (among_pairings n c x.1.0 cs picked.others rest.list picked.among rest.among);
                given = λ y among. elim among [
                  | inl here ↦ subst (λ y. Among y pairs) here given
                  | inr later ↦ rest.given y later
                ];
                within = λ y d among in_y. elim among [
                  | inl here ↦ of_first d (ap (is_in_column d) here ∙ in_y)
                  | inr later ↦ inr (picked.back d (rest.within y d later in_y)).0
                ];
                covers = λ d among. elim among [
                  | inl here ↦ (x, inl refl, or_left _ _ (eq-eqb x.0.0 d (c_first ∙ here)))
                  | inr later ↦ elim (picked.kept d later) [
                    | inl same ↦ (x, inl refl, or_right _ _ (eq-eqb x.1.0 d (sym same)))
                    | inr old ↦ let found = rest.covers d old in (found.0, inr found.1, found.2)
                  ]
                ];
                apart = apart;
              }
                where
                  of_first : (d : ℕ) → is_in_column d x ≡ true → Among d (c ∷ cs)
                  of_first d in_it = elim (in_gives d x in_it) [
                    | inl here ↦ inl (sym c_first ∙ here)
                    | inr here ↦ inr (subst (λ e. Among e cs) here right)
                  ]

                  -- the first pair has none of the columns of the others
                  none_shared : (y : Pair) → Among y rest.list → share_column x y ≡ false
                  none_shared y among = false_from_ne_true _ (λ shared.
                      let common = share_gives x y shared in
                      let old = picked.back common.0 (rest.within y common.0 among common.2) in
                      elim (in_gives common.0 x common.1) [
                        | inl here ↦ let above = order.0 common.0 old.0 in omega (arith, above, here, c_first)
                        | inr here ↦ old.1 (sym here)
                      ])

                  apart : (i j : ℕ) (y z : Pair) → i < j → IsPairAt (x ∷ rest.list) i y → IsPairAt (x ∷ rest.list) j z → share_column y z ≡ false
                  apart i zero y z before first second = absurd (omega arith)
                  apart zero (suc j) y z before first second = ap (λ y. share_column y z) (sym (same_Some x y first))
                      ∙ none_shared z (get-Among rest.list j z second)
                  apart (suc i) (suc j) y z before first second = rest.apart i j y z (omega arith) first second

  paired : (n : ℕ) (cs : List ℕ) → length cs ≤ n → Ascending cs → Joined cs → Paired n cs
  paired n [] low order joined = none_paired n
  paired zero (c ∷ cs) low order joined = absurd (omega arith)
  paired (suc n) (c ∷ cs) low order joined = one_paired n c cs order joined (omega arith) (λ others. paired n others)

-- ---- the pairing of a threat

module _ (p : Position) (g : Group) (pairs : List Pair) (t : Square) (threat : IsThreat p g pairs t) where
  parts_of : (x : Pair) → Among x pairs → PairParts p t x
  parts_of x among = let at = Among-get pairs x among in pair_parts p t x (threat.fitting at.0 x at.1)

  top_is : (x : Pair) → Among x pairs → x ≡ tops p x.0.0 x.1.0
  top_is x among =
      let parts = parts_of x among in
      ap (λ u. (u, x.1)) (same_place x.0 (top_of p x.0.0) refl (playable_parts p x.0 parts.left).1)
      ∙ ap (λ u. (top_of p x.0.0, u)) (same_place x.1 (top_of p x.1.0) refl (playable_parts p x.1 parts.right).1)

  one_pair : (x y : Pair) (c : ℕ) → Among x pairs → Among y pairs → is_in_column c x ≡ true → is_in_column c y ≡ true → x ≡ y
  one_pair x y c in_x in_y c_x c_y = by (Among-get pairs x in_x) (Among-get pairs y in_y)
    where
      by : (i : ℕ) × IsPairAt pairs i x → (j : ℕ) × IsPairAt pairs j y → x ≡ y
      by i j = elim (cases_order i.0 j.0) [
        | inl same ↦ same_Some x y (sym i.1 ∙ ap (slice_get pairs) same ∙ j.1)
        | inr apart ↦ elim apart [
          | inl before ↦ absurd (apart_columns x y (threat.apart i.0 j.0 x y before i.1 j.1) c c_x c_y)
          | inr behind ↦ absurd (apart_columns y x (threat.apart j.0 i.0 y x behind j.1 i.1) c c_y c_x)
        ]
      ]

  odd_among : (c : ℕ) → c < length p.columns → c ≢ t.0 → is_odd (height p c) ≡ true → Among c (odd_columns p t)
  odd_among c within apart odd = Among-filter (λ c. not (c == t.0) && is_odd (height p c)) (below (length p.columns)) c
      (Among-below (length p.columns) c within)
      (and_from _ _ (not_from_false _ (ne_eqb c t.0 apart)) odd)

  odd_joined : Joined p pairs top_is (λ x among. (parts_of x among).order) one_pair (odd_columns p t)
  odd_joined c among =
      let old = Among-filter_gives (λ c. not (c == t.0) && is_odd (height p c)) (below (length p.columns)) c among in
      let both = and_parts (not (c == t.0)) (is_odd (height p c)) old.1 in
      let some = threat.paired c (Among-below_gives (length p.columns) c old.0) (not-true _ both.0) both.1 in
      let given = get-Among pairs some.place some.pair some.is_at in
      let parts = parts_of some.pair given in (
        some.pair,
        given,
        some.has_it,
        odd_among some.pair.0.0 (playable_parts p some.pair.0 parts.left).0 parts.left_apart (odd_from (height p some.pair.0.0) parts.left_odd),
        odd_among some.pair.1.0 (playable_parts p some.pair.1 parts.right).0 parts.right_apart (odd_from (height p some.pair.1.0) parts.right_odd),
      )

  abbrev Pairing : ℕ → Type 0
  Pairing n = Paired p pairs top_is (λ x among. (parts_of x among).order) one_pair n (odd_columns p t)

  pairing : (n : ℕ) → length (odd_columns p t) ≤ n → Pairing n
  pairing n low = paired p pairs top_is (λ x among. (parts_of x among).order) one_pair n (odd_columns p t) low
      (Ordered-filter (λ a b. a < b) (λ c. not (c == t.0) && is_odd (height p c)) (below (length p.columns)) (Ordered-range 0 (length p.columns)))
      odd_joined

  -- it has each of the pairs, and no other
  pairing_has : (n : ℕ) (one : Pairing n) (x : Pair) → Among x pairs → Among x one.list
  pairing_has n one x given =
      let parts = parts_of x given in
      let found = one.covers x.0.0 (odd_among x.0.0 (playable_parts p x.0 parts.left).0 parts.left_apart (odd_from (height p x.0.0) parts.left_odd)) in
      subst (λ y. Among y one.list)
      (sym (one_pair x found.0 x.0.0 given (one.given found.0 found.1) (or_left _ _ (eq-eqb x.0.0 x.0.0 refl)) found.2)) found.1

  pairing_threat : (n : ℕ) (one : Pairing n) → IsThreat p g one.list t
  pairing_threat n one = record {
    black = threat.black;
    going = threat.going;
    lacks = threat.lacks;
    fitting = λ i x at. let old = Among-get pairs x (one.given x (get-Among one.list i x at)) in threat.fitting old.0 x old.1;
    apart = one.apart;
    paired = λ c within apart odd.
        let found = one.covers c (odd_among c within (λ same. both_ways (c == t.0) apart (eq-eqb c t.0 same)) odd) in
        let at = Among-get one.list found.0 found.1 in
        record { place = at.0; pair = found.0; is_at = at.1; has_it = found.2 };
    answered = λ h lies no_white. elim (threat.answered h lies no_white) [
      | inl some ↦ inl (record { square = some.square; in_line = some.in_line; safe = safe_still some.square some.safe })
      | inr some ↦
          let at = Among-get one.list some.pair (pairing_has n one some.pair (get-Among pairs some.place some.pair some.is_at)) in
          inr (record { place = at.0; pair = some.pair; is_at = at.1; has_it = some.has_it })
    ];
  }
    where
      free_still : (u : Square) → list_any (is_of_pair u) pairs ≡ false → list_any (is_of_pair u) one.list ≡ false
      free_still u none = false_from_ne_true _ (λ some.
          let found = any_gives (is_of_pair u) one.list some in
          both_ways (list_any (is_of_pair u) pairs) none (any_from (is_of_pair u) pairs found.0 (one.given found.0 found.1) found.2))

      safe_still : (u : Square) → is_safe p t pairs u ≡ true → is_safe p t one.list u ≡ true
      safe_still u safe =
          let both = and_parts (is_empty p u) _ safe in
          and_from _ _ both.0 (elim (cases_Bool (u.0 == t.0)) [
            | inl same ↦ cond-true (u.0 == t.0) _ _ same ∙ sym (cond-true (u.0 == t.0) _ _ same) ∙ both.1
            | inr apart ↦
                let old = and_parts (is_even u.1) _ (sym (cond-false (u.0 == t.0) _ _ apart) ∙ both.1) in
                cond-false (u.0 == t.0) _ _ apart ∙ and_from _ _ old.0 (not_from_false _ (free_still u (not-true _ old.1)))
          ])

-- ---- the first of a group, and of all groups

threat_by_gives : (p : Position) (g : Group) (pairs : List Pair) → threat_by p g ≡ Some pairs → is_threat p g pairs ≡ true
threat_by_gives p g pairs h = option_and_then_some (λ t. find (is_threat p g) (pairings (length (odd_columns p t)) p (odd_columns p t))) (target p g) pairs h
    (λ t is found. (found_one (is_threat p g) (pairings (length (odd_columns p t)) p (odd_columns p t)) pairs found).1)

threat_by_none : (p : Position) (g : Group) → threat_by p g ≡ None → (pairs : List Pair) → is_threat p g pairs ≡ false
threat_by_none p g none pairs = false_from_ne_true _ (λ h. let some = threat_gives p g pairs h in against some.0 some.1 some.2)
  where
    against : (t : Square) → target p g ≡ Some t → IsThreat p g pairs t → ⊥
    against t is threat = by (pairing p g pairs t threat (length (odd_columns p t)) (omega arith))
      where
        by : Pairing p g pairs t threat (length (odd_columns p t)) → ⊥
        by one =
            let passes = threat_from p g one.list t (pairing_threat p g pairs t threat (length (odd_columns p t)) one) in
            let found = find_one (is_threat p g) (pairings (length (odd_columns p t)) p (odd_columns p t))
            (any_from (is_threat p g) (pairings (length (odd_columns p t)) p (odd_columns p t)) one.list one.among passes) in
            let some : threat_by p g ≡ Some found.1
            = ap (option_and_then (λ t. find (is_threat p g) (pairings (length (odd_columns p t)) p (odd_columns p t)))) is ∙ found.4 in
            absurd (cc (none, some))

-- a first choice, where it is one, and else the other
either_gives : (g h : Group) (pairs : List Pair) (o : Option (List Pair)) (rest : Option (Group × List Pair))
    → option_or (option_map {U = Group × List Pair} (λ pairs. (h, pairs)) o) rest ≡ Some (g, pairs)
    → ((h ≡ g) × (o ≡ Some pairs)) ⊎ ((o ≡ None) × (rest ≡ Some (g, pairs)))
either_gives g h pairs None rest is = inr (refl, is)
either_gives g h pairs (Some xs) rest is = let same = some_pair_parts h g xs pairs is in inl (same.0, ap (λ ys. Some ys) same.1)

either_none : (h : Group) (o : Option (List Pair)) (rest : Option (Group × List Pair))
    → option_or (option_map {U = Group × List Pair} (λ pairs. (h, pairs)) o) rest ≡ None → (o ≡ None) × (rest ≡ None)
either_none h None rest is = (refl, is)
either_none h (Some xs) rest is = absurd (cc is)

first_by_gives : (p : Position) (gs : List Group) (g : Group) (pairs : List Pair) → first_by p gs ≡ Some (g, pairs) → threat_by p g ≡ Some pairs
first_by_gives p [] g pairs h = absurd (cc h)
first_by_gives p (k ∷ ks) g pairs h = elim (either_gives g k pairs (threat_by p k) (first_by p ks) h) [
  | inl here ↦ ap (threat_by p) (sym here.0) ∙ here.1
  | inr later ↦ first_by_gives p ks g pairs later.1
]

first_by_none : (p : Position) (gs : List Group) → first_by p gs ≡ None → (g : Group) → Among g gs → threat_by p g ≡ None
first_by_none p [] h g among = absurd among
first_by_none p (k ∷ ks) h g among =
    let both = either_none k (threat_by p k) (first_by p ks) h in
    elim among [
      | inl same ↦ ap (threat_by p) (sym same) ∙ both.0
      | inr later ↦ first_by_none p ks both.1 g later
    ]

pub first_is : (p : Position) (g : Group) (pairs : List Pair) → first_threat p ≡ Some (g, pairs) → is_threat p g pairs ≡ true
unfolding first_threat
first_is p g pairs h = threat_by_gives p g pairs (first_by_gives p (groups_of (board_of p)) g pairs h)

pub first_none : (p : Position) → first_threat p ≡ None → (g : Group) (pairs : List Pair) → is_threat p g pairs ≡ false
unfolding first_threat
first_none p none g pairs = false_from_ne_true _ (λ h.
    let some = threat_gives p g pairs h in
    both_ways (is_threat p g pairs)
    (threat_by_none p g (first_by_none p (groups_of (board_of p)) none g (Among-groups (board_of p) g some.2.lacks.line)) pairs) h)

pub first_none_from : (p : Position) → ((g : Group) (pairs : List Pair) → is_threat p g pairs ≡ false) → first_threat p ≡ None
first_none_from p none = by (first_threat p) refl
  where
    by : (o : Option (Group × List Pair)) → first_threat p ≡ o → first_threat p ≡ None
    by None is = is
    by (Some x) is = absurd (both_ways (is_threat p x.0 x.1) (none x.0 x.1) (first_is p x.0 x.1 is))

-- ---- the first in group order

first_by_before : (p : Position) (gs : List Group) (g : Group) (pairs : List Pair) → Ordered GroupPrecedes gs → first_by p gs ≡ Some (g, pairs)
    → Among g gs × ((h : Group) → Among h gs → GroupPrecedes h g → threat_by p h ≡ None)
first_by_before p [] g pairs order is = absurd (cc is)
first_by_before p (k ∷ ks) g pairs order is = elim (either_gives g k pairs (threat_by p k) (first_by p ks) is) [
  | inl here ↦ (
    inl here.0,
    λ h among before. elim among [
      | inl same ↦ absurd (groups_one_way g g (subst (λ f. GroupPrecedes f g) (sym same ∙ here.0) before)
          (subst (λ f. GroupPrecedes f g) (sym same ∙ here.0) before))
      | inr later ↦ absurd (groups_one_way h g before (subst (λ f. GroupPrecedes f h) here.0 (order.0 h later)))
    ],
  )
  | inr later ↦ let rest = first_by_before p ks g pairs order.1 later.1 in (
    inr rest.0,
    λ h among before. elim among [
      | inl same ↦ ap (threat_by p) (sym same) ∙ later.0
      | inr more ↦ rest.1 h more before
    ],
  )
]

-- no earlier group is a threat with whatever pairs
pub first_before : (p : Position) (g : Group) (pairs : List Pair) → first_threat p ≡ Some (g, pairs) → (h : Group) (others : List Pair) → GroupPrecedes h g
    → is_threat p h others ≡ false
unfolding first_threat
first_before p g pairs is h others before = false_from_ne_true _ (λ passes.
    let some = threat_gives p h others passes in
    let none = (first_by_before p (groups_of (board_of p)) g pairs (groups_in_order (board_of p)) is).1 h
    (Among-groups (board_of p) h some.2.lacks.line) before in
    both_ways (is_threat p h others) (threat_by_none p h none others) passes)
