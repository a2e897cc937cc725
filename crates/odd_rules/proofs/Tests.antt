-- An odd threat in words of squares and lines, and the test of it.
use Rattle.std.proofs.Common.{◌≡◌, ℕ, zero, suc, ◌+◌, ◌<◌, Bool, true, false, not, ◌&&◌, ◌||◌, ◌==◌, List, [], ◌∷◌, ◌++◌, length, Option, Some, None, is_none}
use Rattle.std.proofs.Common.{refl, sym, ap, ◌∙◌, inl, inr, arith}
use Rattle.std.specs.List.{list_any, list_all, slice_get, find}
use Rattle.std.specs.Option.{option_map_or}
use Rattle.std.proofs.lemmas.Bool.{cases_Bool, both_ways, and_parts, and_from, or_cases, or_left, or_right, not-true, not_from_false, false_from_ne_true}
use Rattle.std.proofs.lemmas.Bool.{cond-true}
use Rattle.std.proofs.lemmas.Option.{same_Some}
use Rattle.game_rules.specs.Board.{Square, below}
use Rattle.game_rules.specs.Position.{Position, board_of, height, has_man, is_man, side_to_move, same_side, end_of}
use Rattle.game_rules.specs.Squares.{same_square, has_square, is_empty}
use Rattle.game_rules.specs.Groups.{Group, squares_of, lies_on}
use Rattle.game_rules.specs.declared.Side.TheVariants.{White, Black}
use Rattle.game_rules.proofs.Lists.{Among, any_gives, any_from, all_gives, all_from, chosen, Among-below, Among-below_gives, Among-append_left}
use Rattle.game_rules.proofs.Lists.{Among-append_right}
use Rattle.game_rules.proofs.Lists.{Among-append_cases}
use Rattle.game_rules.proofs.Moves.{same_side_is}
use Rattle.game_rules.proofs.Squares.{has_gives, has_from, same_square_is}
use Rattle.plan_rules.specs.Squares.{is_odd}
use Rattle.plan_rules.specs.Plan.{every_line}
use Rattle.plan_rules.proofs.Plans.{every_line_gives, every_line_from, none_is}
use Rattle.plan_rules.proofs.Squares.{Among-get, get-Among, find_one}
use Rattle.plan_rules.proofs.Turns.{empty_parts}
use Rattle.odd_rules.specs.Threat.{Pair, is_target, target, is_in_column, share_column, is_pair, bad_pair, is_unpaired, is_safe, holds_pair}
use Rattle.odd_rules.specs.Threat.{is_answered, holds_with}
use Rattle.odd_rules.specs.Threat.{is_threat, IsTarget, IsPairAt, SomePair, IsThreat}
use Rattle.odd_rules.proofs.Pairs.{share_gives, share_from}

-- what is found is of the list, and passes
pub found_one : {X : Type 0} (test : X → Bool) (xs : List X) (x : X) → find test xs ≡ Some x → Among x xs × (test x ≡ true)
found_one test [] x h = absurd (cc h)
found_one test (y ∷ xs) x h = elim (chosen (test y) (Some y) (find test xs) (Some x) h) [
  | inl passes ↦ let same = same_Some y x passes.1 in (inl same, sym (ap test same) ∙ passes.0)
  | inr fails ↦ let rest = found_one test xs x fails.1 in (inr rest.0, rest.1)
]

-- ---- the target

pub target_gives : (p : Position) (g : Group) (t : Square) → target p g ≡ Some t → IsTarget p g t
target_gives p g t h = elim (chosen (lies_on (board_of p) g) (find (is_target p g) (squares_of g)) None (Some t) h) [
  | inr off ↦ absurd (cc off.1)
  | inl on ↦
      let one = found_one (is_target p g) (squares_of g) t on.1 in
      let white = and_parts _ (list_all (λ u. same_square u t || has_man p White u) (squares_of g)) one.1 in
      let column = and_parts _ (is_odd (height p t.0)) white.0 in
      let row = and_parts (is_empty p t) (is_odd t.1) column.0 in
      record {
        line = on.0;
        in_line = has_from (squares_of g) t one.0;
        empty = row.0;
        odd_row = row.1;
        odd_column = column.1;
        others = λ u in_line apart. elim
            (or_cases _ _ (all_gives (λ u. same_square u t || has_man p White u) (squares_of g) u white.1 (has_gives (squares_of g) u in_line))) [
              | inl same ↦ absurd (both_ways (same_square u t) apart same)
              | inr man ↦ man
            ];
      }
]

pub target_from : (p : Position) (g : Group) (t : Square) → IsTarget p g t → target p g ≡ Some t
target_from p g t is = cond-true (lies_on (board_of p) g) (find (is_target p g) (squares_of g)) None is.line ∙ one_is first.1 first.2 first.3 first.4
  where
    test : is_target p g t ≡ true
    test = and_from _ _ (and_from _ _ (and_from _ _ is.empty is.odd_row) is.odd_column)
        (all_from (λ u. same_square u t || has_man p White u) (squares_of g) (λ u among. elim (cases_Bool (same_square u t)) [
          | inl same ↦ or_left _ _ same
          | inr apart ↦ or_right _ _ (is.others u (has_from (squares_of g) u among) apart)
        ]))

    first : (i : ℕ) × (u : Square) × (slice_get (squares_of g) i ≡ Some u) × (is_target p g u ≡ true) × (find (is_target p g) (squares_of g) ≡ Some u)
    first = find_one (is_target p g) (squares_of g) (any_from (is_target p g) (squares_of g) t (has_gives (squares_of g) t is.in_line) test)

    -- another square of the line is White's, so it isn't empty
    one_is : (u : Square) → slice_get (squares_of g) first.0 ≡ Some u → is_target p g u ≡ true → find (is_target p g) (squares_of g) ≡ Some u
        → find (is_target p g) (squares_of g) ≡ Some t
    one_is u at passes found = elim (cases_Bool (same_square u t)) [
      | inl same ↦ found ∙ ap (λ v. Some v) (same_square_is u t same)
      | inr apart ↦
          let white = is.others u (has_from (squares_of g) u (get-Among (squares_of g) first.0 u at)) apart in
          let none = (empty_parts p u (and_parts _ _ (and_parts _ _ (and_parts _ _ passes).0).0).0).1 in
          absurd (let gone : is_man White None ≡ true = ap (is_man White) (sym none) ∙ white in cc)
    ]

-- ---- the pairs

-- each of a list is a pair, and no two share a column, also with those before the list
pub record Good (p : Position) (t : Square) (earlier xs : List Pair) : Type 0 where
  pub each : (i : ℕ) (x : Pair) → IsPairAt xs i x → is_pair p t x ≡ true
  pub new : (i : ℕ) (x y : Pair) → Among y earlier → IsPairAt xs i x → share_column x y ≡ false
  pub apart : (i j : ℕ) (x y : Pair) → i < j → IsPairAt xs i x → IsPairAt xs j y → share_column y x ≡ false

pub share_turned : (x y : Pair) → share_column x y ≡ false → share_column y x ≡ false
share_turned x y apart = false_from_ne_true _ (λ shared.
    let common = share_gives y x shared in both_ways (share_column x y) apart (share_from x y common.0 common.2 common.1))

pub good_gives : (p : Position) (t : Square) (earlier : List Pair) (n : ℕ) (xs : List Pair) → bad_pair p t earlier n xs ≡ None → Good p t earlier xs
good_gives p t earlier n [] h = record {
  each = λ i x at. absurd (cc at);
  new = λ i x y among at. absurd (cc at);
  apart = λ i j x y order left right. absurd (cc left);
}
good_gives p t earlier n (z ∷ zs) h =
    elim (chosen (is_pair p t z && not (list_any (share_column z) earlier)) (bad_pair p t (earlier ++ z ∷ []) (n + 1) zs) (Some n) None h) [
      | inr bad ↦ absurd (cc bad.1)
      | inl good ↦ let both = and_parts (is_pair p t z) _ good.0 in from both.0 (not-true _ both.1) (good_gives p t (earlier ++ z ∷ []) (n + 1) zs good.1)
    ]
  where
    from : is_pair p t z ≡ true → list_any (share_column z) earlier ≡ false → Good p t (earlier ++ z ∷ []) zs → Good p t earlier (z ∷ zs)
    from is none rest = record { each = each; new = new; apart = apart }
      where
        each : (i : ℕ) (x : Pair) → IsPairAt (z ∷ zs) i x → is_pair p t x ≡ true
        each zero x at = ap (is_pair p t) (sym (same_Some z x at)) ∙ is
        each (suc i) x at = rest.each i x at

        new : (i : ℕ) (x y : Pair) → Among y earlier → IsPairAt (z ∷ zs) i x → share_column x y ≡ false
        new zero x y among at = ap (λ x. share_column x y) (sym (same_Some z x at))
            ∙ false_from_ne_true _ (λ shared. both_ways (list_any (share_column z) earlier) none (any_from (share_column z) earlier y among shared))
        new (suc i) x y among at = rest.new i x y (Among-append_left y earlier (z ∷ []) among) at

        apart : (i j : ℕ) (x y : Pair) → i < j → IsPairAt (z ∷ zs) i x → IsPairAt (z ∷ zs) j y → share_column y x ≡ false
        apart i zero x y order left right = absurd (omega arith)
        apart zero (suc j) x y order left right = ap (share_column y) (sym (same_Some z x left))
            ∙ rest.new j y z (Among-append_right z earlier (z ∷ []) (inl refl)) right
        apart (suc i) (suc j) x y order left right = rest.apart i j x y (omega arith) left right

pub good_from : (p : Position) (t : Square) (earlier : List Pair) (n : ℕ) (xs : List Pair) → Good p t earlier xs → bad_pair p t earlier n xs ≡ None
good_from p t earlier n [] good = refl
good_from p t earlier n (z ∷ zs) good =
    cond-true (is_pair p t z && not (list_any (share_column z) earlier)) (bad_pair p t (earlier ++ z ∷ []) (n + 1) zs) (Some n)
    (and_from _ _ (good.each 0 z refl) (not_from_false _ (false_from_ne_true _ (λ shared.
    let found = any_gives (share_column z) earlier shared in both_ways (share_column z found.0) (good.new 0 z found.0 found.1 refl) found.2))))
    ∙ good_from p t (earlier ++ z ∷ []) (n + 1) zs (record {
      each = λ i x at. good.each (suc i) x at;
      new = λ i x y among at. elim (Among-append_cases y earlier (z ∷ []) among) [
        | inl before ↦ good.new (suc i) x y before at
        | inr here ↦ last i x y at here
      ];
      apart = λ i j x y order left right. good.apart (suc i) (suc j) x y (omega arith) left right;
    })
  where
    last : (i : ℕ) (x y : Pair) → IsPairAt zs i x → Among y (z ∷ []) → share_column x y ≡ false
    last i x y at (inl same) = ap (share_column x) (sym same) ∙ good.apart 0 (suc i) z x (omega arith) refl at
    last i x y at (inr none) = absurd none

-- ---- some pair

some_gives : (test : Pair → Bool) (pairs : List Pair) → list_any test pairs ≡ true → SomePair pairs (λ x. test x ≡ true)
some_gives test pairs h =
    let found = any_gives test pairs h in let at = Among-get pairs found.0 found.1 in
    record { place = at.0; pair = found.0; is_at = at.1; has_it = found.2 }

some_from : (test : Pair → Bool) (pairs : List Pair) → SomePair pairs (λ x. test x ≡ true) → list_any test pairs ≡ true
some_from test pairs some = any_from test pairs some.pair (get-Among pairs some.place some.pair some.is_at) some.has_it

-- ---- the threat

pub holds_gives : (p : Position) (g : Group) (pairs : List Pair) (t : Square) → side_to_move p ≡ Black → end_of p ≡ None → target p g ≡ Some t
    → holds_with p pairs t ≡ true → IsThreat p g pairs t
holds_gives p g pairs t black going is h =
    let lines = and_parts _ (every_line (board_of p) (is_answered p t pairs)) h in
    let both = and_parts (is_none (bad_pair p t [] 1 pairs)) _ lines.0 in
    let good = good_gives p t [] 1 pairs (none_is (bad_pair p t [] 1 pairs) both.0) in
    record {
      black = black;
      going = going;
      lacks = target_gives p g t is;
      fitting = good.each;
      apart = λ i j x y order left right. share_turned y x (good.apart i j x y order left right);
      paired = λ c within apart odd. elim (cases_Bool (list_any (is_in_column c) pairs)) [
        | inl some ↦ some_gives (is_in_column c) pairs some
        | inr none ↦ absurd (both_ways (list_any (is_unpaired p t pairs) (below (length p.columns))) (not-true _ both.1)
            (any_from (is_unpaired p t pairs) (below (length p.columns)) c (Among-below (length p.columns) c within)
            (and_from _ _ (and_from _ _ (not_from_false _ apart) odd) (not_from_false _ none))))
      ];
      answered = λ h lies no_white. elim (or_cases _ _ (every_line_gives (board_of p) (is_answered p t pairs) lines.1 h lies)) [
        | inr held ↦ inr (some_gives (holds_pair h) pairs held)
        | inl either ↦ elim (or_cases _ _ either) [
          | inl some ↦ let found = any_gives (has_man p White) (squares_of h) some in
              absurd (both_ways (has_man p White found.0) (no_white found.0 (has_from (squares_of h) found.0 found.1)) found.2)
          | inr some ↦ let found = any_gives (is_safe p t pairs) (squares_of h) some in
              inl (record { square = found.0; in_line = has_from (squares_of h) found.0 found.1; safe = found.2 })
        ]
      ];
    }

pub threat_gives : (p : Position) (g : Group) (pairs : List Pair) → is_threat p g pairs ≡ true → (t : Square) × (target p g ≡ Some t) × IsThreat p g pairs t
threat_gives p g pairs h = by (target p g) refl holds.1
  where
    holds : ((same_side Black (side_to_move p) && is_none (end_of p)) ≡ true) × (option_map_or (holds_with p pairs) (target p g) false ≡ true)
    holds = and_parts _ _ h

    by : (o : Option Square) → target p g ≡ o → option_map_or (holds_with p pairs) o false ≡ true → (t : Square) × (target p g ≡ Some t) × IsThreat p g pairs t
    by None is h = absurd (cc h)
    by (Some t) is h = let both = and_parts (same_side Black (side_to_move p)) (is_none (end_of p)) holds.0 in
        (t, is, holds_gives p g pairs t (sym (same_side_is Black (side_to_move p) both.0)) (none_is (end_of p) both.1) is h)

pub threat_from : (p : Position) (g : Group) (pairs : List Pair) (t : Square) → IsThreat p g pairs t → is_threat p g pairs ≡ true
threat_from p g pairs t threat =
    and_from _ _ (and_from _ _ (ap (same_side Black) threat.black) (ap is_none threat.going))
    (ap (λ o. option_map_or (holds_with p pairs) o false) (target_from p g t threat.lacks) ∙ holds)
  where
    none_unpaired : list_any (is_unpaired p t pairs) (below (length p.columns)) ≡ false
    none_unpaired = false_from_ne_true _ (λ some.
        let found = any_gives (is_unpaired p t pairs) (below (length p.columns)) some in
        let alone = and_parts _ _ found.2 in let column = and_parts (not (found.0 == t.0)) (is_odd (height p found.0)) alone.0 in
        both_ways (list_any (is_in_column found.0) pairs) (not-true _ alone.1)
        (some_from (is_in_column found.0) pairs
        (threat.paired found.0 (Among-below_gives (length p.columns) found.0 found.1) (not-true _ column.0) column.1)))

    no_white : (h : Group) → list_any (has_man p White) (squares_of h) ≡ false → (u : Square) → has_square (squares_of h) u ≡ true → has_man p White u ≡ false
    no_white h none u in_line = false_from_ne_true _ (λ white.
        both_ways (list_any (has_man p White) (squares_of h)) none (any_from (has_man p White) (squares_of h) u (has_gives (squares_of h) u in_line) white))

    each_line : (h : Group) → lies_on (board_of p) h ≡ true → is_answered p t pairs h ≡ true
    each_line h lies = elim (cases_Bool (list_any (has_man p White) (squares_of h))) [
      | inl some ↦ or_left _ _ (or_left _ _ some)
      | inr none ↦ elim (threat.answered h lies (no_white h none)) [
        | inl some ↦ or_left _ _ (or_right _ _
            (any_from (is_safe p t pairs) (squares_of h) some.square (has_gives (squares_of h) some.square some.in_line) some.safe))
        | inr some ↦ or_right _ _ (some_from (holds_pair h) pairs some)
      ]
    ]

    holds : holds_with p pairs t ≡ true
    holds = and_from _ _ (and_from _ _
        (ap is_none (good_from p t [] 1 pairs (record {
          each = threat.fitting;
          new = λ i x y among at. absurd among;
          apart = λ i j x y order left right. share_turned x y (threat.apart i j x y order left right);
        })))
        (not_from_false _ none_unpaired))
        (every_line_from (board_of p) (is_answered p t pairs) each_line)
