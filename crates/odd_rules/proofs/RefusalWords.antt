-- Why a group and a list of pairs are no threat, in words: each fault exactly where its own condition holds and that of
-- no fault before it.
use Rattle.std.proofs.Common.{◌≡◌, ◌≢◌, ◌⊎◌, ℕ, zero, suc, ◌+◌, ◌<◌, Bool, true, false, not, ◌&&◌, ◌==◌, if◌then◌else◌, List, [], ◌∷◌, ◌++◌, length, take}
use Rattle.std.proofs.Common.{Option, Some, None, is_some, is_none, refl, sym, ap, ◌∙◌, subst, inl, inr, arith, append_assoc}
use Rattle.std.specs.List.{list_any, find}
use Rattle.std.specs.Option.{option_map, option_or}
use Rattle.std.proofs.lemmas.Bool.{both_ways, and_parts, and_from, and_cases, or_parts, or_from, not-true, not-false, not_from_true, not_from_false}
use Rattle.std.proofs.lemmas.Bool.{false_from_ne_true, eq-eqb, ne_eqb, and_left, and_right, cond-true, cond-false}
use Rattle.std.proofs.lemmas.List.{append-nil}
use Rattle.std.proofs.lemmas.Option.{same_Some}
use Rattle.game_rules.specs.Board.{Square, below}
use Rattle.game_rules.specs.Position.{Position, board_of, height, has_man, side_to_move, same_side, end_of}
use Rattle.game_rules.specs.Squares.{has_square}
use Rattle.game_rules.specs.Groups.{Group, squares_of, lies_on, groups_of, Precedes}
use Rattle.game_rules.specs.declared.Side.{Side}
use Rattle.game_rules.specs.declared.Side.TheVariants.{White, Black}
use Rattle.game_rules.specs.declared.End.{End}
use Rattle.game_rules.proofs.Lists.{Among, any_gives, any_from, all_gives, all_from, chosen, Among-below, Among-below_gives}
use Rattle.game_rules.proofs.Moves.{same_side_is}
use Rattle.game_rules.proofs.Squares.{has_gives, has_from}
use Rattle.game_rules.proofs.Groups.{Ordered-range, groups_in_order, Among-groups, Among-groups_gives}
use Rattle.plan_rules.specs.Squares.{is_odd}
use Rattle.plan_rules.specs.Refusal.{IsFirstOf}
use Rattle.plan_rules.proofs.FaultWords.{or_gives, map_gives, map_none, groups_one_way}
use Rattle.plan_rules.proofs.Plans.{none_is}
use Rattle.plan_rules.proofs.PlaceWords.{find_gives, find_from}
use Rattle.plan_rules.proofs.Refusals.{no_find}
use Rattle.plan_rules.proofs.Squares.{Among-get, get-Among}
use Rattle.odd_rules.specs.Threat.{Pair, target, is_in_column, share_column, is_pair, bad_pair, is_unpaired, is_safe, holds_pair, is_answered}
use Rattle.odd_rules.specs.Threat.{IsTarget, IsPairAt}
use Rattle.odd_rules.specs.Refusal.{ThreatFault, not_black_to_move, ended, bad_group, bad_member, unpaired, unanswered, pairs_refusal, target_refusal}
use Rattle.odd_rules.specs.Refusal.{threat_refusal, IsGoing, ArePairs, SharesEarlier, IsBadAt, IsUnpaired, IsUnanswered, IsRefusal}
use Rattle.odd_rules.proofs.Tests.{target_gives, target_from, share_turned, good_gives, good_from}

-- ---- members

pairs_give : (p : Position) (t : Square) (n : ℕ) (xs : List Pair) → bad_pair p t [] n xs ≡ None → ArePairs p t xs
pairs_give p t n xs none =
    let good = good_gives p t [] n xs none in
    record { fitting = good.each; apart = λ i j x y order left right. share_turned y x (good.apart i j x y order left right) }

pairs_from : (p : Position) (t : Square) (n : ℕ) (xs : List Pair) → ArePairs p t xs → bad_pair p t [] n xs ≡ None
pairs_from p t n xs are = good_from p t [] n xs (record {
  each = are.fitting;
  new = λ i x y among at. absurd among;
  apart = λ i j x y order left right. share_turned x y (are.apart i j x y order left right);
})

-- the first bad member, where some members stand before the list
record BadAt (p : Position) (t : Square) (earlier : List Pair) (n : ℕ) (xs : List Pair) (number : ℕ) : Type 0 where
  place : ℕ
  counted : number ≡ n + place
  pair : Pair
  is_at : IsPairAt xs place pair
  bad : (is_pair p t pair && not (list_any (share_column pair) (earlier ++ take place xs))) ≡ false
  before : bad_pair p t earlier n (take place xs) ≡ None

bad_gives : (p : Position) (t : Square) (earlier : List Pair) (n : ℕ) (xs : List Pair) (number : ℕ) → bad_pair p t earlier n xs ≡ Some number
    → BadAt p t earlier n xs number
bad_gives p t earlier n [] number h = absurd (cc h)
bad_gives p t earlier n (z ∷ zs) number h =
    elim (chosen (is_pair p t z && not (list_any (share_column z) earlier)) (bad_pair p t (earlier ++ z ∷ []) (n + 1) zs) (Some n) (Some number) h) [
      | inr bad ↦ record {
        place = 0;
        counted = let same = same_Some n number bad.1 in omega arith;
        pair = z;
        is_at = refl;
        bad = ap (λ ys. is_pair p t z && not (list_any (share_column z) ys)) (append-nil earlier) ∙ bad.0;
        before = refl;
      }
      | inl good ↦ from good.0 (bad_gives p t (earlier ++ z ∷ []) (n + 1) zs number good.1)
    ]
  where
    from : (is_pair p t z && not (list_any (share_column z) earlier)) ≡ true → BadAt p t (earlier ++ z ∷ []) (n + 1) zs number
        → BadAt p t earlier n (z ∷ zs) number
    from good rest = record {
      place = suc rest.place;
      counted = let counted = rest.counted in omega arith;
      pair = rest.pair;
      is_at = rest.is_at;
      bad = ap (λ ys. is_pair p t rest.pair && not (list_any (share_column rest.pair) ys)) (sym (append_assoc earlier (z ∷ []) (take rest.place zs)))
          ∙ rest.bad;
      before = cond-true (is_pair p t z && not (list_any (share_column z) earlier)) (bad_pair p t (earlier ++ z ∷ []) (n + 1) (take rest.place zs))
          (Some n) good
          ∙ rest.before;
    }

bad_from : (p : Position) (t : Square) (earlier : List Pair) (n : ℕ) (xs : List Pair) (place : ℕ) (pair : Pair) → IsPairAt xs place pair
    → (is_pair p t pair && not (list_any (share_column pair) (earlier ++ take place xs))) ≡ false → bad_pair p t earlier n (take place xs) ≡ None
    → bad_pair p t earlier n xs ≡ Some (n + place)
bad_from p t earlier n [] place pair at bad before = absurd (cc at)
bad_from p t earlier n (z ∷ zs) zero pair at bad before =
    let here : z ≡ pair = same_Some z pair at in
    cond-false (is_pair p t z && not (list_any (share_column z) earlier)) (bad_pair p t (earlier ++ z ∷ []) (n + 1) zs) (Some n)
    (ap (λ x. is_pair p t x && not (list_any (share_column x) earlier)) here
    ∙ ap (λ ys. is_pair p t pair && not (list_any (share_column pair) ys)) (sym (append-nil earlier)) ∙ bad)
    ∙ ap (λ m. Some m) (omega arith)
bad_from p t earlier n (z ∷ zs) (suc place) pair at bad before =
    elim (chosen (is_pair p t z && not (list_any (share_column z) earlier)) (bad_pair p t (earlier ++ z ∷ []) (n + 1) (take place zs)) (Some n) None before) [
      | inr other ↦ absurd (cc other.1)
      | inl good ↦
          cond-true (is_pair p t z && not (list_any (share_column z) earlier)) (bad_pair p t (earlier ++ z ∷ []) (n + 1) zs) (Some n) good.0
          ∙ bad_from p t (earlier ++ z ∷ []) (n + 1) zs place pair at
          (ap (λ ys. is_pair p t pair && not (list_any (share_column pair) ys)) (append_assoc earlier (z ∷ []) (take place zs)) ∙ bad) good.1
          ∙ ap (λ m. Some m) (omega arith)
    ]

-- the elements before a place
before_gives : (xs : List Pair) (i : ℕ) (y : Pair) → Among y (take i xs) → (j : ℕ) × (j < i) × IsPairAt xs j y
before_gives xs zero y among = absurd among
before_gives [] (suc i) y among = absurd among
before_gives (x ∷ xs) (suc i) y (inl same) = (0, omega arith, ap (λ z. Some z) same)
before_gives (x ∷ xs) (suc i) y (inr later) = let rest = before_gives xs i y later in (suc rest.0, omega (arith, rest.1), rest.2)

before_from : (xs : List Pair) (i j : ℕ) (y : Pair) → j < i → IsPairAt xs j y → Among y (take i xs)
before_from [] i j y before at = absurd (cc at)
before_from (x ∷ xs) zero j y before at = absurd (omega arith)
before_from (x ∷ xs) (suc i) zero y before at = inl (same_Some x y at)
before_from (x ∷ xs) (suc i) (suc j) y before at = inr (before_from xs i j y (omega arith) at)

bad_words : (p : Position) (t : Square) (pairs : List Pair) (number : ℕ) → bad_pair p t [] 1 pairs ≡ Some number → IsBadAt p t pairs number
bad_words p t pairs number h = from (bad_gives p t [] 1 pairs number h)
  where
    from : BadAt p t [] 1 pairs number → IsBadAt p t pairs number
    from is = record {
      place = is.place;
      counted = is.counted;
      pair = is.pair;
      is_at = is.is_at;
      bad = elim (and_cases (is_pair p t is.pair) (not (list_any (share_column is.pair) (take is.place pairs))) is.bad) [
        | inl none ↦ inl none
        | inr some ↦
            let found = any_gives (share_column is.pair) (take is.place pairs) (not-false _ some) in
            let at = before_gives pairs is.place found.0 found.1 in
            inr (record { earlier = at.0; before = at.1; pair = found.0; is_at = at.2; shares = found.2 })
      ];
      earlier = pairs_give p t 1 (take is.place pairs) is.before;
    }

words_bad : (p : Position) (t : Square) (pairs : List Pair) (number : ℕ) → IsBadAt p t pairs number → bad_pair p t [] 1 pairs ≡ Some number
words_bad p t pairs number is =
    bad_from p t [] 1 pairs is.place is.pair is.is_at (fails is.bad) (pairs_from p t 1 (take is.place pairs) is.earlier)
    ∙ ap (λ m. Some m) (sym is.counted)
  where
    fails : (is_pair p t is.pair ≡ false) ⊎ SharesEarlier pairs is.place is.pair
        → (is_pair p t is.pair && not (list_any (share_column is.pair) (take is.place pairs))) ≡ false
    fails (inl none) = and_left _ _ none
    fails (inr some) = and_right _ _ (not_from_true _
        (any_from (share_column is.pair) (take is.place pairs) some.pair
        (before_from pairs is.place some.earlier some.pair some.before some.is_at) some.shares))

-- no pair passes, as a test and by their places
no_pair : (test : Pair → Bool) (pairs : List Pair) → list_any test pairs ≡ false → (i : ℕ) (x : Pair) → IsPairAt pairs i x → test x ≡ false
no_pair test pairs none i x at = false_from_ne_true (test x)
    (λ passes. both_ways (list_any test pairs) none (any_from test pairs x (get-Among pairs i x at) passes))

pair_none : (test : Pair → Bool) (pairs : List Pair) → ((i : ℕ) (x : Pair) → IsPairAt pairs i x → test x ≡ false) → list_any test pairs ≡ false
pair_none test pairs none = false_from_ne_true (list_any test pairs) (λ some.
    let found = any_gives test pairs some in let at = Among-get pairs found.0 found.1 in
    both_ways (test found.0) (none at.0 found.0 at.1) found.2)

-- ---- columns and lines

unpaired_gives : (p : Position) (t : Square) (pairs : List Pair) (c : ℕ) → c < length p.columns → is_unpaired p t pairs c ≡ true → IsUnpaired p t pairs c
unpaired_gives p t pairs c within h =
    let alone = and_parts _ (not (list_any (is_in_column c) pairs)) h in let column = and_parts (not (c == t.0)) (is_odd (height p c)) alone.0 in
    record {
      within = within;
      beside_target = λ same. both_ways (c == t.0) (not-true _ column.0) (eq-eqb c t.0 same);
      odd = column.1;
      alone = no_pair (is_in_column c) pairs (not-true _ alone.1);
    }

unpaired_from : (p : Position) (t : Square) (pairs : List Pair) (c : ℕ) → IsUnpaired p t pairs c → is_unpaired p t pairs c ≡ true
unpaired_from p t pairs c is =
    and_from _ _ (and_from _ _ (not_from_false _ (ne_eqb c t.0 is.beside_target)) is.odd) (not_from_false _ (pair_none (is_in_column c) pairs is.alone))

-- no square of a line passes
no_square : (test : Square → Bool) (g : Group) → list_any test (squares_of g) ≡ false → (u : Square) → has_square (squares_of g) u ≡ true → test u ≡ false
no_square test g none u in_line = false_from_ne_true (test u) (λ passes.
    both_ways (list_any test (squares_of g)) none (any_from test (squares_of g) u (has_gives (squares_of g) u in_line) passes))

square_none : (test : Square → Bool) (g : Group) → ((u : Square) → has_square (squares_of g) u ≡ true → test u ≡ false) → list_any test (squares_of g) ≡ false
square_none test g none = false_from_ne_true (list_any test (squares_of g)) (λ some.
    let found = any_gives test (squares_of g) some in both_ways (test found.0) (none found.0 (has_from (squares_of g) found.0 found.1)) found.2)

unanswered_gives : (p : Position) (t : Square) (pairs : List Pair) (g : Group) → lies_on (board_of p) g ≡ true → not (is_answered p t pairs g) ≡ true
    → IsUnanswered p t pairs g
unanswered_gives p t pairs g lies h =
    let all = or_parts _ (list_any (holds_pair g) pairs) (not-true _ h) in
    let both = or_parts (list_any (has_man p White) (squares_of g)) (list_any (is_safe p t pairs) (squares_of g)) all.0 in
    record {
      line = lies;
      no_white = no_square (has_man p White) g both.0;
      no_safe = no_square (is_safe p t pairs) g both.1;
      no_pair = no_pair (holds_pair g) pairs all.1;
    }

unanswered_from : (p : Position) (t : Square) (pairs : List Pair) (g : Group) → IsUnanswered p t pairs g → not (is_answered p t pairs g) ≡ true
unanswered_from p t pairs g is = not_from_false _ (or_from _ _
    (or_from _ _ (square_none (has_man p White) g is.no_white) (square_none (is_safe p t pairs) g is.no_safe)) (pair_none (holds_pair g) pairs is.no_pair))

-- what is found first, in words
first_unpaired : (p : Position) (t : Square) (pairs : List Pair) (c : ℕ) → find (is_unpaired p t pairs) (below (length p.columns)) ≡ Some c
    → IsFirstOf (IsUnpaired p t pairs) (λ c d. c < d) c
first_unpaired p t pairs c found =
    let is = find_gives (λ c d. c < d) (is_unpaired p t pairs) (below (length p.columns)) c (Ordered-range 0 (length p.columns)) found in
    record {
      is_one = unpaired_gives p t pairs c (Among-below_gives (length p.columns) c is.0) is.1;
      first = λ d other. is.2 d (Among-below (length p.columns) d other.within) (unpaired_from p t pairs d other);
    }

unpaired_found : (p : Position) (t : Square) (pairs : List Pair) (c : ℕ) → IsFirstOf (IsUnpaired p t pairs) (λ c d. c < d) c
    → find (is_unpaired p t pairs) (below (length p.columns)) ≡ Some c
unpaired_found p t pairs c is =
    find_from (λ c d. c < d) (is_unpaired p t pairs) (below (length p.columns)) c (Ordered-range 0 (length p.columns)) (λ d e before after. omega arith)
    (Among-below (length p.columns) c is.is_one.within) (unpaired_from p t pairs c is.is_one)
    (λ d among other. is.first d (unpaired_gives p t pairs d (Among-below_gives (length p.columns) d among) other))

no_unpaired : (p : Position) (t : Square) (pairs : List Pair) → find (is_unpaired p t pairs) (below (length p.columns)) ≡ None → (c : ℕ)
    → IsUnpaired p t pairs c → ⊥
no_unpaired p t pairs none c is =
    both_ways (is_unpaired p t pairs c) (not-true _ (all_gives (λ c. not (is_unpaired p t pairs c)) (below (length p.columns)) c
    (sym (no_find (is_unpaired p t pairs) (below (length p.columns))) ∙ ap is_none none) (Among-below (length p.columns) c is.within)))
    (unpaired_from p t pairs c is)

unpaired_none : (p : Position) (t : Square) (pairs : List Pair) → ((c : ℕ) → IsUnpaired p t pairs c → ⊥)
    → find (is_unpaired p t pairs) (below (length p.columns)) ≡ None
unpaired_none p t pairs none = none_is _ (no_find (is_unpaired p t pairs) (below (length p.columns))
    ∙ all_from (λ c. not (is_unpaired p t pairs c)) (below (length p.columns)) (λ c among. not_from_false _ (false_from_ne_true _ (λ h.
    none c (unpaired_gives p t pairs c (Among-below_gives (length p.columns) c among) h)))))

-- ---- from a fault to its condition

pairs_say : (p : Position) (g : Group) (pairs : List Pair) (t : Square) (fault : ThreatFault) → IsGoing p → IsTarget p g t
    → pairs_refusal p pairs t ≡ Some fault
    → IsRefusal p g pairs fault
pairs_say p g pairs t fault going lacks h = elim (or_gives _ _ fault h) [
  | inl first ↦
      let found = map_gives bad_member (bad_pair p t [] 1 pairs) fault first in
      subst (IsRefusal p g pairs) found.2 (going, t, lacks, bad_words p t pairs found.0 found.1)
  | inr later ↦
      let are = pairs_give p t 1 pairs (map_none bad_member (bad_pair p t [] 1 pairs) later.0) in
      elim (or_gives _ _ fault later.1) [
        | inl second ↦
            let found = map_gives unpaired (find (is_unpaired p t pairs) (below (length p.columns))) fault second in
            subst (IsRefusal p g pairs) found.2 (going, t, lacks, are, first_unpaired p t pairs found.0 found.1)
        | inr third ↦
            let none = map_none unpaired (find (is_unpaired p t pairs) (below (length p.columns))) third.0 in
            let found = map_gives unanswered (find (λ h. not (is_answered p t pairs h)) (groups_of (board_of p))) fault third.1 in
            let is = find_gives Precedes (λ h. not (is_answered p t pairs h)) (groups_of (board_of p)) found.0 (groups_in_order (board_of p)) found.1 in
            subst (IsRefusal p g pairs) found.2 (
              going,
              t,
              lacks,
              are,
              no_unpaired p t pairs none,
              record {
                is_one = unanswered_gives p t pairs found.0 (Among-groups_gives (board_of p) found.0 is.0) is.1;
                first = λ h other. is.2 h (Among-groups (board_of p) h other.line) (unanswered_from p t pairs h other);
              },
            )
      ]
]

target_says : (p : Position) (g : Group) (pairs : List Pair) (o : Option Square) (fault : ThreatFault) → target p g ≡ o → IsGoing p
    → target_refusal p pairs o ≡ Some fault → IsRefusal p g pairs fault
target_says p g pairs None fault none going h = subst (IsRefusal p g pairs) (same_Some bad_group fault h)
    (going, λ t is. absurd (cc (none, target_from p g t is)))
target_says p g pairs (Some t) fault is going h = pairs_say p g pairs t fault going (target_gives p g t is) h

-- what the position is refused for, and else the rest
abbrev told : Bool → Option End → Option ThreatFault → Option ThreatFault
told black end rest = option_or (if not black then Some not_black_to_move else (if is_some end then Some ended else None)) rest

other_than_black : (side : Side) → same_side Black side ≡ false → side ≡ White
other_than_black White h = refl
other_than_black Black h = absurd (cc h)

pub refusal_says : (p : Position) (g : Group) (pairs : List Pair) (fault : ThreatFault) → threat_refusal p g pairs ≡ Some fault → IsRefusal p g pairs fault
refusal_says p g pairs fault h = by (same_side Black (side_to_move p)) refl (end_of p) refl h
  where
    by : (black : Bool) → same_side Black (side_to_move p) ≡ black → (end : Option End) → end_of p ≡ end
        → told black end (target_refusal p pairs (target p g)) ≡ Some fault → IsRefusal p g pairs fault
    by false side end over h = subst (IsRefusal p g pairs) (same_Some not_black_to_move fault h) (other_than_black (side_to_move p) side)
    by true side (Some end) over h = subst (IsRefusal p g pairs) (same_Some ended fault h)
        (sym (same_side_is Black (side_to_move p) side), λ none. absurd (cc (none, over)))
    by true side None over h = target_says p g pairs (target p g) fault refl (record { black = sym (same_side_is Black (side_to_move p) side); going = over }) h

-- ---- from the condition to the fault

told_going : (p : Position) (g : Group) (pairs : List Pair) → IsGoing p → threat_refusal p g pairs ≡ target_refusal p pairs (target p g)
told_going p g pairs going =
    ap (λ black. told black (end_of p) (target_refusal p pairs (target p g))) (ap (same_side Black) going.black)
    ∙ ap (λ end. told true end (target_refusal p pairs (target p g))) going.going

told_target : (p : Position) (g : Group) (pairs : List Pair) (t : Square) → IsGoing p → IsTarget p g t → threat_refusal p g pairs ≡ pairs_refusal p pairs t
told_target p g pairs t going is = told_going p g pairs going ∙ ap (target_refusal p pairs) (target_from p g t is)

-- the three searches of the pairs
abbrev of_three : Option ℕ → Option ℕ → Option Group → Option ThreatFault
of_three i c h = option_or (option_map bad_member i) (option_or (option_map unpaired c) (option_map unanswered h))

pub says_refusal : (p : Position) (g : Group) (pairs : List Pair) (fault : ThreatFault) → IsRefusal p g pairs fault → threat_refusal p g pairs ≡ Some fault
says_refusal p g pairs not_black_to_move white =
    ap (λ black. told black (end_of p) (target_refusal p pairs (target p g))) (ap (same_side Black) white)
says_refusal p g pairs ended is =
    ap (λ black. told black (end_of p) (target_refusal p pairs (target p g))) (ap (same_side Black) is.0) ∙ by_end (end_of p) is.1
  where
    by_end : (end : Option End) → end ≢ None → told true end (target_refusal p pairs (target p g)) ≡ Some ended
    by_end None over = absurd (over refl)
    by_end (Some end) over = refl
says_refusal p g pairs bad_group is = told_going p g pairs is.0 ∙ none (target p g) refl
  where
    none : (o : Option Square) → target p g ≡ o → target_refusal p pairs o ≡ Some bad_group
    none None at = refl
    none (Some t) at = absurd (is.1 t (target_gives p g t at))
says_refusal p g pairs (bad_member i) is =
    told_target p g pairs is.1 is.0 is.2
    ∙ ap (λ o. of_three o (find (is_unpaired p is.1 pairs) (below (length p.columns))) (find (λ h. not (is_answered p is.1 pairs h)) (groups_of (board_of p))))
    (words_bad p is.1 pairs i is.3)
says_refusal p g pairs (unpaired c) is =
    told_target p g pairs is.1 is.0 is.2
    ∙ ap (λ o. of_three o (find (is_unpaired p is.1 pairs) (below (length p.columns))) (find (λ h. not (is_answered p is.1 pairs h)) (groups_of (board_of p))))
    (pairs_from p is.1 1 pairs is.3)
    ∙ ap (λ o. of_three None o (find (λ h. not (is_answered p is.1 pairs h)) (groups_of (board_of p)))) (unpaired_found p is.1 pairs c is.4)
says_refusal p g pairs (unanswered h) is =
    told_target p g pairs is.1 is.0 is.2
    ∙ ap (λ o. of_three o (find (is_unpaired p is.1 pairs) (below (length p.columns))) (find (λ h. not (is_answered p is.1 pairs h)) (groups_of (board_of p))))
    (pairs_from p is.1 1 pairs is.3)
    ∙ ap (λ o. of_three None o (find (λ h. not (is_answered p is.1 pairs h)) (groups_of (board_of p)))) (unpaired_none p is.1 pairs is.4)
    ∙ ap (of_three None None) (find_from Precedes (λ h. not (is_answered p is.1 pairs h)) (groups_of (board_of p)) h
    (groups_in_order (board_of p)) groups_one_way
    (Among-groups (board_of p) h is.5.is_one.line) (unanswered_from p is.1 pairs h is.5.is_one)
    (λ other among left. is.5.first other (unanswered_gives p is.1 pairs other (Among-groups_gives (board_of p) other among) left)))
