-- What a quick search for a plan rests on: only a set that leaves no square open can give a plan, and then only its
-- lines have to be asked; a zone may follow where its first square is the first open one; a zone takes its squares from
-- the open ones and gives them back; and an answer is looked for rule by rule, where it can be.
use Rattle.std.proofs.Common.{◌≡◌, Bool, true, false, not, ◌&&◌, ◌||◌, List, [], ◌∷◌, ◌++◌, map, filter, Option, Some, None, is_some, is_none, refl, sym, ap}
use Rattle.std.proofs.Common.{◌∙◌, subst, inl, inr, ℕ, ◌+◌, ◌-◌, arith}
use Rattle.std.specs.List.{list_all, list_any, find}
use Rattle.std.specs.Option.{option_or}
use Rattle.std.proofs.lemmas.Bool.{cases_Bool, both_ways, and_parts, and_from, and_right, or_right, not_from_false, false_from_ne_true}
use Rattle.std.proofs.lemmas.List.Elements.{filter-append}
use Rattle.std.proofs.lemmas.List.Folds.{find-append}
use Rattle.game_rules.specs.Board.{Square, below, line_length, step_of}
use Rattle.game_rules.specs.Position.{Position, board_of, has_man, side_to_move, same_side, end_of}
use Rattle.game_rules.specs.Squares.{same_square, has_square, is_empty, is_playable}
use Rattle.game_rules.specs.Groups.{Group, squares_of, groups_of}
use Rattle.game_rules.specs.declared.Side.TheVariants.{White, Black}
use Rattle.game_rules.specs.declared.Way.{Way}
use Rattle.game_rules.specs.declared.Way.TheVariants.{H, V, U, D}
use Rattle.game_rules.proofs.Lists.{Among, any_gives, all_gives, all_from, Among-map_gives}
use Rattle.game_rules.proofs.Narrowed.{filter_both}
use Rattle.game_rules.proofs.Squares.{same_square_refl, same_square_is, has_gives, filter_same}
use Rattle.plan_rules.specs.Squares.{above}
use Rattle.plan_rules.specs.Rules.{RuleInstance, claimeven, baseinverse, lowinverse, highinverse, baseclaim, vertical, aftereven, before, specialbefore}
use Rattle.plan_rules.specs.Rules.{zone_of, Facts, facts_of, fits, barred, is_supported, is_twin, is_low_line, together}
use Rattle.plan_rules.specs.Listing.{squares_at, playable_squares, each_with, listed}
use Rattle.plan_rules.specs.Plan.{each_two, every_square, has_owner, empty_part, is_barred}
use Rattle.plan_rules.specs.Zones.{owns_zone}
use Rattle.plan_rules.specs.Refusal.{is_uncovered}
use Rattle.plan_rules.specs.declared.Kind.{Kind}
use Rattle.plan_rules.specs.declared.Kind.TheVariants as kinds
use Rattle.plan_rules.proofs.Grounds.{fits_empty, fits_more}
use Rattle.plan_rules.proofs.Places.{find_map}
use Rattle.plan_rules.proofs.Refusals.{all_same, squares_all}
use Rattle.plan_rules.proofs.Table.{zones_apart}
use Rattle.walk_rules.specs.Walk.{open_squares, owns_first, may_follow, is_plan_position, supported_by, is_left, answer_to, gives_plan}
use Rattle.walk_rules.specs.Steps.{is_zone_set}
use Rattle.walk_rules.specs.Answers.{is_none_of, least_of, starts_at, bars, is_answer, first_written}
use Rattle.walk_rules.proofs.Lists.{find_among}
use Rattle.walk_rules.proofs.Walks.{owner_more}
use Rattle.walk_rules.proofs.Given.{supported_gives, is_plan_but_lines, plan_with}

-- ---- only full sets

-- a zone rule rests on nothing
zone_supported : (w : RuleInstance) (facts : Facts) → owns_zone w ≡ true → is_supported w facts ≡ true
zone_supported (claimeven x) facts owns = refl
zone_supported (baseinverse s t) facts owns = refl
zone_supported (lowinverse x x_top y y_top) facts owns = refl
zone_supported (highinverse x y) facts owns = refl
zone_supported (baseclaim a b e) facts owns = refl
zone_supported w facts owns = absurd (cc owns)

pub found_some : {X : Type 0} (test : X → Bool) (xs : List X) → is_some (find test xs) ≡ list_any test xs
found_some test [] = refl
found_some test (x ∷ xs) = elim (cases_Bool (test x)) [ inl passes ↦ rw passes refl | inr fails ↦ rw fails (found_some test xs) ]

none_open_is : (e o : Square → Bool) (us : List Square) → is_none_of (filter (λ u. e u && not (o u)) us) ≡ list_all (λ u. not (e u) || o u) us
none_open_is e o [] = refl
none_open_is e o (u ∷ us) = elim (cases_Bool (e u)) [
  | inr filled ↦ rw filled (none_open_is e o us)
  | inl empty ↦ elim (cases_Bool (o u)) [ inl owned ↦ rw (empty, owned) (none_open_is e o us) | inr left_open ↦ rw (empty, left_open) refl ]
]

-- a set of the walk gives a plan exactly where it leaves no square open, and each line that it leaves has an answer
pub full_test : (p : Position) (set : List RuleInstance) → is_plan_position p ≡ true → is_zone_set p set ≡ true
    → gives_plan p set ≡ (is_none_of (open_squares p set) && list_all (λ g. not (is_left p set g) || is_some (answer_to p set g)) (groups_of (board_of p)))
full_test p set going is =
    plan_with p set (supported_by p set) (supported_gives p set)
    ∙ ap (λ b. b && list_all (λ g. list_any (has_man p Black) (squares_of g) || (is_barred p set g || list_any (bars p set g) (supported_by p set)))
    (groups_of (board_of p))) covers
    ∙ ap (λ b. is_none_of (open_squares p set) && b) (all_same _ _ (groups_of (board_of p)) line_is)
  where
    members : (list_all (λ w. owns_zone w && fits w p) set ≡ true) × (each_two together set ≡ true)
    members = and_parts (list_all (λ w. owns_zone w && fits w p) set) (each_two together set) is

    member : (w : RuleInstance) → Among w set → (owns_zone w ≡ true) × (fits w p ≡ true)
    member w among = and_parts (owns_zone w) (fits w p) (all_gives (λ w. owns_zone w && fits w p) set w members.0 among)

    fitted : list_all (λ w. fits w p) set ≡ true
    fitted = all_from (λ w. fits w p) set (λ w among. (member w among).1)

    supported : list_all (λ w. is_supported w (facts_of p set)) set ≡ true
    supported = all_from (λ w. is_supported w (facts_of p set)) set (λ w among. zone_supported w (facts_of p set) (member w among).0)

    covered : every_square (board_of p) (λ u. not (is_empty p u) || has_owner set u) ≡ is_none_of (open_squares p set)
    covered = sym (none_open_is (is_empty p) (has_owner set) (squares_at p) ∙ squares_all (board_of p) (λ u. not (is_empty p u) || has_owner set u))

    six : (a b c d e f : Bool) → (a && b) ≡ true → c ≡ true → d ≡ true → f ≡ true → (a && b && c && d && e && f) ≡ e
    six a b c d true f ab c_true d_true f_true = rw (ab, c_true, d_true, f_true) refl
    six a b c d false f ab c_true d_true f_true = rw (ab, c_true, d_true) refl

    covers : is_plan_but_lines p set ≡ is_none_of (open_squares p set)
    covers = six (same_side White (side_to_move p)) (is_none (end_of p)) _ _ _ _ going fitted members.1 supported ∙ covered

    or_twice : (a b c : Bool) → (a || (b || c)) ≡ (not (not (a || b)) || c)
    or_twice true b c = refl
    or_twice false true c = refl
    or_twice false false c = refl

    line_is : (g : Group) → (list_any (has_man p Black) (squares_of g) || (is_barred p set g || list_any (bars p set g) (supported_by p set)))
        ≡ (not (is_left p set g) || is_some (answer_to p set g))
    line_is g = or_twice (list_any (has_man p Black) (squares_of g)) (is_barred p set g) _
        ∙ ap (λ b. not (is_left p set g) || b) (sym (found_some (bars p set g) (supported_by p set)))

-- ---- what a zone answers

-- a zone answers lines whatever other instances give
pub zone_bars : (w : RuleInstance) (facts other : Facts) (places : Square → Bool) → owns_zone w ≡ true → barred w facts places ≡ barred w other places
zone_bars (claimeven x) facts other places owns = refl
zone_bars (baseinverse s t) facts other places owns = refl
zone_bars (lowinverse x x_top y y_top) facts other places owns = refl
zone_bars (highinverse x y) facts other places owns = refl
zone_bars (baseclaim a b e) facts other places owns = refl
zone_bars w facts other places owns = absurd (cc owns)

-- ---- open squares

and_not_or : (e a b : Bool) → (e && not (a || b)) ≡ ((e && not a) && not b)
and_not_or false a b = refl
and_not_or true true b = refl
and_not_or true false b = refl

-- a zone more: its squares are open no longer
pub open_less : (p : Position) (set : List RuleInstance) (w : RuleInstance) (u : Square)
    → is_uncovered p (set ++ w ∷ []) u ≡ (is_uncovered p set u && not (has_square (zone_of w) u))
open_less p set w u = ap (λ b. is_empty p u && not b) (owner_more set w u) ∙ and_not_or (is_empty p u) (has_owner set u) (has_square (zone_of w) u)

pub open_squares_less : (p : Position) (set : List RuleInstance) (w : RuleInstance)
    → open_squares p (set ++ w ∷ []) ≡ filter (λ u. not (has_square (zone_of w) u)) (open_squares p set)
open_squares_less p set w =
    filter_same (is_uncovered p (set ++ w ∷ [])) (λ u. is_uncovered p set u && not (has_square (zone_of w) u)) (squares_at p) (λ u among. open_less p set w u)
    ∙ sym (filter_both (is_uncovered p set) (λ u. not (has_square (zone_of w) u)) (squares_at p))

-- the squares of a zone that fits, and may stand with the set, are open
pub zone_open : (p : Position) (set : List RuleInstance) (w : RuleInstance) (u : Square) → fits w p ≡ true → list_all (λ v. together v w) set ≡ true
    → has_square (zone_of w) u ≡ true
    → is_uncovered p set u ≡ true
zone_open p set w u fitted standing owned =
    and_from (is_empty p u) (not (has_owner set u))
    (all_gives (is_empty p) (zone_of w) u (fits_empty w p fitted) (has_gives (zone_of w) u owned))
    (not_from_false (has_owner set u) (false_from_ne_true (has_owner set u) (λ h.
    let owner = any_gives (λ v. has_square (zone_of v) u) set h in
    zones_apart owner.0 w u (all_gives (λ v. together v w) set owner.0 standing owner.1) owner.2 owned)))

-- a zone less: its squares are open again
pub open_more : (p : Position) (set : List RuleInstance) (w : RuleInstance) (u : Square) → fits w p ≡ true → list_all (λ v. together v w) set ≡ true
    → is_uncovered p set u ≡ (is_uncovered p (set ++ w ∷ []) u || has_square (zone_of w) u)
open_more p set w u fitted standing = elim (cases_Bool (has_square (zone_of w) u)) [
  | inl owned ↦ zone_open p set w u fitted standing owned ∙ sym (or_right (is_uncovered p (set ++ w ∷ []) u) (has_square (zone_of w) u) owned)
  | inr other ↦ sym (ap (λ b. b || has_square (zone_of w) u) (open_less p set w u) ∙ same_where (is_uncovered p set u) (has_square (zone_of w) u) other)
]
  where
    same_where : (a b : Bool) → b ≡ false → ((a && not b) || b) ≡ a
    same_where true b none = rw none refl
    same_where false b none = none

-- ---- the first open square

-- the first square that passes isn't this one
starts_later : (f : Square → Bool) (us vs : List Square) (u : Square) → f u ≡ false → starts_at (find f us) (u ∷ vs) ≡ false
starts_later f us vs u fails = by_found (find f us) refl
  where
    by_found : (found : Option Square) → find f us ≡ found → starts_at found (u ∷ vs) ≡ false
    by_found None is = refl
    by_found (Some v) is =
        false_from_ne_true (same_square v u) (λ same. both_ways (f u) fails (ap f (sym (same_square_is v u same)) ∙ (find_among f us v is).1))

-- where all that pass one test pass another, the first of all that pass this one passes the other exactly where it is
-- the first that does
first_passes : (f g : Square → Bool) (us : List Square) → ((u : Square) → f u ≡ true → g u ≡ true) → (v : Square) (vs : List Square) → filter g us ≡ v ∷ vs
    → f v ≡ starts_at (find f us) (v ∷ vs)
first_passes f g [] weaker v vs h = absurd (cc h)
first_passes f g (u ∷ us) weaker v vs h = elim (cases_Bool (g u)) [
  | inl open_one ↦ let same : u ≡ v = cc (rw open_one at h) in subst (λ v. f v ≡ starts_at (find f (u ∷ us)) (v ∷ vs)) same (elim (cases_Bool (f u)) [
    | inl passes ↦ rw passes (sym (same_square_refl u))
    | inr fails ↦ rw fails (sym (starts_later f us vs u fails))
  ])
  | inr closed ↦
      let none : f u ≡ false = false_from_ne_true (f u) (λ passes. both_ways (g u) closed (weaker u passes)) in
      rw none (first_passes f g us weaker v vs (rw closed at h))
]

-- a zone that fits may follow exactly where its first square on the board is the first open square
pub follows_by_least : (p : Position) (set : List RuleInstance) (w : RuleInstance) → fits w p ≡ true
    → may_follow p set w ≡ (starts_at (least_of (squares_at p) w) (open_squares p set) && list_all (λ v. together v w) set)
follows_by_least p set w fitted = elim (cases_Bool (list_all (λ v. together v w) set)) [
  | inr apart ↦ and_right _ _ apart ∙ sym (and_right _ _ apart)
  | inl standing ↦ ap (λ b. b && list_all (λ v. together v w) set) (by_squares (open_squares p set) refl standing)
]
  where
    by_squares : (us : List Square) → open_squares p set ≡ us → list_all (λ v. together v w) set ≡ true
        → owns_first w us ≡ starts_at (least_of (squares_at p) w) us
    by_squares [] is standing = none_starts (least_of (squares_at p) w)
      where
        none_starts : (found : Option Square) → false ≡ starts_at found []
        none_starts None = refl
        none_starts (Some u) = refl
    by_squares (v ∷ vs) is standing = first_passes (has_square (zone_of w)) (is_uncovered p set) (squares_at p)
        (λ u owned. zone_open p set w u fitted standing owned) v vs is

-- ---- answers, rule by rule

pub find_filter : {X : Type 0} (f g : X → Bool) (xs : List X) → find f (filter g xs) ≡ find (λ x. g x && f x) xs
find_filter f g [] = refl
find_filter f g (x ∷ xs) = elim (cases_Bool (g x)) [
  | inr out ↦ rw out (find_filter f g xs)
  | inl in_it ↦ elim (cases_Bool (f x)) [ inl passes ↦ rw (in_it, passes) refl | inr fails ↦ rw (in_it, fails) (find_filter f g xs) ]
]

-- elements that are left out beforehand, since they can't pass
pub find_within : {X : Type 0} (f g : X → Bool) (xs : List X) → ((x : X) → f x ≡ true → g x ≡ true) → find f (filter g xs) ≡ find f xs
find_within f g [] within = refl
find_within f g (x ∷ xs) within = elim (cases_Bool (f x)) [
  | inl passes ↦ rw (within x passes, passes) refl
  | inr fails ↦ elim (cases_Bool (g x)) [ inl in_it ↦ rw (in_it, fails) (find_within f g xs within) | inr out ↦ rw (out, fails) (find_within f g xs within) ]
]

first_of_kind : {X : Type 0} (p : Position) (set : List RuleInstance) (g : Group) (written : X → RuleInstance) (xs : List X)
    → find (bars p set g) (filter (λ w. is_supported w (facts_of p set)) (filter (λ w. fits w p) (map written xs))) ≡ first_written p set g written xs
first_of_kind p set g written xs =
    find_filter (bars p set g) (λ w. is_supported w (facts_of p set)) (filter (λ w. fits w p) (map written xs))
    ∙ find_filter (λ w. is_supported w (facts_of p set) && bars p set g w) (λ w. fits w p) (map written xs)
    ∙ find_map (is_answer p set g) written xs

-- the first answer to a group is a Vertical's, and then an Aftereven's, a Before's, a Specialbefore's
pub answer_by_kind : (p : Position) (set : List RuleInstance) (g : Group)
    → answer_to p set g ≡ option_or (option_or (option_or (first_written p set g vertical (squares_at p))
    (first_written p set g aftereven (groups_of (board_of p)))) (first_written p set g before (groups_of (board_of p))))
    (first_written p set g (λ three. specialbefore three.0 three.1.0 three.1.1)
    (each_with (groups_of (board_of p)) (each_with (playable_squares p) (playable_squares p))))
answer_by_kind p set g =
    split ((listed kinds.Vertical p ++ listed kinds.Aftereven p) ++ listed kinds.Before p) (listed kinds.Specialbefore p)
    ∙ ap (λ o. option_or o (first kinds.Specialbefore)) (split (listed kinds.Vertical p ++ listed kinds.Aftereven p) (listed kinds.Before p))
    ∙ ap (λ o. option_or (option_or o (first kinds.Before)) (first kinds.Specialbefore)) (split (listed kinds.Vertical p) (listed kinds.Aftereven p))
    ∙ cc (
      first_of_kind p set g vertical (squares_at p),
      first_of_kind p set g aftereven (groups_of (board_of p)),
      first_of_kind p set g before (groups_of (board_of p)),
      first_of_kind p set g (λ three. specialbefore three.0 three.1.0 three.1.1)
          (each_with (groups_of (board_of p)) (each_with (playable_squares p) (playable_squares p))),
    )
  where
    -- the first answer of a list
    first_in : List RuleInstance → Option RuleInstance
    first_in ws = find (bars p set g) (filter (λ w. is_supported w (facts_of p set)) ws)

    first : Kind → Option RuleInstance
    first kind = first_in (listed kind p)

    split : (vs ws : List RuleInstance) → first_in (vs ++ ws) ≡ option_or (first_in vs) (first_in ws)
    split vs ws =
        ap (find (bars p set g)) (filter-append (λ w. is_supported w (facts_of p set)) vs ws)
        ∙ find-append (bars p set g) (filter (λ w. is_supported w (facts_of p set)) vs) (filter (λ w. is_supported w (facts_of p set)) ws)

-- ---- where an answer can be

-- two squares of a line, one above the other
upright : (way : Way) (anchor : Square) (i j : ℕ) (e : Square) → step_of way anchor i ≡ e → step_of way anchor j ≡ above e → way ≡ V
upright H (c, r) i j e low high = absurd (let a : r ≡ e.1 = ap (λ (s : Square). s.1) low in let b : r ≡ e.1 + 1 = ap (λ (s : Square). s.1) high in omega arith)
upright V (c, r) i j e low high = refl
upright U (c, r) i j e low high =
    absurd (
    let a : c + i ≡ e.0 = ap (λ (s : Square). s.0) low in let b : c + j ≡ e.0 = ap (λ (s : Square). s.0) high in
    let d : r + i ≡ e.1 = ap (λ (s : Square). s.1) low in let f : r + j ≡ e.1 + 1 = ap (λ (s : Square). s.1) high in omega arith)
upright D (c, r) i j e low high =
    absurd (
    let a : c + i ≡ e.0 = ap (λ (s : Square). s.0) low in let b : c + j ≡ e.0 = ap (λ (s : Square). s.0) high in
    let d : r - i ≡ e.1 = ap (λ (s : Square). s.1) low in let f : r - j ≡ e.1 + 1 = ap (λ (s : Square). s.1) high in omega arith)

-- a Vertical answers upright lines alone
pub vertical_upright : (p : Position) (set : List RuleInstance) (g : Group) (e : Square) → bars p set g (vertical e) ≡ true → g.way ≡ V
vertical_upright p set g e h =
    let both = and_parts (empty_part p g e) (empty_part p g (above e)) h in
    let low = in_line e both.0 in let high = in_line (above e) both.1 in
    upright g.way g.anchor low.0 high.0 e low.1 high.1
  where
    in_line : (u : Square) → empty_part p g u ≡ true → (i : ℕ) × (step_of g.way g.anchor i ≡ u)
    in_line u h =
        let at = Among-map_gives (step_of g.way g.anchor) (below (line_length g.len)) u
        (has_gives (squares_of g) u (and_parts (is_empty p u) (has_square (squares_of g) u) h).1) in
        (at.0, at.2)

-- where a Specialbefore answers a line, its square outside its own line is an empty one of the line, and a twin of the
-- square in its own line
pub record SpecialAnswer (p : Position) (set : List RuleInstance) (g h : Group) (f e0 : Square) : Type 0 where
  pub low : is_low_line p h ≡ true
  pub outside : empty_part p g f ≡ true
  pub twins : is_twin (facts_of p set).twin f e0 ≡ true

pub special_answer : (p : Position) (set : List RuleInstance) (g h : Group) (f e0 : Square) → is_answer p set g (specialbefore h f e0) ≡ true
    → SpecialAnswer p set g h f e0
special_answer p set g h f e0 is =
    let both = and_parts (fits (specialbefore h f e0) p) _ is in
    let two = and_parts (is_supported (specialbefore h f e0) (facts_of p set)) (bars p set g (specialbefore h f e0)) both.1 in
    let playable = and_parts (is_low_line p h && is_playable p f) (is_playable p e0) (fits_more (specialbefore h f e0) p both.0) in
    record {
      low = (and_parts (is_low_line p h) (is_playable p f) playable.0).0;
      outside = (and_parts (empty_part p g f) _ two.1).0;
      twins = (and_parts (is_twin (facts_of p set).twin f e0) _ two.0).0;
    }
