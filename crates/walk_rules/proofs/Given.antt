-- The plan that a set gives. Standing instances give nothing to others, own no square and may stand with all, so beside
-- the set itself they count for the lines that they answer alone. The list that is given answers the same lines as all
-- standing instances that the set supports.
use Rattle.std.proofs.Common.{◌≡◌, ◌⊎◌, ℕ, suc, ◌+◌, ◌≤◌, Bool, true, false, not, ◌&&◌, ◌||◌, if◌then◌else◌, List, [], ◌∷◌, ◌++◌, length, Option, Some, None}
use Rattle.std.proofs.Common.{is_none, refl, sym, ap, ◌∙◌, subst, inl, inr, arith, append-nil, length-append}
use Rattle.std.specs.List.{list_all, list_any, flat_map}
use Rattle.std.proofs.lemmas.Bool.{cases_Bool, or_from, not_from_false}
use Rattle.std.proofs.lemmas.Grind.{flat_map-append}
use Rattle.std.proofs.lemmas.List.Folds.{list_all-append, list_any-append}
use Rattle.game_rules.specs.Board.{Square, is_board}
use Rattle.game_rules.specs.Position.{Position, board_of, has_man, side_to_move, same_side, end_of}
use Rattle.game_rules.specs.Squares.{has_square, is_empty}
use Rattle.game_rules.specs.Groups.{Group, squares_of, groups_of}
use Rattle.game_rules.specs.declared.Side.TheVariants.{White, Black}
use Rattle.game_rules.proofs.Lists.{Among, any_gives, any_from, all_from, Among-append_left, Among-append_right, Among-append_cases, Among-filter_gives}
use Rattle.game_rules.proofs.Squares.{agree}
use Rattle.game_rules.proofs.Groups.{groups_fit}
use Rattle.plan_rules.specs.Rules.{RuleInstance, claimeven, baseinverse, lowinverse, highinverse, owns_no_zone, zone_of, facts_of, upper_of, pair_of, twin_of}
use Rattle.plan_rules.specs.Rules.{as_list, fits, barred, is_supported, together}
use Rattle.plan_rules.specs.Listing.{has_instance}
use Rattle.plan_rules.specs.Plan.{each_two, every_square, every_line, has_owner, empty_part, is_barred, is_plan}
use Rattle.plan_rules.proofs.Squares.{find_one}
use Rattle.plan_rules.proofs.Listed.{instance_gives}
use Rattle.plan_rules.proofs.Refusals.{all_same, squares_all, lines_all}
use Rattle.plan_rules.proofs.Table.{zoneless_owns_none}
use Rattle.plan_rules.proofs.Zones.{stands_with_all}
use Rattle.walk_rules.specs.Walk.{fitting_standing, supported_by, is_left, answer_to, with_one, answers, given, gives_plan, gave, choice_among}
use Rattle.walk_rules.specs.Steps.{is_zone_set}
use Rattle.walk_rules.specs.Answers.{bars}
use Rattle.walk_rules.proofs.Lists.{each_two-append, flat_map_none, find_among, all_agree}
use Rattle.walk_rules.proofs.Fitting.{standing_fits}
use Rattle.walk_rules.proofs.Steps.{set_bound}

-- ---- standing instances that a set supports

pub record IsSupported (p : Position) (set : List RuleInstance) (w : RuleInstance) : Type 0 where
  pub standing : owns_no_zone w ≡ true
  pub fitted : fits w p ≡ true
  pub supported : is_supported w (facts_of p set) ≡ true

pub supported_gives : (p : Position) (set : List RuleInstance) (w : RuleInstance) → Among w (supported_by p set) → IsSupported p set w
supported_gives p set w among =
    let both = Among-filter_gives (λ w. is_supported w (facts_of p set)) (fitting_standing p) w among in
    let stands = standing_fits p w both.0 in
    record { standing = stands.0; fitted = stands.1; supported = both.1 }

-- ---- a set with standing instances

-- what the test of a plan asks before the lines
abbrev pub is_plan_but_lines : Position → List RuleInstance → Bool
is_plan_but_lines p set =
    same_side White (side_to_move p)
    && is_none (end_of p)
    && list_all (λ w. fits w p) set
    && each_two together set
    && every_square (board_of p) (λ u. not (is_empty p u) || has_owner set u)
    && list_all (λ w. is_supported w (facts_of p set)) set

no_upper : (w : RuleInstance) → owns_no_zone w ≡ true → upper_of w ≡ []
no_upper (claimeven x) h = absurd (cc h)
no_upper w h = refl

no_pair : (w : RuleInstance) → owns_no_zone w ≡ true → pair_of w ≡ []
no_pair (lowinverse x x_top y y_top) h = absurd (cc h)
no_pair (highinverse x y) h = absurd (cc h)
no_pair w h = refl

no_twin : (w : RuleInstance) → owns_no_zone w ≡ true → as_list (twin_of w) ≡ []
no_twin (baseinverse s t) h = absurd (cc h)
no_twin w h = refl

module _ (p : Position) (set xs : List RuleInstance) (each : (w : RuleInstance) → Among w xs → IsSupported p set w) where
  nothing_more : {X : Type 0} (f : RuleInstance → List X) → ((w : RuleInstance) → owns_no_zone w ≡ true → f w ≡ []) → flat_map f (set ++ xs) ≡ flat_map f set
  nothing_more f none =
      flat_map-append f set xs ∙ ap (λ ys. flat_map f set ++ ys) (flat_map_none f xs (λ w among. none w (each w among).standing)) ∙ append-nil (flat_map f set)

  -- they give nothing to others
  facts_same : facts_of p (set ++ xs) ≡ facts_of p set
  facts_same = rw (nothing_more upper_of no_upper, nothing_more pair_of no_pair, nothing_more (λ w. as_list (twin_of w)) no_twin) refl

  and_true : (a b : Bool) → b ≡ true → (a && b) ≡ a
  and_true true b h = h
  and_true false b h = refl

  or_false : (a b : Bool) → b ≡ false → (a || b) ≡ a
  or_false true b h = refl
  or_false false b h = h

  fitting_same : list_all (λ w. fits w p) (set ++ xs) ≡ list_all (λ w. fits w p) set
  fitting_same = list_all-append (λ w. fits w p) set xs ∙ and_true _ _ (all_from (λ w. fits w p) xs (λ w among. (each w among).fitted))

  supported_same : list_all (λ w. is_supported w (facts_of p (set ++ xs))) (set ++ xs) ≡ list_all (λ w. is_supported w (facts_of p set)) set
  supported_same =
      ap (λ facts. list_all (λ w. is_supported w facts) (set ++ xs)) facts_same
      ∙ list_all-append (λ w. is_supported w (facts_of p set)) set xs
      ∙ and_true _ _ (all_from (λ w. is_supported w (facts_of p set)) xs (λ w among. (each w among).supported))

  -- they may stand with all
  pairs_same : each_two together (set ++ xs) ≡ each_two together set
  pairs_same =
      each_two-append together set xs
      ∙ and_true _ _ (among_each xs (λ w among. (each w among).standing))
      ∙ and_true _ _ (all_from (λ v. list_all (together v) xs) set (λ v _. stand v xs (λ w among. (each w among).standing)))
    where
      stand : (v : RuleInstance) (ws : List RuleInstance) → ((w : RuleInstance) → Among w ws → owns_no_zone w ≡ true) → list_all (together v) ws ≡ true
      stand v ws standing = all_from (together v) ws (λ w among. stands_with_all v w (ap not (standing w among)))

      among_each : (ws : List RuleInstance) → ((w : RuleInstance) → Among w ws → owns_no_zone w ≡ true) → each_two together ws ≡ true
      among_each [] standing = refl
      among_each (w ∷ ws) standing = rw (stand w ws (λ v among. standing v (inr among)), among_each ws (λ v among. standing v (inr among))) refl

  -- they own no square
  owner_same : (u : Square) → has_owner (set ++ xs) u ≡ has_owner set u
  owner_same u = list_any-append (λ w. has_square (zone_of w) u) set xs ∙ or_false _ _ (none_owns xs each)
    where
      none_owns : (ws : List RuleInstance) → ((w : RuleInstance) → Among w ws → IsSupported p set w) → list_any (λ w. has_square (zone_of w) u) ws ≡ false
      none_owns ws each = elim (cases_Bool (list_any (λ w. has_square (zone_of w) u) ws)) [
        | inr none ↦ none
        | inl some ↦ let found = any_gives (λ w. has_square (zone_of w) u) ws some in
            absurd (zoneless_owns_none found.0 (each found.0 found.1).standing u found.2)
      ]

  covered_same : every_square (board_of p) (λ u. not (is_empty p u) || has_owner (set ++ xs) u)
      ≡ every_square (board_of p) (λ u. not (is_empty p u) || has_owner set u)
  covered_same =
      sym (squares_all (board_of p) (λ u. not (is_empty p u) || has_owner (set ++ xs) u))
      ∙ all_same _ _ _ (λ u. ap (λ b. not (is_empty p u) || b) (owner_same u))
      ∙ squares_all (board_of p) (λ u. not (is_empty p u) || has_owner set u)

  barred_more : (g : Group) → is_barred p (set ++ xs) g ≡ (is_barred p set g || list_any (bars p set g) xs)
  barred_more g = ap (λ facts. list_any (λ w. barred w facts (empty_part p g)) (set ++ xs)) facts_same ∙ list_any-append (bars p set g) set xs

  answered_same : every_line (board_of p) (λ g. list_any (has_man p Black) (squares_of g) || is_barred p (set ++ xs) g)
      ≡ list_all (λ g. list_any (has_man p Black) (squares_of g) || (is_barred p set g || list_any (bars p set g) xs)) (groups_of (board_of p))
  answered_same =
      sym (lines_all (board_of p) (λ g. list_any (has_man p Black) (squares_of g) || is_barred p (set ++ xs) g))
      ∙ all_same _ _ (groups_of (board_of p)) (λ g. ap (λ b. list_any (has_man p Black) (squares_of g) || b) (barred_more g))

  -- the set is to be what a plan is but for the lines, and each line is to be answered
  pub plan_with : is_plan p (set ++ xs) ≡ (
      is_plan_but_lines p set
      && list_all (λ g. list_any (has_man p Black) (squares_of g) || (is_barred p set g || list_any (bars p set g) xs)) (groups_of (board_of p)))
  plan_with = cc (fitting_same, pairs_same, covered_same, supported_same, answered_same)

-- standing instances that answer the same lines
pub plan_same : (p : Position) (set xs ys : List RuleInstance) → ((w : RuleInstance) → Among w xs → IsSupported p set w)
    → ((w : RuleInstance) → Among w ys → IsSupported p set w)
    → ((g : Group) → Among g (groups_of (board_of p)) → is_left p set g ≡ true → list_any (bars p set g) xs ≡ list_any (bars p set g) ys)
    → is_plan p (set ++ xs) ≡ is_plan p (set ++ ys)
plan_same p set xs ys each_x each_y same = plan_with p set xs each_x ∙ ap (λ b. is_plan_but_lines p set && b) (all_agree _ _ (groups_of (board_of p)) line_same)
    ∙ sym (plan_with p set ys each_y)
  where
    line_same : (g : Group) → Among g (groups_of (board_of p))
        → (list_any (has_man p Black) (squares_of g) || (is_barred p set g || list_any (bars p set g) xs))
        ≡ (list_any (has_man p Black) (squares_of g) || (is_barred p set g || list_any (bars p set g) ys))
    line_same g among = elim (cases_Bool (list_any (has_man p Black) (squares_of g))) [
      | inl black ↦ rw black refl
      | inr no_black ↦ elim (cases_Bool (is_barred p set g)) [
        | inl is ↦ rw (no_black, is) refl
        | inr open_line ↦ rw (no_black, open_line) (same g among (not_from_false _ (or_from _ _ no_black open_line)))
      ]
    ]

-- ---- the answers that are listed

within_one : (ws : List RuleInstance) (answer : Option RuleInstance) (w : RuleInstance) → Among w (with_one ws answer) → Among w ws ⊎ (answer ≡ Some w)
within_one ws None w among = inl among
within_one ws (Some v) w among = elim (cases_Bool (has_instance ws v)) [
  | inl listed_already ↦ inl (rw listed_already at among)
  | inr new ↦ elim (Among-append_cases w ws (v ∷ []) (rw new at among)) [
    | inl before_it ↦ inl before_it
    | inr last ↦ elim last [ inl same ↦ inr (ap Some same) | inr none ↦ absurd none ]
  ]
]

keeps_one : (ws : List RuleInstance) (answer : Option RuleInstance) (w : RuleInstance) → Among w ws → Among w (with_one ws answer)
keeps_one ws None w among = among
keeps_one ws (Some v) w among = elim (cases_Bool (has_instance ws v)) [
  | inl listed_already ↦ rw listed_already among
  | inr new ↦ rw new (Among-append_left w ws (v ∷ []) among)
]

has_one : (ws : List RuleInstance) (w : RuleInstance) → Among w (with_one ws (Some w))
has_one ws w = elim (cases_Bool (has_instance ws w)) [
  | inl listed_already ↦ rw listed_already (instance_gives ws w listed_already)
  | inr new ↦ rw new (Among-append_right w ws (w ∷ []) (inl refl))
]

length_one : (ws : List RuleInstance) (answer : Option RuleInstance) → length (with_one ws answer) ≤ length ws + 1
length_one ws None = omega arith
length_one ws (Some w) = elim (cases_Bool (has_instance ws w)) [
  | inl listed_already ↦ rw listed_already (omega arith)
  | inr new ↦ rw new (omega (arith, length-append ws (w ∷ [])))
]

module _ (p : Position) (set : List RuleInstance) where
  -- the list after one group
  abbrev pub after_group : Group → List RuleInstance → List RuleInstance
  after_group g ws = if is_left p set g then with_one ws (answer_to p set g) else ws

  within_group : (g : Group) (ws : List RuleInstance) (w : RuleInstance) → Among w (after_group g ws) → Among w ws ⊎ Among w (supported_by p set)
  within_group g ws w among = elim (cases_Bool (is_left p set g)) [
    | inr answered ↦ inl (rw answered at among)
    | inl left_open ↦ elim (within_one ws (answer_to p set g) w (rw left_open at among)) [
      | inl old ↦ inl old
      | inr new ↦ inr (find_among (bars p set g) (supported_by p set) w new).0
    ]
  ]

  answers_within : (gs : List Group) (ws : List RuleInstance) (w : RuleInstance) → Among w (answers p set gs ws) → Among w ws ⊎ Among w (supported_by p set)
  answers_within [] ws w among = inl among
  answers_within (g ∷ gs) ws w among = elim (answers_within gs (after_group g ws) w among) [
    | inl earlier ↦ within_group g ws w earlier
    | inr supported ↦ inr supported
  ]

  keeps_group : (g : Group) (ws : List RuleInstance) (w : RuleInstance) → Among w ws → Among w (after_group g ws)
  keeps_group g ws w among = elim (cases_Bool (is_left p set g)) [
    | inr answered ↦ rw answered among
    | inl left_open ↦ rw left_open (keeps_one ws (answer_to p set g) w among)
  ]

  answers_keep : (gs : List Group) (ws : List RuleInstance) (w : RuleInstance) → Among w ws → Among w (answers p set gs ws)
  answers_keep [] ws w among = among
  answers_keep (g ∷ gs) ws w among = answers_keep gs (after_group g ws) w (keeps_group g ws w among)

  -- a group that is left has its answer listed
  answers_has : (gs : List Group) (ws : List RuleInstance) (g : Group) (w : RuleInstance) → Among g gs → is_left p set g ≡ true → answer_to p set g ≡ Some w
      → Among w (answers p set gs ws)
  answers_has [] ws g w among left_open answer = absurd among
  answers_has (h ∷ gs) ws g w (inr later) left_open answer = answers_has gs (after_group h ws) g w later left_open answer
  answers_has (h ∷ gs) ws g w (inl same) left_open answer =
      answers_keep gs (after_group h ws) w (subst (λ h. Among w (after_group h ws)) (sym same) (rw (left_open, answer) (has_one ws w)))

  length_answers : (gs : List Group) (ws : List RuleInstance) → length (answers p set gs ws) ≤ length ws + length gs
  length_answers [] ws = omega arith
  length_answers (g ∷ gs) ws = let rest = length_answers gs (after_group g ws) in omega (arith, rest, length_group g ws)
    where
      length_group : (g : Group) (ws : List RuleInstance) → length (after_group g ws) ≤ length ws + 1
      length_group g ws = elim (cases_Bool (is_left p set g)) [
        | inr answered ↦ rw answered (omega arith)
        | inl left_open ↦ rw left_open (length_one ws (answer_to p set g))
      ]

  -- the answers of the list that is given
  abbrev listed_answers : List RuleInstance
  listed_answers = answers p set (groups_of (board_of p)) []

  listed_supported : (w : RuleInstance) → Among w listed_answers → Among w (supported_by p set)
  listed_supported w among = elim (answers_within (groups_of (board_of p)) [] w among) [ inl none ↦ absurd none | inr supported ↦ supported ]

  same_answered : (g : Group) → Among g (groups_of (board_of p)) → is_left p set g ≡ true
      → list_any (bars p set g) listed_answers ≡ list_any (bars p set g) (supported_by p set)
  same_answered g among left_open = agree _ _
      (λ h. let found = any_gives (bars p set g) listed_answers h in any_from (bars p set g) (supported_by p set) found.0 (listed_supported found.0 found.1)
      found.2)
      (λ h. let found = find_one (bars p set g) (supported_by p set) h in
      any_from (bars p set g) listed_answers found.1 (answers_has (groups_of (board_of p)) [] g found.1 among left_open found.4) found.3)

  -- the list that is given is a plan exactly where the set with all standing instances that it supports is one
  pub given_is : is_plan p (given p set) ≡ gives_plan p set
  given_is = plan_same p set listed_answers (supported_by p set) (λ w among. supported_gives p set w (listed_supported w among)) (supported_gives p set)
      same_answered

  -- one set of the choice
  pub choice_step : (k : ℕ) (sets : List (List RuleInstance))
      → choice_among p (suc k) (set ∷ sets) ≡ (if gives_plan p set then gave (given p set) else choice_among p k sets)
  choice_step k sets = ap (λ b. if b then gave (given p set) else choice_among p k sets) given_is

  -- of a set of the walk, on any board, no more than 288 instances are given
  pub given_bound : is_board (board_of p) ≡ true → is_zone_set p set ≡ true → length (given p set) ≤ 288
  given_bound board is =
      omega (arith, length-append set listed_answers, set_bound p set board is, length_answers (groups_of (board_of p)) [], groups_fit (board_of p) board)
