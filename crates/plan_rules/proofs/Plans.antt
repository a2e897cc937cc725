-- A plan in words of squares and lines, and the test of it.
use Rattle.std.proofs.Common.{◌≡◌, ℕ, zero, suc, ◌+◌, ◌<◌, Bool, true, not, ◌||◌, List, [], ◌∷◌, Option, Some, None, is_none, refl, sym, ap, subst, inl, inr}
use Rattle.std.proofs.Common.{arith}
use Rattle.std.specs.List.{list_all, list_any}
use Rattle.std.proofs.lemmas.Bool.{cases_Bool, both_ways, and_parts, and_from, or_cases, or_left, or_right, not-true, not_from_false, false_from_ne_true}
use Rattle.game_rules.specs.Board.{Board, Square, below, on_board, is_line, ways}
use Rattle.game_rules.specs.Position.{Position, board_of, has_man, side_to_move, same_side, end_of}
use Rattle.game_rules.specs.Squares.{has_square, is_empty}
use Rattle.game_rules.specs.Groups.{Group, squares_of, lies_on, group_on}
use Rattle.game_rules.specs.declared.Side.TheVariants.{White, Black}
use Rattle.game_rules.proofs.Lists.{any_gives, any_from, all_gives, all_from, Among-below}
use Rattle.game_rules.proofs.Moves.{same_side_is}
use Rattle.game_rules.proofs.Ends.{on_board_parts, Among-ways}
use Rattle.game_rules.proofs.Squares.{has_gives, has_from}
use Rattle.game_rules.proofs.Groups.{anchor_on, lies_parts, lies_from, group_as}
use Rattle.plan_rules.specs.Rules.{RuleInstance, zone_of, fits, facts_of, barred, is_supported, together}
use Rattle.plan_rules.specs.Plan.{each_two, every_square, every_line, has_owner, empty_part, is_barred, is_plan, IsMember, SomeMember, IsPlan}
use Rattle.plan_rules.proofs.Squares.{Among-get, get-Among}
use Rattle.plan_rules.proofs.Turns.{empty_parts}

-- ---- members

member_of : (test : RuleInstance → Bool) (ws : List RuleInstance) → list_any test ws ≡ true → SomeMember ws (λ w. test w ≡ true)
member_of test ws h =
    let found = any_gives test ws h in let at = Among-get ws found.0 found.1 in
    record { place = at.0; member = found.0; is_member = at.1; has_it = found.2 }

pub any_member : (test : RuleInstance → Bool) (ws : List RuleInstance) → SomeMember ws (λ w. test w ≡ true) → list_any test ws ≡ true
any_member test ws some = any_from test ws some.member (get-Among ws some.place some.member some.is_member) some.has_it

pub each_member : (test : RuleInstance → Bool) (ws : List RuleInstance) → list_all test ws ≡ true → (i : ℕ) (w : RuleInstance) → IsMember ws i w → test w ≡ true
each_member test ws h i w member = all_gives test ws w h (get-Among ws i w member)

pub all_members : (test : RuleInstance → Bool) (ws : List RuleInstance) → ((i : ℕ) (w : RuleInstance) → IsMember ws i w → test w ≡ true)
    → list_all test ws ≡ true
all_members test ws each = all_from test ws (λ w among. let at = Among-get ws w among in each at.0 w at.1)

two_give : (test : RuleInstance → RuleInstance → Bool) (ws : List RuleInstance) → each_two test ws ≡ true → (i j : ℕ) (v w : RuleInstance) → i < j
    → IsMember ws i v → IsMember ws j w → test v w ≡ true
two_give test [] h i j v w order left right = absurd (cc left)
two_give test (x ∷ ws) h i zero v w order left right = absurd (omega arith)
two_give test (x ∷ ws) h zero (suc j) v w order left right =
    let same : x ≡ v = cc in
    subst (λ x. test x w ≡ true) same (each_member (test x) ws (and_parts _ _ h).0 j w right)
two_give test (x ∷ ws) h (suc i) (suc j) v w order left right = two_give test ws (and_parts _ _ h).1 i j v w (omega arith) left right

two_from : (test : RuleInstance → RuleInstance → Bool) (ws : List RuleInstance)
    → ((i j : ℕ) (v w : RuleInstance) → i < j → IsMember ws i v → IsMember ws j w → test v w ≡ true) → each_two test ws ≡ true
two_from test [] each = refl
two_from test (x ∷ ws) each = and_from _ _ (all_members (test x) ws (λ j w member. each 0 (suc j) x w (omega arith) refl member))
    (two_from test ws (λ i j v w order left right. each (suc i) (suc j) v w (omega arith) left right))

-- ---- squares and lines

every_square_gives : (board : Board) (test : Square → Bool) → every_square board test ≡ true → (u : Square) → on_board board u ≡ true → test u ≡ true
every_square_gives board test h (c, zero) on = let parts = on_board_parts board c zero on in absurd (omega arith)
every_square_gives board test h (c, suc r) on =
    let parts = on_board_parts board c (suc r) on in
    let column = all_gives (λ c. list_all (λ r. test (c, r + 1)) (below board.rows)) (below board.cols) c h (Among-below board.cols c parts.0) in
    let row : test (c, r + 1) ≡ true = all_gives (λ r. test (c, r + 1)) (below board.rows) r column (Among-below board.rows r (omega arith)) in
    subst (λ n. test (c, n) ≡ true) (omega arith) row

every_square_from : (board : Board) (test : Square → Bool) → ((u : Square) → test u ≡ true) → every_square board test ≡ true
every_square_from board test each = all_from (λ c. list_all (λ r. test (c, r + 1)) (below board.rows)) (below board.cols) (λ c _.
    all_from (λ r. test (c, r + 1)) (below board.rows) (λ r _. each (c, r + 1)))

pub every_line_gives : (board : Board) (test : Group → Bool) → every_line board test ≡ true → (g : Group) → lies_on board g ≡ true → test g ≡ true
every_line_gives board test h g lies =
    let parts = lies_parts board g lies in
    let along = all_gives (λ way. every_square board (λ anchor. not (is_line board way anchor) || test (group_on board way anchor))) ways g.way h
    (Among-ways g.way) in
    let at = every_square_gives board (λ anchor. not (is_line board g.way anchor) || test (group_on board g.way anchor)) along g.anchor
    (anchor_on board g.way g.anchor parts.1) in
    elim (or_cases _ _ at) [
      | inl off ↦ absurd (both_ways (is_line board g.way g.anchor) (not-true _ off) parts.1)
      | inr passes ↦ subst (λ g. test g ≡ true) (group_as board g parts.0) passes
    ]

pub every_line_from : (board : Board) (test : Group → Bool) → ((g : Group) → lies_on board g ≡ true → test g ≡ true) → every_line board test ≡ true
every_line_from board test each =
    all_from (λ way. every_square board (λ anchor. not (is_line board way anchor) || test (group_on board way anchor))) ways (λ way _.
    every_square_from board (λ anchor. not (is_line board way anchor) || test (group_on board way anchor))
    (λ anchor. elim (cases_Bool (is_line board way anchor)) [
      | inl line ↦ or_right _ _ (each (group_on board way anchor) (lies_from board way anchor line))
      | inr off ↦ or_left _ _ (not_from_false _ off)
    ]))

-- ---- the plan

pub none_is : {X : Type 0} (o : Option X) → is_none o ≡ true → o ≡ None
none_is None h = refl
none_is (Some x) h = absurd (cc h)

pub plan_gives : (p : Position) (ws : List RuleInstance) → is_plan p ws ≡ true → IsPlan p ws
plan_gives p ws h =
    let answered = and_parts _ _ h in let supported = and_parts _ _ answered.0 in let covered = and_parts _ _ supported.0 in
    let compatible = and_parts _ _ covered.0 in let fitting = and_parts _ _ compatible.0 in let going = and_parts _ _ fitting.0 in
    record {
      white = sym (same_side_is White (side_to_move p) going.0);
      going = none_is (end_of p) going.1;
      fitting = each_member (λ w. fits w p) ws fitting.1;
      compatible = two_give together ws compatible.1;
      covered = λ u empty. elim (or_cases _ _
          (every_square_gives (board_of p) (λ u. not (is_empty p u) || has_owner ws u) covered.1 u (empty_parts p u empty).0)) [
            | inl filled ↦ absurd (both_ways (is_empty p u) (not-true _ filled) empty)
            | inr owned ↦ member_of (λ w. has_square (zone_of w) u) ws owned
          ];
      supported = each_member (λ w. is_supported w (facts_of p ws)) ws supported.1;
      answered = λ g lies no_black. elim
          (or_cases _ _ (every_line_gives (board_of p) (λ g. list_any (has_man p Black) (squares_of g) || is_barred p ws g) answered.1 g lies)) [
            | inl some ↦ let found = any_gives (has_man p Black) (squares_of g) some in
                absurd (both_ways (has_man p Black found.0) (no_black found.0 (has_from (squares_of g) found.0 found.1)) found.2)
            | inr barred_one ↦ member_of (λ w. barred w (facts_of p ws) (empty_part p g)) ws barred_one
          ];
    }

pub plan_from : (p : Position) (ws : List RuleInstance) → IsPlan p ws → is_plan p ws ≡ true
plan_from p ws plan =
    and_from _ _ (and_from _ _ (and_from _ _ (and_from _ _ (and_from _ _ (and_from _ _
    (ap (same_side White) plan.white)
    (ap is_none plan.going))
    (all_members (λ w. fits w p) ws plan.fitting))
    (two_from together ws plan.compatible))
    (every_square_from (board_of p) (λ u. not (is_empty p u) || has_owner ws u) (λ u. elim (cases_Bool (is_empty p u)) [
      | inl empty ↦ or_right _ _ (any_member (λ w. has_square (zone_of w) u) ws (plan.covered u empty))
      | inr filled ↦ or_left _ _ (not_from_false _ filled)
    ])))
    (all_members (λ w. is_supported w (facts_of p ws)) ws plan.supported))
    (every_line_from (board_of p) (λ g. list_any (has_man p Black) (squares_of g) || is_barred p ws g)
    (λ g lies. elim (cases_Bool (list_any (has_man p Black) (squares_of g))) [
      | inl some ↦ or_left _ _ some
      | inr none ↦ or_right _ _ (any_member (λ w. barred w (facts_of p ws) (empty_part p g)) ws (plan.answered g lies (λ u owned.
          false_from_ne_true _ (λ black. both_ways (list_any (has_man p Black) (squares_of g)) none
          (any_from (has_man p Black) (squares_of g) u (has_gives (squares_of g) u owned) black)))))
    ]))
