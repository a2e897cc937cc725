-- What each of the searches for a fault finds, in words of members, squares and lines.
use Rattle.std.proofs.Common.{◌≡◌, ◌⊎◌, ℕ, Bool, true, false, not, List, Option, Some, None, is_none, refl, sym, ap, ◌∙◌, inl, inr, arith}
use Rattle.std.specs.List.{list_any, find, position_from}
use Rattle.std.specs.Option.{option_map, option_or}
use Rattle.std.proofs.lemmas.Bool.{both_ways, and_parts, and_from, not-true, not_from_false, false_from_ne_true}
use Rattle.std.proofs.lemmas.Option.{same_Some}
use Rattle.game_rules.specs.Board.{Square}
use Rattle.game_rules.specs.Position.{Position, board_of, has_man}
use Rattle.game_rules.specs.Squares.{has_square, is_empty, squares_of_board, Precedes as SquarePrecedes}
use Rattle.game_rules.specs.Groups.{Group, squares_of, lies_on, rank, groups_of, Precedes as GroupPrecedes}
use Rattle.game_rules.specs.declared.Side.TheVariants.{Black}
use Rattle.game_rules.proofs.Lists.{any_gives, any_from, all_gives}
use Rattle.game_rules.proofs.Squares.{has_gives, has_from, Among-board}
use Rattle.game_rules.proofs.Groups.{squares_in_order, groups_in_order, Among-groups, Among-groups_gives}
use Rattle.plan_rules.specs.Rules.{RuleInstance, zone_of, fits, facts_of, barred, together}
use Rattle.plan_rules.specs.Plan.{has_owner, empty_part, is_barred, IsMember}
use Rattle.plan_rules.specs.Zones.{first_two_from}
use Rattle.plan_rules.specs.Refusal.{is_uncovered, is_unanswered, StandTogether, IsUncovered, IsUnanswered, IsFirstOf, IsCovered}
use Rattle.plan_rules.proofs.Squares.{Among-get, get-Among}
use Rattle.plan_rules.proofs.Turns.{empty_parts}
use Rattle.plan_rules.proofs.PlaceWords.{find_gives}
use Rattle.plan_rules.proofs.Refusals.{no_place, no_two, no_find}

-- ---- options

-- where the first of two options has nothing, the second one counts
pub or_gives : {X : Type 0} (a b : Option X) (x : X) → option_or a b ≡ Some x → (a ≡ Some x) ⊎ ((a ≡ None) × (b ≡ Some x))
or_gives None b x h = inr (refl, h)
or_gives (Some y) b x h = inl h

pub or_none : {X : Type 0} (a b : Option X) → option_or a b ≡ None → (a ≡ None) × (b ≡ None)
or_none None b h = (refl, h)
or_none (Some y) b h = absurd (cc h)

pub map_gives : {X Y : Type 0} (f : X → Y) (o : Option X) (y : Y) → option_map f o ≡ Some y → (x : X) × (o ≡ Some x) × (f x ≡ y)
map_gives f None y h = absurd (cc h)
map_gives f (Some x) y h = (x, refl, same_Some (f x) y h)

pub map_none : {X Y : Type 0} (f : X → Y) (o : Option X) → option_map f o ≡ None → o ≡ None
map_none f None h = refl
map_none f (Some x) h = absurd (cc h)

-- ---- squares and lines

-- no member passes, as a test and by their places
pub no_member : (test : RuleInstance → Bool) (ws : List RuleInstance) → list_any test ws ≡ false → (i : ℕ) (w : RuleInstance) → IsMember ws i w → test w ≡ false
no_member test ws none i w member =
    false_from_ne_true (test w) (λ passes. both_ways (list_any test ws) none (any_from test ws w (get-Among ws i w member) passes))

pub member_none : (test : RuleInstance → Bool) (ws : List RuleInstance) → ((i : ℕ) (w : RuleInstance) → IsMember ws i w → test w ≡ false)
    → list_any test ws ≡ false
member_none test ws none = false_from_ne_true (list_any test ws) (λ some.
    let found = any_gives test ws some in let at = Among-get ws found.0 found.1 in
    both_ways (test found.0) (none at.0 found.0 at.1) found.2)

pub uncovered_gives : (p : Position) (ws : List RuleInstance) (u : Square) → is_uncovered p ws u ≡ true → IsUncovered p ws u
uncovered_gives p ws u h =
    let both = and_parts (is_empty p u) (not (has_owner ws u)) h in
    record { empty = both.0; no_zone = no_member (λ w. has_square (zone_of w) u) ws (not-true (has_owner ws u) both.1) }

pub uncovered_from : (p : Position) (ws : List RuleInstance) (u : Square) → IsUncovered p ws u → is_uncovered p ws u ≡ true
uncovered_from p ws u is = and_from _ _ is.empty (not_from_false (has_owner ws u) (member_none (λ w. has_square (zone_of w) u) ws is.no_zone))

pub unanswered_gives : (p : Position) (ws : List RuleInstance) (g : Group) → lies_on (board_of p) g ≡ true → is_unanswered p ws g ≡ true → IsUnanswered p ws g
unanswered_gives p ws g lies h =
    let both = and_parts (not (list_any (has_man p Black) (squares_of g))) (not (is_barred p ws g)) h in
    record {
      line = lies;
      no_black = λ u owned. false_from_ne_true (has_man p Black u) (λ black.
          both_ways (list_any (has_man p Black) (squares_of g)) (not-true _ both.0)
          (any_from (has_man p Black) (squares_of g) u (has_gives (squares_of g) u owned) black));
      no_bar = no_member (λ w. barred w (facts_of p ws) (empty_part p g)) ws (not-true (is_barred p ws g) both.1);
    }

pub unanswered_from : (p : Position) (ws : List RuleInstance) (g : Group) → IsUnanswered p ws g → is_unanswered p ws g ≡ true
unanswered_from p ws g is = and_from _ _
    (not_from_false _ (false_from_ne_true (list_any (has_man p Black) (squares_of g)) (λ some.
    let found = any_gives (has_man p Black) (squares_of g) some in
    both_ways (has_man p Black found.0) (is.no_black found.0 (has_from (squares_of g) found.0 found.1)) found.2)))
    (not_from_false _ (member_none (λ w. barred w (facts_of p ws) (empty_part p g)) ws is.no_bar))

-- squares and groups stand one before another, and not both ways
pub squares_one_way : (u v : Square) → SquarePrecedes u v → SquarePrecedes v u → ⊥
squares_one_way u v (inl a) (inl b) = omega arith
squares_one_way u v (inl a) (inr b) = omega (arith, b.0)
squares_one_way u v (inr a) (inl b) = omega (arith, a.0)
squares_one_way u v (inr a) (inr b) = omega (arith, a.1, b.1)

pub groups_one_way : (g h : Group) → GroupPrecedes g h → GroupPrecedes h g → ⊥
groups_one_way g h (inl a) (inl b) = omega arith
groups_one_way g h (inl a) (inr b) = omega (arith, ap rank b.0)
groups_one_way g h (inr a) (inl b) = omega (arith, ap rank a.0)
groups_one_way g h (inr a) (inr b) = squares_one_way g.anchor h.anchor a.1 b.1

-- ---- what a fault says

-- all members fit, and each two stand together, where neither is refused
pub together_gives : (p : Position) (ws : List RuleInstance) → position_from (λ w. not (fits w p)) 1 ws ≡ None → first_two_from together 1 ws ≡ None
    → StandTogether p ws
together_gives p ws fit stand = record {
  fitting = sym (no_place (λ w. fits w p) 1 ws) ∙ ap is_none fit;
  standing = sym (no_two together 1 ws) ∙ ap is_none stand;
}

pub first_uncovered : (p : Position) (ws : List RuleInstance) (u : Square) → find (is_uncovered p ws) (squares_of_board (board_of p)) ≡ Some u
    → IsFirstOf (IsUncovered p ws) SquarePrecedes u
first_uncovered p ws u h =
    let found = find_gives SquarePrecedes (is_uncovered p ws) (squares_of_board (board_of p)) u (squares_in_order (board_of p)) h in
    record {
      is_one = uncovered_gives p ws u found.1;
      first = λ v is. found.2 v (Among-board (board_of p) v (empty_parts p v is.empty).0) (uncovered_from p ws v is);
    }

pub first_unanswered : (p : Position) (ws : List RuleInstance) (g : Group) → find (is_unanswered p ws) (groups_of (board_of p)) ≡ Some g
    → IsFirstOf (IsUnanswered p ws) GroupPrecedes g
first_unanswered p ws g h =
    let found = find_gives GroupPrecedes (is_unanswered p ws) (groups_of (board_of p)) g (groups_in_order (board_of p)) h in
    record {
      is_one = unanswered_gives p ws g (Among-groups_gives (board_of p) g found.0) found.1;
      first = λ v is. found.2 v (Among-groups (board_of p) v is.line) (unanswered_from p ws v is);
    }

pub covered_gives : (p : Position) (ws : List RuleInstance) → StandTogether p ws → find (is_uncovered p ws) (squares_of_board (board_of p)) ≡ None
    → IsCovered p ws
covered_gives p ws members none = record {
  members = members;
  covered = λ u is.
      let all = sym (no_find (is_uncovered p ws) (squares_of_board (board_of p))) ∙ ap is_none none in
      let covered_u = all_gives (λ u. not (is_uncovered p ws u)) (squares_of_board (board_of p)) u all (Among-board (board_of p) u (empty_parts p u is.empty).0)
      in
      both_ways (is_uncovered p ws u) (not-true _ covered_u) (uncovered_from p ws u is);
}
