-- One set of a walk and what comes after it, as a search goes through them: a set that leaves no square open is tested,
-- and another one is gone on with, zone after zone.
use Rattle.std.proofs.Common.{◌≡◌, ℕ, suc, ◌+◌, ◌-◌, ◌<◌, ◌≤◌, Bool, true, false, not, ◌&&◌, ◌||◌, if◌then◌else◌, List, [], ◌∷◌, ◌++◌, length, filter, take}
use Rattle.std.proofs.Common.{drop, get_or, Some, None, is_some, refl, sym, ap, ◌∙◌, subst, arith}
use Rattle.std.specs.List.{list_all, flat_map, slice_get}
use Rattle.std.proofs.Math.Bool.{and-true}
use Rattle.std.proofs.lemmas.Bool.{and_parts}
use Rattle.std.proofs.lemmas.List.{at_drop_more, append_assoc, append-nil, length-append, length-map, map-append, drop_all, take_at}
use Rattle.std.proofs.lemmas.List.Concat.{flat_map-cons}
use Rattle.game_rules.specs.Board.{Square, on_board, is_board}
use Rattle.game_rules.specs.Position.{Position, board_of}
use Rattle.game_rules.specs.Squares.{has_square, is_empty, IsSetOf}
use Rattle.game_rules.specs.Groups.{groups_of}
use Rattle.game_rules.proofs.Lists.{Among, Among-at, Among-map}
use Rattle.game_rules.proofs.Narrowed.{where_on_board}
use Rattle.game_rules.proofs.Squares.{set_same}
use Rattle.plan_rules.specs.Rules.{RuleInstance, zone_of, together}
use Rattle.plan_rules.specs.Refusal.{is_uncovered}
use Rattle.rule_compat.specs.declared.instance.Instance.{Instance}
use Rattle.rule_compat.specs.Written.{written, written_list}
use Rattle.walk_rules.specs.Walk.{gave, spent, fitting_zones, open_squares, owns_first, may_follow, walk_from, is_plan_position, is_left, answer_to, given}
use Rattle.walk_rules.specs.Walk.{gives_plan, choice_among, choice_of}
use Rattle.walk_rules.specs.Steps.{is_zone_set, after}
use Rattle.walk_rules.specs.Answers.{is_none_of}
use Rattle.walk_rules.proofs.Fast.{full_test, open_less}
use Rattle.walk_rules.proofs.Fitting.{zone_fits}
use Rattle.walk_rules.proofs.Given.{choice_step}
use Rattle.walk_rules.proofs.Lists.{filter_none}
use Rattle.walk_rules.proofs.Steps.{set_push, set_room}
use Rattle.walk_rules.proofs.Walks.{walk_step}
use Rattle.rule_chooser.specs.declared.visit.WalkOutcome.{WalkOutcome}
use Rattle.rule_chooser.specs.declared.visit.WalkOutcome.TheVariants as outcomes
use Rattle.rule_chooser.specs.Walked.{LeavesOpen, goes_on, chosen_by}

-- the first of a list, and the list
none_at : {X : Type 0} (xs : List X) → slice_get xs 0 ≡ None → xs ≡ []
none_at [] h = refl
none_at (x ∷ xs) h = absurd (cc h)

pub some_at : {X : Type 0} (xs : List X) (x : X) → slice_get xs 0 ≡ Some x → (ys : List X) × (xs ≡ x ∷ ys)
some_at [] x h = absurd (cc h)
some_at (y ∷ ys) x h = (ys, let same : y ≡ x = cc h in ap (λ z. z ∷ ys) same)

-- the squares that a set leaves open, as a set of squares
pub open_is : (p : Position) (set : List RuleInstance) → is_board (board_of p) ≡ true → (squares : List Square) → IsSetOf (is_uncovered p set) squares
    → squares ≡ open_squares p set
open_is p set board squares is =
    is.in_order ∙ where_on_board (board_of p) (is_uncovered p set) board (λ u h. (and_parts (on_board (board_of p) u) _ (and_parts (is_empty p u) _ h).0).0)

module _ (p : Position) (set : List RuleInstance) where
  -- no set more may be visited
  pub none_left : {left : ℕ} → left ≡ 0 → (rest : List (List RuleInstance)) → choice_among p left (walk_from p set ++ rest) ≡ spent
  none_left none rest = ap (λ k. choice_among p k (walk_from p set ++ rest)) none ∙ ap (λ sets. choice_among p 0 (sets ++ rest)) (walk_step p set)

  -- the set is visited
  visited : (k : ℕ) (rest : List (List RuleInstance))
      → choice_among p (suc k) (walk_from p set ++ rest)
      ≡ (if gives_plan p set then gave (given p set) else choice_among p k (after p set (fitting_zones p) ++ rest))
  visited k rest = ap (λ sets. choice_among p (suc k) (sets ++ rest)) (walk_step p set) ∙ choice_step p set k (after p set (fitting_zones p) ++ rest)

  -- a zone that may follow, and one that may not
  pub after_one : (w : RuleInstance) (ws : List RuleInstance) (rest : List (List RuleInstance)) → may_follow p set w ≡ true
      → after p set (w ∷ ws) ++ rest ≡ walk_from p (set ++ w ∷ []) ++ (after p set ws ++ rest)
  after_one w ws rest follows =
      ap (λ sets. sets ++ rest) (kept ∙ flat_map-cons (λ v. walk_from p (set ++ v ∷ [])) w (filter (may_follow p set) ws))
      ∙ append_assoc (walk_from p (set ++ w ∷ [])) (after p set ws) rest
    where
      kept : after p set (w ∷ ws) ≡ flat_map (λ v. walk_from p (set ++ v ∷ [])) (w ∷ filter (may_follow p set) ws)
      kept = rw follows refl

  pub after_other : (w : RuleInstance) (ws : List RuleInstance) → may_follow p set w ≡ false → after p set (w ∷ ws) ≡ after p set ws
  after_other w ws stays = rw stays refl

  module _ (going : is_plan_position p ≡ true) (is_set : is_zone_set p set ≡ true) (board : is_board (board_of p) ≡ true) (squares : List Square)
      (is : IsSetOf (is_uncovered p set) squares) where
    opened : squares ≡ open_squares p set
    opened = open_is p set board squares is

    -- no square is open: the set alone decides
    pub full_is : (k : ℕ) (rest : List (List RuleInstance)) (answered : Bool) → slice_get squares 0 ≡ None
        → answered ≡ list_all (λ g. not (is_left p set g) || is_some (answer_to p set g)) (groups_of (board_of p))
        → choice_among p (suc k) (walk_from p set ++ rest) ≡ (if answered then gave (given p set) else choice_among p k rest)
    full_is k rest answered none told =
        visited k rest
        ∙ ap (λ b. if b then gave (given p set) else choice_among p k (after p set (fitting_zones p) ++ rest)) (full_test p set going is_set
        ∙ ap (λ us. is_none_of us && list_all (λ g. not (is_left p set g) || is_some (answer_to p set g)) (groups_of (board_of p))) empty ∙ sym told)
        ∙ ap (λ sets. if answered then gave (given p set) else choice_among p k (sets ++ rest)) nothing
      where
        empty : open_squares p set ≡ []
        empty = sym opened ∙ none_at squares none

        nothing : after p set (fitting_zones p) ≡ []
        nothing = ap (flat_map (λ w. walk_from p (set ++ w ∷ [])))
            (filter_none (may_follow p set) (fitting_zones p) (λ w. ap (λ us. owns_first w us && list_all (λ v. together v w) set) empty))

    -- a square is open: the set gives no plan, and what comes after it decides
    pub open_goes : (k : ℕ) (rest : List (List RuleInstance)) (first : Square) → slice_get squares 0 ≡ Some first
        → choice_among p (suc k) (walk_from p set ++ rest) ≡ choice_among p k (after p set (fitting_zones p) ++ rest)
    open_goes k rest first some =
        visited k rest
        ∙ ap (λ b. if b then gave (given p set) else choice_among p k (after p set (fitting_zones p) ++ rest))
        (full_test p set going is_set ∙
        ap (λ us. is_none_of us && list_all (λ g. not (is_left p set g) || is_some (answer_to p set g)) (groups_of (board_of p)))
        (sym opened ∙ (some_at squares first some).1))

    -- a zone may follow where it has that square, and may stand with the set
    pub follows_is : (w : RuleInstance) (first : Square) → slice_get squares 0 ≡ Some first
        → (has_square (zone_of w) first && list_all (λ v. together v w) set) ≡ may_follow p set w
    follows_is w first some = ap (λ b. b && list_all (λ v. together v w) set) (sym (ap (owns_first w) (sym opened ∙ (some_at squares first some).1)))

  -- ---- the set with one zone more

  pub one_more : (w : RuleInstance) → is_zone_set p set ≡ true → Among w (fitting_zones p) → may_follow p set w ≡ true → is_zone_set p (set ++ w ∷ []) ≡ true
  one_more w is_set among follows =
      let fitted = zone_fits p w among in
      set_push p set w is_set fitted.0 fitted.1 (and_parts (owns_first w (open_squares p set)) _ follows).1

  pub uncovered_less : (w : RuleInstance) (squares zone less : List Square) → IsSetOf (is_uncovered p set) squares → IsSetOf (has_square (zone_of w)) zone
      → IsSetOf (λ u. has_square squares u && not (has_square zone u)) less → IsSetOf (is_uncovered p (set ++ w ∷ [])) less
  uncovered_less w squares zone less was owned is =
      set_same _ _ less is (λ u. ap (λ b. b && not (has_square zone u)) (was.has u) ∙ ap (λ b. is_uncovered p set u && not b) (owned.has u)
      ∙ sym (open_less p set w u))

-- ---- the list of the zones

pub written_more : (set : List Instance) (w : Instance) → written_list (set ++ w ∷ []) ≡ written_list set ++ written w ∷ []
written_more set w = map-append written set (w ∷ [])

pub zone_among : (p : Position) (zones : List Instance) (i : ℕ) (zone : Instance) → written_list zones ≡ fitting_zones p → i < length zones
    → zone ≡ get_or zones i zone → Among (written zone) (fitting_zones p)
zone_among p zones i zone same within at =
    subst (Among (written zone)) same (Among-map written zones zone (subst (λ z. Among z zones) (sym at) (Among-at zones i zone within)))

pub after_drop : (p : Position) (set : List RuleInstance) (zones : List Instance) (i : ℕ) (zone : Instance) → i < length zones → zone ≡ get_or zones i zone
    → after p set (written_list (drop i zones)) ≡ after p set (written zone ∷ written_list (drop (i + 1) zones))
after_drop p set zones i zone within at =
    at_drop_more (λ zs. after p set (written_list zs)) zones i zone within ∙ ap (λ z. after p set (written z ∷ written_list (drop (i + 1) zones))) (sym at)

pub after_end : (p : Position) (set : List RuleInstance) (zones : List Instance) (i : ℕ) (rest : List (List RuleInstance)) → length zones ≤ i
    → after p set (written_list (drop i zones)) ++ rest ≡ rest
after_end p set zones i rest past = ap (λ zs. after p set (written_list zs) ++ rest) (drop_all i zones past)

-- ---- what was found

-- what was found, if anything, doesn't depend on the sets that come after
pub found_before : (p : Position) (k : ℕ) (rest other : List (List RuleInstance)) (ws : List RuleInstance) (found : WalkOutcome) → (found ≡ outcomes.NoPlan → ⊥)
    → goes_on p k rest ws found ≡ goes_on p k other ws found
found_before p k rest other ws outcomes.Plan some = refl
found_before p k rest other ws outcomes.NoPlan some = absurd (some refl)
found_before p k rest other ws outcomes.Spent some = refl

-- ---- one step of the search

module _ (p : Position) (set : List Instance) (going : is_plan_position p ≡ true) (is_set : is_zone_set p (written_list set) ≡ true)
    (board : is_board (board_of p) ≡ true) where
  -- what the search tests of a zone, with the set as it is lent
  pub test_is : (squares : List Square) (zone : Instance) (first : Square) (lent : List Instance) (test : Bool)
      → IsSetOf (is_uncovered p (written_list set)) squares
      → slice_get squares 0 ≡ Some first → lent ≡ set
      → test ≡ (has_square (zone_of (written zone)) first && list_all (λ v. together v (written zone)) (written_list lent))
      → test ≡ may_follow p (written_list set) (written zone)
  test_is squares zone first lent test is some same told =
      told
      ∙ ap (λ zs. has_square (zone_of (written zone)) first && list_all (λ v. together v (written zone)) (written_list zs)) same
      ∙ follows_is p (written_list set) going is_set board squares is (written zone) first some

  -- the set with a zone that may follow it
  pub next_set : (zone : Instance) → Among (written zone) (fitting_zones p) → may_follow p (written_list set) (written zone) ≡ true
      → is_zone_set p (written_list (set ++ zone ∷ [])) ≡ true
  next_set zone among follows = subst (λ ws. is_zone_set p ws ≡ true) (sym (written_more set zone))
      (one_more p (written_list set) (written zone) is_set among follows)

  pub next_room : (zone : Instance) → Among (written zone) (fitting_zones p) → may_follow p (written_list set) (written zone) ≡ true → length set + 1 ≤ 50
  next_room zone among follows =
      omega (
        arith,
        set_room p (written_list set) (written zone) board (one_more p (written_list set) (written zone) is_set among follows),
        length-map set written,
      )

  pub next_uncovered : (zone : Instance) (squares owned less : List Square) → IsSetOf (is_uncovered p (written_list set)) squares
      → IsSetOf (has_square (zone_of (written zone))) owned
      → IsSetOf (λ u. has_square squares u && not (has_square owned u)) less → IsSetOf (is_uncovered p (written_list (set ++ zone ∷ []))) less
  next_uncovered zone squares owned less was own is =
      subst (λ ws. IsSetOf (is_uncovered p ws) less) (sym (written_more set zone))
      (uncovered_less p (written_list set) (written zone) squares owned less was own is)

  -- the zones from one on, where that one may follow: its own walk comes first
  pub with_one : (zones : List Instance) (i : ℕ) (zone : Instance) (k : ℕ) (rest : List (List RuleInstance)) → i < length zones → zone ≡ get_or zones i zone
      → may_follow p (written_list set) (written zone) ≡ true
      → choice_among p k (after p (written_list set) (written_list (drop i zones)) ++ rest)
      ≡ choice_among p k (walk_from p (written_list (set ++ zone ∷ [])) ++ (after p (written_list set) (written_list (drop (i + 1) zones)) ++ rest))
  with_one zones i zone k rest within at follows =
      ap (λ sets. choice_among p k (sets ++ rest)) (after_drop p (written_list set) zones i zone within at)
      ∙ ap (choice_among p k) (after_one p (written_list set) (written zone) (written_list (drop (i + 1) zones)) rest follows)
      ∙ ap (λ ws. choice_among p k (walk_from p ws ++ (after p (written_list set) (written_list (drop (i + 1) zones)) ++ rest))) (sym (written_more set zone))

  -- and where it may not, it is passed by
  pub without_one : (zones : List Instance) (i : ℕ) (zone : Instance) (k : ℕ) (rest : List (List RuleInstance)) → i < length zones → zone ≡ get_or zones i zone
      → may_follow p (written_list set) (written zone) ≡ false
      → choice_among p k (after p (written_list set) (written_list (drop i zones)) ++ rest)
      ≡ choice_among p k (after p (written_list set) (written_list (drop (i + 1) zones)) ++ rest)
  without_one zones i zone k rest within at stays =
      ap (λ sets. choice_among p k (sets ++ rest)) (after_drop p (written_list set) zones i zone within at
      ∙ after_other p (written_list set) (written zone) (written_list (drop (i + 1) zones)) stays)

-- ---- a set that leaves these squares open is visited

module _ (set : List Instance) {p : Position} {squares : List Square} (leaves : LeavesOpen p (written_list set) squares) (board : is_board (board_of p) ≡ true)
    {left : ℕ} (k : ℕ) (more : left ≡ suc k) (rest : List (List RuleInstance)) where
  -- the set alone decides
  module _ (none : slice_get squares 0 ≡ None) {lent : List Instance} {answered : Bool} (lend : lent ≡ set)
      (told : answered ≡ list_all (λ g. not (is_left p (written_list lent) g) || is_some (answer_to p (written_list lent) g)) (groups_of (board_of p))) where
    decided : choice_among p left (walk_from p (written_list set) ++ rest) ≡ (if answered then gave (given p (written_list set)) else choice_among p k rest)
    decided =
        ap (λ n. choice_among p n (walk_from p (written_list set) ++ rest)) more
        ∙ full_is p (written_list set) leaves.going leaves.is_set board squares leaves.open_squares k rest answered none
        (told ∙ ap (λ zs. list_all (λ g. not (is_left p (written_list zs) g) || is_some (answer_to p (written_list zs) g)) (groups_of (board_of p))) lend)

    pub gives : {list : List Instance} → answered ≡ true → list ≡ lent
        → choice_among p left (walk_from p (written_list set) ++ rest) ≡ gave (given p (written_list list))
    gives {list} does same = decided ∙ ap (λ b. if b then gave (given p (written_list set)) else choice_among p k rest) does
        ∙ ap (λ zs. gave (given p (written_list zs))) (sym (same ∙ lend))

    pub gives_none : answered ≡ false → choice_among p left (walk_from p (written_list set) ++ rest) ≡ choice_among p k rest
    gives_none fails = decided ∙ ap (λ b. if b then gave (given p (written_list set)) else choice_among p k rest) fails

  -- what comes of it does
  pub goes_next : {first : Square} → slice_get squares 0 ≡ Some first
      → choice_among p left (walk_from p (written_list set) ++ rest) ≡ choice_among p k (after p (written_list set) (fitting_zones p) ++ rest)
  goes_next {first} some =
      ap (λ n. choice_among p n (walk_from p (written_list set) ++ rest)) more
      ∙ open_goes p (written_list set) leaves.going leaves.is_set board squares leaves.open_squares k rest first some

-- the last element taken away again
pub taken_back : {X : Type 0} (xs longer shorter : List X) (x : X) → longer ≡ xs ++ x ∷ [] → shorter ≡ take (length longer - 1) longer → shorter ≡ xs
taken_back xs longer shorter x same taken =
    let long : length longer - 1 ≡ length xs = omega (arith, ap length same, length-append xs (x ∷ [])) in
    taken ∙ ap (λ n. take n longer) long ∙ ap (take (length xs)) same ∙ take_at xs (x ∷ []) (length xs) refl

-- where no set comes after
pub goes_end : (p : Position) (k : ℕ) (ws : List RuleInstance) (found : WalkOutcome) → goes_on p k [] ws found ≡ chosen_by p ws found
goes_end p k ws outcomes.Plan = refl
goes_end p k ws outcomes.NoPlan = refl
goes_end p k ws outcomes.Spent = refl

-- the walk of a position at which White is to move and the game goes on
pub walk_going : (p : Position) (k : ℕ) → is_plan_position p ≡ true → choice_of p k ≡ choice_among p k (walk_from p [] ++ [])
walk_going p k going = ap (λ b. choice_among p k (if b then walk_from p [] else [])) going ∙ ap (choice_among p k) (sym (append-nil (walk_from p [])))

-- the empty set leaves all empty squares open
pub opens_all : {p : Position} {squares : List Square} → is_plan_position p ≡ true → IsSetOf (is_empty p) squares → LeavesOpen p [] squares
opens_all {p} {squares} going is =
    record { going = going; is_set = refl; open_squares = set_same _ _ squares is (λ u. sym (and-true (is_empty p u))) }
