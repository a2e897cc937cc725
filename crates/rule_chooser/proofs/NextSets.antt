-- The sets that come of a set which leaves a square open: a search goes through the zones that may follow, one by one.
use Rattle.std.proofs.Common.{◌≡◌, ℕ, ◌+◌, ◌<◌, ◌≤◌, ◌-◌, ◌*◌, Bool, true, false, ◌&&◌, not, List, [], ◌∷◌, ◌++◌, length, take, drop, get_or, Option, Some}
use Rattle.std.proofs.Common.{slice_get}
use Rattle.std.proofs.Common.{refl, sym, ap, ◌∙◌, subst, arith}
use Rattle.std.specs.List.{list_all}
use Rattle.std.proofs.lemmas.List.{length-append}
use Rattle.std.proofs.lemmas.Option.{slice_get_read}
use Rattle.game_rules.specs.Board.{Square, is_board}
use Rattle.game_rules.specs.Position.{Position, board_of}
use Rattle.game_rules.specs.Squares.{has_square, IsSetOf}
use Rattle.game_rules.proofs.Lists.{Among}
use Rattle.plan_rules.specs.Rules.{RuleInstance, zone_of, together}
use Rattle.board_squares.specs.Words.{place_of}
use Rattle.rule_compat.specs.declared.instance.Instance.{Instance}
use Rattle.rule_compat.specs.Written.{written, written_list}
use Rattle.walk_rules.specs.Walk.{fitting_zones, may_follow, walk_from, choice_among}
use Rattle.walk_rules.specs.Steps.{after}
use Rattle.rule_chooser.specs.declared.ground.Ground.{Ground}
use Rattle.rule_chooser.specs.declared.visit.WalkOutcome.{WalkOutcome}
use Rattle.rule_chooser.specs.declared.visit.WalkOutcome.TheVariants as outcomes
use Rattle.rule_chooser.specs.Ground.{IsGround}
use Rattle.rule_chooser.specs.Links.{least_place, next_at}
use Rattle.rule_chooser.specs.Walked.{LeavesOpen, OpensAt, goes_on}
use Rattle.rule_chooser.proofs.Visits.{zone_among, after_end, found_before, test_is, next_set, next_room, next_uncovered, with_one, without_one, taken_back}
use Rattle.rule_chooser.proofs.Linked.{next_is, next_least, passed_over}

-- A search has come to the zones from this number on: what is left decides among the sets that come of these as it did
-- among all; and the first of them has the first open square. The zones are lent from a list.
pub record GoesFrom (p : Position) (set now list zones : List Instance) (squares : List Square) (first : Square) (before left i : ℕ) : Type 0 where
  pub opens : OpensAt p (written_list set) squares first
  pub board : is_board (board_of p) ≡ true
  pub lent : zones ≡ list
  pub listed : written_list zones ≡ fitting_zones p
  pub goes : (rest : List (List RuleInstance))
      → choice_among p before (after p (written_list set) (fitting_zones p) ++ rest)
      ≡ choice_among p left (after p (written_list set) (written_list (drop i zones)) ++ rest)
  pub same : now ≡ set
  pub mine : (zone : Instance) → slice_get zones i ≡ Some zone → least_place zone ≡ place_of first

-- those that don't begin with the first open square are passed by
passed_by_first : {p : Position} (set : List Instance) {squares : List Square} {first : Square} (zones : List Instance)
    → OpensAt p (written_list set) squares first
    → is_board (board_of p) ≡ true → written_list zones ≡ fitting_zones p → (n : ℕ)
    → after p (written_list set) (written_list (drop n zones))
    ≡ after p (written_list set) (written_list (drop (next_at (place_of first) n (drop n zones)) zones))
passed_by_first {p} set {squares} {first} zones opens board listed = passed_over p
    (written_list set) board squares first opens.leaves.open_squares opens.at zones listed

-- the number that is linked to that of a zone
abbrev pub IsNext : List Instance → ℕ → ℕ → Type 0
IsNext list i n = (zone : Instance) → slice_get list i ≡ Some zone → n ≡ next_at (least_place zone) (i + 1) (drop (i + 1) list)

-- at first
pub begins : {p : Position} (set : List Instance) {squares : List Square} {first : Square} {ground : Ground} {zones : List Instance} {left i : ℕ}
    → IsGround p ground
    → OpensAt p (written_list set) squares first → is_board (board_of p) ≡ true → zones ≡ ground.zones.list.items
    → i ≡ next_at (place_of first) 0 ground.zones.list.items
    → GoesFrom p set set ground.zones.list.items zones squares first left left i
begins {p} set {squares} {first} {ground} {zones} {left} {i} ground_is opens board lent is =
    let listed = ap written_list lent ∙ ground_is.zones in
    let number : i ≡ next_at (place_of first) 0 zones = is ∙ ap (next_at (place_of first) 0) (sym lent) in
    record {
      opens = opens;
      board = board;
      lent = lent;
      listed = listed;
      goes = λ rest.
          ap (λ ws. choice_among p left (after p (written_list set) ws ++ rest)) (sym listed)
          ∙ ap (λ sets. choice_among p left (sets ++ rest)) (passed_by_first set zones opens board listed 0)
          ∙ ap (λ n. choice_among p left (after p (written_list set) (written_list (drop n zones)) ++ rest)) (sym number);
      same = refl;
      mine = λ zone at. next_is (place_of first) 0 zones zones zone refl (ap (slice_get zones) (sym number) ∙ at);
    }

-- at last
pub ends : {p : Position} {set now list zones : List Instance} {squares : List Square} {first : Square} {before left i : ℕ} (rest : List (List RuleInstance))
    → GoesFrom p set now list zones squares first before left i → length zones ≤ i
    → choice_among p before (after p (written_list set) (fitting_zones p) ++ rest) ≡ choice_among p left rest
ends {p} {set} {zones = zones} {left = left} {i} rest g all = g.goes rest ∙ ap (choice_among p left) (after_end p (written_list set) zones i rest all)

-- A zone of the list is tried.
pub record Tries (p : Position) (set now list zones : List Instance) (squares : List Square) (first : Square) (before left i : ℕ)
    (zone : Instance) : Type 0 where
  pub from : GoesFrom p set now list zones squares first before left i
  pub within : i < length zones
  pub at : zone ≡ get_or zones i zone

pub tries : {p : Position} {set now list zones : List Instance} {squares : List Square} {first : Square} {before left i : ℕ} {zone : Instance}
    → GoesFrom p set now list zones squares first before left i → i < length zones → zone ≡ get_or zones i zone
    → Tries p set now list zones squares first before left i zone
tries from within at = record { from = from; within = within; at = at }

module _ {p : Position} {set now list zones : List Instance} {squares : List Square} {first : Square} {before left i : ℕ} {zone : Instance}
    (t : Tries p set now list zones squares first before left i zone) where
  among : Among (written zone) (fitting_zones p)
  among = zone_among p zones i zone t.from.listed t.within t.at

  here : slice_get zones i ≡ Some zone
  here = slice_get_read zones (length zones) i zone refl t.within t.at

  -- whether it may follow
  pub follows_is : {test answer : Bool} (lent_set : List Instance) → lent_set ≡ now
      → test ≡ (has_square (zone_of (written zone)) first && list_all (λ v. together v (written zone)) (written_list lent_set)) → test ≡ answer
      → may_follow p (written_list set) (written zone) ≡ answer
  follows_is {test} lent_set lend is answers =
      sym (test_is p set t.from.opens.leaves.going t.from.opens.leaves.is_set t.from.board squares zone first lent_set test t.from.opens.leaves.open_squares
      t.from.opens.at
      (lend ∙ t.from.same) is) ∙ answers

  -- the number of the next one
  module _ {n : ℕ} (next : IsNext list i n) where
    next_of : n ≡ next_at (least_place zone) (i + 1) (drop (i + 1) list)
    next_of = next zone (ap (λ zs. slice_get zs i) (sym t.from.lent) ∙ here)

    pub further : length zones - n < length zones - i
    further = let least = next_least (least_place zone) (i + 1) (drop (i + 1) list) in omega (arith, next_of, least, t.within)

    number : n ≡ next_at (place_of first) (i + 1) (drop (i + 1) zones)
    number =
        next_of
        ∙ ap (λ q. next_at q (i + 1) (drop (i + 1) list)) (t.from.mine zone here)
        ∙ ap (λ zs. next_at (place_of first) (i + 1) (drop (i + 1) zs)) (sym t.from.lent)

    -- from the one behind it on, up to the next one, no zone may follow
    steps_on : {last : ℕ} {new : List Instance} → new ≡ set
        → ((rest : List (List RuleInstance))
        → choice_among p left (after p (written_list set) (written_list (drop i zones)) ++ rest)
        ≡ choice_among p last (after p (written_list set) (written_list (drop (i + 1) zones)) ++ rest))
        → GoesFrom p set new list zones squares first before last n
    steps_on {last} kept step =
        record {
          opens = t.from.opens;
          board = t.from.board;
          lent = t.from.lent;
          listed = t.from.listed;
          goes = λ rest.
              t.from.goes rest ∙ step rest
              ∙ ap (λ sets. choice_among p last (sets ++ rest)) (
              passed_by_first set zones t.from.opens t.from.board t.from.listed (i + 1)
              ∙ ap (λ m. after p (written_list set) (written_list (drop m zones))) (sym number));
          same = kept;
          mine = λ w there. next_is (place_of first) (i + 1) zones (drop (i + 1) zones) w refl (ap (slice_get zones) (sym number) ∙ there);
        }

    -- it may not follow
    pub passed_by : {last : ℕ} {new : List Instance} → may_follow p (written_list set) (written zone) ≡ false → last ≡ left → new ≡ now
        → GoesFrom p set new list zones squares first before last n
    passed_by stays same_left kept =
        steps_on (kept ∙ t.from.same) (λ rest.
        without_one p set t.from.opens.leaves.going t.from.opens.leaves.is_set t.from.board zones i zone left rest t.within t.at stays
        ∙ ap (λ k. choice_among p k (after p (written_list set) (written_list (drop (i + 1) zones)) ++ rest)) (sym same_left))

-- a zone that may not follow is passed by
pub passes_by : {p : Position} {set now new list zones lent : List Instance} {squares : List Square} {first : Square} {before left last i n : ℕ}
    {zone : Instance} {test : Bool} → GoesFrom p set now list zones squares first before left i → i < length zones → zone ≡ get_or zones i zone → lent ≡ now
    → test ≡ (has_square (zone_of (written zone)) first && list_all (λ v. together v (written zone)) (written_list lent)) → test ≡ false → IsNext list i n
    → last ≡ left → new ≡ now → GoesFrom p set new list zones squares first before last n
passes_by {lent = lent} from within at lend is fails next same_left kept =
    let t = tries from within at in passed_by t next (follows_is t lent lend is fails) same_left kept

-- the set leaves the first of the squares open
pub opens_at : {p : Position} {ws : List RuleInstance} {squares : List Square} {first : Square} {found : Option Square} → LeavesOpen p ws squares
    → found ≡ slice_get squares 0 → found ≡ Some first → OpensAt p ws squares first
opens_at leaves is some = record { leaves = leaves; at = sym is ∙ some }

-- A zone of the list is tried, and it may follow.
pub record Follows (p : Position) (set now list zones : List Instance) (squares : List Square) (first : Square) (before left i : ℕ)
    (zone : Instance) : Type 0 where
  pub at : Tries p set now list zones squares first before left i zone
  pub may : may_follow p (written_list set) (written zone) ≡ true

pub follows : {p : Position} {set now list zones lent : List Instance} {squares : List Square} {first : Square} {before left i : ℕ}
    {zone : Instance} {test : Bool}
    → GoesFrom p set now list zones squares first before left i → i < length zones → zone ≡ get_or zones i zone → lent ≡ now
    → test ≡ (has_square (zone_of (written zone)) first && list_all (λ v. together v (written zone)) (written_list lent)) → test ≡ true
    → Follows p set now list zones squares first before left i zone
follows {lent = lent} from within at lend is passes = let t = tries from within at in record { at = t; may = follows_is t lent lend is passes }

module _ {p : Position} {set now list zones : List Instance} {squares : List Square} {first : Square} {before left i : ℕ} {zone : Instance}
    (f : Follows p set now list zones squares first before left i zone) where
  pub has_room : length now < 50
  has_room =
      let leaves = f.at.from.opens.leaves in
      omega (arith, next_room p set leaves.going leaves.is_set f.at.from.board zone (among f.at) f.may, ap length f.at.from.same)

  module _ {pushed : List Instance} (push : pushed ≡ now ++ zone ∷ []) where
    pushed_is : pushed ≡ set ++ zone ∷ []
    pushed_is = push ∙ ap (λ zs. zs ++ zone ∷ []) f.at.from.same

    pub smaller : 2 * (50 - length pushed) + 1 < 2 * (50 - length set)
    smaller = omega (arith, has_room, ap length f.at.from.same, ap length pushed_is, length-append set (zone ∷ []))

    pub opens_next : {owned still : List Square} → IsSetOf (has_square (zone_of (written zone))) owned
        → IsSetOf (λ u. has_square squares u && not (has_square owned u)) still
        → LeavesOpen p (written_list pushed) still
    opens_next {owned} {still} own is =
        let leaves = f.at.from.opens.leaves in
        subst (λ zs. LeavesOpen p (written_list zs) still) (sym pushed_is) (record {
          going = leaves.going;
          is_set = next_set p set leaves.going leaves.is_set f.at.from.board zone (among f.at) f.may;
          open_squares = next_uncovered p set leaves.going leaves.is_set f.at.from.board zone squares owned still leaves.open_squares own is;
        })

    -- the set with it is visited
    module _ (mid : ℕ) (ws : List RuleInstance) (found : WalkOutcome)
        (visit : (rest : List (List RuleInstance)) → choice_among p left (walk_from p (written_list pushed) ++ rest) ≡ goes_on p mid rest ws found) where
      goes_in : (rest : List (List RuleInstance))
          → choice_among p left (after p (written_list set) (written_list (drop i zones)) ++ rest)
          ≡ goes_on p mid (after p (written_list set) (written_list (drop (i + 1) zones)) ++ rest) ws found
      goes_in rest =
          with_one p set f.at.from.opens.leaves.going f.at.from.opens.leaves.is_set f.at.from.board zones i zone left rest f.at.within f.at.at f.may
          ∙ ap (λ zs. choice_among p left (walk_from p (written_list zs) ++ (after p (written_list set) (written_list (drop (i + 1) zones)) ++ rest)))
          (sym pushed_is)
          ∙ visit (after p (written_list set) (written_list (drop (i + 1) zones)) ++ rest)

      -- which decides
      pub decided : (rest : List (List RuleInstance)) → (found ≡ outcomes.NoPlan → ⊥)
          → choice_among p before (after p (written_list set) (fitting_zones p) ++ rest) ≡ goes_on p mid rest ws found
      decided rest some =
          f.at.from.goes rest ∙ goes_in rest ∙ found_before p mid (after p (written_list set) (written_list (drop (i + 1) zones)) ++ rest) rest ws found some

      -- or doesn't
      pub tried : {n last : ℕ} {longer shorter new : List Instance} → IsNext list i n → found ≡ outcomes.NoPlan → last ≡ mid
          → (found ≡ outcomes.NoPlan → longer ≡ pushed) → shorter ≡ take (length longer - 1) longer → new ≡ shorter
          → GoesFrom p set new list zones squares first before last n
      tried {longer = longer} {shorter} next none same_left back pop kept =
          steps_on f.at next (kept ∙ taken_back set longer shorter zone (back none ∙ pushed_is) pop) (λ rest.
          goes_in rest
          ∙ ap (goes_on p mid (after p (written_list set) (written_list (drop (i + 1) zones)) ++ rest) ws) none
          ∙ ap (λ k. choice_among p k (after p (written_list set) (written_list (drop (i + 1) zones)) ++ rest)) (sym same_left))
