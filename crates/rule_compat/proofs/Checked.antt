-- The check of a list part by part: the squares that no zone has, and what the refusals of the parts come to.
use Rattle.std.proofs.Common.{◌≡◌, ℕ, ◌+◌, ◌<◌, ◌≤◌, Bool, true, false, not, ◌&&◌, ◌||◌, if◌then◌else◌, List, [], ◌∷◌, filter, take, get_or, length, Option}
use Rattle.std.proofs.Common.{Some, None, is_some, is_none, refl, sym, ap, ◌∙◌, inl, inr, arith}
use Rattle.std.specs.List.{list_all, list_any, find, slice_get, position_from}
use Rattle.std.specs.Option.{option_map, option_or}
use Rattle.std.proofs.Math.Path.{fun_ext}
use Rattle.std.proofs.lemmas.Bool.{cases_Bool, and_parts}
use Rattle.std.proofs.lemmas.List.{take_all}
use Rattle.std.proofs.lemmas.List.Folds.{list_any_more}
use Rattle.std.proofs.lemmas.Option.{slice_get_read}
use Rattle.game_rules.specs.Board.{Square, is_board}
use Rattle.game_rules.specs.Position.{Position, board_of, side_to_move, same_side, end_of}
use Rattle.game_rules.specs.Squares.{has_square, is_empty, squares_of_board, squares_where, IsSetOf}
use Rattle.game_rules.specs.Groups.{groups_of}
use Rattle.game_rules.specs.declared.Side.TheVariants.{White}
use Rattle.game_rules.specs.declared.End.{End}
use Rattle.game_rules.proofs.Lists.{any_map}
use Rattle.game_rules.proofs.Squares.{set_same}
use Rattle.game_rules.proofs.Narrowed.{where_on_board}
use Rattle.plan_rules.specs.Rules.{RuleInstance, fits, zone_of, facts_of, is_supported, together}
use Rattle.plan_rules.specs.Zones.{zones_from, first_two_from}
use Rattle.plan_rules.specs.Plan.{is_plan}
use Rattle.plan_rules.specs.Refusal.{PlanFault, not_white_to_move, ended, misfit, clash, uncovered, unsupported, unanswered, is_uncovered, is_unanswered}
use Rattle.plan_rules.specs.Refusal.{members_refusal, cover_refusal, plan_refusal, StandTogether}
use Rattle.plan_rules.proofs.Places.{two_map}
use Rattle.plan_rules.proofs.Zones.{any_of_zone, owner_alone}
use Rattle.plan_rules.proofs.Refusals.{no_place, no_two, refusal_is}
use Rattle.rule_compat.specs.declared.instance.Instance.{Instance}
use Rattle.rule_compat.specs.Written.{written, written_list}
use Rattle.rule_compat.specs.Faults.{position_refusal}
use Rattle.rule_compat.proofs.Gathered.{stand, owns}

-- ---- the squares that no zone has

-- some zone has the square
abbrev pub in_zones : List (ℕ × Instance) → Square → Bool
in_zones zones u = list_any (λ zone. has_square (zone_of (written zone.1)) u) zones

-- an empty square in no zone
abbrev pub is_bare : Position → List (ℕ × Instance) → Square → Bool
is_bare p zones u = is_empty p u && not (in_zones zones u)

-- one zone more
pub zone_joins : (zones : List (ℕ × Instance)) (i : ℕ) (zone : ℕ × Instance) (us vs all : List Square) → i < length zones → zone ≡ get_or zones i zone
    → IsSetOf (in_zones (take i zones)) us → IsSetOf (has_square (zone_of (written zone.1))) vs → IsSetOf (λ u. has_square us u || has_square vs u) all
    → IsSetOf (in_zones (take (i + 1) zones)) all
zone_joins zones i zone us vs all within at before one joined = set_same _ _ all joined same
  where
    same : (u : Square) → (has_square us u || has_square vs u) ≡ in_zones (take (i + 1) zones) u
    same u =
        ap (λ b. b || has_square vs u) (before.has u)
        ∙ ap (λ b. in_zones (take i zones) u || b) (one.has u ∙ ap (λ (z : ℕ × Instance). has_square (zone_of (written z.1)) u) at)
        ∙ sym (list_any_more (λ z. has_square (zone_of (written z.1)) u) zones i zone within)

-- all of them
pub zones_joined : (zones : List (ℕ × Instance)) (i : ℕ) (us : List Square) → length zones ≤ i → IsSetOf (in_zones (take i zones)) us
    → IsSetOf (in_zones zones) us
zones_joined zones i us past set = set_same _ _ us set (λ u. ap (λ all. in_zones all u) (take_all i zones past))

-- the first element of a list, and that of none
pub no_first : {X : Type 0} (xs : List X) → length xs < 1 → slice_get xs 0 ≡ None
no_first [] short = refl
no_first (x ∷ xs) short = absurd (omega (arith, short))

pub is_first : {X : Type 0} (xs : List X) (x : X) → 1 ≤ length xs → x ≡ get_or xs 0 x → slice_get xs 0 ≡ Some x
is_first xs x some at = slice_get_read xs (length xs) 0 x refl (omega (arith, some)) at

-- the first element that passes is the first of those that do
pub find_filtered : {X : Type 0} (test : X → Bool) (xs : List X) → slice_get (filter test xs) 0 ≡ find test xs
find_filtered test [] = refl
find_filtered test (x ∷ xs) = elim (cases_Bool (test x)) [
  | inl passes ↦ rw passes refl
  | inr fails ↦ rw fails (find_filtered test xs)
]

-- the first square of the set of the bare ones is the first bare one of the board
pub first_bare : (p : Position) (zones : List (ℕ × Instance)) (empties owned us : List Square) → is_board (board_of p) ≡ true
    → IsSetOf (is_empty p) empties → IsSetOf (in_zones zones) owned → IsSetOf (λ u. has_square empties u && not (has_square owned u)) us
    → slice_get us 0 ≡ find (is_bare p zones) (squares_of_board (board_of p))
first_bare p zones empties owned us board empty owners bare =
    ap (λ vs. slice_get vs 0) (ordered ∙ where_on_board (board_of p) (is_bare p zones) board (λ u h. (and_parts _ _ (and_parts _ _ h).0).0))
    ∙ find_filtered (is_bare p zones) (squares_of_board (board_of p))
  where
    ordered : us ≡ squares_where (is_bare p zones)
    ordered = (set_same _ (is_bare p zones) us bare (λ u. ap (λ b. b && not (has_square owned u)) (empty.has u)
        ∙ ap (λ b. is_empty p u && not b) (owners.has u))).in_order

-- the zones of a list say which squares are in the zone of no member
bare_is : (p : Position) (list : List Instance) → is_uncovered p (written_list list) ≡ is_bare p (zones_from owns 1 list)
bare_is p list = fun_ext (λ u. ap (λ b. is_empty p u && not b)
    (any_map (λ w. has_square (zone_of w) u) written list
    ∙ any_of_zone owns (λ x. has_square (zone_of (written x)) u) 1 list (λ x standing. owner_alone u (written x) standing)))

-- so the first of these is the first uncovered one
pub bare_from : (p : Position) (list : List Instance) (zones : List (ℕ × Instance)) (found : Option Square) → zones ≡ zones_from owns 1 list
    → found ≡ find (is_bare p zones) (squares_of_board (board_of p)) → find (is_uncovered p (written_list list)) (squares_of_board (board_of p)) ≡ found
bare_from p list zones found own first = ap (λ test. find test (squares_of_board (board_of p))) (bare_is p list ∙ ap (is_bare p) (sym own)) ∙ sym first

-- ---- what the members are refused for

-- where no member is a misfit, each fits
pub fitting_from : (p : Position) (ws : List RuleInstance) → position_from (λ w. not (fits w p)) 1 ws ≡ None → list_all (λ w. fits w p) ws ≡ true
fitting_from p ws none = sym (no_place (λ w. fits w p) 1 ws) ∙ ap is_none none

-- where each member fits, the least two that may not stand together
pub clash_refusal : (p : Position) (list : List Instance) → position_from (λ w. not (fits w p)) 1 (written_list list) ≡ None
    → option_map (λ two. clash two.0 two.1) (first_two_from stand 1 list) ≡ members_refusal p (written_list list)
clash_refusal p list none =
    ap (option_map (λ two. clash two.0 two.1)) (sym (two_map together written 1 list))
    ∙ ap (λ place. option_or (option_map misfit place) (option_map (λ two. clash two.0 two.1) (first_two_from together 1 (written_list list)))) (sym none)

-- neither a misfit nor a clash
none_of_two : (place : Option ℕ) (two : Option (ℕ × ℕ)) → option_or (option_map misfit place) (option_map (λ two. clash two.0 two.1) two) ≡ None
    → (place ≡ None) × (two ≡ None)
none_of_two None None h = (refl, refl)
none_of_two None (Some two) h = absurd (cc h)
none_of_two (Some place) two h = absurd (cc h)

-- members without a refusal
pub members_stand : (p : Position) (ws : List RuleInstance) → members_refusal p ws ≡ None → StandTogether p ws
members_stand p ws none =
    let two = none_of_two (position_from (λ w. not (fits w p)) 1 ws) (first_two_from together 1 ws) none in
    record { fitting = fitting_from p ws two.0; standing = sym (no_two together 1 ws) ∙ ap is_none two.1 }

-- ---- what they then leave open

-- what a list without an uncovered square is refused for
abbrev pub support_refusal : Position → List RuleInstance → Option PlanFault
support_refusal p ws =
    option_or (option_map unsupported (position_from (λ w. not (is_supported w (facts_of p ws))) 1 ws))
    (option_map unanswered (find (is_unanswered p ws) (groups_of (board_of p))))

-- an uncovered square comes first
pub uncovered_refused : (p : Position) (ws : List RuleInstance) (u : Square) → find (is_uncovered p ws) (squares_of_board (board_of p)) ≡ Some u
    → Some (uncovered u) ≡ cover_refusal p ws
uncovered_refused p ws u first = ap (λ found. option_or (option_map uncovered found) (support_refusal p ws)) (sym first)

-- then a member without support
pub unsupported_refused : (p : Position) (ws : List RuleInstance) (i : ℕ) → find (is_uncovered p ws) (squares_of_board (board_of p)) ≡ None
    → position_from (λ w. not (is_supported w (facts_of p ws))) 1 ws ≡ Some i → Some (unsupported i) ≡ cover_refusal p ws
unsupported_refused p ws i none first =
    ap (λ place. option_or (option_map unsupported place) (option_map unanswered (find (is_unanswered p ws) (groups_of (board_of p))))) (sym first)
    ∙ ap (λ found. option_or (option_map uncovered found) (support_refusal p ws)) (sym none)

-- and where there is neither, the groups decide
pub lines_decide : (p : Position) (ws : List RuleInstance) → find (is_uncovered p ws) (squares_of_board (board_of p)) ≡ None
    → position_from (λ w. not (is_supported w (facts_of p ws))) 1 ws ≡ None → option_map unanswered (find (is_unanswered p ws) (groups_of (board_of p)))
    ≡ cover_refusal p ws
lines_decide p ws none no_place =
    ap (λ place. option_or (option_map unsupported place) (option_map unanswered (find (is_unanswered p ws) (groups_of (board_of p))))) (sym no_place)
    ∙ ap (λ found. option_or (option_map uncovered found) (support_refusal p ws)) (sym none)

-- ---- the parts together

-- what comes behind the refusals of the position
behind : (white : Bool) (end : Option End) (later : Option PlanFault)
    → (if not white then Some not_white_to_move else (if is_some end then Some ended else later))
    ≡ option_or (if not white then Some not_white_to_move else (if is_some end then Some ended else None)) later
behind false end later = refl
behind true (Some e) later = refl
behind true None later = refl

-- a refusal is that of the position, of the members, or of what they leave open
in_parts : (p : Position) (ws : List RuleInstance) → plan_refusal p ws ≡ option_or (position_refusal p) (option_or (members_refusal p ws) (cover_refusal p ws))
in_parts p ws = behind (same_side White (side_to_move p)) (end_of p) (option_or (members_refusal p ws) (cover_refusal p ws))

-- where neither the position nor the members are refused, what they leave open decides
pub cover_decides : (p : Position) (ws : List RuleInstance) → None ≡ position_refusal p → None ≡ members_refusal p ws → cover_refusal p ws ≡ plan_refusal p ws
cover_decides p ws none no_second =
    ap (λ found. option_or found (cover_refusal p ws)) no_second
    ∙ ap (λ found. option_or found (option_or (members_refusal p ws) (cover_refusal p ws))) none
    ∙ sym (in_parts p ws)

-- a list without a refusal is a plan
pub plan_from : (p : Position) (ws : List RuleInstance) → None ≡ plan_refusal p ws → is_plan p ws ≡ true
plan_from p ws none = sym (refusal_is p ws) ∙ ap is_none (sym none)
