-- Going through a list of instances by the second of two members: what each further one adds to the least two that may
-- not stand together, and to the zones.
use Rattle.std.proofs.Common.{◌≡◌, ℕ, ◌+◌, ◌<◌, ◌≤◌, Bool, true, false, not, cond, List, [], ◌∷◌, ◌++◌, length, map, take, drop, get_or, Option, Some, None}
use Rattle.std.proofs.Common.{is_none, refl, sym, ap, ◌∙◌, arith}
use Rattle.std.specs.List.{list_all, find, position_from}
use Rattle.std.specs.Option.{option_map}
use Rattle.std.proofs.lemmas.Bool.{and_parts}
use Rattle.std.proofs.lemmas.List.{take_more, take-take, take-append-drop, length-take-le, length-map, length-append, map-append}
use Rattle.std.proofs.lemmas.List.Folds.{list_all-append}
use Rattle.game_rules.specs.Board.{is_board}
use Rattle.game_rules.specs.Position.{Position, board_of}
use Rattle.plan_rules.specs.Rules.{fits, together}
use Rattle.plan_rules.specs.Zones.{first_two_from, lesser_two, owns_zone, zones_from}
use Rattle.plan_rules.proofs.Places.{two_more, two_next_from, two_map}
use Rattle.plan_rules.proofs.Zones.{first_zone, clash_alone, zones_more, zones_map}
use Rattle.plan_rules.proofs.Refusals.{no_two}
use Rattle.plan_rules.proofs.PlanBounds.{fifty_zones}
use Rattle.plan_rules.proofs.Theorems.{together_orders}
use Rattle.rule_compat.specs.declared.instance.Instance.{Instance}
use Rattle.rule_compat.specs.Written.{written, written_list}

-- the table and the owners, of instances in code
abbrev pub stand : Instance → Instance → Bool
stand x y = together (written x) (written y)

abbrev pub owns : Instance → Bool
owns x = owns_zone (written x)

-- the place of the first of some zones that clashes with an instance
abbrev pub clash_in : List (ℕ × Instance) → Instance → Option ℕ
clash_in zones x = option_map (λ zone. zone.0) (find (λ zone. not (stand zone.1 x)) zones)

-- the first element that clashes with an instance is the first zone that does
first_is : (xs : List Instance) (x : Instance) → position_from (λ y. not (stand y x)) 1 xs ≡ clash_in (zones_from owns 1 xs) x
first_is xs x = first_zone owns (λ y. not (stand y x)) 1 xs (λ y standing. clash_alone (written x) (written y) standing)

pub zones_step : (list : List Instance) (i : ℕ) (x : Instance) → i < length list → x ≡ get_or list i x
    → zones_from owns 1 (take (i + 1) list) ≡ zones_from owns 1 (take i list) ++ cond (owns x) ((i + 1, x) ∷ []) []
zones_step list i x within at =
    ap (zones_from owns 1) (take_more list i x within ∙ ap (λ y. take i list ++ y ∷ []) (sym at))
    ∙ zones_more owns 1 (take i list) x
    ∙ ap (λ k. zones_from owns 1 (take i list) ++ cond (owns x) ((k, x) ∷ []) []) (let size = length-take-le i list (omega arith) in omega (arith, size))

pub none_step : (list : List Instance) (i : ℕ) (x : Instance) → i < length list → x ≡ get_or list i x → first_two_from stand 1 (take i list) ≡ None
    → first_two_from stand 1 (take (i + 1) list) ≡ option_map (λ k. (k, i + 1)) (clash_in (zones_from owns 1 (take i list)) x)
none_step list i x within at none =
    ap (first_two_from stand 1) (take_more list i x within ∙ ap (λ y. take i list ++ y ∷ []) (sym at))
    ∙ two_more stand 1 (take i list) x
    ∙ ap (λ two. lesser_two two (option_map (λ k. (k, 1 + length (take i list))) (position_from (λ y. not (stand y x)) 1 (take i list)))) none
    ∙ ap (λ place. option_map (λ k. (k, 1 + length (take i list))) place) (first_is (take i list) x)
    ∙ ap (λ j. option_map (λ k. (k, j)) (clash_in (zones_from owns 1 (take i list)) x)) (let size = length-take-le i list (omega arith) in omega (arith, size))

-- the same, as code finds the clash: of the zone of the member at this place, among the zones so far
pub clash_step : (list : List Instance) (i : ℕ) (x : Instance) {found : Option ℕ} {zone : ℕ × Instance} {lent zones : List (ℕ × Instance)} → i < length list
    → x ≡ get_or list i x → first_two_from stand 1 (take i list) ≡ None → found ≡ clash_in lent zone.1 → zone ≡ (i + 1, x) → lent ≡ zones
    → zones ≡ zones_from owns 1 (take i list) → first_two_from stand 1 (take (i + 1) list) ≡ option_map (λ k. (k, i + 1)) found
clash_step list i x {found} {zone} {lent} within at none clash is lend kept =
    none_step list i x within at none ∙ ap (option_map (λ k. (k, i + 1))) (sym (clash ∙ ap (λ zone. clash_in lent zone.1) is
    ∙ ap (λ zones. clash_in zones x) (lend ∙ kept)))

-- a member that owns no zone clashes with none
stands_with_all : (zones : List (ℕ × Instance)) (x : Instance) → owns x ≡ false → clash_in zones x ≡ None
stands_with_all [] x standing = refl
stands_with_all ((k, y) ∷ zones) x standing =
    let free : not (stand y x) ≡ false = ap not (together_orders (written y) (written x)) ∙ clash_alone (written y) (written x) standing in
    rw free (stands_with_all zones x standing)

pub standing_step : (list : List Instance) (i : ℕ) (x : Instance) → i < length list → x ≡ get_or list i x → first_two_from stand 1 (take i list) ≡ None
    → owns x ≡ false
    → first_two_from stand 1 (take (i + 1) list) ≡ None
standing_step list i x within at none standing =
    none_step list i x within at none ∙ ap (option_map (λ k. (k, i + 1))) (stands_with_all (zones_from owns 1 (take i list)) x standing)

-- members that fit, no two of which clash, have at most fifty zones
pub zones_fit : (p : Position) (xs : List Instance) → is_board (board_of p) ≡ true → list_all (λ w. fits w p) (written_list xs) ≡ true
    → first_two_from stand 1 xs ≡ None → length (zones_from owns 1 xs) ≤ 50
zones_fit p xs board fitting none =
    let standing = sym (no_two together 1 (written_list xs)) ∙ ap is_none (two_map together written 1 xs ∙ none) in
    let most = fifty_zones p (written_list xs) 1 board (record { fitting = fitting; standing = standing }) in
    let same = ap length (zones_map owns_zone written 1 xs) ∙ length-map (zones_from owns 1 xs) (λ (zone : ℕ × Instance). (zone.0, written zone.1)) in
    omega (arith, most, same)

-- from two known ones on, the zones of the members before the second one are enough
pub some_step : (list : List Instance) (i m : ℕ) (x : Instance) (two : ℕ × ℕ) → i < length list → m ≤ i → x ≡ get_or list i x
    → first_two_from stand 1 (take i list) ≡ Some two → two.0 ≤ m + 1
    → first_two_from stand 1 (take (i + 1) list) ≡ lesser_two (Some two) (option_map (λ k. (k, i + 1)) (clash_in (zones_from owns 1 (take m list)) x))
some_step list i m x two within before at some enough =
    ap (first_two_from stand 1) (take_more list i x within ∙ ap (λ y. take i list ++ y ∷ []) (sym at))
    ∙ two_next_from stand 1 (take i list) x two m some (omega arith)
    ∙ ap (λ ys. lesser_two (Some two) (option_map (λ k. (k, 1 + length (take i list))) (position_from (λ y. not (stand y x)) 1 ys))) (take-take m i list before)
    ∙ ap (λ place. lesser_two (Some two) (option_map (λ k. (k, 1 + length (take i list))) place)) (first_is (take m list) x)
    ∙ ap (λ j. lesser_two (Some two) (option_map (λ k. (k, j)) (clash_in (zones_from owns 1 (take m list)) x)))
    (let size = length-take-le i list (omega arith) in omega (arith, size))

-- the first members of a list fit where all do
pub first_fit : (p : Position) (list : List Instance) (i : ℕ) → list_all (λ w. fits w p) (written_list list) ≡ true
    → list_all (λ w. fits w p) (written_list (take i list)) ≡ true
first_fit p list i all =
    (and_parts _ _ (sym (list_all-append (λ w. fits w p) (written_list (take i list)) (written_list (drop i list)))
    ∙ ap (list_all (λ w. fits w p)) (sym (map-append written (take i list) (drop i list)) ∙ ap (map written) (take-append-drop i list)) ∙ all)).0

-- so there is room for one more
pub room_for_one : (p : Position) (list : List Instance) (i : ℕ) (x : Instance) → is_board (board_of p) ≡ true
    → list_all (λ w. fits w p) (written_list list) ≡ true → i < length list → x ≡ get_or list i x
    → first_two_from stand 1 (take (i + 1) list) ≡ None → owns x ≡ true → length (zones_from owns 1 (take i list)) < 50
room_for_one p list i x board fitting within at none owner =
    let most = zones_fit p (take (i + 1) list) board (first_fit p list (i + 1) fitting) none in
    let more = zones_step list i x within at ∙ ap (λ b. zones_from owns 1 (take i list) ++ cond b ((i + 1, x) ∷ []) []) owner in
    omega (arith, most, ap length more, length-append (zones_from owns 1 (take i list)) ((i + 1, x) ∷ []))
