-- What a list of members gives, one member after another: sets of squares, and twins.
use Rattle.std.proofs.Common.{◌≡◌, ℕ, ◌+◌, ◌<◌, true, ◌||◌, List, [], ◌∷◌, ◌++◌, length, take, drop, get_or, sym, ap, ◌∙◌, arith}
use Rattle.std.specs.List.{flat_map}
use Rattle.std.proofs.lemmas.List.{append-nil, take_more, map-append, take-append-drop, length-append}
use Rattle.std.proofs.lemmas.List.Folds.{list_any-append}
use Rattle.std.proofs.lemmas.Grind.{flat_map-append}
use Rattle.game_rules.specs.Board.{Square, is_board}
use Rattle.game_rules.specs.Position.{Position, board_of}
use Rattle.game_rules.specs.Squares.{same_square, has_square, IsSetOf}
use Rattle.game_rules.proofs.Squares.{set_same}
use Rattle.plan_rules.specs.Rules.{RuleInstance, twin_of, as_list}
use Rattle.plan_rules.specs.Refusal.{StandTogether}
use Rattle.plan_rules.proofs.PlanBounds.{five_twins}
use Rattle.rule_compat.specs.declared.instance.Instance.{Instance}
use Rattle.rule_compat.specs.Written.{written, written_list}

-- one member more
pub more : {A : Type 0} (gives : RuleInstance → List A) (list : List Instance) (i : ℕ) (x : Instance) → i < length list → x ≡ get_or list i x
    → flat_map gives (written_list (take (i + 1) list)) ≡ flat_map gives (written_list (take i list)) ++ gives (written x)
more gives list i x within at =
    ap (λ xs. flat_map gives (written_list xs)) (take_more list i x within ∙ ap (λ y. take i list ++ y ∷ []) (sym at))
    ∙ ap (flat_map gives) (map-append written (take i list) (x ∷ []))
    ∙ flat_map-append gives (written_list (take i list)) (written x ∷ [])
    ∙ ap (λ ys. flat_map gives (written_list (take i list)) ++ ys) (append-nil (gives (written x)))

-- the set of what is given, with what one member more gives
pub set_more : (gives : RuleInstance → List Square) (list : List Instance) (i : ℕ) (x : Instance) (old one new : List Square) → i < length list
    → x ≡ get_or list i x
    → IsSetOf (has_square (flat_map gives (written_list (take i list)))) old → IsSetOf (has_square (gives (written x))) one
    → IsSetOf (λ u. has_square old u || has_square one u) new
    → IsSetOf (has_square (flat_map gives (written_list (take (i + 1) list)))) new
set_more gives list i x old one new within at before given union =
    set_same _ _ new union (λ u.
    ap (λ b. b || has_square one u) (before.has u)
    ∙ ap (λ b. has_square (flat_map gives (written_list (take i list))) u || b) (given.has u)
    ∙ sym (list_any-append (same_square u) (flat_map gives (written_list (take i list))) (gives (written x)))
    ∙ ap (λ us. has_square us u) (sym (more gives list i x within at)))

-- the twins that some members give
abbrev pub twins_in : List Instance → List (Square × Square)
twins_in list = flat_map (λ w. as_list (twin_of w)) (written_list list)

-- there is room for the twins of one member more
pub room_for_twin : (p : Position) (list : List Instance) (i : ℕ) (x : Instance) (twin : Square × Square) → is_board (board_of p) ≡ true
    → StandTogether p (written_list list) → i < length list → x ≡ get_or list i x
    → as_list (twin_of (written x)) ≡ twin ∷ [] → length (twins_in (take i list)) < 5
room_for_twin p list i x twin board standing within at given =
    let all = ap (λ xs. twins_in xs) (sym (take-append-drop (i + 1) list))
    ∙ ap (flat_map (λ w. as_list (twin_of w))) (map-append written (take (i + 1) list) (drop (i + 1) list))
    ∙ flat_map-append (λ w. as_list (twin_of w)) (written_list (take (i + 1) list)) (written_list (drop (i + 1) list)) in
    let one = more (λ w. as_list (twin_of w)) list i x within at ∙ ap (λ ys. twins_in (take i list) ++ ys) given in
    omega (
      arith,
      five_twins p (written_list list) board standing,
      ap length all,
      length-append (twins_in (take (i + 1) list)) (twins_in (drop (i + 1) list)),
      ap length one,
      length-append (twins_in (take i list)) (twin ∷ []),
    )
