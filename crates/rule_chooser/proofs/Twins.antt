-- The squares of some twins, one twin after another.
use Rattle.std.proofs.Common.{◌≡◌, ℕ, ◌+◌, ◌<◌, Bool, true, false, ◌||◌, List, [], ◌∷◌, ◌++◌, length, take, get_or, refl, sym, ap, ◌∙◌}
use Rattle.std.proofs.lemmas.List.{take_more}
use Rattle.std.proofs.lemmas.List.Folds.{list_any-append}
use Rattle.game_rules.specs.Board.{Square}
use Rattle.game_rules.specs.Squares.{same_square, has_square, IsSetOf}
use Rattle.game_rules.proofs.Squares.{set_same}
use Rattle.rule_chooser.specs.Standing.{is_of_twin}

turned : (a b c : Bool) → (a || (b || c)) ≡ (c || ((b || a) || false))
turned true true true = refl
turned true true false = refl
turned true false true = refl
turned true false false = refl
turned false true true = refl
turned false true false = refl
turned false false true = refl
turned false false false = refl

pub twin_more : (twins : List (Square × Square)) (i : ℕ) (twin : Square × Square) (old one new : List Square) → i < length twins → twin ≡ get_or twins i twin
    → IsSetOf (is_of_twin (take i twins)) old → IsSetOf (λ u. same_square u twin.0 || has_square old u) one
    → IsSetOf (λ u. same_square u twin.1 || has_square one u) new
    → IsSetOf (is_of_twin (take (i + 1) twins)) new
twin_more twins i twin old one new within at before first second =
    set_same _ _ new second (λ u.
    ap (λ b. same_square u twin.1 || b) (first.has u ∙ ap (λ b. same_square u twin.0 || b) (before.has u))
    ∙ turned (same_square u twin.1) (same_square u twin.0) (is_of_twin (take i twins) u)
    ∙ sym (list_any-append (λ (t : Square × Square). same_square u t.0 || same_square u t.1) (take i twins) (twin ∷ []))
    ∙ ap (λ ts. is_of_twin ts u) (ap (λ t. take i twins ++ t ∷ []) at ∙ sym (take_more twins i twin within)))
