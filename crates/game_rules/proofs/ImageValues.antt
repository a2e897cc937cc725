-- The value of a position is that of its mirror image.
use Rattle.std.proofs.Common.{◌≡◌, ℕ, zero, suc, cond, List, map, sym, ap, ◌∙◌, subst}
use Rattle.std.specs.List.{list_any}
use Rattle.game_rules.specs.Position.{Position, side_to_move, other, end_of, empty_count, moved}
use Rattle.game_rules.specs.Value.{win_of, same_end, best_of, ended_or, value_within, value}
use Rattle.game_rules.specs.Mirror.{mirror}
use Rattle.game_rules.proofs.Lists.{Among, any_agree, any_from, any_map}
use Rattle.game_rules.proofs.Images.{twice, turn_mirrored, end_mirrored, empty_mirrored, moved_mirrored}
use Rattle.game_rules.specs.declared.Side.{Side}
use Rattle.game_rules.specs.declared.End.{End}
use Rattle.game_rules.specs.declared.End.TheVariants.{Draw}

-- the best of some ends depends on which ends there are
best_same : (side : Side) (es fs : List End) → ((e : End) → list_any (same_end e) es ≡ list_any (same_end e) fs) → best_of side es ≡ best_of side fs
best_same side es fs same =
    ap (λ b. cond b (win_of side) (cond (list_any (same_end Draw) es) Draw (win_of (other side)))) (same (win_of side))
    ∙ ap (λ b. cond (list_any (same_end (win_of side)) fs) (win_of side) (cond b Draw (win_of (other side)))) (same Draw)

-- where a value is that of the image, the same values come after the moves of both
ends_same : (f : Position → End) → ((q : Position) → f (mirror q) ≡ f q) → (p : Position) (e : End)
    → list_any (same_end e) (map f (moved (mirror p))) ≡ list_any (same_end e) (map f (moved p))
ends_same f same p e =
    any_map (same_end e) f (moved (mirror p))
    ∙ any_agree (λ q. same_end e (f q)) (λ q. same_end e (f q)) (moved (mirror p)) (moved p)
    (λ q among h. any_from (λ q. same_end e (f q)) (moved p) (mirror q)
    (subst (λ r. Among (mirror q) (moved r)) (twice p) (moved_mirrored (mirror p) q among)) (ap (same_end e) (same q) ∙ h))
    (λ q among h. any_from (λ q. same_end e (f q)) (moved (mirror p)) (mirror q) (moved_mirrored p q among) (ap (same_end e) (same q) ∙ h))
    ∙ sym (any_map (same_end e) f (moved p))

within_mirrored : (n : ℕ) (p : Position) → value_within n (mirror p) ≡ value_within n p
unfolding value_within
within_mirrored zero p = ap (λ e. ended_or e Draw) (end_mirrored p)
within_mirrored (suc n) p =
    ap (λ e. ended_or e (best_of (side_to_move (mirror p)) (map (value_within n) (moved (mirror p))))) (end_mirrored p)
    ∙ ap (λ side. ended_or (end_of p) (best_of side (map (value_within n) (moved (mirror p))))) (turn_mirrored p)
    ∙ ap (ended_or (end_of p)) (best_same (side_to_move p) (map (value_within n) (moved (mirror p))) (map (value_within n) (moved p))
    (ends_same (value_within n) (λ q. within_mirrored n q) p))

pub value_mirrored : (p : Position) → value (mirror p) ≡ value p
unfolding value
value_mirrored p = ap (λ n. value_within n (mirror p)) (empty_mirrored p) ∙ within_mirrored (empty_count p) p
