-- A group and a list of pairs have no refusal exactly where they are an odd threat.
use Rattle.std.proofs.Common.{◌≡◌, ℕ, Bool, true, false, not, ◌&&◌, if◌then◌else◌, List, [], length, Option, Some, None, is_some, is_none, refl, ap, ◌∙◌}
use Rattle.std.specs.List.{list_any, find}
use Rattle.std.specs.Option.{option_map, option_or, option_map_or}
use Rattle.game_rules.specs.Board.{Square, below}
use Rattle.game_rules.specs.Position.{Position, board_of, side_to_move, same_side, end_of}
use Rattle.game_rules.specs.Groups.{Group, groups_of}
use Rattle.game_rules.specs.declared.End.{End}
use Rattle.game_rules.specs.declared.Side.TheVariants.{Black}
use Rattle.game_rules.proofs.Lists.{all_any, any_same}
use Rattle.plan_rules.specs.Plan.{every_line}
use Rattle.plan_rules.proofs.Refusals.{all_same, lines_all, no_find}
use Rattle.odd_rules.specs.Threat.{Pair, target, bad_pair, is_unpaired, is_answered, holds_with, is_threat}
use Rattle.odd_rules.specs.Refusal.{ThreatFault, not_black_to_move, ended, bad_member, unpaired, unanswered, pairs_refusal, target_refusal}
use Rattle.odd_rules.specs.Refusal.{threat_refusal}

twice_not : (b : Bool) → not (not b) ≡ b
twice_not true = refl
twice_not false = refl

-- none is found exactly where none passes
none_found : {X : Type 0} (test : X → Bool) (xs : List X) → is_none (find test xs) ≡ not (list_any test xs)
none_found test xs = no_find test xs ∙ all_any (λ x. not (test x)) xs
    ∙ ap not (any_same (λ x. not (not (test x))) test xs (λ x among. twice_not (test x)))

no_line : (p : Position) (t : Square) (pairs : List Pair) → is_none (find (λ g. not (is_answered p t pairs g)) (groups_of (board_of p)))
    ≡ every_line (board_of p) (is_answered p t pairs)
no_line p t pairs =
    no_find (λ g. not (is_answered p t pairs g)) (groups_of (board_of p))
    ∙ all_same _ _ (groups_of (board_of p)) (λ g. twice_not (is_answered p t pairs g))
    ∙ lines_all (board_of p) (is_answered p t pairs)

none_of_three : (i : Option ℕ) (c : Option ℕ) (g : Option Group)
    → is_none (option_or (option_map bad_member i) (option_or (option_map unpaired c) (option_map unanswered g)))
    ≡ (is_none i && is_none c && is_none g)
none_of_three (Some i) c g = refl
none_of_three None (Some c) g = refl
none_of_three None None (Some g) = refl
none_of_three None None None = refl

pairs_refused : (p : Position) (pairs : List Pair) (t : Square) → is_none (pairs_refusal p pairs t) ≡ holds_with p pairs t
pairs_refused p pairs t =
    none_of_three (bad_pair p t [] 1 pairs) (find (is_unpaired p t pairs) (below (length p.columns)))
    (find (λ g. not (is_answered p t pairs g)) (groups_of (board_of p)))
    ∙ cc (none_found (is_unpaired p t pairs) (below (length p.columns)), no_line p t pairs)

target_refused : (p : Position) (pairs : List Pair) (o : Option Square) → is_none (target_refusal p pairs o) ≡ option_map_or (holds_with p pairs) o false
target_refused p pairs None = refl
target_refused p pairs (Some t) = pairs_refused p pairs t

none_of_both : (black : Bool) (end : Option End) (rest : Option ThreatFault)
    → is_none (option_or (if not black then Some not_black_to_move else (if is_some end then Some ended else None)) rest)
    ≡ (black && is_none end && is_none rest)
none_of_both false end rest = refl
none_of_both true (Some e) rest = refl
none_of_both true None rest = refl

pub refusal_is : (p : Position) (g : Group) (pairs : List Pair) → is_none (threat_refusal p g pairs) ≡ is_threat p g pairs
refusal_is p g pairs =
    none_of_both (same_side Black (side_to_move p)) (end_of p) (target_refusal p pairs (target p g))
    ∙ ap (λ b. same_side Black (side_to_move p) && is_none (end_of p) && b) (target_refused p pairs (target p g))
