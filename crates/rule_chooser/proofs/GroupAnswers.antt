-- Each group that a set leaves has an answer exactly where each of White's groups does, by what code keeps of the set.
use Rattle.std.proofs.Common.{◌≡◌, Bool, true, false, not, ◌&&◌, ◌||◌, List, [], ◌∷◌, map, filter, is_some, refl, sym, ap, ◌∙◌, inl, inr}
use Rattle.std.specs.List.{list_all, list_any}
use Rattle.std.proofs.Math.Path.{fun_ext}
use Rattle.std.proofs.lemmas.Bool.{cases_Bool, and_parts}
use Rattle.game_rules.specs.Board.{Square, is_board}
use Rattle.game_rules.specs.Position.{Position, board_of, has_man}
use Rattle.game_rules.specs.Squares.{has_square, squares_where, is_empty}
use Rattle.game_rules.specs.Groups.{Group, squares_of, groups_of, is_free_for}
use Rattle.game_rules.specs.declared.Side.TheVariants.{White, Black}
use Rattle.game_rules.proofs.Lists.{all_gives, all_from}
use Rattle.plan_rules.specs.Rules.{RuleInstance, Facts, facts_of, fits, together}
use Rattle.plan_rules.specs.Plan.{each_two, empty_part, is_barred}
use Rattle.plan_rules.specs.Refusal.{StandTogether}
use Rattle.plan_rules.specs.Zones.{owns_zone}
use Rattle.walk_rules.specs.Walk.{is_left, answer_to}
use Rattle.walk_rules.specs.Steps.{is_zone_set}
use Rattle.walk_rules.proofs.Fast.{answer_by_kind}
use Rattle.walk_rules.proofs.Lists.{all_agree}
use Rattle.rule_chooser.specs.declared.groups.OpenGroup.{OpenGroup}
use Rattle.rule_chooser.specs.OpenGroups.{open_group_at, groups_for}
use Rattle.rule_chooser.specs.Standing.{first_standing, some_bars, is_answered_by}
use Rattle.rule_chooser.proofs.BlackGroups.{part_set}

pub stand_together : (p : Position) (set : List RuleInstance) → is_zone_set p set ≡ true → StandTogether p set
stand_together p set is =
    let both = and_parts (list_all (λ w. owns_zone w && fits w p) set) (each_two together set) is in
    record {
      fitting = all_from (λ w. fits w p) set
          (λ w among. (and_parts (owns_zone w) (fits w p) (all_gives (λ w. owns_zone w && fits w p) set w both.0 among)).1);
      standing = both.1;
    }

all_mapped : {X Y : Type 0} (test : Y → Bool) (f : X → Y) (keep : X → Bool) (xs : List X)
    → list_all test (map f (filter keep xs)) ≡ list_all (λ x. not (keep x) || test (f x)) xs
all_mapped test f keep [] = refl
all_mapped test f keep (x ∷ xs) = elim (cases_Bool (keep x)) [
  | inl kept ↦ rw kept (ap (λ b. test (f x) && b) (all_mapped test f keep xs))
  | inr out ↦ rw out (all_mapped test f keep xs)
]

module _ (p : Position) (set : List RuleInstance) (board : is_board (board_of p) ≡ true) where
  pub part_is : (g : Group) → has_square (squares_where (empty_part p g)) ≡ empty_part p g
  part_is g = fun_ext (part_set p g board).has

  -- whether a zone bars the group, and the first standing answer to it
  pub bars_is : (facts : Facts) (g : Group) → facts ≡ facts_of p set → some_bars facts (has_square (squares_where (empty_part p g))) set ≡ is_barred p set g
  bars_is facts g same = ap (λ f. some_bars f (has_square (squares_where (empty_part p g))) set) same
      ∙ ap (λ part. some_bars (facts_of p set) part set) (part_is g)

  pub answer_is : (facts : Facts) (g : Group) → facts ≡ facts_of p set → first_standing p facts (has_square (squares_where (empty_part p g)))
      ≡ answer_to p set g
  answer_is facts g same =
      ap (λ f. first_standing p f (has_square (squares_where (empty_part p g)))) same
      ∙ ap (λ part. first_standing p (facts_of p set) part) (part_is g)
      ∙ sym (answer_by_kind p set g)

  pub all_answered : (facts : Facts) (groups : List OpenGroup) → facts ≡ facts_of p set → groups ≡ map (open_group_at p) (groups_for White p)
      → list_all (λ (group : OpenGroup). is_answered_by p facts set group.empty) groups ≡ list_all (λ g. not (is_left p set g) || is_some (answer_to p set g))
      (groups_of (board_of p))
  all_answered facts groups same are =
      ap (list_all (λ (group : OpenGroup). is_answered_by p facts set group.empty)) are
      ∙ all_mapped (λ (group : OpenGroup). is_answered_by p facts set group.empty) (open_group_at p) (is_free_for White p) (groups_of (board_of p))
      ∙ all_agree _ _ (groups_of (board_of p)) (λ g among.
      ap (λ b. not (is_free_for White p g) || (b || is_some (first_standing p facts (has_square (squares_where (empty_part p g)))))) (bars_is facts g same)
      ∙ ap (λ o. not (is_free_for White p g) || (is_barred p set g || is_some o)) (answer_is facts g same)
      ∙ grouped (list_any (has_man p Black) (squares_of g)) (is_barred p set g) (is_some (answer_to p set g)))
    where
      grouped : (b d a : Bool) → (not (not b) || (d || a)) ≡ (not (not (b || d)) || a)
      grouped true d a = refl
      grouped false true a = refl
      grouped false false a = refl

-- the squares that are kept of a group are empty ones
pub part_empty : (p : Position) → is_board (board_of p) ≡ true → (group : OpenGroup) → group ≡ open_group_at p group.id → (u : Square)
    → has_square group.empty u ≡ true → is_empty p u ≡ true
part_empty p board group is u h =
    (and_parts (is_empty p u) _ (sym ((part_set p group.id board).has u) ∙ ap (λ (l : OpenGroup). has_square l.empty u) (sym is) ∙ h)).0
