use Rattle.std.proofs.Common.{◌≡◌, List, Bool, true, ◌&&◌, ◌||◌, refl, sym, ap, ◌∙◌}
use Rattle.std.proofs.Math.Bool.{or_assoc}
use Rattle.game_rules.specs.Squares.{same_square, has_square}
use Rattle.game_rules.specs.Board.{Square}
use Rattle.game_rules.specs.Groups.{Group, squares_of}
use Rattle.plan_rules.specs.Squares.{each_of}
use Rattle.plan_rules.specs.Rules.{is_twin}
use Rattle.plan_rules.proofs.LineSites.{each_of_same}
use Rattle.group_rules.proofs.specialbefore.SpecialbeforeRule.is_supported.Goals as goal

pub returns-then-are_twins : goal.returns-then-are_twins
returns-then-are_twins c =
    let kept = c.args.kept.now in let x = c.args.self.now in
    let twins : is_twin kept.twin.items x.1 x.2 ≡ true
    = ap (λ (twins : List (Square × Square)). is_twin twins x.1 x.2) (sym c.as_slice.ensures.value)
    ∙ ap (λ (u : Square). is_twin c.as_slice.result.now u x.2) (sym c.f.ensures.value)
    ∙ ap (λ (v : Square). is_twin c.as_slice.result.now c.f.result v) (sym c.e0-2.ensures.value)
    ∙ sym c.are_twins.ensures
    ∙ c.if-are_twins.true in
    let rests : Square → Bool = λ u. same_square u x.2 || has_square kept.upper u || has_square kept.pair u in
    c.is_chosen_within.ensures
    ∙ ap (λ (g : Group). each_of (has_square kept.empty) (has_square c.with-held.result) (squares_of g)) c.g.ensures.value
    ∙ each_of_same (has_square kept.empty) (has_square kept.empty) (has_square c.with-held.result) rests (squares_of x.0) (λ u among. refl) (λ u among taken.
    c.with-held.ensures.has u
    ∙ ap (λ b. same_square u c.e0.result || b) (c.union.ensures.has u)
    ∙ ap (λ (e0 : Square). same_square u e0 || (has_square kept.upper u || has_square kept.pair u)) c.e0.ensures.value
    ∙ sym (or_assoc (same_square u x.2) (has_square kept.upper u) (has_square kept.pair u)))
    ∙ ap (λ b. b && each_of (has_square kept.empty) rests (squares_of x.0)) (sym twins)
