use Rattle.std.proofs.Common.{◌≡◌, ◌+◌, Bool, true, false, ◌&&◌, ◌||◌, nat_le, refl, sym, ap, ◌∙◌, subst, arith}
use Rattle.std.specs.List.{list_any}
use Rattle.std.proofs.lemmas.Bool.{le-leb}
use Rattle.game_rules.specs.Board.{below}
use Rattle.game_rules.specs.Squares.{has_square, IsSetOf}
use Rattle.game_rules.proofs.Squares.{set_same}
use Rattle.plan_rules.proofs.LineSites.{above_more}
use Rattle.group_rules.proofs.line.squares_below.Goals as goal

pub loop-rows-init : goal.loop-rows-init
loop-rows-init c = record {
  moved = λ u low. ap (λ r. has_square c.args.set (u.0, r)) (omega arith);
  so_far = set_same _ _ c.empty-below.result c.empty-below.ensures (λ u. none (nat_le 1 u.1));
}
  where
    none : (b : Bool) → false ≡ (b && false)
    none true = refl
    none false = refl

pub loop-rows-preserved : goal.loop-rows-preserved
loop-rows-preserved c = record {
  moved = λ u low.
      c.lowered-lowered.ensures.has u
      ∙ ap (λ b. b && has_square c.loop-rows.lowered (u.0, u.1 + 1)) (le-leb 1 u.1 low)
      ∙ c.loop-rows.invariant.moved (u.0, u.1 + 1) (omega arith)
      ∙ ap (λ r. has_square c.args.set (u.0, r)) (omega arith);
  so_far = set_same _ _ c.union-below.result c.union-below.ensures (λ u.
      ap (λ b. b || has_square c.lowered-lowered.result u) (c.loop-rows.invariant.so_far.has u)
      ∙ ap (λ b. (nat_le 1 u.1 && list_any (λ i. has_square c.args.set (u.0, u.1 + 1 + i)) (below c.loop-rows._rows)) || b) (c.lowered-lowered.ensures.has u)
      ∙ shared (nat_le 1 u.1) (list_any (λ i. has_square c.args.set (u.0, u.1 + 1 + i)) (below c.loop-rows._rows))
      (has_square c.loop-rows.lowered (u.0, u.1 + 1))
      ∙ ap (λ b. nat_le 1 u.1 && (list_any (λ i. has_square c.args.set (u.0, u.1 + 1 + i)) (below c.loop-rows._rows) || b))
      (c.loop-rows.invariant.moved (u.0, u.1 + 1) (omega arith))
      ∙ ap (λ b. nat_le 1 u.1 && b) (sym (above_more (has_square c.args.set) u c.loop-rows._rows)));
}
  where
    shared : (a b d : Bool) → ((a && b) || (a && d)) ≡ (a && (b || d))
    shared true b d = refl
    shared false b d = refl

pub returns : goal.returns
returns c =
    let rows : c.loop-rows._rows ≡ 10 = omega (arith, c.loop-rows-test.false, c.loop-rows.auto._rows-end) in
    subst (λ k. IsSetOf (λ u. nat_le 1 u.1 && list_any (λ i. has_square c.args.set (u.0, u.1 + 1 + i)) (below k)) c.loop-rows.below) rows
    c.loop-rows.invariant.so_far
