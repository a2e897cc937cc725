use Rattle.std.proofs.Common.{◌≡◌, false, ◌&&◌, cond, Option, Some, None, sym, ap, ◌∙◌, arith}
use Rattle.std.proofs.lemmas.Bool.{and_parts, and_from, lt-ltb, le-ltb}
use Rattle.plan_rules.specs.Rules.{RuleInstance, lowinverse, is_grounded, fits}
use Rattle.plan_rules.specs.Listing.{is_bottom, is_column_over}
use Rattle.game_rules.specs.Position.{board_of}
use Rattle.plan_rules.proofs.Bottoms.{lowinverse_site}
use Rattle.plan_rules.proofs.Grounds.{fits_on_board, fits_shape}
use Rattle.plan_rules.proofs.Spans.{lowinverse_widest}
use Rattle.inverse_rules.proofs.lowinverse.LowinverseListed.fitting_at.Goals as goal
use Rattle.inverse_rules.proofs.lowinverse.LowinverseListed.fitting_at.Goals.{else-index-via-then-index+else-is_common_ground, else-index-via-else-index}

pub is_common_ground-requires-clause-y : goal.is_common_ground-requires-clause-y
is_common_ground-requires-clause-y c =
    let p = c.args.p.now in let second = c.args.arg2.1 in
    (and_parts (is_bottom p second.0) _ (and_parts (is_column_over p c.args.arg2.0) (is_column_over p second) c.requires).1).0

pub invariant_of-result : goal.invariant_of-result
invariant_of-result c =
    let p = c.args.p.now in let first = c.args.arg2.0 in let second = c.args.arg2.1 in
    let both = and_parts (is_column_over p first) (is_column_over p second) c.requires in
    let w = lowinverse first.0 first.1 second.0 second.1 in
    let good = lowinverse_site p first.0 first.1 second.0 second.1 both.0 both.1 ∙ and_from _ _ (lt-ltb first.0.0 second.0.0 (omega (arith, c.if-index.true)))
    (sym c.is_common_ground.ensures ∙ c.if-is_common_ground.true) in
    lowinverse_widest first.0 first.1 second.0 second.1 (board_of p) c.has_a_board.ensures.board (and_from _ _ (fits_on_board w p good) (fits_shape w p good))

pub returns-then-is_common_ground : goal.returns-then-is_common_ground
returns-then-is_common_ground c =
    let p = c.args.p.now in let first = c.args.arg2.0 in let second = c.args.arg2.1 in
    let both = and_parts (is_column_over p first) (is_column_over p second) c.requires in
    let good = lowinverse_site p first.0 first.1 second.0 second.1 both.0 both.1 ∙ and_from _ _ (lt-ltb first.0.0 second.0.0 (omega (arith, c.if-index.true)))
    (sym c.is_common_ground.ensures ∙ c.if-is_common_ground.true) in
    sym (ap (λ b. cond {A = Option RuleInstance} b (Some (lowinverse first.0 first.1 second.0 second.1)) None) good)

pub returns-else-index : goal.returns-else-index
returns-else-index c =
    let p = c.args.p.now in let first = c.args.arg2.0 in let second = c.args.arg2.1 in
    let both = and_parts (is_column_over p first) (is_column_over p second) c.requires in
    let site = lowinverse_site p first.0 first.1 second.0 second.1 both.0 both.1 in
    let none : fits (lowinverse first.0 first.1 second.0 second.1) p ≡ false = elim c.else-index.branch [
      | else-index-via-then-index+else-is_common_ground w ↦
          site ∙ ap (λ b. b && is_grounded p first.0 second.0) (lt-ltb first.0.0 second.0.0 (omega (arith, w.if-index.true))) ∙ sym w.is_common_ground.ensures
          ∙ w.if-is_common_ground.false
      | else-index-via-else-index w ↦ site ∙ ap (λ b. b && is_grounded p first.0 second.0) (le-ltb first.0.0 second.0.0 (omega (arith, w.if-index.false)))
    ] in
    sym (ap (λ b. cond {A = Option RuleInstance} b (Some (lowinverse first.0 first.1 second.0 second.1)) None) none)
