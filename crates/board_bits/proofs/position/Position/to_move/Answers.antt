use Rattle.std.proofs.Common.{◌%◌, cond, sym, ap, ◌∙◌}
use Rattle.std.specs.Int.RustNames.{count_ones}
use Rattle.std.proofs.lemmas.Bool.{eq-eqb, ne_eqb}
use Rattle.game_rules.specs.declared.Side.TheVariants.{White, Black}
use Rattle.board_bits.proofs.Counts.{man_ones}
use Rattle.board_bits.proofs.position.Position.to_move.Goals as goal

pub returns-then-all_men-eq0 : goal.returns-then-all_men-eq0
returns-then-all_men-eq0 c =
    let counted = man_ones c.args.self.now c.all_men.ensures.board c.all_men.ensures.stacked in
    let even = ap (λ n. n % 2) (sym counted) ∙ ap (λ n. count_ones n % 2) (sym c.all_men.ensures.value) ∙ c.if-all_men-eq0.true in
    ap (λ b. cond b White Black) (sym (eq-eqb _ 0 even))

pub returns-else-all_men-eq0 : goal.returns-else-all_men-eq0
returns-else-all_men-eq0 c =
    let counted = man_ones c.args.self.now c.all_men.ensures.board c.all_men.ensures.stacked in
    ap (λ b. cond b White Black) (sym (ne_eqb _ 0
    (λ even. c.if-all_men-eq0.false (ap (λ n. count_ones n % 2) c.all_men.ensures.value ∙ ap (λ n. n % 2) counted ∙ even))))
