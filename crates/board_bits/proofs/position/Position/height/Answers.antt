use Rattle.std.proofs.Common.{◌≡◌, ◌<◌, ◌≤◌, sym, ap, ◌∙◌, subst}
use Rattle.game_rules.specs.Position.{height}
use Rattle.board_bits.specs.MenWords.{height_in}
use Rattle.board_bits.proofs.Positions.{height_bits, height_most}
use Rattle.board_bits.proofs.position.Position.height.Goals as goal
use Rattle.board_bits.proofs.position.Position.height.Goals.{After-from}

value : (c : After-from) → height_in c.all_men.result c.from.result ≡ height c.args.self.now c.args.c
value c =
    ap (λ n. height_in n c.from.result) c.all_men.ensures.value
    ∙ ap (height_in _) (c.from.ensures ∙ c.index.ensures.value)
    ∙ height_bits c.args.self.now c.all_men.ensures.board c.all_men.ensures.stacked c.args.c (subst (λ i. i < 10) c.index.ensures.value c.index.ensures.within)

pub returns-clause-value : goal.returns-clause-value
returns-clause-value c = value c

pub returns-clause-most : goal.returns-clause-most
returns-clause-most c = subst (λ n. n ≤ 10) (sym (value c)) (height_most c.args.self.now c.all_men.ensures.board c.all_men.ensures.stacked c.args.c)
