use Rattle.std.proofs.Common.{◌≡◌, ◌&&◌, not, true, ap, sym, ◌∙◌}
use Rattle.std.specs.List.{list_all, list_any}
use Rattle.game_rules.specs.Position.{board_of, has_man}
use Rattle.game_rules.specs.Squares.{is_empty}
use Rattle.game_rules.specs.Groups.{squares_of, lies_on}
use Rattle.game_rules.specs.declared.Side.TheVariants.{White}
use Rattle.game_rules.proofs.Squares.{any_in_same}
use Rattle.plan_rules.proofs.LineSites.{none_all}
use Rattle.group_rules.proofs.line.is_open_line.Goals as goal

pub returns-then-lies_on : goal.returns-then-lies_on
returns-then-lies_on c =
    let p = c.args.p.now in let us = squares_of c.args.g in
    let white : not (list_any (has_man p White) c.group_mask.result) ≡ list_all (λ u. not (has_man p White u)) us
    = ap not (any_in_same (has_man p White) c.group_mask.result us c.group_mask.ensures.has) ∙ none_all (has_man p White) us in
    let lies : lies_on (board_of p) c.args.g ≡ true = sym (ap (λ board. lies_on board c.args.g) c.size.ensures.value) ∙ sym c.lies_on.ensures
    ∙ c.if-lies_on.true in
    c.is_open.ensures
    ∙ ap (λ b. b && list_any (is_empty p) c.group_mask.result) white
    ∙ ap (λ b. list_all (λ u. not (has_man p White u)) us && b) (any_in_same (is_empty p) c.group_mask.result us c.group_mask.ensures.has)
    ∙ ap (λ b. b && list_all (λ u. not (has_man p White u)) us && list_any (is_empty p) us) (sym lies)
