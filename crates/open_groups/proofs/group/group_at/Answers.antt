use Rattle.std.proofs.Common.{◌≡◌, true, sym, ◌∙◌, subst}
use Rattle.game_rules.specs.Board.{is_line}
use Rattle.game_rules.specs.Squares.{widest_with}
use Rattle.game_rules.proofs.Groups.{line_widest}
use Rattle.open_groups.proofs.group.group_at.Goals as goal

pub invariant_of-result : goal.invariant_of-result
invariant_of-result c =
    let b = c.args.size in
    let line : is_line b c.args.way c.args.anchor ≡ true = sym c.has_line.ensures.value ∙ c.if-has_line.true in
    subst (λ len. is_line (widest_with len) c.args.way c.args.anchor ≡ true) (sym c.length.ensures)
    (line_widest b c.has_line.ensures.board c.args.way c.args.anchor line)
