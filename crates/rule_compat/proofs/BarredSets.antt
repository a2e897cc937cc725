-- What a member bars, by the sets and the facts that code has of a line and of the list.
use Rattle.std.proofs.Common.{◌≡◌, ◌&&◌, List, ap, ◌∙◌}
use Rattle.std.proofs.Math.Path.{fun_ext}
use Rattle.game_rules.specs.Board.{Square}
use Rattle.game_rules.specs.Position.{Position}
use Rattle.game_rules.specs.Squares.{has_square, is_empty, IsSetOf}
use Rattle.game_rules.specs.Groups.{Group, squares_of}
use Rattle.plan_rules.specs.Rules.{RuleInstance, Facts, barred}
use Rattle.plan_rules.specs.Plan.{empty_part}

pub barred_by_sets : (p : Position) (g : Group) (w : RuleInstance) (kept facts : Facts) (empties line squares : List Square) → kept ≡ facts
    → IsSetOf (is_empty p) empties → IsSetOf (has_square (squares_of g)) line → IsSetOf (λ u. has_square empties u && has_square line u) squares
    → barred w kept (has_square squares) ≡ barred w facts (empty_part p g)
barred_by_sets p g w kept facts empties line squares same empty on both =
    ap (barred w kept) (fun_ext (λ u. both.has u ∙ ap (λ b. b && has_square line u) (empty.has u) ∙ ap (λ b. is_empty p u && b) (on.has u)))
    ∙ ap (λ facts. barred w facts (empty_part p g)) same
