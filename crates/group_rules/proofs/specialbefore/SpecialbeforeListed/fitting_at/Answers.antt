use Rattle.std.proofs.Common.{refl}
use Rattle.std.proofs.lemmas.Bool.{and_from}
use Rattle.game_rules.specs.Position.{board_of}
use Rattle.plan_rules.specs.Rules.{specialbefore}
use Rattle.plan_rules.proofs.Grounds.{fits_shape}
use Rattle.plan_rules.proofs.SpecialSites.{special_widest}
use Rattle.group_rules.proofs.specialbefore.SpecialbeforeListed.fitting_at.Goals as goal

pub invariant_of-result : goal.invariant_of-result
invariant_of-result c =
    let p = c.args.p.now in let g = c.args.arg2.0 in let f = c.args.arg2.1.0 in let e0 = c.args.arg2.1.1 in
    special_widest g f e0 (board_of p) c.has_a_board.ensures.board (and_from _ _ refl (fits_shape (specialbefore g f e0) p c.requires))
