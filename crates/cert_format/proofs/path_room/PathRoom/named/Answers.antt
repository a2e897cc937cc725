use Rattle.std.proofs.Common.{◌≡◌, map, take, subst, ap, ◌∙◌}
use Rattle.game_rules.specs.Grammar.{letter_of}
use Rattle.cert_format.specs.Names.{AreBelow}
use Rattle.cert_format.proofs.Names.{named_below}
use Rattle.cert_format.proofs.path_room.PathRoom.named.Goals as goal

pub returns-clause-named : goal.returns-clause-named
returns-clause-named c =
    let path = c.args.self.now in let n = c.named_moves.result in
    let cols : c.self.inside.cols ≡ c.args.size.cols = c.if-self-cols.false ∙ c.cols.ensures.value in
    named_below c.args.size.cols n path c.args.letters.now
    (subst (λ cols. AreBelow cols path) cols (subst (AreBelow c.self.inside.cols) c.self.view_is c.self.invariant))
    (c.named_moves.ensures.named ∙ ap (λ path. map letter_of (take n path)) (c.as_slice.ensures.value ∙ c.self.view_is))
