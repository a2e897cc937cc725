use Rattle.std.proofs.Common.{◌≡◌, ◌<◌, Some, slice_get, sym, ap, ◌∙◌, arith}
use Rattle.board_squares.specs.Words.{squares_of}
use Rattle.board_squares.proofs.Masks.{word_from, no_squares}
use Rattle.board_squares.proofs.Takes.{lowest_on, squares_taken}
use Rattle.board_squares.proofs.mask.Mask.first.Goals as goal

pub returns-then-self-eq0 : goal.returns-then-self-eq0
returns-then-self-eq0 c =
    let none : c.self.inside.word ≡ 0 = omega (arith, c.if-self-eq0.true) in
    ap (λ us. slice_get us 0) (sym (ap squares_of none ∙ no_squares) ∙ c.self.view_is)

pub at_place-requires : goal.at_place-requires
at_place-requires c = lowest_on c.self.inside.word (word_from c.self.inside.word c.self.invariant) (omega (arith, c.if-self-eq0.false))

pub returns : goal.returns
returns c =
    let some : 0 < c.self.inside.word = omega (arith, c.if-self-eq0.false) in
    let word = word_from c.self.inside.word c.self.invariant in
    ap Some c.at_place.ensures ∙ ap (λ us. slice_get us 0) (sym (squares_taken c.self.inside.word word some) ∙ c.self.view_is)
