use Rattle.std.proofs.Common.{◌≡◌, ◌<◌, ◌-◌, ◌++◌, ◌∷◌, [], length, sym, ap, ◌∙◌, arith, bit_and, length-append, append_assoc, append-nil}
use Rattle.board_squares.specs.Words.{squares_of, square_at}
use Rattle.board_squares.proofs.Masks.{word_from, no_squares}
use Rattle.board_squares.proofs.Takes.{lowest, lowest_on, squares_taken, taken_word, most_squares}
use Rattle.board_squares.proofs.mask.Mask.squares.Goals as goal

pub loop-rest-init : goal.loop-rest-init
loop-rest-init c = record {
  word = word_from c.self.inside.word c.self.invariant;
  all = ap (λ us. us ++ squares_of c.self.inside.word) c.new-squares.ensures ∙ c.self.view_is;
}

pub at_place-requires : goal.at_place-requires
at_place-requires c = lowest_on c.loop-rest.rest c.loop-rest.invariant.word (omega (arith, c.loop-rest-test.true))

pub push-requires : goal.push-requires
push-requires c =
    let taken = squares_taken c.loop-rest.rest c.loop-rest.invariant.word (omega (arith, c.loop-rest-test.true)) in
    let all = ap length c.loop-rest.invariant.all in
    let count = length-append c.loop-rest.squares.items (squares_of c.loop-rest.rest) in
    let rest = ap length taken in
    let most = most_squares c.self.inside.word in
    let own = ap length c.self.view_is in
    (omega arith, omega (arith, all, count, rest, most, own))

pub loop-rest-preserved : goal.loop-rest-preserved
loop-rest-preserved c =
    let some : 0 < c.loop-rest.rest = omega (arith, c.loop-rest-test.true) in
    let rest = bit_and c.loop-rest.rest (c.loop-rest.rest - 1) in
    record {
      word = taken_word c.loop-rest.rest c.loop-rest.invariant.word some;
      all =
          ap (λ us. us ++ squares_of rest) (c.push.ensures.items ∙ ap (λ u. c.loop-rest.squares.items ++ u ∷ []) c.at_place.ensures)
          ∙ append_assoc c.loop-rest.squares.items (square_at (lowest c.loop-rest.rest) ∷ []) (squares_of rest)
          ∙ ap (λ us. c.loop-rest.squares.items ++ us) (sym (squares_taken c.loop-rest.rest c.loop-rest.invariant.word some))
          ∙ c.loop-rest.invariant.all;
    }

pub returns : goal.returns
returns c =
    sym (append-nil c.loop-rest.squares.items)
    ∙ ap (λ us. c.loop-rest.squares.items ++ us)
    (sym (ap squares_of (let none : c.loop-rest.rest ≡ 0 = omega (arith, c.loop-rest-test.false) in none) ∙ no_squares))
    ∙ c.loop-rest.invariant.all
