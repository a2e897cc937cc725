use Rattle.std.proofs.Common.{◌≡◌, ◌++◌}
use Rattle.board_squares.specs.Words.{squares_of}
use Rattle.board_squares.proofs.Words.{IsWord}
use Rattle.board_squares.proofs.mask.Mask.squares.Given as goal

abbrev pub invariant-loop-rest : goal.invariant-loop-rest
invariant-loop-rest l = record {
  word : IsWord l.rest;
  all : l.squares.items ++ squares_of l.rest ≡ l.self;
}

abbrev pub decreases-loop-rest : goal.decreases-loop-rest
decreases-loop-rest l = l.rest
