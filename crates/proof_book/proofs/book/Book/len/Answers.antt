use Rattle.std.proofs.Common.{arith}
use Rattle.proof_book.proofs.Kept.{counted}
use Rattle.proof_book.proofs.book.Book.len.Goals as goal

pub returns-clause-value : goal.returns-clause-value
returns-clause-value c = omega (arith, c.len.ensures, counted c.self.inside c.args.self.now c.self.view_is)

pub returns-clause-few : goal.returns-clause-few
returns-clause-few c = omega (arith, c.self.invariant.few, counted c.self.inside c.args.self.now c.self.view_is)
