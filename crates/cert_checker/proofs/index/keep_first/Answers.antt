use Rattle.std.proofs.Common.{sym}
use Rattle.cert_checker.proofs.Follows.{first_stays, first_comes}
use Rattle.cert_checker.proofs.index.keep_first.Goals as goal

pub returns-then-contains_key-clause-kept : goal.returns-then-contains_key-clause-kept
returns-then-contains_key-clause-kept c = first_stays c.args.key c.args.lemma c.args.numbers.now.entries (sym c.if-contains_key.ensures)

pub returns-clause-kept : goal.returns-clause-kept
returns-clause-kept c =
    first_comes c.args.key c.args.lemma c.args.numbers.now.entries c.insert.new.self.entries (sym c.if-contains_key.ensures) c.in_ok-insert.ensures.updates.0
