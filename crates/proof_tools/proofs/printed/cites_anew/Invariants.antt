use Rattle.std.proofs.Common.{◌≡◌, ◌+◌, map, take, drop, length}
use Rattle.proof_book.specs.Shape.{cite_of}
use Rattle.proof_text.specs.Lemma.{ByAll}
use Rattle.tool_text.specs.Trim.{numbers_cited, rank, renumbered_cite}
use Rattle.proof_tools.specs.Printed.{AreMarked}
use Rattle.proof_tools.specs.Reach.{mark_at}
use Rattle.proof_tools.proofs.printed.cites_anew.Given as goal

-- the cites so far are numbered anew, and the others are of lemmas that are reached
abbrev pub invariant-loop-cite : goal.invariant-loop-cite
invariant-loop-cite l = record {
  anew : map cite_of l.anew.items ≡ map (renumbered_cite (rank (mark_at l.reach))) (map cite_of (take l.cite-index l.cites));
  marked : AreMarked l.reach (numbers_cited (ByAll (map cite_of (drop l.cite-index l.cites))));
  counted : length l.anew.items ≡ l.cite-index;
}
