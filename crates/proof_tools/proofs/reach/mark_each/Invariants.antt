use Rattle.std.proofs.Common.{◌≡◌, drop, map, length}
use Rattle.proof_text.specs.Lemma.{ByAll}
use Rattle.proof_book.specs.Shape.{cite_of}
use Rattle.tool_text.specs.Trim.{numbers_cited}
use Rattle.proof_tools.specs.Reach.{marked, AreWithin}
use Rattle.proof_tools.proofs.reach.mark_each.Given as goal

-- the marks with those to come are those of all
abbrev pub invariant-loop-cite : goal.invariant-loop-cite
invariant-loop-cite l =
    let left = numbers_cited (ByAll (map cite_of (drop l.cite-index l.cites))) in
    record {
      marks : marked l.marks left ≡ marked l.fn.marks (numbers_cited (ByAll (map cite_of l.cites)));
      within : AreWithin (length l.marks) left;
      same : length l.marks ≡ length l.fn.marks;
    }
