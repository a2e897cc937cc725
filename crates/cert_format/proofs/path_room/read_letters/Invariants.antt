use Rattle.std.proofs.Common.{◌≡◌, ◌+◌, take, length}
use Rattle.cert_format.specs.Names.{AreNamed}
use Rattle.cert_format.proofs.path_room.read_letters.Given as goal

abbrev pub invariant-loop-letter : goal.invariant-loop-letter
invariant-loop-letter l = record {
  named : AreNamed l.size.cols l.path.items (take (l.kept + l.letter-index) l.word);
  counted : length l.path.items ≡ l.kept + l.letter-index;
}
