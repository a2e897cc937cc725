use Rattle.std.proofs.Common.{◌≡◌}
use Rattle.follow_text.specs.Following.{behind_mirrors}
use Rattle.proof_player.specs.Playing.{IsLemmaOf}
use Rattle.proof_player.proofs.reasons.settled.Given as goal

abbrev pub invariant-loop-next : goal.invariant-loop-next
invariant-loop-next l = record {
  lemma : IsLemmaOf l.book l.at;
  same : behind_mirrors l.book l.at l.board ≡ behind_mirrors l.book l.lemma l.turned;
}

abbrev pub decreases-loop-next : goal.decreases-loop-next
decreases-loop-next l = l.at
