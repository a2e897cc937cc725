use Rattle.game_rules.specs.Cost.{cost}
use Rattle.run_questions.specs.Planned.{solved_within}
use Rattle.run_drill.specs.Drills.{games_of}
use Rattle.run_drill.proofs.Tallying.{Drilled}
use Rattle.run_drill.proofs.command.tally_of.Given as goal

abbrev pub invariant-loop-made : goal.invariant-loop-made
invariant-loop-made l = Drilled (cost (solved_within l.how.reach)) l.how.nodes (games_of l.how) l.how.size l.how.moves l.how.games l.made l.state l.tally
