use Rattle.std.proofs.Common.{◌+◌, ◌*◌}
use Rattle.game_rules.specs.Position.{empty_count}
use Rattle.deep_search.specs.Search.{stand, moment, version_for}
use Rattle.deep_search.proofs.Searching.{Searching}
use Rattle.deep_search.proofs.solving.+solve.Given as goal

-- each call is of a position with fewer empty squares, or of a later part of the search at one
abbrev pub decreases-solve : goal.decreases-solve
decreases-solve g l = 3 * empty_count l.position.now + 2

abbrev pub decreases-solve_by_moves : goal.decreases-solve_by_moves
decreases-solve_by_moves g l = 3 * empty_count l.position.now + 1

abbrev pub decreases-solve_after : goal.decreases-solve_after
decreases-solve_after g l = 3 * empty_count l.position.now

-- The moves before this place were tried, and each of those has its lemma.
abbrev pub invariant-solve_by_moves-loop-column : goal.invariant-solve_by_moves-loop-column
invariant-solve_by_moves-loop-column g l = Searching l.aim.question l.aim.reach (version_for l.aim.mirror) l.position l.own l.order l.fn.path.items
    (stand l.fn.budget (g.L.LemmaWriter.count l.fn.lemmas) (g.O.Sink.faults l.fn.out)) (moment l.fn.table (g.O.Sink.written l.fn.out)) l.path.items
    (stand l.budget (g.L.LemmaWriter.count l.lemmas) (g.O.Sink.faults l.out)) (moment l.table (g.O.Sink.written l.out)) l.numbers l.column-index
