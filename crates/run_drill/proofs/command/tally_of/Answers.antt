use Rattle.std.proofs.Common.{arith}
use Rattle.game_rules.specs.Cost.{cost}
use Rattle.run_questions.specs.Planned.{solved_within}
use Rattle.run_drill.specs.Drills.{games_of}
use Rattle.run_drill.proofs.Tallying.{drilled_more, all_drilled}
use Rattle.run_drill.proofs.command.tally_of.Goals as goal

pub loop-made-preserved : goal.loop-made-preserved
loop-made-preserved c =
    let drilled = c.loop-made.invariant in
    drilled_more (cost (solved_within c.args.how.now.reach)) c.args.how.now.nodes (games_of c.args.how.now) c.args.how.now.size c.args.how.now.moves
    c.args.how.now.games
    c.loop-made.made c.loop-made.state c.next_game-game.new.state c.loop-made.tally c.count.new.self c.next_game-game.result drilled
    c.next_game-game.ensures.list c.count.ensures.more
    (c.count.ensures.right (cost (solved_within c.args.how.now.reach)) c.args.how.now.nodes drilled.made c.next_game-game.result drilled.summary
    (record { is_true = c.find_value.ensures.says; dear = c.find_value.ensures.dear }))

pub returns : goal.returns
returns c =
    all_drilled (cost (solved_within c.args.how.now.reach)) c.args.how.now.nodes (games_of c.args.how.now) c.args.how.now.size c.args.how.now.moves
    c.args.how.now.games
    c.loop-made.made c.loop-made.state c.loop-made.tally c.loop-made.invariant (omega arith)
