use Rattle.std.proofs.Common.{arith}
use Rattle.plan_rules.specs.declared.Kind.TheVariants as kinds
use Rattle.plan_rules.proofs.Room.{lists_fit}
use Rattle.rule_chooser.proofs.FittingRoom.{none_listed, more_listed}
use Rattle.rule_chooser.proofs.zones.Zones.list_fitting.Goals as goal

pub push_claimevens-requires : goal.push_claimevens-requires
push_claimevens-requires c = omega (arith, none_listed c.clear.ensures, lists_fit kinds.Claimeven c.args.p.now c.has_a_board.ensures.board)

pub push_baseinverses-requires : goal.push_baseinverses-requires
push_baseinverses-requires c =
    let board = c.has_a_board.ensures.board in
    let one = more_listed kinds.Claimeven c.args.p.now _ board (none_listed c.clear.ensures) c.push_claimevens.ensures.taken in
    omega (arith, one, lists_fit kinds.Baseinverse c.args.p.now board)

pub push_lowinverses-requires : goal.push_lowinverses-requires
push_lowinverses-requires c =
    let board = c.has_a_board.ensures.board in
    let one = more_listed kinds.Claimeven c.args.p.now _ board (none_listed c.clear.ensures) c.push_claimevens.ensures.taken in
    let two = more_listed kinds.Baseinverse c.args.p.now _ board one c.push_baseinverses.ensures.taken in
    omega (arith, two, lists_fit kinds.Lowinverse c.args.p.now board)

pub push_highinverses-requires : goal.push_highinverses-requires
push_highinverses-requires c =
    let board = c.has_a_board.ensures.board in
    let one = more_listed kinds.Claimeven c.args.p.now _ board (none_listed c.clear.ensures) c.push_claimevens.ensures.taken in
    let two = more_listed kinds.Baseinverse c.args.p.now _ board one c.push_baseinverses.ensures.taken in
    let three = more_listed kinds.Lowinverse c.args.p.now _ board two c.push_lowinverses.ensures.taken in
    omega (arith, three, lists_fit kinds.Highinverse c.args.p.now board)

pub push_baseclaims-requires : goal.push_baseclaims-requires
push_baseclaims-requires c =
    let board = c.has_a_board.ensures.board in
    let one = more_listed kinds.Claimeven c.args.p.now _ board (none_listed c.clear.ensures) c.push_claimevens.ensures.taken in
    let two = more_listed kinds.Baseinverse c.args.p.now _ board one c.push_baseinverses.ensures.taken in
    let three = more_listed kinds.Lowinverse c.args.p.now _ board two c.push_lowinverses.ensures.taken in
    let four = more_listed kinds.Highinverse c.args.p.now _ board three c.push_highinverses.ensures.taken in
    omega (arith, four, lists_fit kinds.Baseclaim c.args.p.now board)
