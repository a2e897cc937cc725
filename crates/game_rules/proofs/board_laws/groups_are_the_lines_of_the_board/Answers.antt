use Rattle.game_rules.proofs.Groups.{has_group_of, groups_ordered, group_determined, groups_fit}
use Rattle.game_rules.proofs.board_laws.groups_are_the_lines_of_the_board.Goals as goal

pub returns-clause-lines : goal.returns-clause-lines
returns-clause-lines c = has_group_of

pub returns-clause-order : goal.returns-clause-order
returns-clause-order c = groups_ordered

pub returns-clause-determined : goal.returns-clause-determined
returns-clause-determined c = group_determined

pub returns-clause-most : goal.returns-clause-most
returns-clause-most c = groups_fit
