use Rattle.game_rules.proofs.Groups.{has_line_by_groups}
use Rattle.game_rules.proofs.board_laws.a_line_is_a_whole_group.Goals as goal

pub returns : goal.returns
returns c = has_line_by_groups
