use Rattle.game_rules.proofs.Prefix.{game_short, long_refused, same_taken, same_prefix}
use Rattle.game_rules.proofs.text_laws.a_long_text_is_no_game.Goals as goal

pub returns-clause-short : goal.returns-clause-short
returns-clause-short c = game_short

pub returns-clause-fault : goal.returns-clause-fault
returns-clause-fault c = long_refused

pub returns-clause-prefix : goal.returns-clause-prefix
returns-clause-prefix c = same_taken

pub returns-clause-behind : goal.returns-clause-behind
returns-clause-behind c = same_prefix
