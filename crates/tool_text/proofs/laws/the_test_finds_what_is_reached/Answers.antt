use Rattle.tool_text.proofs.Reaching.{reached_is}
use Rattle.tool_text.proofs.laws.the_test_finds_what_is_reached.Goals as goal

pub returns : goal.returns
returns c = reached_is
