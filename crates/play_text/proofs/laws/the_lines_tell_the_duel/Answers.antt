use Rattle.play_text.proofs.Steps.{play_is_told}
use Rattle.play_text.proofs.laws.the_lines_tell_the_duel.Goals as goal

pub returns : goal.returns
returns c = play_is_told
