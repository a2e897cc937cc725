use Rattle.walk_rules.proofs.Choices.{choice_words}
use Rattle.walk_rules.proofs.laws.the_choice_in_words.Goals as goal

pub returns : goal.returns
returns c = choice_words
