use Rattle.game_rules.proofs.Grammar.{read_in_grammar, grammar_read}
use Rattle.game_rules.proofs.text_laws.what_is_read_is_in_the_grammar.Goals as goal

pub returns : goal.returns
returns c = λ bytes p. (read_in_grammar bytes p, grammar_read bytes p)
