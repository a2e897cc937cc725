use Rattle.std.proofs.Common.{sym, ◌∙◌}
use Rattle.text_words.proofs.Words.{cut_at, uncut}
use Rattle.text_words.proofs.first_word.split_at.Goals as goal

pub returns-in-Some-clause-words : goal.returns-in-Some-clause-words
returns-in-Some-clause-words c = cut_at c.args.bytes.now c.in-Some.end (sym c.requires ∙ c.in-Some.is)

pub returns-in-None-clause-words : goal.returns-in-None-clause-words
returns-in-None-clause-words c = uncut c.args.bytes.now (sym c.requires ∙ c.in-None.is)
