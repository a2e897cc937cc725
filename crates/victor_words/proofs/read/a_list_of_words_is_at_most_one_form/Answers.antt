use Rattle.victor_words.proofs.Written.{one_form}
use Rattle.victor_words.proofs.read.a_list_of_words_is_at_most_one_form.Goals as goal

pub returns : goal.returns
returns c = one_form
