use Rattle.deep_search.proofs.Plans.{planned_words}
use Rattle.deep_search.proofs.laws.a_lemma_rests_on_a_plan_where_one_is_chosen.Goals as goal

pub returns : goal.returns
returns c = planned_words
