use Rattle.std.proofs.Common.{sym, ◌∙◌}
use Rattle.proof_text.specs.Texts.{version_of}
use Rattle.proof_text.specs.declared.Version.TheVariants.{One, Two}
use Rattle.proof_text.proofs.First.{no_head, no_game, only_no_game, with_game, prefixes_decide, by_version, answer_named, unnamed}
use Rattle.proof_text.proofs.laws.a_text_has_a_head_and_a_game.Goals as goal

pub returns-clause-head : goal.returns-clause-head
returns-clause-head c = λ bytes first more cut other. unnamed bytes first more cut (other One) (other Two)

pub returns-clause-own_head : goal.returns-clause-own_head
returns-clause-own_head c = no_head

pub returns-clause-named : goal.returns-clause-named
returns-clause-named c = answer_named

pub returns-clause-fault : goal.returns-clause-fault
returns-clause-fault c = λ version bytes more fault cut none. answer_named version bytes more cut ∙ no_game version bytes more fault cut none

pub returns-clause-game : goal.returns-clause-game
returns-clause-game c = λ version bytes more root cut game. answer_named version bytes more cut ∙ with_game version bytes more root cut game

pub returns-clause-prefix : goal.returns-clause-prefix
returns-clause-prefix c = prefixes_decide

pub returns-clause-only_fault : goal.returns-clause-only_fault
returns-clause-only_fault c = λ bytes fault none.
    let told = only_no_game (version_of bytes) bytes fault (sym (by_version bytes) ∙ none) in
    (version_of bytes, told.0, told.1, told.2)
