use Rattle.std.proofs.Common.{subst}
use Rattle.follow_text.specs.Following.{at_lemma}
use Rattle.proof_player.specs.Places.{following, next_of, CanAnswerAt}
use Rattle.proof_player.proofs.Answered.{is_answered}
use Rattle.proof_player.proofs.place.go_on.Goals as goal

pub unwrap-next-requires : goal.unwrap-next-requires
unwrap-next-requires c =
    is_answered next_of c.answer_at.result c.args.book.now (at_lemma c.in-AtLemma.lemma c.args.turned) c.args.before.now c.args.c
    (subst (λ place. CanAnswerAt c.args.book.now (following place c.args.turned) c.args.before.now c.args.c) c.in-AtLemma.is c.requires.can)
    c.answer_at.ensures.answer
