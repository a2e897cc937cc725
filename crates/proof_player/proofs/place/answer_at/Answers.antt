use Rattle.std.proofs.Common.{map, Some, ap, ◌∙◌, subst}
use Rattle.proof_book.specs.Shape.{cite_of}
use Rattle.proof_book.specs.Entries.{reason_held, HeldFits}
use Rattle.proof_text.specs.Lemma.{ByAll, ByPlan}
use Rattle.proof_book.specs.Written.{written_list}
use Rattle.follow_text.specs.Following.{seen}
use Rattle.proof_player.proofs.Answered.{reason_there}
use Rattle.proof_player.proofs.place.answer_at.Goals as goal

pub settled-reason-requires : goal.settled-reason-requires
settled-reason-requires c = record {
  root = c.requires.root;
  after = c.requires.after;
  at = seen c.args.turned c.args.before.now;
  claim = c.requires.claim;
  right = c.requires.right;
  shows = c.requires.follows;
}

pub answer_by_all-requires : goal.answer_by_all-requires
answer_by_all-requires c =
    let board = c.settled-reason.result.1 in
    let is = c.settled-reason.ensures.is ∙ ap (λ held. Some (reason_held held, board)) c.in-All.is in
    record {
      root = c.requires.root;
      after = c.requires.after;
      claim = c.requires.claim;
      right = c.requires.right;
      follows = reason_there c.args.book.now c.args.lemma c.args.turned board c.args.before.now c.args.c (ByAll (map cite_of c.in-All.cites.now)) c.requires is;
      turn = c.requires.turn;
      legal = c.requires.legal;
      going = c.requires.going;
    }

pub answer_by_plan-requires : goal.answer_by_plan-requires
answer_by_plan-requires c =
    let board = c.settled-reason.result.1 in
    let is = c.settled-reason.ensures.is ∙ ap (λ held. Some (reason_held held, board)) c.in-Plan.is in
    record {
      few = subst HeldFits c.in-Plan.is c.settled-reason.ensures.fits;
      plan = (reason_there c.args.book.now c.args.lemma c.args.turned board c.args.before.now c.args.c (ByPlan (written_list c.in-Plan.list.now))
          c.requires is).plan;
      legal = c.requires.legal;
    }
