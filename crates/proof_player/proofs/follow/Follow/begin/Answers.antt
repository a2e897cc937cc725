use Rattle.std.proofs.Common.{◌≡◌, refl, sym, ap, ◌∙◌, subst}
use Rattle.game_rules.specs.Position.{Position, other, side_to_move}
use Rattle.follow_text.specs.Following.{served_by, at_lemma, Follows, IsHeld}
use Rattle.proof_player.specs.Playing.{reply_for}
use Rattle.proof_player.proofs.Begun.{grounds, held_there, passed_on, none_wanted, begins, first_room, some_wanted, has_begun}
use Rattle.proof_player.proofs.follow.Follow.begin.Goals as goal

pub invariant_of-follow : goal.invariant_of-follow
invariant_of-follow c =
    let from = c.requires in
    record {
      on = grounds c.args.book.now c.args.holder c.args.root.now c.args.lemma from;
      held = held_there c.args.book.now c.args.holder c.args.root.now c.args.lemma from;
      stands = λ going. (from.shows, passed_on c.args.book.now c.args.holder c.args.root.now c.args.lemma from c.in_default.ensures going, tt);
    }

pub returns-in_default-clause-none : goal.returns-in_default-clause-none
returns-in_default-clause-none c =
    none_wanted c.args.book.now c.args.holder c.args.root.now c.args.lemma c.requires c.in_default.ensures _ refl

pub after-now-requires : goal.after-now-requires
after-now-requires c =
    let step = c.in-Some.step in
    first_room c.args.book.now c.args.holder c.args.root.now c.args.lemma c.requires step.column (at_lemma step.lemma step.turned) c.in-Some.ensures

pub invariant_of-follow-2 : goal.invariant_of-follow-2
invariant_of-follow-2 c =
    let from = c.requires in
    let step = c.in-Some.step in
    let next = at_lemma step.lemma step.turned in
    let made = begins c.args.book.now c.args.holder c.args.root.now c.args.lemma from step.column next c.in-Some.ensures in
    record {
      on = grounds c.args.book.now c.args.holder c.args.root.now c.args.lemma from;
      held = subst (IsHeld from.claim) (sym c.after-now.ensures) made.held;
      stands = λ going. (
        subst (Follows from.after from.claim next) (sym c.after-now.ensures) made.follows,
        subst (λ (q : Position). side_to_move q ≡ other (served_by from.claim)) (sym c.after-now.ensures) made.passed,
        tt,
      );
    }

pub returns-clause-value : goal.returns-clause-value
returns-clause-value c =
    let step = c.in-Some.step in
    has_begun c.args.book.now c.args.holder c.args.root.now c.args.lemma c.requires step.column (at_lemma step.lemma step.turned) c.in-Some.ensures
    c.after-now.result c.after-now.ensures c.of-reply.result (c.of-reply.ensures ∙ ap (λ e. reply_for c.args.holder e step.column) c.ended.ensures)

pub returns-clause-none : goal.returns-clause-none
returns-clause-none c =
    let step = c.in-Some.step in
    some_wanted c.args.book.now c.args.holder c.args.root.now c.args.lemma c.requires step.column (at_lemma step.lemma step.turned) c.in-Some.ensures _ refl
