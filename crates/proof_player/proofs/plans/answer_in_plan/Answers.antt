use Rattle.proof_player.proofs.Answered.{is_replied, within_size, reply_told, session_stands}
use Rattle.proof_player.proofs.plans.answer_in_plan.Goals as goal

pub unwrap-reply-requires : goal.unwrap-reply-requires
unwrap-reply-requires c = is_replied c.args.session.now c.answer.new.self c.args.turned c.args.before.now c.args.c c.requires.stands c.requires.legal
    c.size-size.result c.size-size.ensures.value c.seen_column.result c.seen_column.ensures c.answer.result c.answer.ensures.err

pub seen_column-requires-2 : goal.seen_column-requires-2
seen_column-requires-2 c = within_size c.args.session.now c.answer.new.self c.args.turned c.args.before.now c.args.c c.requires.stands
    c.requires.legal c.size-size.result c.size-size.ensures.value c.seen_column.result c.seen_column.ensures c.answer.result c.unwrap-reply.result
    c.unwrap-reply.ensures c.answer.ensures.ok c.column_of.result c.column_of.ensures

pub returns-clause-answer : goal.returns-clause-answer
returns-clause-answer c = reply_told c.args.session.now c.answer.new.self c.args.turned c.args.before.now c.args.c c.requires.stands c.requires.legal
    c.size-size.result c.size-size.ensures.value c.seen_column.result c.seen_column.ensures c.answer.result c.unwrap-reply.result
    c.unwrap-reply.ensures c.answer.ensures.ok c.column_of.result c.column_of.ensures c.seen_column-2.result c.seen_column-2.ensures

pub returns-clause-stands : goal.returns-clause-stands
returns-clause-stands c = session_stands c.args.session.now c.answer.new.self c.args.turned c.args.before.now c.args.c c.requires.stands
    c.requires.legal c.size-size.result c.size-size.ensures.value c.seen_column.result c.seen_column.ensures c.answer.result c.unwrap-reply.result
    c.unwrap-reply.ensures c.answer.ensures.ok c.column_of.result c.column_of.ensures c.seen_column-2.result c.seen_column-2.ensures
