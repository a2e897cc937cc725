use Rattle.std.proofs.Common.{◌≡◌, is_some, sym, ap, ◌∙◌, subst}
use Rattle.std.proofs.lemmas.Option.{same_Some}
use Rattle.plan_rules.specs.Squares.{above}
use Rattle.odd_rules.specs.Duel.{answer_of}
use Rattle.threat_rules.proofs.Answering.{IsAnswer, answer_kept, partner_found, alone_found, above_found}
use Rattle.threat_rules.proofs.threat.Threat.reply.Goals as goal
use Rattle.threat_rules.proofs.threat.Threat.reply.Goals.{In-Some, After-unwrap}

-- ---- in a pair

partner_answer : (c : In-Some) → IsAnswer c.args.self.now c.args.now.now c.in-Some.square
partner_answer c =
    let self = c.self.inside in
    let is = partner_found self.at self.group self.pairs.items c.as_slice.result.now c.args.self.now c.args.last c.partner.result c.in-Some.square
    c.self.view_is c.as_slice.ensures.value c.partner.ensures c.in-Some.is in
    subst (IsAnswer c.args.self.now c.args.now.now) (sym is) (answer_kept self.at self.group self.pairs.items c.args.self.now c.args.now.now c.args.last
    c.self.view_is c.has_a_board.ensures.board c.self.invariant c.requires)

pub returns-in-Some-clause-playable : goal.returns-in-Some-clause-playable
returns-in-Some-clause-playable c = (partner_answer c).playable

pub returns-in-Some-clause-next : goal.returns-in-Some-clause-next
returns-in-Some-clause-next c = (partner_answer c).next

-- ---- directly above

pub unwrap-requires : goal.unwrap-requires
unwrap-requires c =
    let self = c.self.inside in
    let alone = alone_found self.at self.group self.pairs.items c.as_slice.result.now c.args.self.now c.args.last c.partner.result
    c.self.view_is c.as_slice.ensures.value c.partner.ensures c.in-None.is in
    let answer = answer_kept self.at self.group self.pairs.items c.args.self.now c.args.now.now c.args.last c.self.view_is c.has_a_board.ensures.board
    c.self.invariant c.requires in
    ap is_some (above_found c.args.self.now c.args.now.now c.args.last c.column.result c.playable.result alone answer c.column.ensures c.playable.ensures)

answer_is : (c : After-unwrap) → c.unwrap.result ≡ answer_of c.args.self.now.pairs c.args.last
answer_is c =
    let self = c.self.inside in
    let alone = alone_found self.at self.group self.pairs.items c.as_slice.result.now c.args.self.now c.args.last c.partner.result
    c.self.view_is c.as_slice.ensures.value c.partner.ensures c.in-None.is in
    let answer = answer_kept self.at self.group self.pairs.items c.args.self.now c.args.now.now c.args.last c.self.view_is c.has_a_board.ensures.board
    c.self.invariant c.requires in
    let top = above_found c.args.self.now c.args.now.now c.args.last c.column.result c.playable.result alone answer c.column.ensures c.playable.ensures in
    same_Some c.unwrap.result (above c.args.last) (sym c.unwrap.ensures ∙ top) ∙ alone

above_answer : (c : After-unwrap) → IsAnswer c.args.self.now c.args.now.now c.unwrap.result
above_answer c =
    let self = c.self.inside in
    subst (IsAnswer c.args.self.now c.args.now.now) (sym (answer_is c)) (answer_kept self.at self.group self.pairs.items c.args.self.now c.args.now.now
    c.args.last c.self.view_is c.has_a_board.ensures.board c.self.invariant c.requires)

pub returns-in-None-clause-reply : goal.returns-in-None-clause-reply
returns-in-None-clause-reply c = answer_is c

pub returns-in-None-clause-playable : goal.returns-in-None-clause-playable
returns-in-None-clause-playable c = (above_answer c).playable

pub returns-in-None-clause-next : goal.returns-in-None-clause-next
returns-in-None-clause-next c = (above_answer c).next
