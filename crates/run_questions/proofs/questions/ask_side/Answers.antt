use Rattle.std.proofs.Common.{true, false, sym, subst, arith}
use Rattle.game_rules.specs.Questions.{side_asked}
use Rattle.deep_search.specs.Search.{moment, Solves}
use Rattle.run_questions.specs.SizedFronts.{slots_of, IsAfter, IsAfterSome, LeavesRemark}
use Rattle.run_questions.proofs.Asking.{asks_side, asks_cut}
use Rattle.run_questions.proofs.questions.ask_side.Goals as goal

pub returns-in_default-clause-asked : goal.returns-in_default-clause-asked
returns-in_default-clause-asked g c = λ known many fits.
    let p = c.args.position.now in let reach = c.args.reach in
    let front = subst (λ side. IsAfter p side reach 0 c.args.front.now) (sym c.side.ensures) c.requires.front in
    asks_cut c.args.version p (side_asked c.args.question) reach _ known _ c.args.table.now _ _ c.args.lemmas.now
    (subst (λ side. LeavesRemark (slots_of c.args.front.now) reach p side false (g.O.Sink.written c.args.out.now) (g.O.Sink.written c.write_remark.new.out))
    c.side.ensures (c.in_default.ensures.remarks p reach front)) fits (omega (arith, many))

pub returns-clause-asked : goal.returns-clause-asked
returns-clause-asked g c = λ known many fits.
    let p = c.args.position.now in let reach = c.args.reach in
    let front = subst (λ side. IsAfter p side reach 0 c.args.front.now) (sym c.side.ensures) c.requires.front in
    asks_side c.args.version p c.args.question reach _ known _ c.args.table.now c.search.new.table _ _ _ c.search.new.lemmas c.search.result
    (subst (λ side. LeavesRemark (slots_of c.args.front.now) reach p side true (g.O.Sink.written c.args.out.now) (g.O.Sink.written c.write_remark.new.out))
    c.side.ensures (c.in-Ok.ensures.remarks p reach front))
    (subst (λ version. Solves p p c.args.question reach version known (moment c.args.table.now (g.O.Sink.written c.write_remark.new.out))
    (moment c.search.new.table (g.O.Sink.written c.search.new.out)) c.search.new.lemmas c.search.result) c.mirrors.ensures
    (c.search.ensures.wrote known many fits)) (omega (arith, c.search.ensures.searched.few))

pub returns-in_default-clause-front : goal.returns-in_default-clause-front
returns-in_default-clause-front g c =
    let p = c.args.position.now in let reach = c.args.reach in
    let front = subst (λ side. IsAfter p side reach 0 c.args.front.now) (sym c.side.ensures) c.requires.front in
    subst (λ side. IsAfterSome p side reach c.write_remark.new.sized) c.side.ensures (c.write_remark.ensures.front p reach front)

pub returns-clause-front : goal.returns-clause-front
returns-clause-front g c =
    let p = c.args.position.now in let reach = c.args.reach in
    let front = subst (λ side. IsAfter p side reach 0 c.args.front.now) (sym c.side.ensures) c.requires.front in
    subst (λ side. IsAfterSome p side reach c.write_remark.new.sized) c.side.ensures (c.write_remark.ensures.front p reach front)
