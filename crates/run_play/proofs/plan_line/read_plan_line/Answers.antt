use Rattle.std.proofs.Common.{subst, inl, inr}
use Rattle.io_ports.specs.Lines.{Gives}
use Rattle.io_ports.specs.declared.line_reader.LineGot.{LineGot}
use Rattle.io_ports.specs.Reading.{pending, Reads}
use Rattle.run_turns.proofs.Got.{line_given}
use Rattle.run_play.specs.Plays.{head_end}
use Rattle.run_play.proofs.Read.{plan_named, plan_refused, plan_long, plan_none, plan_unread}
use Rattle.run_play.proofs.plan_line.read_plan_line.Goals as goal

pub returns-in-Ok-clause-answer : goal.returns-in-Ok-clause-answer
returns-in-Ok-clause-answer g c =
    plan_named _ _ c.text.result.now c.next.new.self.fed c.args.root.now c.in-Ok.plan
    (line_given _ _ _ c.text.result.now _ c.text.ensures c.in-Line.ensures.gives) c.in-Ok.ensures.answer

pub returns-in-Err-clause-answer : goal.returns-in-Err-clause-answer
returns-in-Err-clause-answer g c =
    plan_refused _ _ c.text.result.now c.next.new.self.fed c.args.root.now (head_end c.in-Err.none)
    (line_given _ _ _ c.text.result.now _ c.text.ensures c.in-Line.ensures.gives) c.in-Err.ensures.answer

pub returns-in-Long-clause-answer : goal.returns-in-Long-clause-answer
returns-in-Long-clause-answer g c =
    let a = pending c.args.lines.now (g.S.Source.left c.args.source.now) (g.S.Source.last_read c.args.source.now) in
    let b = pending c.next.new.self (g.S.Source.left c.next.new.source) (g.S.Source.last_read c.next.new.source) in
    let text = c.next.new.self.text in
    let fed = c.next.new.self.fed in
    let P : LineGot → Type 0 = λ got. Reads a b (λ bytes rest. Gives bytes rest got text fed) in
    elim c.in-Long.is [
      | inl long ↦ plan_long a b text fed c.args.root.now (subst P long c.next.ensures.gives)
      | inr none ↦ plan_none a b text fed c.args.root.now (subst P none c.next.ensures.gives)
    ]

pub returns-in-Failed-clause-answer : goal.returns-in-Failed-clause-answer
returns-in-Failed-clause-answer g c = plan_unread _ _ c.next.new.self.text c.next.new.self.fed c.args.root.now c.in-Failed.ensures.gives
