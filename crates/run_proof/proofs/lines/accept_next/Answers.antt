use Rattle.std.proofs.Common.{List, ℕ, refl, sym, subst}
use Rattle.io_ports.specs.Lines.{Gives}
use Rattle.io_ports.specs.declared.line_reader.LineGot.TheVariants.{Line, Long, Failed}
use Rattle.io_ports.specs.Reading.{pending, Reads}
use Rattle.run_proof.proofs.lines.accept_next.Goals as goal

pub returns-in-Ok-clause-answer : goal.returns-in-Ok-clause-answer
returns-in-Ok-clause-answer g c =
    let a = pending c.args.lines.now (g.S.Source.left c.args.source.now) (g.S.Source.last_read c.args.source.now) in
    let b = pending c.next.new.self (g.S.Source.left c.next.new.source) (g.S.Source.last_read c.next.new.source) in
    let P : List ℕ → Type 0 = λ text. Reads a b (λ bytes rest. Gives bytes rest Line text c.next.new.self.fed) in
    record {
      text = c.text.result.now;
      fed = c.next.new.self.fed;
      gives = subst P (sym c.text.ensures) c.in-Line.ensures.gives;
      accepted = c.in-Ok.ensures.answer;
    }

pub returns-in-Err-clause-answer : goal.returns-in-Err-clause-answer
returns-in-Err-clause-answer g c =
    let a = pending c.args.lines.now (g.S.Source.left c.args.source.now) (g.S.Source.last_read c.args.source.now) in
    let b = pending c.next.new.self (g.S.Source.left c.next.new.source) (g.S.Source.last_read c.next.new.source) in
    let P : List ℕ → Type 0 = λ text. Reads a b (λ bytes rest. Gives bytes rest Line text c.next.new.self.fed) in
    record {
      got = Line;
      text = c.text.result.now;
      fed = c.next.new.self.fed;
      gives = subst P (sym c.text.ensures) c.in-Line.ensures.gives;
      stopped = c.in-Err.ensures.answer;
    }

pub returns-in-Long-clause-answer : goal.returns-in-Long-clause-answer
returns-in-Long-clause-answer g c = record {
  got = Long;
  text = c.next.new.self.text;
  fed = c.next.new.self.fed;
  gives = c.in-Long.ensures.gives;
  stopped = c.bad_line.ensures;
}

pub returns-in-Done-clause-answer : goal.returns-in-Done-clause-answer
returns-in-Done-clause-answer g c = record {
  text = c.next.new.self.text;
  fed = c.next.new.self.fed;
  gives = c.in-Done.ensures.gives;
  same = refl;
  whole = c.in-Done.ensures.ended;
}

pub returns-in-Failed-clause-answer : goal.returns-in-Failed-clause-answer
returns-in-Failed-clause-answer g c = record {
  got = Failed;
  text = c.next.new.self.text;
  fed = c.next.new.self.fed;
  gives = c.in-Failed.ensures.gives;
  stopped = (refl, c.in-Failed.ensures.failed refl);
}
