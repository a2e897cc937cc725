use Rattle.std.proofs.Common.{◌≡◌, [], drop, refl, sym, ap, ◌∙◌}
use Rattle.io_ports.specs.Lines.{Cutting, is_end}
use Rattle.io_ports.proofs.Reading.{Reads_none, held_none}
use Rattle.io_ports.proofs.line_reader.Lines.next.Goals as goal

-- behind the end of the input nothing is held, and nothing is read
pub returns-then-self-clause-gives : goal.returns-then-self-clause-gives
returns-then-self-clause-gives g c =
    let s = c.self.inside in
    let none : drop s.given s.ahead ≡ [] = c.self.invariant.2 c.if-self.true in
    let before = ap (λ (lines : Cutting). lines.ended) c.self.view_is in
    Reads_none _ _ (sym before ∙ c.if-self.true) c.if-self.true (sym (ap (λ (lines : Cutting). lines.ahead) c.self.view_is) ∙ none) none refl

pub invariant_of-self-2 : goal.invariant_of-self-2
invariant_of-self-2 g c =
    let got = c.cut-got.result in
    let lines = c.cut-got.new.self in
    let same = c.self-2.view_is in
    let fed = ap (λ (lines : Cutting). lines.fed) same in (
      c.self-2.invariant.0,
      c.self-2.invariant.1,
      λ ended. ap (λ (lines : Cutting). lines.ahead) same
          ∙ held_none _ _ c.args.self.now.ahead lines.ahead lines.text got lines.fed c.cut-got.ensures.gives
          (sym (ap (is_end got) fed) ∙ sym c.is_end-self-inside.ensures ∙ ended),
    )
