use Rattle.std.proofs.Common.{sym, ap, ◌∙◌, ◌++◌, append-nil}
use Rattle.io_ports.specs.Lines.{feed}
use Rattle.run_frame.proofs.GameRead.{kept_known, prefix_put}
use Rattle.run_frame.proofs.game_lines.keep_line.Goals as goal

pub returns-then-fed-clause-kept : goal.returns-then-fed-clause-kept
returns-then-fed-clause-kept g c =
    let line = c.next.new.self in
    let fed = sym c.if-fed.true ∙ c.fed.ensures in
    kept_known _ _ c.next.result line.text line.fed c.next.ensures.gives c.in_default.not-Failed c.args.text.now.items c.push.new.self.items
    (prefix_put c.args.text.now.items c.push_text.new.to.items c.push.new.self.items line.text c.text-line.result.now c.min.result line.fed c.text-line.ensures
    c.min.ensures c.push_text.ensures.items
    (c.push.ensures.items ∙ ap (λ fed. c.push_text.new.to.items ++ feed fed) fed))

pub returns-else-fed-clause-kept : goal.returns-else-fed-clause-kept
returns-else-fed-clause-kept g c =
    let line = c.next.new.self in
    let fed = sym c.if-fed.false ∙ c.fed.ensures in
    kept_known _ _ c.next.result line.text line.fed c.next.ensures.gives c.in_default.not-Failed c.args.text.now.items c.push_text.new.to.items
    (prefix_put c.args.text.now.items c.push_text.new.to.items c.push_text.new.to.items line.text c.text-line.result.now c.min.result line.fed
    c.text-line.ensures c.min.ensures c.push_text.ensures.items
    (sym (append-nil c.push_text.new.to.items) ∙ ap (λ fed. c.push_text.new.to.items ++ feed fed) fed))
