use Rattle.std.specs.Prelude.{⊤}
use Rattle.std.proofs.Common.{List, ℕ, sym, ap, ◌∙◌, subst, arith}
use Rattle.std.proofs.lemmas.Result.{err_from_is_err_and}
use Rattle.game_rules.specs.Game.{IsTextOf}
use Rattle.game_rules.specs.Text.{game_at}
use Rattle.io_ports.specs.Reading.{pending, Reads, PassesLines}
use Rattle.run_frame.specs.Reading.{KeepsLine}
use Rattle.run_frame.proofs.GameRead.{game_known, game_stops, game_unread}
use Rattle.io_ports.proofs.Reading.{Reads_more, Reads_then, passes_then, passes_most}
use Rattle.run_frame.proofs.game_lines.read_played_game.Goals as goal

pub returns-in_err-keep_line-clause-answer : goal.returns-in_err-keep_line-clause-answer
returns-in_err-keep_line-clause-answer g c =
    let same = err_from_is_err_and c.from_residual.result c.from_residual.ensures.1 in
    rw (same.1, same.2) (game_unread _ _ 1 2 _ _ _ _ c.in_err-keep_line.field-0.0 (omega arith) (omega arith) c.in_err-keep_line.ensures.failed
    c.in_err-keep_line.ensures.kept)

pub returns-in_err-keep_line-2-clause-answer : goal.returns-in_err-keep_line-2-clause-answer
returns-in_err-keep_line-2-clause-answer g c =
    let same = err_from_is_err_and c.from_residual-in_err-keep_line-2.result c.from_residual-in_err-keep_line-2.ensures.1 in
    let second = c.in_err-keep_line-2.ensures in
    let both = Reads_then _ _ _ _ _ (λ bytes rest. PassesLines 2 bytes rest × ⊤) c.in_ok-keep_line.ensures.kept second.kept
    (λ bytes mid rest p q. (passes_then 1 1 bytes mid rest p.0 q.0, tt)) in
    rw (same.1, same.2) (game_unread _ _ 2 2 _ _ _ _ c.in_err-keep_line-2.field-0.0 (omega arith) c.in_ok-keep_line.ensures.later second.failed both)

pub returns-in-Ok-clause-answer : goal.returns-in-Ok-clause-answer
returns-in-Ok-clause-answer g c =
    let one = c.keep_line.new.text.items in
    let a = pending c.args.lines.now (g.S.Source.left c.args.source.now) (g.S.Source.last_read c.args.source.now) in
    let b = pending c.keep_line.new.lines (g.S.Source.left c.keep_line.new.source) (g.S.Source.last_read c.keep_line.new.source) in
    let P : List ℕ → Type 0 = λ text. Reads a b (λ bytes rest. PassesLines 1 bytes rest × KeepsLine text one bytes rest) in
    game_known a b _ one c.keep_line-2.new.text.items (subst P c.new-text.ensures c.in_ok-keep_line.ensures.kept) c.in_ok-keep_line-2.ensures.kept c.in-Ok.game
    (subst (λ text. IsTextOf text c.in-Ok.game) c.as_slice.ensures.value c.in-Ok.ensures.text)

pub returns-in-Err-clause-answer : goal.returns-in-Err-clause-answer
returns-in-Err-clause-answer g c =
    let one = c.keep_line.new.text.items in
    let a = pending c.args.lines.now (g.S.Source.left c.args.source.now) (g.S.Source.last_read c.args.source.now) in
    let b = pending c.keep_line.new.lines (g.S.Source.left c.keep_line.new.source) (g.S.Source.last_read c.keep_line.new.source) in
    let P : List ℕ → Type 0 = λ text. Reads a b (λ bytes rest. PassesLines 1 bytes rest × KeepsLine text one bytes rest) in
    game_stops a b _ one c.keep_line-2.new.text.items (subst P c.new-text.ensures c.in_ok-keep_line.ensures.kept) c.in_ok-keep_line-2.ensures.kept
    c.in-Err.fault (ap game_at (sym c.as_slice.ensures.value) ∙ c.in-Err.ensures.position)

pub returns-in_err-keep_line-clause-unread : goal.returns-in_err-keep_line-clause-unread
returns-in_err-keep_line-clause-unread g c = λ read. Reads_more _ _ _ _ c.in_err-keep_line.ensures.unread
    (λ bytes rest passes. passes_most 0 1 bytes rest (omega arith) passes)

pub returns-in_err-keep_line-2-clause-unread : goal.returns-in_err-keep_line-2-clause-unread
returns-in_err-keep_line-2-clause-unread g c = λ read. Reads_then _ _ _ _ _ _ c.in_ok-keep_line.ensures.kept c.in_err-keep_line-2.ensures.unread
    (λ bytes mid rest p q. passes_then 1 0 bytes mid rest p.0 q)
