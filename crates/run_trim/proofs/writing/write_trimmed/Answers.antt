use Rattle.std.proofs.Common.{false, ◌++◌, is_ok}
use Rattle.std.proofs.KnownBytes.{Appends-trans, Appends-kept}
use Rattle.std.proofs.lemmas.Result.{err_from_is_err_and}
use Rattle.device_rules.proofs.DeviceLaws.{AppendsPrefix_take, AppendsPrefix_more, AppendsPrefix_all}
use Rattle.game_rules.specs.Game.{board_played}
use Rattle.proof_text.specs.Texts.{head_of}
use Rattle.tool_text.specs.Trim.{trimmed_lines}
use Rattle.run_trim.proofs.writing.write_trimmed.Goals as goal

pub returns-in_err-put_head-clause-written : goal.returns-in_err-put_head-clause-written
returns-in_err-put_head-clause-written g c =
    let same = err_from_is_err_and c.from_residual.result c.from_residual.ensures.1 in
    rw same.1 (AppendsPrefix_take _ _ (head_of c.args.version (board_played c.args.game.now) c.args.game.now.moves)
    (trimmed_lines c.args.book.now c.args.verdict.now) c.in_err-put_head.ensures.written)

pub returns-in_err-print_trimmed-clause-written : goal.returns-in_err-print_trimmed-clause-written
returns-in_err-print_trimmed-clause-written g c =
    let same = err_from_is_err_and c.from_residual-in_err-print_trimmed.result c.from_residual-in_err-print_trimmed.ensures.1 in
    rw same.1 (AppendsPrefix_more false _ _ _ (head_of c.args.version (board_played c.args.game.now) c.args.game.now.moves)
    (trimmed_lines c.args.book.now c.args.verdict.now) c.in_ok-put_head.ensures.written c.in_err-print_trimmed.ensures.written)

pub returns-clause-written : goal.returns-clause-written
returns-clause-written g c =
    let head = head_of c.args.version (board_played c.args.game.now) c.args.game.now.moves in
    let lines = trimmed_lines c.args.book.now c.args.verdict.now in
    AppendsPrefix_all (is_ok c.flush.result) _ _ (head_of c.args.version (board_played c.args.game.now) c.args.game.now.moves
    ++ trimmed_lines c.args.book.now c.args.verdict.now)
    (Appends-kept _ _ _ (head_of c.args.version (board_played c.args.game.now) c.args.game.now.moves ++ trimmed_lines c.args.book.now c.args.verdict.now)
    (Appends-trans _ _ _ head lines c.in_ok-put_head.ensures.written c.in_ok-print_trimmed.ensures.written) c.flush.ensures.bytes)
