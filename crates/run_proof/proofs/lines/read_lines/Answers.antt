use Rattle.std.proofs.Common.{[], sym, ap, ◌∙◌, subst, arith}
use Rattle.std.proofs.lemmas.Result.{err_from_is_err_and}
use Rattle.device_rules.proofs.DeviceLaws.{Rose_before}
use Rattle.game_rules.specs.Position.{board_of}
use Rattle.proof_text.specs.Texts.{start}
use Rattle.run_proof.proofs.Steps.{caused_more}
use Rattle.run_proof.proofs.Loop.{read_start, read_root, read_many, read_few, lines_more, lines_read, lines_short, lines_stopped}
use Rattle.run_proof.proofs.lines.read_lines.Goals as goal

pub loop-checker-init : goal.loop-checker-init
loop-checker-init g c = record {
  read = (
    [],
    c.requires,
    read_start c.args.head.now.version g.T.LemmaTaker.puts c.args.head.now.game.position c.new-checker.result.stands _ _
        (ap (λ s. s.stands) c.new-checker.ensures ∙ ap start c.position.ensures.position),
  );
  few = omega arith;
  read_later = omega arith;
  put_later = omega arith;
}

pub add_next-requires-clause-board : goal.add_next-requires-clause-board
add_next-requires-clause-board g c =
    let read = c.loop-checker.invariant.read in
    ap board_of (read_root c.args.head.now.version g.T.LemmaTaker.puts c.args.head.now.game.position _ _ read.0 _ _ _ _ read.2
    ∙ sym c.position.ensures.position) ∙ sym c.size-size.ensures.value

pub add_next-requires-clause-in_step : goal.add_next-requires-clause-in_step
add_next-requires-clause-in_step g c =
    let read = c.loop-checker.invariant.read in
    let root = c.args.head.now.game.position in
    record {
      lemmas = read.0;
      got = subst (λ root. g.T.LemmaTaker.holds c.loop-checker.taker root read.0)
          (sym (read_root c.args.head.now.version g.T.LemmaTaker.puts root _ _ read.0 _ _ _ _ read.2)) read.1;
      many = read_many c.args.head.now.version g.T.LemmaTaker.puts root _ _ read.0 _ _ _ _ read.2;
    }

pub returns-in_err-add_next-clause-read : goal.returns-in_err-add_next-clause-read
returns-in_err-add_next-clause-read g c =
    let read = c.loop-checker.invariant.read in
    let root = c.args.head.now.game.position in
    let version = c.args.head.now.version in
    let got = subst (λ root. g.T.LemmaTaker.holds c.loop-checker.taker root read.0)
    (sym (read_root version g.T.LemmaTaker.puts root _ _ read.0 _ _ _ _ read.2)) read.1 in
    let next = c.in_err-add_next.ensures.read read.0 got (read_many version g.T.LemmaTaker.puts root _ _ read.0 _ _ _ _ read.2) in
    let same = err_from_is_err_and c.from_residual.result c.from_residual.ensures.1 in
    rw (same.1, same.2) (lines_stopped version g.T.LemmaTaker.puts root _ _ read.0 _ _ _ _ read.2 c.args.until
    (g.T.LemmaTaker.holds c.add_next.new.taker) _
    c.add_next.new.lines.ended _ c.add_next.new.checker.stands c.in_err-add_next.field-0.0 next)

pub returns-in_err-add_next-clause-cause : goal.returns-in_err-add_next-clause-cause
returns-in_err-add_next-clause-cause g c =
    let before = c.loop-checker.invariant in
    let same = err_from_is_err_and c.from_residual.result c.from_residual.ensures.1 in
    rw (same.1, same.2) (caused_more _ _ _ _ c.in_err-add_next.field-0.0 (λ rose. Rose_before _ _ _ before.read_later rose)
    (λ rose. Rose_before _ _ _ before.put_later rose) c.in_err-add_next.ensures.cause)

pub loop-checker-preserved : goal.loop-checker-preserved
loop-checker-preserved g c =
    let before = c.loop-checker.invariant in
    let read = before.read in
    let root = c.args.head.now.game.position in
    let version = c.args.head.now.version in
    let got = subst (λ root. g.T.LemmaTaker.holds c.loop-checker.taker root read.0)
    (sym (read_root version g.T.LemmaTaker.puts root _ _ read.0 _ _ _ _ read.2)) read.1 in
    let next = c.in_ok-add_next.ensures.read read.0 got (read_many version g.T.LemmaTaker.puts root _ _ read.0 _ _ _ _ read.2) in
    let more = lines_more version g.T.LemmaTaker.puts root _ _ read.0 _ _ _ _ read.2 c.args.until (g.T.LemmaTaker.holds c.add_next.new.taker) _
    c.add_next.new.lines.ended _
    c.add_next.new.checker.stands _ c.if-branch.true next in
    record {
      read = more;
      few = read_few version g.T.LemmaTaker.puts root _ _ more.0 _ _ _ _ more.2;
      read_later = omega (arith, before.read_later, c.add_next.ensures.later.0);
      put_later = omega (arith, before.put_later, c.add_next.ensures.later.1);
    }

pub returns-in-Ok-clause-read : goal.returns-in-Ok-clause-read
returns-in-Ok-clause-read g c =
    let read = c.loop-checker.invariant.read in
    let root = c.args.head.now.game.position in
    let version = c.args.head.now.version in
    let got = subst (λ root. g.T.LemmaTaker.holds c.loop-checker.taker root read.0)
    (sym (read_root version g.T.LemmaTaker.puts root _ _ read.0 _ _ _ _ read.2)) read.1 in
    let next = c.in_ok-add_next.ensures.read read.0 got (read_many version g.T.LemmaTaker.puts root _ _ read.0 _ _ _ _ read.2) in
    lines_read version g.T.LemmaTaker.puts root _ _ read.0 _ _ _ _ read.2 c.args.until (g.T.LemmaTaker.holds c.add_next.new.taker) _
    c.add_next.new.lines.ended _
    c.add_next.new.checker.stands _ c.if-branch.false next c.in-Ok.accepted c.in-Ok.ensures

pub returns-clause-read : goal.returns-clause-read
returns-clause-read g c =
    let read = c.loop-checker.invariant.read in
    let root = c.args.head.now.game.position in
    let version = c.args.head.now.version in
    let got = subst (λ root. g.T.LemmaTaker.holds c.loop-checker.taker root read.0)
    (sym (read_root version g.T.LemmaTaker.puts root _ _ read.0 _ _ _ _ read.2)) read.1 in
    let next = c.in_ok-add_next.ensures.read read.0 got (read_many version g.T.LemmaTaker.puts root _ _ read.0 _ _ _ _ read.2) in
    lines_short version g.T.LemmaTaker.puts root _ _ read.0 _ _ _ _ read.2 c.args.until (g.T.LemmaTaker.holds c.add_next.new.taker) _
    c.add_next.new.lines.ended _
    c.add_next.new.checker.stands _ c.if-branch.false next c.in-Err.refusal c.in-Err.ensures
