use Rattle.std.proofs.Common.{subst, arith, take, flat_map}
use Rattle.std.specs.Io.KnownBytes.{Appends}
use Rattle.std.proofs.lemmas.Result.{err_from_is_err_and}
use Rattle.explain_text.specs.Explanation.{owns_line}
use Rattle.plan_lines.specs.Written.{written}
use Rattle.plan_lines.proofs.Members.{pieces_cut, flat_map_made}
use Rattle.run_explain.proofs.writing.write_zones.Goals as goal

pub returns-in_err-write_zone-clause-written : goal.returns-in_err-write_zone-clause-written
returns-in_err-write_zone-clause-written g c =
    let same = err_from_is_err_and c.from_residual.result c.from_residual.ensures.1 in
    let list = c.args.list.now in
    let i = c.loop-instance.instance-index in
    let made = flat_map_made owns_line written in
    let before : Appends (g.O.Sink.written c.args.out.now) (g.O.Sink.written c.loop-instance.out) (flat_map (λ x. owns_line (written x)) (take i list)) =
    subst (Appends _ _) (made (take i list)) c.loop-instance.invariant.bytes in
    rw (same.1, made list) (pieces_cut (λ x. owns_line (written x)) _ _ _ list i c.instance-item.result (omega arith) c.instance-item.is before
    c.in_err-write_zone.ensures.written)
