use Rattle.std.proofs.Common.{◌≡◌, ◌+◌, ◌-◌, length, drop, is_ok, ap, ◌∙◌, subst}
use Rattle.std.specs.Io.KnownBytes.{Appends}
use Rattle.std.proofs.KnownBytes.{Appends-kept}
use Rattle.device_rules.proofs.DeviceLaws.{AppendsPrefix_all}
use Rattle.game_rules.specs.Position.{board_of}
use Rattle.tool_text.specs.Marks.{mark_lines}
use Rattle.run_annotate.specs.Lines.{moves_before}
use Rattle.run_annotate.proofs.Dear.{front_legal, back_legal, begins}
use Rattle.run_annotate.proofs.writing.write_marks.Goals as goal

pub position_after-start-requires : goal.position_after-start-requires
position_after-start-requires g c =
    front_legal c.args.game.now c.position.ensures.played c.size.result c.moves-moves.result.now
    (c.size.ensures.value ∙ ap board_of c.position.ensures.position) c.moves-moves.ensures.moves c.saturating_sub-first.result
    c.split_at.result.0.now c.split_at.result.1.now c.split_at.ensures.front c.split_at.ensures.back

pub write_lines-requires-clause-legal : goal.write_lines-requires-clause-legal
write_lines-requires-clause-legal g c =
    back_legal c.args.game.now c.position.ensures.played c.size.result c.moves-moves.result.now
    (c.size.ensures.value ∙ ap board_of c.position.ensures.position) c.moves-moves.ensures.moves c.saturating_sub-first.result
    c.split_at.result.0.now c.split_at.result.1.now c.split_at.ensures.front c.split_at.ensures.back
    c.position_after-start.result c.position_after-start.ensures

pub returns-clause-written : goal.returns-clause-written
returns-clause-written g c =
    let game = c.args.game.now in
    let start = c.position_after-start.result in
    let first = moves_before game c.args.last in
    let count : c.saturating_sub-first.result ≡ first =
    c.saturating_sub-first.ensures ∙ ap (λ moves. length moves - c.args.last) c.moves-moves.ensures.moves in
    let back : c.split_at.result.1.now ≡ drop first game.moves =
    c.split_at.ensures.back ∙ ap (λ n. drop n c.moves-moves.result.now) count ∙ ap (drop first) c.moves-moves.ensures.moves in
    let text = mark_lines (first + 1) start (drop first game.moves) c.args.marks.now in
    record {
      start = start;
      before = begins game c.position.ensures.played c.size.result c.moves-moves.result.now
          (c.size.ensures.value ∙ ap board_of c.position.ensures.position) c.moves-moves.ensures.moves c.saturating_sub-first.result
          c.split_at.result.0.now c.split_at.result.1.now c.split_at.ensures.front c.split_at.ensures.back
          c.args.last c.saturating_sub-first.ensures start c.position_after-start.ensures;
      written = AppendsPrefix_all (is_ok c.flush.result) _ _ text (Appends-kept _ _ _ text
          (subst (Appends _ _) (ap (λ n. mark_lines (n + 1) start c.split_at.result.1.now c.args.marks.now) count
          ∙ ap (λ columns. mark_lines (first + 1) start columns c.args.marks.now) back) c.in_ok-write_lines.ensures.written) c.flush.ensures.bytes);
    }
