use Rattle.std.proofs.Common.{◌≡◌, ◌<◌, ◌++◌, ◌∷◌, [], filter, length, sym, ap, ◌∙◌, arith}
use Rattle.game_rules.specs.Position.{board_of, lowest_empty}
use Rattle.game_rules.specs.Squares.{is_playable}
use Rattle.board_squares.proofs.Columns.{playables_some, playables_none, columns_all}
use Rattle.board_bits.proofs.position.Position.playables.Goals as goal
use Rattle.board_bits.proofs.position.Position.playables.Goals.{in-Some, in_default}

pub loop-index-preserved : goal.loop-index-preserved
loop-index-preserved c =
    let p = c.args.self.now in
    let i = c.loop-index.index in
    let within : i < length p.columns = omega (arith, c.loop-index-test.true, c.cols-index-end.ensures.value, ap (λ b. b.cols) c.size-size.ensures.value) in
    let lowest : c.playable.result ≡ lowest_empty p i = c.playable.ensures ∙ ap (lowest_empty p) c.nth_column.ensures in
    elim c.match-playable.branch [
      | in-Some w ↦
          let more = playables_some p i within w.in-Some.square (sym lowest ∙ w.in-Some.is) in
          record {
            so_far = ap (λ v. v.items) w.squares-is ∙ w.push.ensures.items ∙ ap (λ us. us ++ w.in-Some.square ∷ []) c.loop-index.invariant.so_far ∙ sym more;
            count = omega (arith, ap (λ v. length v.items) w.squares-is, w.push.ensures.len, c.loop-index.invariant.count);
          }
      | in_default w ↦
          let more = playables_none p i within (sym lowest ∙ w.in_default.is) in
          record {
            so_far = ap (λ v. v.items) w.squares-is ∙ c.loop-index.invariant.so_far ∙ sym more;
            count = omega (arith, ap (λ v. length v.items) w.squares-is, c.loop-index.invariant.count);
          }
    ]

pub returns : goal.returns
returns c =
    let p = c.args.self.now in
    c.loop-index.invariant.so_far
    ∙ ap (filter (is_playable p)) (columns_all (board_of p) c.loop-index.index
    (omega (arith, c.loop-index-test.false, c.loop-index.auto.index-end, c.cols-index-end.ensures.value, ap (λ b. b.cols) c.size-size.ensures.value)))
