use Rattle.std.proofs.Common.{◌≡◌, map, true, false, sym, ap, ◌∙◌, arith}
use Rattle.std.proofs.lemmas.List.{map-append}
use Rattle.game_rules.specs.Position.{has_room}
use Rattle.proof_lines.specs.Shape.{cite_of}
use Rattle.deep_search.proofs.Proving.{cites_room, cites_full}
use Rattle.deep_search.proofs.solving.cites_from.Goals as goal
use Rattle.deep_search.proofs.solving.cites_from.Goals.{then-has_room, else-has_room}

pub loop-index-preserved : goal.loop-index-preserved
loop-index-preserved c = elim c.if-has_room.branch [
  | then-has_room w ↦
      let p = c.args.position.now in
      let room : has_room p c.loop-index.index ≡ true = ap (has_room p) (sym c.nth_column-column.ensures) ∙ sym c.has_room.ensures ∙ w.if-has_room.true in
      rw w.cites-is (record {
        so_far = ap (map cite_of) w.push.ensures.items ∙ map-append cite_of c.loop-index.cites.items _
            ∙ rw (c.loop-index.invariant.so_far, c.nth_column-column.ensures) (sym (cites_room p c.args.numbers.now c.loop-index.index room));
        few = omega (arith, w.push.ensures.len, c.loop-index.invariant.few);
      })
  | else-has_room w ↦
      let p = c.args.position.now in
      let full : has_room p c.loop-index.index ≡ false = ap (has_room p) (sym c.nth_column-column.ensures) ∙ sym c.has_room.ensures ∙ w.if-has_room.false in
      rw w.cites-is (record {
        so_far = c.loop-index.invariant.so_far ∙ sym (cites_full p c.args.numbers.now c.loop-index.index full);
        few = omega (arith, c.loop-index.invariant.few);
      })
]
