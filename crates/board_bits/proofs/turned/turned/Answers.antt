use Rattle.std.proofs.Common.{◌+◌, ◌*◌, ◌/◌, ◌%◌, ◌^◌, ◌<◌, sym, ap, ◌∙◌, subst, arith}
use Rattle.board_bits.proofs.Turns.{turned_none, turned_more, turned_fits}
use Rattle.board_bits.proofs.turned.turned.Goals as goal
use Rattle.board_bits.proofs.turned.turned.Goals.{In-loop-column}

pub loop-column-init : goal.loop-column-init
loop-column-init c = record { so_far = sym (turned_none c.args.word) }

-- the columns so far leave room for one more
room : (c : In-loop-column) → c.loop-column.image < 2 ^ 99
room c = subst (λ n. n < 2 ^ 99) (sym c.loop-column.invariant.so_far) (turned_fits c.args.word c.loop-column.column (omega arith))

pub overflow_mul-image : goal.overflow_mul-image
overflow_mul-image c = let low = room c in omega (arith, low)

pub overflow_add-image : goal.overflow_add-image
overflow_add-image c = let low = room c in omega (arith, low)

pub loop-column-preserved : goal.loop-column-preserved
loop-column-preserved c = record {
  so_far = ap (λ n. n * 2048 + c.args.word / 2 ^ (11 * c.loop-column.column) % 2048) c.loop-column.invariant.so_far
      ∙ turned_more c.args.word c.loop-column.column;
}
