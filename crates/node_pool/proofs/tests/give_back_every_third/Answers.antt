use Rattle.std.proofs.Common.{◌∙◌, arith}
use Rattle.node_pool.proofs.Kept.{each_live}
use Rattle.node_pool.proofs.tests.give_back_every_third.Goals as goal

pub loop-number-init : goal.loop-number-init
loop-number-init c = record {
  size = c.live-slots.ensures.value ∙ c.requires;
  few = omega (arith, c.live-slots.ensures.within, c.live-slots.ensures.most);
  live = λ at from inside. each_live c.args.pool.now 0 c.requires at inside;
}
