use Rattle.board_bits.proofs.Turns.{image_sound, image_men}
use Rattle.board_bits.proofs.position.Position.mirror.Goals as goal

pub invariant_of-result : goal.invariant_of-result
invariant_of-result c = image_sound c.self.inside c.args.self.now c.self.view_is c.self.invariant c.cols-cols.result _ _ c.cols-cols.ensures.value
    c.turned.ensures c.turned-2.ensures

pub returns : goal.returns
returns c = image_men c.self.inside c.args.self.now c.self.view_is c.self.invariant c.cols-cols.result _ _ c.cols-cols.ensures.value c.turned.ensures
    c.turned-2.ensures
