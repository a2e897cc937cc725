use Rattle.std.proofs.Common.{◌∷◌, [], is_ok}
use Rattle.plan_text.specs.Items.{square_text}
use Rattle.device_rules.proofs.DeviceLaws.{AppendsPrefix_more}
use Rattle.run_explain.proofs.writing.write_square.Goals as goal

pub returns-clause-written : goal.returns-clause-written
returns-clause-written g c = AppendsPrefix_more (is_ok c.print_item.result) _ _ _ (32 ∷ []) (square_text c.args.square) c.in_ok-put_all.ensures.bytes
    c.print_item.ensures.written
