use Rattle.std.proofs.Common.{◌∙◌}
use Rattle.game_rules.specs.Groups.{squares_of}
use Rattle.threat_rules.proofs.SafeSets.{white_but}
use Rattle.threat_rules.proofs.target.has_all_but.Goals as goal

pub returns : goal.returns
returns c = c.within.ensures ∙ white_but c.args.p.now c.args.t (squares_of c.args.group) c.group_mask.result c.white.result c.with.result
    c.group_mask.ensures c.white.ensures c.with.ensures
