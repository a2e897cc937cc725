use Rattle.std.proofs.Common.{◌∙◌}
use Rattle.game_rules.specs.Squares.{is_playable}
use Rattle.plan_rules.proofs.Sites.{pairs_pass, these_playable}
use Rattle.base_rules.proofs.baseinverse.push_baseinverses.Goals as goal

pub list_pairs-requires-clause-sites : goal.list_pairs-requires-clause-sites
list_pairs-requires-clause-sites g c =
    let p = c.args.p.now in
    pairs_pass (is_playable p) (is_playable p) c.as_slice.result.now c.as_slice-2.result.now
    (these_playable p c.as_slice.result.now (c.as_slice.ensures.value ∙ c.playables-playables.ensures))
    (these_playable p c.as_slice-2.result.now (c.as_slice-2.ensures.value ∙ c.playables-playables.ensures))
