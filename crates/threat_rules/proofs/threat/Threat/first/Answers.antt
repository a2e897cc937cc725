use Rattle.std.proofs.Common.{None, length, refl, sym, ap, ◌∙◌}
use Rattle.std.specs.Option.{option_map}
use Rattle.std.proofs.Math.ListN.{drop_of_length-le}
use Rattle.std.proofs.lemmas.Option.{slice_get_read}
use Rattle.game_rules.specs.Groups.{groups_of}
use Rattle.odd_rules.specs.Refusal.{first_by}
use Rattle.threat_rules.specs.Threatened.{threat_found}
use Rattle.threat_rules.proofs.Pairings.{first_here, first_next, first_of_all, none_is}
use Rattle.threat_rules.proofs.threat.Threat.first.Goals as goal

pub returns-then-is_some-clause-first : goal.returns-then-is_some-clause-first
returns-then-is_some-clause-first c =
    let p = c.args.p.now in let gs = c.as_slice-group-items.result.now in let i = c.loop-group.group-index in
    let at = slice_get_read gs (length gs) i c.group-item.result refl c.loop-group-test.true c.group-item.is in
    first_of_all p gs c.threat_by-threat.result (c.as_slice-group-items.ensures.value ∙ c.groups-groups.ensures ∙ ap groups_of c.size.ensures.value)
    (first_here p gs i c.group-item.result c.threat_by-threat.result at c.threat_by-threat.ensures (sym c.is_some.ensures ∙ c.if-is_some.true)
    ∙ ap (option_map (threat_found p)) c.loop-group.invariant)

pub returns-then-is_some-clause-none : goal.returns-then-is_some-clause-none
returns-then-is_some-clause-none c = none_is c.args.p.now c.threat_by-threat.result (returns-then-is_some-clause-first c)

pub loop-group-preserved : goal.loop-group-preserved
loop-group-preserved c =
    let p = c.args.p.now in let gs = c.as_slice-group-items.result.now in let i = c.loop-group.group-index in
    let at = slice_get_read gs (length gs) i c.group-item.result refl c.loop-group-test.true c.group-item.is in
    first_next p gs i c.group-item.result c.threat_by-threat.result at c.threat_by-threat.ensures (sym c.is_some.ensures ∙ c.if-is_some.false)
    ∙ c.loop-group.invariant

pub returns-clause-first : goal.returns-clause-first
returns-clause-first c =
    let p = c.args.p.now in let gs = c.as_slice-group-items.result.now in
    first_of_all p gs None (c.as_slice-group-items.ensures.value ∙ c.groups-groups.ensures ∙ ap groups_of c.size.ensures.value)
    (ap (λ rest. option_map (threat_found p) (first_by p rest)) (sym (drop_of_length-le gs c.loop-group-test.false))
    ∙ ap (option_map (threat_found p)) c.loop-group.invariant)

pub returns-clause-none : goal.returns-clause-none
returns-clause-none c = none_is c.args.p.now None (returns-clause-first c)
