use Rattle.std.proofs.Common.{None, sym, ap, ◌∙◌, arith}
use Rattle.std.specs.Option.{option_map}
use Rattle.odd_rules.specs.Refusal.{tops}
use Rattle.threat_rules.specs.Threatened.{threat_with}
use Rattle.threat_rules.specs.Ascending.{ascends}
use Rattle.threat_rules.proofs.Pairings.{found_with, rest_of, none_are, rest_parts, rest_room, rest_fewer, rest_opened, step_found, step_none, tried_all}
use Rattle.threat_rules.proofs.Pairings.{checked, ascends_remove}
use Rattle.threat_rules.proofs.first.+first_pairing.Goals as goal

pub returns-in_default : goal.returns-in_default
returns-in_default t c n low =
    let p = c.args.p.now in let g = c.args.group in
    c.ok.ensures.value
    ∙ checked p g c.args.pairs.now c.check.result c.check.ensures.fault c.check.ensures.threat n
    ∙ ap (λ cs. option_map (threat_with p g) (found_with p g c.args.pairs.now n cs)) (sym (none_are c.args.columns.now c.in_default.len_below))

pub with_pair-more-requires-clause-right : goal.with_pair-more-requires-clause-right
with_pair-more-requires-clause-right t c =
    rest_room c.args.p.now c.args.columns.now c.first-item.result c.loop-index.index c.index-rest-index.result c.in-len1-up.len_at_least c.first-item.is
    c.requires.order c.loop-index-test.true c.index-rest-index.is

pub first_pairing-threat-requires : goal.first_pairing-threat-requires
first_pairing-threat-requires t c =
    let p = c.args.p.now in let cs = c.args.columns.now in
    let others = c.as_slice.ensures.value ∙ c.without-others.ensures in
    let fewer = rest_fewer p cs c.as_slice.result.now c.args.pairs.now c.as_slice-in-loop-index.result.now c.first-item.result c.loop-index.index
    (tops p c.first-item.result c.index-rest-index.result) c.in-len1-up.len_at_least c.first-item.is c.loop-index-test.true others
    (c.as_slice-in-loop-index.ensures.value ∙ c.with_pair-more.ensures) in
    let order = rest_parts p cs c.first-item.result c.in-len1-up.len_at_least c.first-item.is c.requires.order in (
      omega (arith, c.decreases, fewer.0),
      (omega (arith, c.requires.room, fewer.0, fewer.1), ap (ascends p) others ∙ ascends_remove p (rest_of cs) c.loop-index.index order.2),
    )

pub returns-then-is_some : goal.returns-then-is_some
returns-then-is_some t c =
    let p = c.args.p.now in let g = c.args.group in let xs = c.args.pairs.now in let cs = c.args.columns.now in
    rest_opened p g xs cs c.first-item.result c.first_pairing-threat.result c.in-len1-up.len_at_least c.first-item.is (λ n low.
    step_found p g xs c.as_slice-in-loop-index.result.now c.first-item.result c.loop-index.index c.index-rest-index.result (rest_of cs)
    c.as_slice.result.now c.first_pairing-threat.result c.loop-index-test.true c.index-rest-index.is
    (c.as_slice-in-loop-index.ensures.value ∙ c.with_pair-more.ensures) (c.as_slice.ensures.value ∙ c.without-others.ensures)
    c.first_pairing-threat.ensures (sym c.is_some.ensures ∙ c.if-is_some.true) n low
    ∙ ap (option_map (threat_with p g)) (c.loop-index.invariant n low))

pub loop-index-preserved : goal.loop-index-preserved
loop-index-preserved t c n low =
    step_none c.args.p.now c.args.group c.args.pairs.now c.as_slice-in-loop-index.result.now c.first-item.result c.loop-index.index
    c.index-rest-index.result (rest_of c.args.columns.now) c.as_slice.result.now c.first_pairing-threat.result c.loop-index-test.true c.index-rest-index.is
    (c.as_slice-in-loop-index.ensures.value ∙ c.with_pair-more.ensures) (c.as_slice.ensures.value ∙ c.without-others.ensures)
    c.first_pairing-threat.ensures (sym c.is_some.ensures ∙ c.if-is_some.false) n low
    ∙ c.loop-index.invariant n low

pub returns : goal.returns
returns t c =
    let p = c.args.p.now in let g = c.args.group in let xs = c.args.pairs.now in let cs = c.args.columns.now in
    rest_opened p g xs cs c.first-item.result None c.in-len1-up.len_at_least c.first-item.is (λ n low.
    ap (option_map (threat_with p g)) (sym (tried_all p g xs n c.first-item.result c.loop-index.index (rest_of cs) c.loop-index-test.false)
    ∙ c.loop-index.invariant n low))
