use Rattle.std.proofs.Common.{◌+◌, not, sym, ap, ◌∙◌}
use Rattle.plan_rules.specs.Rules.{is_supported}
use Rattle.plan_rules.proofs.Places.{place_here, place_next}
use Rattle.group_rules.specs.KeptFacts.{facts_in}
use Rattle.rule_compat.specs.Written.{written, written_list}
use Rattle.rule_compat.proofs.WrittenLists.{member_at}
use Rattle.rule_compat.proofs.check.first_unsupported.Goals as goal

pub returns-then-not-is_supported : goal.returns-then-not-is_supported
returns-then-not-is_supported c =
    let x = c.index-list-index.result in
    let i = c.loop-index.index in
    let at = member_at c.args.list.now i x c.loop-index-test.true c.index-list-index.is in
    let bare = ap not (sym c.is_supported.ensures ∙ c.if-not-is_supported.true) in
    sym (place_here (λ w. not (is_supported w (facts_in c.args.kept.now))) (i + 1) (written_list c.args.list.now) i (written x) at bare)
    ∙ c.loop-index.invariant

pub loop-index-preserved : goal.loop-index-preserved
loop-index-preserved c =
    let x = c.index-list-index.result in
    let i = c.loop-index.index in
    let at = member_at c.args.list.now i x c.loop-index-test.true c.index-list-index.is in
    let held = ap not (sym c.is_supported.ensures ∙ c.if-not-is_supported.false) in
    sym (place_next (λ w. not (is_supported w (facts_in c.args.kept.now))) (i + 1) (written_list c.args.list.now) i (written x) at held)
    ∙ c.loop-index.invariant
