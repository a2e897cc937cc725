use Rattle.std.proofs.Common.{drop, ◌+◌, ◌||◌, sym, ap, ◌∙◌}
use Rattle.std.proofs.lemmas.List.{at_drop_more}
use Rattle.plan_rules.specs.Listing.{same_instance, has_instance}
use Rattle.rule_compat.specs.Written.{written, written_list}
use Rattle.rule_compat.proofs.SameInstance.{same_is}
use Rattle.rule_chooser.proofs.full.has_instance.Goals as goal

pub returns-then-is_same : goal.returns-then-is_same
returns-then-is_same c =
    let list = c.args.list.now in let w = written c.args.instance.now in let i = c.loop-member.member-index in
    let is = sym c.if-is_same.true ∙ same_is c.args.instance.now c.member-item.result c.is_same.result c.is_same.ensures in
    ap (λ b. b || has_instance (written_list (drop (i + 1) list)) w) (is ∙ ap (λ x. same_instance w (written x)) c.member-item.is)
    ∙ sym (at_drop_more (λ xs. has_instance (written_list xs) w) list i c.member-item.result c.loop-member-test.true)
    ∙ c.loop-member.invariant

pub loop-member-preserved : goal.loop-member-preserved
loop-member-preserved c =
    let list = c.args.list.now in let w = written c.args.instance.now in let i = c.loop-member.member-index in
    let is = sym c.if-is_same.false ∙ same_is c.args.instance.now c.member-item.result c.is_same.result c.is_same.ensures in
    ap (λ b. b || has_instance (written_list (drop (i + 1) list)) w) (is ∙ ap (λ x. same_instance w (written x)) c.member-item.is)
    ∙ sym (at_drop_more (λ xs. has_instance (written_list xs) w) list i c.member-item.result c.loop-member-test.true)
    ∙ c.loop-member.invariant
