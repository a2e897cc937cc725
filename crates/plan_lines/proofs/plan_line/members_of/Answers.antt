use Rattle.std.proofs.Common.{◌≡◌, ◌<◌, ◌≤◌, ◌++◌, length, Some, ap, sym, ◌∙◌, arith}
use Rattle.std.proofs.lemmas.Bool.{eqb-true}
use Rattle.std.proofs.lemmas.List.{append-nil}
use Rattle.plan_text.specs.Words.{◌>>=◌, words_of}
use Rattle.plan_text.specs.PlanLine.{instances_of}
use Rattle.rule_compat.specs.Written.{written_list}
use Rattle.text_words.proofs.Words.{words_left, words_some}
use Rattle.plan_lines.proofs.Members.{members_too_many, members_are}
use Rattle.plan_lines.proofs.plan_line.members_of.Goals as goal
use Rattle.plan_rules.specs.declared.TheConstants.{MOST_MEMBERS}

pub returns-then-is_full : goal.returns-then-is_full
returns-then-is_full c =
    let left : length (words_left c.loop-left.left) ≡ length (words_of c.in-Some.words.now) = ap (λ left. length (words_left left)) c.in-Some.is in
    let full = eqb-true (length c.loop-left.list.items) _ (sym c.if-is_full.ensures.value) in
    let many : MOST_MEMBERS < length (words_of c.args.bytes.now) = omega (arith, c.loop-left.invariant.counted, words_some c.in-Some.words.now) in
    sym (members_too_many c.args.size (words_of c.args.bytes.now) many)

pub returns : goal.returns
returns c =
    let none : length (words_left c.loop-left.left) ≡ 0 = ap (λ left. length (words_left left)) c.in_default.is in
    let few : length (words_of c.args.bytes.now) ≤ MOST_MEMBERS = omega (arith, c.loop-left.invariant.counted, c.loop-left.invariant.few) in
    let all = written_list c.loop-left.list.items in
    sym (members_are c.args.size c.args.bytes.now all few
    (c.loop-left.invariant.members ∙ ap (λ left. instances_of c.args.size (words_left left) >>= (λ more. Some (all ++ more))) c.in_default.is
    ∙ ap Some (append-nil all)))
