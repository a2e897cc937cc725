use Rattle.std.proofs.Common.{◌≡◌, ◌-◌, codes, get_or, is_ok, ap, sym, ◌∙◌}
use Rattle.std.proofs.lemmas.Result.{err_from_is_err_and}
use Rattle.plan_text.specs.Items.{group_text, instance_text}
use Rattle.plan_lines.specs.Written.{written}
use Rattle.plan_lines.specs.Planned.{members}
use Rattle.explain_text.proofs.Answers.{named}
use Rattle.run_explain.proofs.Explaining.{line_cut_first, line_cut_second, line_cut_third, line_ends, place_within, named_line, place_line}
use Rattle.run_explain.proofs.writing.write_answer.Goals as goal

pub overflow_sub-member : goal.overflow_sub-member
overflow_sub-member g c = (named c.args.plan.now.at (members c.args.plan.now) c.args.group c.in-Some.place (sym c.in-Some.ensures.member)).counted

pub bounds-list-place : goal.bounds-list-place
bounds-list-place g c = rw c.list.ensures.value
    (place_within c.args.plan.now c.args.group c.in-Some.place
    (named c.args.plan.now.at (members c.args.plan.now) c.args.group c.in-Some.place (sym c.in-Some.ensures.member)))

pub returns-in_err-print_item-clause-written : goal.returns-in_err-print_item-clause-written
returns-in_err-print_item-clause-written g c =
    let same = err_from_is_err_and c.from_residual.result c.from_residual.ensures.1 in
    let one = named c.args.plan.now.at (members c.args.plan.now) c.args.group c.in-Some.place (sym c.in-Some.ensures.member) in
    rw (same.1, named_line c.args.plan.now c.args.group c.in-Some.place one)
    (line_cut_first (group_text c.args.group) (codes " by ") (instance_text one.member) _ _ c.in_err-print_item.ensures.written)

pub returns-in_err-put_all-clause-written : goal.returns-in_err-put_all-clause-written
returns-in_err-put_all-clause-written g c =
    let same = err_from_is_err_and c.from_residual-in_err-put_all.result c.from_residual-in_err-put_all.ensures.1 in
    let one = named c.args.plan.now.at (members c.args.plan.now) c.args.group c.in-Some.place (sym c.in-Some.ensures.member) in
    rw (same.1, named_line c.args.plan.now c.args.group c.in-Some.place one)
    (line_cut_second (group_text c.args.group) (codes " by ") (instance_text one.member) _ _ c.in_ok-print_item.ensures.written _
    c.in_err-put_all.ensures.bytes)

pub returns-in_err-print_item-2-clause-written : goal.returns-in_err-print_item-2-clause-written
returns-in_err-print_item-2-clause-written g c =
    let same = err_from_is_err_and c.from_residual-in_err-print_item-2.result c.from_residual-in_err-print_item-2.ensures.1 in
    let plan = c.args.plan.now in
    let one = named plan.at (members plan) c.args.group c.in-Some.place (sym c.in-Some.ensures.member) in
    let at : c.index-list-place.result ≡ get_or plan.list (c.in-Some.place - 1) c.index-list-place.result = c.index-list-place.is
    ∙ ap (λ list. get_or list (c.in-Some.place - 1) c.index-list-place.result) c.list.ensures.value in
    rw (same.1, place_line plan c.args.group c.in-Some.place one c.index-list-place.result at)
    (line_cut_third (group_text c.args.group) (codes " by ") (instance_text (written c.index-list-place.result)) _ _ c.in_ok-print_item.ensures.written _
    c.in_ok-put_all.ensures.bytes _ c.in_err-print_item-2.ensures.written)

pub returns-clause-written : goal.returns-clause-written
returns-clause-written g c =
    let plan = c.args.plan.now in
    let one = named plan.at (members plan) c.args.group c.in-Some.place (sym c.in-Some.ensures.member) in
    let at : c.index-list-place.result ≡ get_or plan.list (c.in-Some.place - 1) c.index-list-place.result = c.index-list-place.is
    ∙ ap (λ list. get_or list (c.in-Some.place - 1) c.index-list-place.result) c.list.ensures.value in
    rw (place_line plan c.args.group c.in-Some.place one c.index-list-place.result at)
    (line_ends (group_text c.args.group) (codes " by ") (instance_text (written c.index-list-place.result)) _ _ c.in_ok-print_item.ensures.written _
    c.in_ok-put_all.ensures.bytes _ c.in_ok-print_item-2.ensures.written
    (is_ok c.put_all-2.result) _ c.put_all-2.ensures.bytes)
