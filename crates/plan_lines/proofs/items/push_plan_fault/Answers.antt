use Rattle.std.proofs.Common.{decimal, codes, append_assoc}
use Rattle.plan_text.specs.Items.{square_text, group_text}
use Rattle.plan_lines.proofs.items.push_plan_fault.Goals as goal

pub returns-in-Uncovered-clause-items : goal.returns-in-Uncovered-clause-items
returns-in-Uncovered-clause-items c =
    rw (c.push_square.ensures.items, c.push_text-in-Uncovered.ensures.items, c.in-Uncovered.is)
    (append_assoc c.args.line.now.items (codes "Uncovered ") (square_text c.in-Uncovered.square))

pub returns-in-Unsupported-clause-items : goal.returns-in-Unsupported-clause-items
returns-in-Unsupported-clause-items c =
    rw (c.push_number-in-Unsupported.ensures.items, c.push_text-in-Unsupported.ensures.items, c.in-Unsupported.is)
    (append_assoc c.args.line.now.items (codes "Unsupported ") (decimal c.in-Unsupported.member))

pub returns-in-Unanswered-clause-items : goal.returns-in-Unanswered-clause-items
returns-in-Unanswered-clause-items c =
    rw (c.push_group.ensures.items, c.push_text-in-Unanswered.ensures.items, c.in-Unanswered.is)
    (append_assoc c.args.line.now.items (codes "Unanswered ") (group_text c.in-Unanswered.group))
