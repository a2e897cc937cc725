use Rattle.std.proofs.Common.{◌++◌, ◌∷◌, [], sym, ap, ◌∙◌}
use Rattle.rule_chooser.proofs.FreeGroups.{open_added, open_left}
use Rattle.rule_chooser.proofs.groups.add_open.Goals as goal

pub returns-then-not-meets : goal.returns-then-not-meets
returns-then-not-meets c =
    c.push.ensures.items
    ∙ ap (λ g. c.args.groups.now.items ++ record { id = g; empty = c.intersection.result } ∷ []) c.id.ensures
    ∙ open_added c.args.men c.args.empties c.squares-squares.result c.intersection.result c.args.group.now c.squares-squares.ensures c.intersection.ensures
    (sym c.meets.ensures ∙ c.if-not-meets.true) c.args.groups.now.items

pub returns-else-not-meets : goal.returns-else-not-meets
returns-else-not-meets c = open_left c.args.men c.args.empties c.squares-squares.result c.args.group.now c.squares-squares.ensures
    (sym c.meets.ensures ∙ c.if-not-meets.false) c.args.groups.now.items
