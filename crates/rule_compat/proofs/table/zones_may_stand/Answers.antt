use Rattle.std.proofs.Common.{◌≡◌, Bool, false, not, ◌&&◌, ◌||◌, refl, sym, ap, ◌∙◌}
use Rattle.std.proofs.lemmas.Bool.{and_from, and_left, or_left, or_right, or_from, not_from_true, not_from_false}
use Rattle.plan_rules.proofs.TableBySets.{together_of_sets}
use Rattle.rule_compat.specs.Written.{written}
use Rattle.rule_compat.proofs.table.zones_may_stand.Goals as goal

-- where no column is apart and no square shared, and the one isn't over the other, the other way decides
other_way : (apart shared over under : Bool) → apart ≡ false → shared ≡ false → over ≡ false → (apart || (not shared && (over || under))) ≡ under
other_way apart shared over under a b c = rw (a, b, c) refl

pub returns-then-not-meets : goal.returns-then-not-meets
returns-then-not-meets c =
    let table = together_of_sets (written c.args.a.now) (written c.args.b.now) c.args.a_zone.now c.args.b_zone.now c.args.a_columns.now c.requires.a_owns
    c.requires.b_owns c.requires.a_columns in
    sym (table ∙ or_left _ _ (ap not (sym c.meets.ensures ∙ c.if-not-meets.true)))

pub returns-then-meets : goal.returns-then-meets
returns-then-meets c =
    let table = together_of_sets (written c.args.a.now) (written c.args.b.now) c.args.a_zone.now c.args.b_zone.now c.args.a_columns.now c.requires.a_owns
    c.requires.b_owns c.requires.a_columns in
    sym (table ∙ or_from _ _ (ap not (sym c.meets.ensures ∙ c.if-not-meets.false)) (and_left _ _ (not_from_true _ (sym c.meets-2.ensures ∙ c.if-meets.true))))

pub returns-then-stands_over : goal.returns-then-stands_over
returns-then-stands_over c =
    let table = together_of_sets (written c.args.a.now) (written c.args.b.now) c.args.a_zone.now c.args.b_zone.now c.args.a_columns.now c.requires.a_owns
    c.requires.b_owns c.requires.a_columns in
    c.if-stands_over.true ∙ sym (table
    ∙ or_right _ _ (and_from _ _ (not_from_false _ (sym c.meets-2.ensures ∙ c.if-meets.false))
    (or_left _ _ (sym c.stands_over.ensures ∙ c.if-stands_over.true))))

pub returns-else-stands_over : goal.returns-else-stands_over
returns-else-stands_over c =
    let table = together_of_sets (written c.args.a.now) (written c.args.b.now) c.args.a_zone.now c.args.b_zone.now c.args.a_columns.now c.requires.a_owns
    c.requires.b_owns c.requires.a_columns in
    c.stands_over-else-stands_over.ensures
    ∙ sym (table ∙ other_way _ _ _ _ (ap not (sym c.meets.ensures ∙ c.if-not-meets.false)) (sym c.meets-2.ensures ∙ c.if-meets.false)
    (sym c.stands_over.ensures ∙ c.if-stands_over.false))
