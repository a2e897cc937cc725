-- What a report names, as its text, and instances in a row.
use Rattle.std.specs.Prelude.{ℕ, List, ◌∷◌, flat_map}
use Rattle.plan_rules.specs.Rules.{RuleInstance}
use Rattle.plan_text.specs.Items.{square_text, group_text, instance_text}
use Rattle.rule_compat.specs.Written.{written}
use Rattle.plan_lines.specs.declared.items.Item.{Item}
use Rattle.plan_lines.specs.declared.items.Item.TheVariants.{OneSquare, OneGroup, OneInstance}

abbrev pub item_text : Item → List ℕ
item_text (OneSquare u) = square_text u
item_text (OneGroup g) = group_text g
item_text (OneInstance x) = instance_text (written x)

-- instances with a space before each
abbrev pub members_text : List RuleInstance → List ℕ
members_text ws = flat_map (λ w. 32 ∷ instance_text w) ws
