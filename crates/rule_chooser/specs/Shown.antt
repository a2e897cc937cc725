-- What is chosen, as the definitions see it.
use Rattle.std.specs.Prelude.{◌≡◌, ⊤}
use Rattle.game_rules.specs.Position.{Position}
use Rattle.walk_rules.specs.Walk.{Chosen, gave, no_plan, spent}
use Rattle.rule_compat.specs.Planned.{members}
use Rattle.rule_chooser.specs.declared.chooser.Choice.{Choice}
use Rattle.rule_chooser.specs.declared.chooser.Choice.TheVariants as choices

abbrev pub shown : Choice → Chosen
shown (choices.Gave plan) = gave (members plan)
shown choices.NoPlan = no_plan
shown choices.Spent = spent

-- a plan that is chosen is one at this position
abbrev pub IsOf : Position → Choice → Type 0
IsOf p (choices.Gave plan) = plan.at ≡ p
IsOf p choices.NoPlan = ⊤
IsOf p choices.Spent = ⊤
