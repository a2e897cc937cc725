-- What a valuer tells of a position, and the mark that two values give a move.
use Rattle.std.specs.Prelude.{◌≡◌, Bool, true, false, if◌then◌else◌, Option, Some, None}
use Rattle.game_rules.specs.Position.{Position}
use Rattle.game_rules.specs.Value.{same_end, value}
use Rattle.game_rules.specs.declared.End.{End}
use Rattle.tool_text.specs.declared.Mark.{Mark}
use Rattle.tool_text.specs.declared.Mark.TheVariants.{Fine, Bad, Open}

-- what is told of a position: its value, or nothing, and what holds of it where its value was found, or is wanting
abbrev pub IsTold : (Position → Bool → Type 0) → Position → Option End → Type 0
IsTold Holds p (Some end) = Holds p true × (value p ≡ end)
IsTold Holds p None = Holds p false

-- the mark of a move by what is told before and after it; it is left open where one of the two isn't
abbrev pub mark_by : Option End → Option End → Mark
mark_by (Some before) (Some after) = if same_end before after then Fine else Bad
mark_by (Some before) None = Open
mark_by None after = Open
