-- Which rule names twins, and to which squares a rule names no reply, by its kind and its zone alone. They are a part
-- of this project's own profile "after Allis".
use Rattle.std.specs.Prelude.{Bool, true, false, not, ◌&&◌, ◌||◌, ◌==◌, List}
use Rattle.std.specs.List.{list_any}
use Rattle.game_rules.specs.Board.{Square}
use Rattle.game_rules.specs.Position.{Position, has_room}
use Rattle.game_rules.specs.Squares.{has_square}
use Rattle.plan_rules.specs.Squares.{above}
use Rattle.plan_rules.specs.declared.Kind.{Kind}
use Rattle.plan_rules.specs.declared.Kind.TheVariants.{Claimeven, Baseinverse, Lowinverse}

-- a Baseinverse alone names twins
abbrev pub names_twins : Kind → Bool
names_twins Baseinverse = true
names_twins kind = false

-- the square above isn't in the zone: in a zone of columns, the square is the top of its column
abbrev pub is_top : List Square → Square → Bool
is_top zone u = not (has_square zone (above u))

-- another column of the zone is full
abbrev pub is_full_beside : List Square → Position → Square → Bool
is_full_beside zone now last = list_any (λ u. not (u.0 == last.0) && not (has_room now u.0)) zone

-- of the squares of its zone: a Claimeven's upper square, and a Lowinverse's top while the other column is full
abbrev pub leaves_open : Kind → List Square → Position → Square → Bool
leaves_open Claimeven zone now last = is_top zone last
leaves_open Lowinverse zone now last = is_top zone last && is_full_beside zone now last
leaves_open kind zone now last = false

-- the rule names no square to reply with: the square isn't in the zone, or is one of those above
abbrev pub names_no_reply : Kind → List Square → Position → Square → Bool
names_no_reply kind zone now last = not (has_square zone last) || leaves_open kind zone now last
