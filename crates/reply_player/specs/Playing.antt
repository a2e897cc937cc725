-- A game that is played by a plan: where it stands, and what an answer makes of it.
use Rattle.std.specs.Prelude.{◌≡◌, ℕ, true, false, List, [], ◌∷◌, ◌++◌, Option, Some, None, Err}
use Rattle.game_rules.specs.Position.{Position, has_line, end_of, is_legal, after_move}
use Rattle.game_rules.specs.declared.End.{End}
use Rattle.game_rules.specs.declared.End.TheVariants as ends
use Rattle.game_rules.specs.declared.Side.TheVariants.{White}
use Rattle.plan_rules.specs.Plan.{is_plan, duel, is_playable_list, after_turn, IsAnswered}
use Rattle.rule_compat.specs.Planned.{Planned, members, IsReached}
use Rattle.board_bits.specs.Move.{moved_into}
use Rattle.board_bits.specs.declared.position.MoveFault.{MoveFault}
use Rattle.reply_player.specs.declared.session.Reply.{Reply}
use Rattle.reply_player.specs.declared.session.Reply.TheVariants.{BlackWon, Filled, Move}

-- the plan, and the position that the game has come to
pub record Playing : Type 0 where
  pub plan : Planned
  pub stands : Position

-- the list is a plan, and the position comes from the plan's own by some of White's moves with the plan's answers
pub record IsUnderWay (plan : Planned) (stands : Position) : Type 0 where
  pub is_one : is_plan plan.at (members plan) ≡ true
  pub reached : IsReached plan stands

-- the reply that a man of Black's in a column is, by the end of the game after it; White has no line there
abbrev pub reply_for : Option End → ℕ → Reply
reply_for (Some ends.Black) column = BlackWon column
reply_for (Some ends.Draw) column = Filled column
reply_for (Some ends.White) column = Move column
reply_for None column = Move column

-- the last of some positions
abbrev pub last_of : List Position → Option Position
last_of [] = None
last_of (q ∷ []) = Some q
last_of (q ∷ next ∷ more) = last_of (next ∷ more)

-- The duel of White's columns, each legal at its turn, from the plan's position on ends at this position.
abbrev pub EndsDuel : Planned → List ℕ → Position → Type 0
EndsDuel plan columns q = (is_playable_list (members plan) plan.at columns ≡ true) × (last_of (duel (members plan) plan.at columns) ≡ Some q)

-- White's man went into the column, and Black's by the plan.
pub record HasAnswered (old new : Playing) (column : ℕ) (reply : Reply) : Type 0 where
  pub same_plan : new.plan ≡ old.plan
  pub legal : is_legal old.stands column ≡ true
  -- White's move neither makes a line nor ends the game, and the plan has a playable reply
  pub answered : IsAnswered (members old.plan) old.stands column
  pub next : new.stands ≡ after_move (after_move old.stands column) answered.reply.0
  pub turn : after_turn (members old.plan) old.stands column ≡ Some new.stands
  pub reply_is : reply ≡ reply_for (end_of new.stands) answered.reply.0
  pub no_line : has_line new.stands White ≡ false
  -- the duel whose end is the old position goes on to the new one
  pub follows : (columns : List ℕ) → EndsDuel old.plan columns old.stands → EndsDuel old.plan (columns ++ column ∷ []) new.stands

-- Nothing was changed, and the fault is why no man can be dropped into the column.
abbrev pub IsRefused : Playing → Playing → ℕ → MoveFault → Type 0
IsRefused old new column fault = (new ≡ old) × (moved_into old.stands column ≡ Err fault)
