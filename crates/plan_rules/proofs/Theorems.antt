-- What the laws of the crate say, from the strategy and the nine rules.
use Rattle.std.proofs.Common.{◌≡◌, ◌≢◌, ℕ, true, false, List, Some, ap, inl, inr}
use Rattle.std.specs.List.{slice_get}
use Rattle.std.proofs.lemmas.Bool.{cases_eq, both_ways}
use Rattle.game_rules.specs.Board.{Square}
use Rattle.game_rules.specs.Position.{Position, has_line, is_legal}
use Rattle.game_rules.specs.Value.{value, wins, same_end}
use Rattle.game_rules.specs.Laws.{HasLine}
use Rattle.game_rules.specs.Squares.{has_square, is_empty}
use Rattle.game_rules.specs.declared.Side.TheVariants as sides
use Rattle.game_rules.specs.declared.End.TheVariants as ends
use Rattle.game_rules.proofs.Lists.{all_gives}
use Rattle.game_rules.proofs.Ends.{has_line_from}
use Rattle.game_rules.proofs.Squares.{agree, has_gives}
use Rattle.plan_rules.specs.Rules.{RuleInstance, zone_of, together}
use Rattle.plan_rules.specs.Plan.{is_plan, IsMember, IsKept, IsAnswered, IsTurn, after_turns, duel, is_playable_list}
use Rattle.plan_rules.proofs.Table.{together_sym, zones_apart}
use Rattle.plan_rules.proofs.Plans.{plan_gives}
use Rattle.plan_rules.proofs.Grounds.{fits_empty, members_together}
use Rattle.plan_rules.proofs.AllRules.{lawful}
use Rattle.plan_rules.proofs.Strategy.{first_kept, kept_at, answered_at, turn_in_duel, no_line_in_duel, white_never_wins}

pub together_orders : (v w : RuleInstance) → together v w ≡ together w v
together_orders v w = agree (together v w) (together w v) (together_sym v w) (together_sym w v)

pub one_zone : (p : Position) (ws : List RuleInstance) (i j : ℕ) (v w : RuleInstance) (u : Square) → is_plan p ws ≡ true → IsMember ws i v → IsMember ws j w
    → has_square (zone_of v) u ≡ true → has_square (zone_of w) u ≡ true → i ≡ j
one_zone p ws i j v w u is left right in_v in_w =
    let plan = plan_gives p ws is in
    elim (cases_eq i j) [
      | inl same ↦ same
      | inr apart ↦ absurd (zones_apart v w u (members_together p p ws plan (λ u m h. h) (first_kept lawful p ws plan).calms i j v w apart left right) in_v
          in_w)
    ]

pub zones_empty : (p : Position) (ws : List RuleInstance) (i : ℕ) (w : RuleInstance) (u : Square) → is_plan p ws ≡ true → IsMember ws i w
    → has_square (zone_of w) u ≡ true → is_empty p u ≡ true
zones_empty p ws i w u is member owned = all_gives (is_empty p) (zone_of w) u (fits_empty w p ((plan_gives p ws is).fitting i w member))
    (has_gives (zone_of w) u owned)

pub plan_kept : (p : Position) (ws : List RuleInstance) (columns : List ℕ) (q : Position) → is_plan p ws ≡ true → after_turns ws p columns ≡ Some q
    → IsKept p ws q
plan_kept p ws columns q is h = kept_at lawful p ws (plan_gives p ws is) columns q h

pub plan_answers : (p : Position) (ws : List RuleInstance) (columns : List ℕ) (q : Position) (column : ℕ) → is_plan p ws ≡ true
    → after_turns ws p columns ≡ Some q → is_legal q column ≡ true → IsAnswered ws q column
plan_answers p ws columns q column is h legal = answered_at lawful p ws (plan_gives p ws is) columns q h column legal

pub duel_turns : (p : Position) (ws : List RuleInstance) (columns : List ℕ) (i column : ℕ) → is_plan p ws ≡ true → is_playable_list ws p columns ≡ true
    → slice_get columns i ≡ Some column → IsTurn p ws (duel ws p columns) i column
duel_turns p ws columns i column is played at = turn_in_duel lawful p ws (plan_gives p ws is) columns played i column at

pub duel_no_line : (p : Position) (ws : List RuleInstance) (columns : List ℕ) (i : ℕ) (q : Position) → is_plan p ws ≡ true
    → is_playable_list ws p columns ≡ true → slice_get (duel ws p columns) i ≡ Some q → HasLine q sides.White → ⊥
duel_no_line p ws columns i q is played at line = both_ways (has_line q sides.White) (no_line_in_duel lawful p ws (plan_gives p ws is) columns played i q at)
    (has_line_from q sides.White line)

pub plan_wins : (p : Position) (ws : List RuleInstance) → is_plan p ws ≡ true → wins sides.White p ≡ false
plan_wins p ws is = white_never_wins lawful p ws (plan_gives p ws is)

pub plan_value : (p : Position) (ws : List RuleInstance) → is_plan p ws ≡ true → value p ≢ ends.White
plan_value p ws is white = both_ways (wins sides.White p) (plan_wins p ws is) (ap (same_end ends.White) white)
