-- When four counts are right of some games, of each of which a search with a budget told the value or gave up. A game
-- counts by its value for the side to move. How much a game costs is the caller's to say.
use Rattle.std.specs.Prelude.{◌≡◌, ℕ, ◌+◌, ◌≤◌, ◌<◌, Bool, ◌&&◌, nat_le, nat_lt, List, length, count_by}
use Rattle.game_rules.specs.Position.{Position, side_to_move, other}
use Rattle.game_rules.specs.Value.{value, wins, same_end}
use Rattle.game_rules.specs.declared.End.TheVariants as ends
use Rattle.proof_text.specs.Right.{IsTrueVerdict}
use Rattle.proof_text.specs.declared.Verdict.{Verdict}
use Rattle.proof_text.specs.declared.Verdict.TheVariants as verdicts
use Rattle.drill_games.specs.declared.tally.Tally.{Tally}

-- the side to move wins, the other side does, or neither
abbrev pub is_won : Position → Bool
is_won p = wins (side_to_move p) p

abbrev pub is_lost : Position → Bool
is_lost p = wins (other (side_to_move p)) p

abbrev pub is_drawn : Position → Bool
is_drawn p = same_end ends.Draw (value p)

-- the count is at least the games of the kind that cost no more than the budget, and at most all games of the kind
pub record IsCountOf (kind : Position → Bool) (cost : Position → ℕ) (nodes : ℕ) (games : List Position) (count : ℕ) : Type 0 where
  pub least : count_by (λ p. kind p && nat_le (cost p) nodes) games ≤ count
  pub most : count ≤ count_by kind games

-- the four counts are right of the games
pub record IsSummary (cost : Position → ℕ) (nodes : ℕ) (games : List Position) (tally : Tally) : Type 0 where
  pub won : IsCountOf is_won cost nodes games tally.won
  pub drawn : IsCountOf is_drawn cost nodes games tally.drawn
  pub lost : IsCountOf is_lost cost nodes games tally.lost
  pub unknown : tally.unknown ≤ count_by (λ p. nat_lt nodes (cost p)) games
  pub all : tally.won + tally.drawn + tally.lost + tally.unknown ≡ length games

-- what a search with a budget may tell of a game: what is true, and nothing only where the game costs more
pub record MayTell (cost : Position → ℕ) (nodes : ℕ) (game : Position) (verdict : Verdict) : Type 0 where
  pub is_true : IsTrueVerdict game verdict
  pub dear : verdict ≡ verdicts.Unknown → nodes < cost game

-- how many games were counted
abbrev pub counted : Tally → ℕ
counted tally = tally.won + tally.drawn + tally.lost + tally.unknown
