-- The games of a drill, made and searched one after the other.
use Rattle.std.proofs.Common.{◌≡◌, ℕ, suc, ◌+◌, List, [], ◌∷◌, ◌++◌, sym, ap, ◌∙◌, subst, append-nil, append_assoc}
use Rattle.std.proofs.Common.{arith}
use Rattle.game_rules.specs.Board.{Board}
use Rattle.game_rules.specs.Position.{Position}
use Rattle.drill_games.specs.Games.{games_from}
use Rattle.drill_games.specs.Summary.{IsSummary, counted}
use Rattle.drill_games.specs.declared.tally.Tally.{Tally}

module _ (cost : Position → ℕ) (nodes : ℕ) (all : List Position) (size : Board) (moves games : ℕ) where
  -- So many games were made and counted, and the state is the one that the others go on from.
  pub record Drilled (done state : ℕ) (tally : Tally) : Type 0 where
    pub made : List Position
    pub summary : IsSummary cost nodes made tally
    pub number : counted tally ≡ done
    pub rest : (left : ℕ) → done + left ≡ games → all ≡ made ++ games_from left size moves state

  pub drilled_more : (done state after : ℕ) (tally next : Tally) (game : Position) (drilled : Drilled done state tally)
      → ((count : ℕ) → games_from (suc count) size moves state ≡ game ∷ games_from count size moves after)
      → counted next ≡ counted tally + 1 → IsSummary cost nodes (drilled.made ++ game ∷ []) next → Drilled (done + 1) after next
  drilled_more done state after tally next game drilled list more right = record {
    made = (drilled.made ++ game ∷ []);
    summary = right;
    number = more ∙ ap (λ n. n + 1) drilled.number;
    rest = λ left whole.
        drilled.rest (suc left) (omega (arith, whole)) ∙ ap (λ games. drilled.made ++ games) (list left)
        ∙ sym (append_assoc drilled.made (game ∷ []) (games_from left size moves after));
  }

  pub all_drilled : (done state : ℕ) (tally : Tally) → Drilled done state tally → done ≡ games → IsSummary cost nodes all tally
  unfolding games_from
  all_drilled done state tally drilled whole =
      subst (λ games. IsSummary cost nodes games tally) (sym (drilled.rest 0 (omega (arith, whole)) ∙ append-nil drilled.made)) drilled.summary
