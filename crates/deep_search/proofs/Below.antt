-- Where the lemmas of a search stand: at positions with fewer empty squares than a limit.
use Rattle.std.proofs.Common.{◌≡◌, ℕ, zero, suc, ◌+◌, ◌<◌, ◌≤◌, List, [], ◌∷◌, ◌++◌, Some, Result, Ok, Err, ap, arith}
use Rattle.game_rules.specs.Position.{Position, empty_count}
use Rattle.proof_text.proofs.Spaced.{all_append, all_each}
use Rattle.proof_text.specs.declared.Claim.{Claim}
use Rattle.proof_text.specs.Right.{Shown, Shows}
use Rattle.deep_search.specs.Search.{AreBelow, limit_of}
use Rattle.deep_search.specs.declared.solving.Answer.{Answer}
use Rattle.deep_search.specs.declared.solving.SearchStop.{SearchStop}
use Rattle.deep_search.specs.declared.solving.SearchStop.TheVariants.{Spent, WriteFault}

pub below_raised : (limit raised : ℕ) (shown : List Shown) → limit ≤ raised → AreBelow limit shown → AreBelow raised shown
below_raised limit raised shown more below = all_each (λ s. empty_count s.0 < limit) (λ s. empty_count s.0 < raised) shown (λ s low. omega arith) below

pub below_both : (limit : ℕ) (first rest : List Shown) → AreBelow limit first → AreBelow limit rest → AreBelow limit (first ++ rest)
below_both limit first rest = all_append (λ s. empty_count s.0 < limit) first rest

pub limit_least : (p : Position) (result : Result Answer SearchStop) → empty_count p ≤ limit_of p result
limit_least p (Ok answer) = omega arith
limit_least p (Err Spent) = omega arith
limit_least p (Err WriteFault) = omega arith

pub limit_most : (p : Position) (result : Result Answer SearchStop) → limit_of p result ≤ empty_count p + 1
limit_most p (Ok answer) = omega arith
limit_most p (Err Spent) = omega arith
limit_most p (Err WriteFault) = omega arith

-- lemmas of positions with fewer empty squares show nothing of this one
pub none_here : (root : Position) (claim : Claim) (shown : List Shown) (n : ℕ) → AreBelow (empty_count root) shown → Shows shown n root claim → ⊥
none_here root claim shown zero below named = cc
none_here root claim [] (suc i) below named = cc
none_here root claim (s ∷ shown) (suc zero) below named =
    let same : empty_count s.0 ≡ empty_count root = ap empty_count (position_is named) in
    absurd (omega (arith, below.0, same))
  where
    position_is : Some s ≡ Some (root, claim) → s.0 ≡ root
    position_is e = cc
none_here root claim (s ∷ shown) (suc (suc i)) below named = none_here root claim shown (suc i) below.1 named
