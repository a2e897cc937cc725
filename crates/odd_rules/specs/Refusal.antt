-- Why a group and a list of pairs are no odd threat: the first of six conditions that holds, with the member, the column
-- or the group that it is about. And the first threat of a position. Both orders are this project's own choice.
-- Members are counted from 1.
use Rattle.std.specs.Prelude.{◌≡◌, ◌≢◌, ◌⊎◌, ◌+◌, ◌<◌, true, false, take, ℕ, zero, suc, not, ◌&&◌, ◌==◌, if◌then◌else◌, List, [], ◌∷◌, map, length}
use Rattle.std.specs.Prelude.{filter, Option, Some, None, is_some, option_and_then}
use Rattle.std.specs.List.{find, flat_map}
use Rattle.std.specs.Option.{option_map, option_or}
use Rattle.game_rules.specs.Board.{Square, below}
use Rattle.game_rules.specs.Position.{Position, board_of, height, has_man, side_to_move, same_side, end_of}
use Rattle.game_rules.specs.Groups.{Group, squares_of, lies_on, groups_of, Precedes}
use Rattle.game_rules.specs.Squares.{has_square}
use Rattle.game_rules.specs.declared.Side.TheVariants.{White, Black}
use Rattle.plan_rules.specs.Squares.{is_odd}
use Rattle.plan_rules.specs.Refusal.{IsFirstOf}
use Rattle.odd_rules.specs.Threat.{Pair, target, is_in_column, share_column, is_pair, bad_pair, is_unpaired, is_safe, holds_pair, is_answered, is_threat}
use Rattle.odd_rules.specs.Threat.{IsTarget, IsPairAt}
use Rattle.odd_rules.specs.Duel.{top_of}

pub data ThreatFault : Type 0 where
  not_black_to_move : ThreatFault
  ended : ThreatFault
  bad_group : ThreatFault  -- the group has no target
  bad_member : ℕ → ThreatFault  -- the first member that is no pair, or shares a column with an earlier one
  unpaired : ℕ → ThreatFault  -- the first column that is in no pair
  unanswered : Group → ThreatFault  -- the first group that is not answered

-- what the pairs are refused for, with the target known: a member, a column from the left, or a group in group order
abbrev pub pairs_refusal : Position → List Pair → Square → Option ThreatFault
pairs_refusal p pairs t =
    option_or (option_map bad_member (bad_pair p t [] 1 pairs))
    (option_or (option_map unpaired (find (is_unpaired p t pairs) (below (length p.columns))))
    (option_map unanswered (find (λ g. not (is_answered p t pairs g)) (groups_of (board_of p)))))

abbrev pub target_refusal : Position → List Pair → Option Square → Option ThreatFault
target_refusal p pairs None = Some bad_group
target_refusal p pairs (Some t) = pairs_refusal p pairs t

-- what the position alone is refused for
abbrev pub position_refusal : Position → Option ThreatFault
position_refusal p = if not (same_side Black (side_to_move p)) then Some not_black_to_move else (if is_some (end_of p) then Some ended else None)

-- why the group and the pairs are no threat, and None where they are one
abbrev pub threat_refusal : Position → Group → List Pair → Option ThreatFault
threat_refusal p g pairs = option_or (position_refusal p) (target_refusal p pairs (target p g))

-- ---- the same in words of members, columns and lines

-- Black is to move, and the game goes on
pub record IsGoing (p : Position) : Type 0 where
  pub black : side_to_move p ≡ Black
  pub going : end_of p ≡ None

-- each member is a pair, and no two share a column
pub record ArePairs (p : Position) (t : Square) (pairs : List Pair) : Type 0 where
  pub fitting : (i : ℕ) (x : Pair) → IsPairAt pairs i x → is_pair p t x ≡ true
  pub apart : (i j : ℕ) (x y : Pair) → i < j → IsPairAt pairs i x → IsPairAt pairs j y → share_column x y ≡ false

-- a member before this place shares a column with the pair
pub record SharesEarlier (pairs : List Pair) (place : ℕ) (x : Pair) : Type 0 where
  pub earlier : ℕ
  pub before : earlier < place
  pub pair : Pair
  pub is_at : IsPairAt pairs earlier pair
  pub shares : share_column x pair ≡ true

-- The member counted so from 1 is no pair or shares a column with an earlier one; those before it are pairs that share
-- none.
pub record IsBadAt (p : Position) (t : Square) (pairs : List Pair) (number : ℕ) : Type 0 where
  pub place : ℕ
  pub counted : number ≡ 1 + place
  pub pair : Pair
  pub is_at : IsPairAt pairs place pair
  pub bad : (is_pair p t pair ≡ false) ⊎ SharesEarlier pairs place pair
  pub earlier : ArePairs p t (take place pairs)

-- a column of the board with an odd number of men, other than the target's, that is in no pair
pub record IsUnpaired (p : Position) (t : Square) (pairs : List Pair) (c : ℕ) : Type 0 where
  pub within : c < length p.columns
  pub beside_target : c ≢ t.0
  pub odd : is_odd (height p c) ≡ true
  pub alone : (i : ℕ) (x : Pair) → IsPairAt pairs i x → is_in_column c x ≡ false

-- a line without a White man that has no square that Black never gets, and not both squares of any pair
pub record IsUnanswered (p : Position) (t : Square) (pairs : List Pair) (g : Group) : Type 0 where
  pub line : lies_on (board_of p) g ≡ true
  pub no_white : (u : Square) → has_square (squares_of g) u ≡ true → has_man p White u ≡ false
  pub no_safe : (u : Square) → has_square (squares_of g) u ≡ true → is_safe p t pairs u ≡ false
  pub no_pair : (i : ℕ) (x : Pair) → IsPairAt pairs i x → holds_pair g x ≡ false

-- a fault's own condition holds, and that of no fault before it
abbrev pub IsRefusal : Position → Group → List Pair → ThreatFault → Type 0
IsRefusal p g pairs not_black_to_move = side_to_move p ≡ White
IsRefusal p g pairs ended = (side_to_move p ≡ Black) × (end_of p ≢ None)
IsRefusal p g pairs bad_group = IsGoing p × ((t : Square) → IsTarget p g t → ⊥)
IsRefusal p g pairs (bad_member i) = IsGoing p × (t : Square) × IsTarget p g t × IsBadAt p t pairs i
IsRefusal p g pairs (unpaired c) = IsGoing p × (t : Square) × IsTarget p g t × ArePairs p t pairs × IsFirstOf (IsUnpaired p t pairs) (λ c d. c < d) c
IsRefusal p g pairs (unanswered h) =
    IsGoing p × (t : Square) × IsTarget p g t × ArePairs p t pairs × ((c : ℕ) → IsUnpaired p t pairs c → ⊥)
    × IsFirstOf (IsUnanswered p t pairs) Precedes h

-- ---- the first threat

-- the columns with an odd number of men, the target's aside, from the left
abbrev pub odd_columns : Position → Square → List ℕ
odd_columns p t = filter (λ c. not (c == t.0) && is_odd (height p c)) (below (length p.columns))

-- a column, and the others in their order
abbrev pub Pick : Type 0
Pick = ℕ × List ℕ

-- each element of a list, with the others
abbrev pub picks : List ℕ → List Pick
picks [] = []
picks (c ∷ cs) = (c, cs) ∷ map (λ (pick : Pick). (pick.0, c ∷ pick.1)) (picks cs)

-- the lowest empty squares of two columns
abbrev pub tops : Position → ℕ → ℕ → Pair
tops p c d = (top_of p c, top_of p d)

-- The ways to pair some columns, no more than n pairs: the first column with each later one, in order, and then the
-- columns that are left.
unfoldable pub pairings : ℕ → Position → List ℕ → List (List Pair)
pairings n p [] = [] ∷ []
pairings zero p (c ∷ cs) = []
pairings (suc n) p (c ∷ cs) = flat_map (λ (pick : Pick). map (λ rest. tops p c pick.0 ∷ rest) (pairings n p pick.1)) (picks cs)

-- the first pairing with which the group is a threat
abbrev pub threat_by : Position → Group → Option (List Pair)
threat_by p g =
    option_and_then (λ t. find (is_threat p g) (pairings (length (odd_columns p t)) p (odd_columns p t))) (target p g)

-- the first group of a list that is a threat with some pairing, and its first one
abbrev pub first_by : Position → List Group → Option (Group × List Pair)
first_by p [] = None
first_by p (g ∷ gs) = option_or (option_map {U = Group × List Pair} (λ pairs. (g, pairs)) (threat_by p g)) (first_by p gs)

-- the first group, in group order, that is a threat, and the first list of pairs with which it is one
unfoldable pub first_threat : Position → Option (Group × List Pair)
first_threat p = first_by p (groups_of (board_of p))
