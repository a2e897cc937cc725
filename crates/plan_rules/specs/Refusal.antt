-- Why a list of instances is no plan: the first of seven conditions that holds, with the members, the square or the
-- group that it is about. Which of several is told is this project's own choice. Members are counted from 1.
use Rattle.std.specs.Prelude.{◌≡◌, ◌≢◌, ◌⊎◌, ℕ, Bool, true, false, not, ◌&&◌, if◌then◌else◌, List, Option, Some, None, is_some}
use Rattle.std.specs.List.{list_all, list_any, find, position_from}
use Rattle.std.specs.Option.{option_map, option_or}
use Rattle.game_rules.specs.Board.{Square}
use Rattle.game_rules.specs.Position.{Position, board_of, has_man, side_to_move, same_side, end_of}
use Rattle.game_rules.specs.Squares.{has_square, is_empty, squares_of_board, Precedes as SquarePrecedes}
use Rattle.game_rules.specs.Groups.{Group, squares_of, lies_on, groups_of, Precedes as GroupPrecedes}
use Rattle.game_rules.specs.declared.Side.TheVariants.{White, Black}
use Rattle.plan_rules.specs.Rules.{RuleInstance, zone_of, fits, facts_of, barred, is_supported, together}
use Rattle.plan_rules.specs.Plan.{each_two, has_owner, empty_part, is_barred, IsMember}
use Rattle.plan_rules.specs.Zones.{first_two_from, IsFirstAt, IsLeastTwo}

pub data PlanFault : Type 0 where
  not_white_to_move : PlanFault
  ended : PlanFault
  misfit : ℕ → PlanFault  -- the first member that doesn't fit
  clash : ℕ → ℕ → PlanFault  -- two members that may not stand together
  uncovered : Square → PlanFault  -- the first empty square in no zone
  unsupported : ℕ → PlanFault  -- the first standing member without support
  unanswered : Group → PlanFault  -- the first group without a Black man that no member bars

-- an empty square in no zone
abbrev pub is_uncovered : Position → List RuleInstance → Square → Bool
is_uncovered p ws u = is_empty p u && not (has_owner ws u)

-- a line without a Black man that no member bars
abbrev pub is_unanswered : Position → List RuleInstance → Group → Bool
is_unanswered p ws g = not (list_any (has_man p Black) (squares_of g)) && not (is_barred p ws g)

-- what the members are refused for: one that doesn't fit, or two that may not stand together
abbrev pub members_refusal : Position → List RuleInstance → Option PlanFault
members_refusal p ws =
    option_or (option_map misfit (position_from (λ w. not (fits w p)) 1 ws)) (option_map (λ two. clash two.0 two.1) (first_two_from together 1 ws))

-- what such members then leave open: a square, in square order, a support, or a group, in group order
abbrev pub cover_refusal : Position → List RuleInstance → Option PlanFault
cover_refusal p ws =
    option_or (option_map uncovered (find (is_uncovered p ws) (squares_of_board (board_of p))))
    (option_or (option_map unsupported (position_from (λ w. not (is_supported w (facts_of p ws))) 1 ws))
    (option_map unanswered (find (is_unanswered p ws) (groups_of (board_of p)))))

-- why the list is no plan, and None where it is one
abbrev pub plan_refusal : Position → List RuleInstance → Option PlanFault
plan_refusal p ws =
    if not (same_side White (side_to_move p)) then Some not_white_to_move
    else (if is_some (end_of p) then Some ended else option_or (members_refusal p ws) (cover_refusal p ws))

-- the first member that bars the empty squares of a line
abbrev pub first_barring : Position → List RuleInstance → Group → Option ℕ
first_barring p ws g = position_from (λ w. barred w (facts_of p ws) (empty_part p g)) 1 ws

-- the member that answers a line: none where the line has a Black man
abbrev pub answering : Position → List RuleInstance → Group → Option ℕ
answering p ws g = if list_any (has_man p Black) (squares_of g) then None else first_barring p ws g

-- each member fits, and each two may stand together: whatever else there is to refuse, the members are not
pub record StandTogether (p : Position) (ws : List RuleInstance) : Type 0 where
  pub fitting : list_all (λ w. fits w p) ws ≡ true
  pub standing : each_two together ws ≡ true

-- ---- the same in words of members, squares and lines

-- White is to move, and the game goes on
pub record IsGoing (p : Position) : Type 0 where
  pub white : side_to_move p ≡ White
  pub going : end_of p ≡ None

-- the square is empty, and no member has it in its zone
pub record IsUncovered (p : Position) (ws : List RuleInstance) (u : Square) : Type 0 where
  pub empty : is_empty p u ≡ true
  pub no_zone : (i : ℕ) (w : RuleInstance) → IsMember ws i w → has_square (zone_of w) u ≡ false

-- the group is a line of the board, it has no Black man, and no member bars its empty squares
pub record IsUnanswered (p : Position) (ws : List RuleInstance) (g : Group) : Type 0 where
  pub line : lies_on (board_of p) g ≡ true
  pub no_black : (u : Square) → has_square (squares_of g) u ≡ true → has_man p Black u ≡ false
  pub no_bar : (i : ℕ) (w : RuleInstance) → IsMember ws i w → barred w (facts_of p ws) (empty_part p g) ≡ false

-- it is one of its kind, and stands before each other one
pub record IsFirstOf {X : Type 0} (Is : X → Type 0) (Before : X → X → Type 0) (x : X) : Type 0 where
  pub is_one : Is x
  pub first : (y : X) → Is y → (x ≡ y) ⊎ Before x y

-- the members are not refused, each empty square has a zone, and each member is supported
pub record IsCovered (p : Position) (ws : List RuleInstance) : Type 0 where
  pub members : StandTogether p ws
  pub covered : (u : Square) → IsUncovered p ws u → ⊥

pub record IsSupported (p : Position) (ws : List RuleInstance) : Type 0 where
  pub cover : IsCovered p ws
  pub supported : (i : ℕ) (w : RuleInstance) → IsMember ws i w → is_supported w (facts_of p ws) ≡ true

-- a fault's own condition holds, and that of no fault before it
abbrev pub IsRefusal : Position → List RuleInstance → PlanFault → Type 0
IsRefusal p ws not_white_to_move = side_to_move p ≡ Black
IsRefusal p ws ended = (side_to_move p ≡ White) × (end_of p ≢ None)
IsRefusal p ws (misfit i) = IsGoing p × IsFirstAt (λ w. not (fits w p)) 1 ws i
IsRefusal p ws (clash i j) = IsGoing p × ((k : ℕ) (w : RuleInstance) → IsMember ws k w → fits w p ≡ true) × IsLeastTwo together 1 ws i j
IsRefusal p ws (uncovered u) = IsGoing p × StandTogether p ws × IsFirstOf (IsUncovered p ws) SquarePrecedes u
IsRefusal p ws (unsupported i) = IsGoing p × IsCovered p ws × IsFirstAt (λ w. not (is_supported w (facts_of p ws))) 1 ws i
IsRefusal p ws (unanswered g) = IsGoing p × IsSupported p ws × IsFirstOf (IsUnanswered p ws) GroupPrecedes g
