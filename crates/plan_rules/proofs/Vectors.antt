-- The definitions, computed at positions whose answers are known from outside, each plan also without the member that
-- decides.
use Rattle.std.proofs.Common.{◌≡◌, ℕ, ◌+◌, Bool, true, false, List, [], ◌∷◌, ◌++◌, length, Option, Some, None, refl}
use Rattle.std.specs.Option.{option_map_or}
use Rattle.game_rules.specs.Board.{Square}
use Rattle.game_rules.specs.Position.{Position, empty_position, height, end_of, after_move}
use Rattle.game_rules.specs.Squares.{has_square}
use Rattle.game_rules.specs.declared.End.{End}
use Rattle.game_rules.specs.declared.End.TheVariants as ends
use Rattle.game_rules.specs.declared.Length.TheVariants.{Five}
use Rattle.game_rules.specs.declared.Way.TheVariants.{H, U}
use Rattle.game_rules.proofs.Samples.{board_of_four, after_moves}
use Rattle.plan_rules.proofs.Samples.{group_of_four, columns_a_b, six_zones, crossed, only_claimevens, even_moves, six_men, narrow_moves, few_left}
use Rattle.plan_rules.specs.Rules.{RuleInstance, claimeven, baseinverse, lowinverse, highinverse, baseclaim, vertical, aftereven, before, specialbefore}
use Rattle.plan_rules.specs.Rules.{is_shaped, facts_of, barred, together}
use Rattle.plan_rules.specs.Plan.{is_plan, plan_reply, after_turn, duel, is_playable_list}

-- whether a list is a plan after some moves
abbrev planned : ℕ → ℕ → List ℕ → List RuleInstance → Option Bool
planned cols rows moves ws = after_moves (λ p. is_plan p ws) cols rows moves

-- White's squares and Black's replies, and how the game stands at the end
abbrev replies : List RuleInstance → Position → List ℕ → List (Square × Option Square) × Option End
replies ws q [] = ([], end_of q)
replies ws q (column ∷ columns) =
    let now = after_move q column in
    let last : Square = (column, height q column + 1) in
    let rest : List (Square × Option Square) × Option End = option_map_or (λ next. replies ws next columns) (after_turn ws q column) ([], end_of now) in
    ((last, plan_reply ws now last) ∷ rest.0, rest.1)

abbrev answered : ℕ → ℕ → List ℕ → List RuleInstance → List ℕ → Option (List (Square × Option Square) × Option End)
answered cols rows moves ws columns = after_moves (λ p. replies ws p columns) cols rows moves

six_zone_plan : planned 4 4 [] six_zones ≡ Some true
six_zone_plan = refl

with_before : planned 4 4 [] (six_zones ++ before (group_of_four (0, 2) H) ∷ []) ≡ Some true
with_before = refl

with_aftereven : planned 4 4 [] (six_zones ++ aftereven (group_of_four (0, 2) H) ∷ []) ≡ Some false
with_aftereven = refl

without_lowinverse : planned 4 4 [] (columns_a_b ++ baseinverse (2, 1) (3, 1) ∷ []) ≡ Some false
without_lowinverse = refl

uncovered_square : planned 4 4 [] (columns_a_b ++ lowinverse (2, 2) (2, 4) (3, 2) (3, 4) ∷ []) ≡ Some false
uncovered_square = refl

no_baseinverse : planned 4 4 [] only_claimevens ≡ Some false
no_baseinverse = refl

-- a board that no line of five fits leaves no line to bar
no_line_of_five : is_plan (empty_position (record { cols = 4; rows = 4; len = Five })) only_claimevens ≡ true
no_line_of_five = refl

with_highinverse : planned 4 4 [] (columns_a_b ++ baseinverse (2, 1) (3, 1) ∷ highinverse (2, 2) (3, 2) ∷ []) ≡ Some true
with_highinverse = refl

clashing_zones : planned 4 4 [] crossed ≡ Some false
clashing_zones = refl

the_clash : (together (baseinverse (0, 1) (2, 1)) (baseinverse (1, 1) (3, 1)) ≡ true)
    × (together (baseinverse (0, 1) (2, 1)) (lowinverse (0, 2) (0, 4) (1, 2) (1, 4)) ≡ false)
    × (together (claimeven (0, 1)) (highinverse (0, 2) (1, 2)) ≡ false)
the_clash = (refl, refl, refl)

abbrev six_by_six : List RuleInstance
six_by_six = claimeven (0, 1) ∷ claimeven (0, 3) ∷ claimeven (0, 5) ∷ claimeven (1, 1) ∷ claimeven (1, 3) ∷ claimeven (1, 5) ∷ claimeven (4, 1)
    ∷ claimeven (4, 3) ∷ claimeven (4, 5) ∷ claimeven (5, 1) ∷ claimeven (5, 3) ∷ claimeven (5, 5) ∷ baseinverse (2, 1) (3, 1)
    ∷ lowinverse (2, 2) (2, 6) (3, 2) (3, 6) ∷ []

six_by_six_plan : planned 6 6 [] six_by_six ≡ Some true
six_by_six_plan = refl

six_by_six_with_verticals : planned 6 6 [] (six_by_six ++ vertical (2, 2) ∷ vertical (2, 4) ∷ vertical (3, 2) ∷ vertical (3, 4) ∷ []) ≡ Some true
six_by_six_with_verticals = refl

abbrev narrow : List RuleInstance
narrow = claimeven (0, 1) ∷ claimeven (0, 3) ∷ claimeven (0, 5) ∷ claimeven (1, 1) ∷ claimeven (1, 3) ∷ claimeven (1, 5)
    ∷ lowinverse (2, 4) (2, 6) (3, 4) (3, 6) ∷ []

with_vertical : planned 4 6 narrow_moves (narrow ++ vertical (2, 4) ∷ []) ≡ Some true
with_vertical = refl

without_vertical : planned 4 6 narrow_moves narrow ≡ Some false
without_vertical = refl

abbrev even_line : List RuleInstance
even_line = claimeven (0, 1) ∷ claimeven (0, 3) ∷ claimeven (1, 1) ∷ claimeven (1, 3) ∷ claimeven (3, 3) ∷ []

play_aftereven : planned 4 4 even_moves (even_line ++ aftereven (group_of_four (0, 2) H) ∷ []) ≡ Some true
play_aftereven = refl

without_aftereven : planned 4 4 even_moves even_line ≡ Some false
without_aftereven = refl

aftereven_replies : answered 4 4 even_moves (even_line ++ aftereven (group_of_four (0, 2) H) ∷ []) (0 ∷ 1 ∷ [])
    ≡ Some (((0, 1), Some (0, 2)) ∷ ((1, 1), Some (1, 2)) ∷ [], Some ends.Black)
aftereven_replies = refl

abbrev claim : List RuleInstance
claim = baseclaim (0, 2) (1, 1) (2, 2) ∷ claimeven (0, 3) ∷ claimeven (1, 3) ∷ claimeven (2, 3) ∷ []

play_baseclaim : planned 4 4 six_men claim ≡ Some true
play_baseclaim = refl

without_baseclaim : planned 4 4 six_men (claimeven (0, 3) ∷ claimeven (1, 3) ∷ claimeven (2, 3) ∷ []) ≡ Some false
without_baseclaim = refl

baseclaim_replies : answered 4 4 six_men claim (1 ∷ 0 ∷ []) ≡ Some (((1, 1), Some (2, 2)) ∷ ((0, 2), Some (1, 2)) ∷ [], None)
baseclaim_replies = refl

baseclaim_replies_turned : answered 4 4 six_men claim (2 ∷ 1 ∷ []) ≡ Some (((2, 2), Some (1, 1)) ∷ ((1, 2), Some (0, 2)) ∷ [], None)
baseclaim_replies_turned = refl

highinverse_replies : answered 4 4 [] (columns_a_b ++ baseinverse (2, 1) (3, 1) ∷ highinverse (2, 2) (3, 2) ∷ []) (2 ∷ 2 ∷ 3 ∷ 3 ∷ [])
    ≡ Some (((2, 1), Some (3, 1)) ∷ ((2, 2), Some (2, 3)) ∷ ((3, 2), Some (2, 4)) ∷ ((3, 3), Some (3, 4)) ∷ [], None)
highinverse_replies = refl

lowinverse_replies : answered 4 4 [] six_zones (2 ∷ 2 ∷ 3 ∷ 2 ∷ 0 ∷ 0 ∷ 1 ∷ 1 ∷ [])
    ≡ Some (
      ((2, 1), Some (3, 1)) ∷ ((2, 2), Some (2, 3)) ∷ ((3, 2), Some (3, 3)) ∷ ((2, 4), Some (3, 4)) ∷ ((0, 1), Some (0, 2)) ∷ ((0, 3), Some (0, 4))
          ∷ ((1, 1), Some (1, 2)) ∷ ((1, 3), Some (1, 4)) ∷ [],
      Some ends.Draw,
    )
lowinverse_replies = refl

shifted_replies : answered 4 4 [] six_zones (2 ∷ 2 ∷ 2 ∷ 3 ∷ [])
    ≡ Some (((2, 1), Some (3, 1)) ∷ ((2, 2), Some (2, 3)) ∷ ((2, 4), Some (3, 2)) ∷ ((3, 3), Some (3, 4)) ∷ [], None)
shifted_replies = refl

abbrev diagonal : List RuleInstance
diagonal = baseinverse (2, 2) (3, 4) ∷ claimeven (2, 3) ∷ []

play_specialbefore : planned 5 4 few_left
    (diagonal ++ specialbefore (group_of_four (1, 1) U) (3, 4) (2, 2) ∷ []) ≡ Some true
play_specialbefore = refl

without_specialbefore : planned 5 4 few_left diagonal ≡ Some false
without_specialbefore = refl

specialbefore_replies : answered 5 4 few_left
    (diagonal ++ specialbefore (group_of_four (1, 1) U) (3, 4) (2, 2) ∷ []) (3 ∷ []) ≡ Some (((3, 4), Some (2, 2)) ∷ [], Some ends.Black)
specialbefore_replies = refl

specialbefore_to_the_end : answered 5 4 few_left
    (diagonal ++ specialbefore (group_of_four (1, 1) U) (3, 4) (2, 2) ∷ []) (2 ∷ 2 ∷ [])
    ≡ Some (((2, 2), Some (3, 4)) ∷ ((2, 3), Some (2, 4)) ∷ [], Some ends.Draw)
specialbefore_to_the_end = refl

-- White may own the bottom and the middle of one column of a Highinverse
bottom_and_middle : (p : Position) → barred (highinverse (2, 2) (3, 2)) (facts_of p []) (has_square ((3, 2) ∷ (3, 3) ∷ [])) ≡ false
bottom_and_middle p = refl

-- whether a list of White's columns is playable, and how many positions the duel over it has
abbrev dueled : List RuleInstance → List ℕ → Option (Bool × ℕ)
dueled ws columns = after_moves (λ p. (is_playable_list ws p columns, length (duel ws p columns))) 4 4 []

-- eight turns fill the board; a ninth column isn't legal, nor is one that is full
whole_duel : dueled six_zones (2 ∷ 2 ∷ 3 ∷ 2 ∷ 0 ∷ 0 ∷ 1 ∷ 1 ∷ []) ≡ Some (true, 17)
whole_duel = refl

past_the_end : dueled six_zones (2 ∷ 2 ∷ 3 ∷ 2 ∷ 0 ∷ 0 ∷ 1 ∷ 1 ∷ 0 ∷ []) ≡ Some (false, 17)
past_the_end = refl

full_column : dueled six_zones (2 ∷ 2 ∷ 2 ∷ 3 ∷ 2 ∷ []) ≡ Some (false, 9)
full_column = refl

-- whether a Specialbefore has the shape on a board
abbrev special_shape : ℕ → ℕ → RuleInstance → Bool
special_shape cols rows w = is_shaped w (board_of_four cols rows)

whole_on_the_board : special_shape 5 4 (specialbefore (group_of_four (1, 1) U) (3, 4) (2, 2)) ≡ true
whole_on_the_board = refl

line_off_the_board : special_shape 4 4 (specialbefore (group_of_four (1, 1) U) (3, 4) (2, 2)) ≡ false
line_off_the_board = refl

square_off_the_board : (special_shape 4 4 (specialbefore (group_of_four (0, 2) H) (4, 1) (0, 2)) ≡ false)
    × (special_shape 4 4 (specialbefore (group_of_four (0, 2) H) (3, 5) (0, 2)) ≡ false)
square_off_the_board = (refl, refl)
