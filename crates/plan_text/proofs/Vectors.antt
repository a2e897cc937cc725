-- Texts of each rule both ways on a board of six by six, a line, faults, and texts that are none.
use Rattle.std.proofs.Common.{◌≡◌, ℕ, List, [], ◌∷◌, ◌++◌, Some, None, codes, refl}
use Rattle.std.specs.Fmt.{digits}
use Rattle.game_rules.specs.Board.{Board, Square}
use Rattle.game_rules.specs.Groups.{Group}
use Rattle.game_rules.specs.declared.Length.TheVariants.{Four, Five}
use Rattle.game_rules.specs.declared.Way.TheVariants.{H, U}
use Rattle.plan_rules.specs.Rules.{RuleInstance, claimeven, baseinverse, lowinverse, highinverse, baseclaim, vertical, aftereven, before, specialbefore}
use Rattle.plan_rules.specs.Refusal.{not_white_to_move, ended, misfit, clash, uncovered, unsupported, unanswered}
use Rattle.plan_text.specs.Items.{instance_text, instance_of}
use Rattle.plan_text.specs.PlanLine.{plan_text, read_plan}
use Rattle.plan_text.specs.Faults.{plan_fault_text}

abbrev six : Board
six = record { cols = 6; rows = 6; len = Four }

abbrev line : Square → Group
line anchor = record { anchor = anchor; way = H; len = Four }

-- an instance, its text, and that the text is read as the instance
abbrev IsText : RuleInstance → List ℕ → Type 0
IsText w text = (instance_text w ≡ text) × (instance_of six text ≡ Some w)

abbrev IsNone : List ℕ → Type 0
IsNone text = instance_of six text ≡ None

claimeven_text : IsText (claimeven (0, 1)) (codes "CE:a1")
unfolding digits
claimeven_text = (refl, refl)

baseinverse_text : IsText (baseinverse (2, 1) (3, 1)) (codes "BI:c1,d1")
unfolding digits
baseinverse_text = (refl, refl)

lowinverse_text : IsText (lowinverse (2, 2) (2, 4) (3, 2) (3, 4)) (codes "LI:c2-c4,d2-d4")
unfolding digits
lowinverse_text = (refl, refl)

highinverse_text : IsText (highinverse (2, 2) (3, 2)) (codes "HI:c2,d2")
unfolding digits
highinverse_text = (refl, refl)

baseclaim_text : IsText (baseclaim (0, 2) (1, 1) (2, 2)) (codes "BC:a2,b1,c2")
unfolding digits
baseclaim_text = (refl, refl)

vertical_text : IsText (vertical (2, 4)) (codes "VE:c4")
unfolding digits
vertical_text = (refl, refl)

aftereven_text : IsText (aftereven (line (0, 2))) (codes "AE:a2h")
unfolding digits
aftereven_text = (refl, refl)

before_text : IsText (before (line (0, 2))) (codes "BE:a2h")
unfolding digits
before_text = (refl, refl)

specialbefore_text : IsText (specialbefore (record { anchor = (1, 1); way = U; len = Four }) (3, 4) (2, 2)) (codes "SB:b1u,d4,c2")
unfolding digits
specialbefore_text = (refl, refl)

-- ---- the widest board, and lines of five

longest_text : instance_of (record { cols = 10; rows = 10; len = Four }) (codes "LI:i8-i10,j8-j10") ≡ Some (lowinverse (8, 8) (8, 10) (9, 8) (9, 10))
unfolding digits
longest_text = refl

group_of_five : instance_of (record { cols = 6; rows = 6; len = Five }) (codes "AE:b2h") ≡ Some (aftereven (record { anchor = (1, 2); way = H; len = Five }))
unfolding digits
group_of_five = refl

five_off : instance_of (record { cols = 6; rows = 6; len = Five }) (codes "AE:c2h") ≡ None
unfolding digits
five_off = refl

-- ---- no instances

even_lower : IsNone (codes "CE:a2")
unfolding digits
even_lower = refl

columns_turned : IsNone (codes "BI:d1,c1")
unfolding digits
columns_turned = refl

top_elsewhere : IsNone (codes "LI:c2-d4,d2-d4")
unfolding digits
top_elsewhere = refl

low_columns_turned : IsNone (codes "LI:d2-d4,c2-c4")
unfolding digits
low_columns_turned = refl

column_off : IsNone (codes "CE:g1")
unfolding digits
column_off = refl

row_off : IsNone (codes "CE:a7")
unfolding digits
row_off = refl

group_off : IsNone (codes "AE:d2h")
unfolding digits
group_off = refl

zero_first : IsNone (codes "CE:a01")
unfolding digits
zero_first = refl

small_letters : IsNone (codes "ce:a1")
unfolding digits
small_letters = refl

comma_at_the_end : IsNone (codes "CE:a1,")
unfolding digits
comma_at_the_end = refl

byte_after_the_way : IsNone (codes "AE:a2x")
unfolding digits
byte_after_the_way = refl

more_after_the_way : IsNone (codes "AE:a2h1")
unfolding digits
more_after_the_way = refl

no_way : IsNone (codes "BE:a2")
unfolding digits
no_way = refl

two_of_one : IsNone (codes "CE:a1,b1")
unfolding digits
two_of_one = refl

one_of_two : IsNone (codes "BI:a1")
unfolding digits
one_of_two = refl

space_within : IsNone (codes "BI:a1, b1")
unfolding digits
space_within = refl

no_colon : IsNone (codes "CEa1")
unfolding digits
no_colon = refl

no_rule : IsNone (codes "XX:a1")
unfolding digits
no_rule = refl

empty : IsNone []
unfolding digits
empty = refl

hyphen_for_a_comma : IsNone (codes "BI:c1-d1")
unfolding digits
hyphen_for_a_comma = refl

e_in_the_line_of_f : IsNone (codes "SB:b1u,c2,d3")
unfolding digits
e_in_the_line_of_f = refl

row_nought : IsNone (codes "CE:a0")
unfolding digits
row_nought = refl

-- ---- lines

some_plan : read_plan six (codes "plan CE:a1 BI:c1,d1") ≡ Some (claimeven (0, 1) ∷ baseinverse (2, 1) (3, 1) ∷ [])
unfolding digits
some_plan = refl

plan_spelling : plan_text (claimeven (0, 1) ∷ baseinverse (2, 1) (3, 1) ∷ []) ≡ codes "plan CE:a1 BI:c1,d1"
unfolding digits
plan_spelling = refl

no_item : read_plan six (codes "plan") ≡ None
unfolding digits
no_item = refl

space_alone : read_plan six (codes "plan ") ≡ None
unfolding digits
space_alone = refl

two_spaces : read_plan six (codes "plan CE:a1  CE:b1") ≡ None
unfolding digits
two_spaces = refl

two_spaces_first : read_plan six (codes "plan  CE:a1") ≡ None
unfolding digits
two_spaces_first = refl

trailing_space : read_plan six (codes "plan CE:a1 ") ≡ None
unfolding digits
trailing_space = refl

leading_space : read_plan six (codes " plan CE:a1") ≡ None
unfolding digits
leading_space = refl

other_word : read_plan six (codes "plans CE:a1") ≡ None
unfolding digits
other_word = refl

tab : read_plan six (codes "plan" ++ 9 ∷ codes "CE:a1") ≡ None
unfolding digits
tab = refl

feed_at_the_end : read_plan six (codes "plan CE:a1" ++ 10 ∷ []) ≡ None
unfolding digits
feed_at_the_end = refl

-- ---- faults

fault_texts : (plan_fault_text not_white_to_move ≡ codes "NotWhiteToMove") × (plan_fault_text ended ≡ codes "Ended")
    × (plan_fault_text (misfit 12) ≡ codes "Misfit 12") × (plan_fault_text (clash 1 300) ≡ codes "Clash 1 300")
    × (plan_fault_text (uncovered (9, 10)) ≡ codes "Uncovered j10") × (plan_fault_text (unsupported 7) ≡ codes "Unsupported 7")
    × (plan_fault_text (unanswered (line (0, 1))) ≡ codes "Unanswered a1h")
unfolding digits
fault_texts = (refl, refl, refl, refl, refl, refl, refl)
