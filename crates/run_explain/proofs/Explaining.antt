-- What is written of a plan, piece by piece.
use Rattle.std.proofs.Common.{true, zero, suc, inl, inr, if◌then◌else◌, ◌==◌, ◌-◌, ◌<◌, Option, Some, length, get_or, slice_get}
use Rattle.std.proofs.Common.{codes, arith, subst, append_assoc, ◌≡◌, ℕ, Bool, true, false, List, [], ◌∷◌, ◌++◌, map, filter, cond, refl, sym, ap, ◌∙◌}
use Rattle.std.proofs.Common.{flat_map, append-nil}
use Rattle.std.specs.Option.{option_map, option_map_or}
use Rattle.std.proofs.lemmas.Option.{get_or_from_slice_get, slice_get_cases}
use Rattle.std.specs.Io.KnownBytes.{Appends}
use Rattle.device_rules.specs.Devices.{AppendsPrefix}
use Rattle.device_rules.proofs.DeviceLaws.{AppendsPrefix_take, AppendsPrefix_more}
use Rattle.game_rules.specs.Board.{Square}
use Rattle.game_rules.specs.Groups.{Group, groups_of, lies_on}
use Rattle.game_rules.proofs.Lists.{Among}
use Rattle.game_rules.proofs.Groups.{Among-groups_gives}
use Rattle.game_rules.specs.Position.{Position, board_of}
use Rattle.plan_rules.specs.Rules.{RuleInstance}
use Rattle.plan_text.specs.Items.{square_text, group_text, instance_text}
use Rattle.plan_text.specs.PlanLine.{plan_text}
use Rattle.proof_text.specs.Spelling.{as_line}
use Rattle.plan_lines.specs.Instance.{Instance}
use Rattle.plan_lines.specs.Written.{written}
use Rattle.plan_lines.specs.Planned.{Planned, members}
use Rattle.explain_text.specs.Explanation.{squares_text, is_white, owns_lines, answer_line, answer_lines, plan_explained}
use Rattle.explain_text.proofs.Answers.{IsNamed}

-- the line of one group, where it has one
abbrev pub lines_of_group : Position → List RuleInstance → Group → List ℕ
lines_of_group p ws g = answer_lines p ws (g ∷ [])

-- the same of a plan
abbrev pub lines_for : Planned → Group → List ℕ
lines_for plan = lines_of_group plan.at (members plan)

-- the lines of all are those of each
pub lines_by_group : (p : Position) (ws : List RuleInstance) (gs : List Group) → answer_lines p ws gs ≡ flat_map (lines_of_group p ws) gs
lines_by_group p ws [] = refl
lines_by_group p ws (g ∷ gs) = by_white (is_white p g) ∙ ap (λ rest. lines_of_group p ws g ++ rest) (lines_by_group p ws gs)
  where
    by_white : (white : Bool) → flat_map (answer_line p ws) (if white then g ∷ filter (is_white p) gs else filter (is_white p) gs)
        ≡ flat_map (answer_line p ws) (if white then g ∷ [] else []) ++ answer_lines p ws gs
    by_white true = ap (λ text. text ++ answer_lines p ws gs) (sym (append-nil (answer_line p ws g)))
    by_white false = refl

pub white_line : (p : Position) (ws : List RuleInstance) (g : Group) → is_white p g ≡ true → lines_of_group p ws g ≡ answer_line p ws g
white_line p ws g white = ap (λ white. flat_map (answer_line p ws) (cond white (g ∷ []) [])) white ∙ append-nil (answer_line p ws g)

pub other_line : (p : Position) (ws : List RuleInstance) (g : Group) → is_white p g ≡ false → lines_of_group p ws g ≡ []
other_line p ws g other = ap (λ white. flat_map (answer_line p ws) (cond white (g ∷ []) [])) other

-- what is written of a plan: its list, and then what it answers
abbrev pub listed_of : Planned → List ℕ
listed_of plan = as_line (plan_text (members plan)) ++ owns_lines (members plan)

abbrev pub answered : Planned → List ℕ
answered plan = answer_lines plan.at (members plan) (groups_of (board_of plan.at))

pub explained_in_two : (plan : Planned) → plan_explained plan.at (members plan) ≡ listed_of plan ++ answered plan
explained_in_two plan = sym (append_assoc (as_line (plan_text (members plan))) (owns_lines (members plan)) (answered plan))

-- where there are squares, each stands with a space before it
pub squares_some : (us : List Square) → (length us == 0) ≡ false → squares_text us ≡ flat_map (λ u. 32 ∷ square_text u) us
squares_some [] none = absurd (cc none)
squares_some (u ∷ us) some = refl

-- the groups of a board lie on it
pub listed_lies : (p : Position) (gs : List Group) → gs ≡ groups_of (board_of p) → (i : ℕ) (g : Group) → i < length gs → g ≡ get_or gs i g
    → lies_on (board_of p) g ≡ true
listed_lies p gs listed i g within at = Among-groups_gives (board_of p) g (subst (Among g) listed (among gs i within at))
  where
    among : (gs : List Group) (i : ℕ) → i < length gs → g ≡ get_or gs i g → Among g gs
    among [] i within at = absurd (omega arith)
    among (h ∷ gs) zero within at = inl (sym at)
    among (h ∷ gs) (suc i) within at = inr (among gs i (omega arith) at)

-- ---- a line of three pieces

in_line : (a b c : List ℕ) → as_line (a ++ (b ++ c)) ≡ a ++ (b ++ as_line c)
in_line a b c = append_assoc a (b ++ c) (10 ∷ []) ∙ ap (λ rest. a ++ rest) (append_assoc b c (10 ∷ []))

-- A line that begins with three pieces, put one after another: what stands after each, and after the line feed.
module _ (a b c : List ℕ) (old one : Option (List ℕ)) where
  pub line_cut_first : AppendsPrefix false old one a → AppendsPrefix false old one (as_line (a ++ (b ++ c)))
  line_cut_first first = rw (in_line a b c) (AppendsPrefix_take old one a (b ++ as_line c) first)

  module _ (first : Appends old one a) (two : Option (List ℕ)) where
    pub line_cut_second : AppendsPrefix false one two b → AppendsPrefix false old two (as_line (a ++ (b ++ c)))
    line_cut_second second = rw (in_line a b c)
        (AppendsPrefix_more false old one two a (b ++ as_line c) first (AppendsPrefix_take one two b (as_line c) second))

    module _ (second : Appends one two b) (three : Option (List ℕ)) where
      pub line_cut_third : AppendsPrefix false two three c → AppendsPrefix false old three (as_line (a ++ (b ++ c)))
      line_cut_third third = rw (in_line a b c)
          (AppendsPrefix_more false old one three a (b ++ as_line c) first
          (AppendsPrefix_more false one two three b (as_line c) second (AppendsPrefix_take two three c (10 ∷ []) third)))

      pub line_ends : Appends two three c → (ok : Bool) (new : Option (List ℕ)) → AppendsPrefix ok three new (10 ∷ [])
          → AppendsPrefix ok old new (as_line (a ++ (b ++ c)))
      line_ends third ok new feed = rw (in_line a b c)
          (AppendsPrefix_more ok old one new a (b ++ as_line c) first
          (AppendsPrefix_more ok one two new b (as_line c) second (AppendsPrefix_more ok two three new c (10 ∷ []) third feed)))

-- ---- the member that a plan names for a group

slice_get_made : {X Y : Type 0} (make : X → Y) (xs : List X) (i : ℕ) → slice_get (map make xs) i ≡ option_map make (slice_get xs i)
slice_get_made make [] i = refl
slice_get_made make (x ∷ xs) zero = refl
slice_get_made make (x ∷ xs) (suc i) = slice_get_made make xs i

module _ (plan : Planned) (g : Group) (place : ℕ) (named : IsNamed plan.at (members plan) g place) where
  made_at : option_map written (slice_get plan.list (place - 1)) ≡ Some named.member
  made_at = sym (slice_get_made written plan.list (place - 1)) ∙ named.at

  pub place_within : place - 1 < length plan.list
  place_within = elim (slice_get_cases plan.list (place - 1)).1 [
    | inl inside ↦ inside.1
    | inr past ↦ absurd (cc (sym (ap (option_map written) past.1) ∙ made_at))
  ]

  member_is : (x : Instance) → x ≡ get_or plan.list (place - 1) x → written x ≡ named.member
  member_is x at = elim (slice_get_cases plan.list (place - 1)).1 [
    | inl inside ↦
        let same : x ≡ inside.0 = at ∙ get_or_from_slice_get plan.list (place - 1) inside.0 x inside.2 in
        let both : Some (written x) ≡ Some named.member = ap (λ x. Some (written x)) same ∙ sym (ap (option_map written) inside.2) ∙ made_at in
        cc both
    | inr past ↦ absurd (cc (sym (ap (option_map written) past.1) ∙ made_at))
  ]

  -- the line of the group has the text of that member
  pub named_line : lines_of_group plan.at (members plan) g ≡ as_line (group_text g ++ (codes " by " ++ instance_text named.member))
  named_line = white_line plan.at (members plan) g named.white ∙ ap (λ found. as_line (group_text g ++ (codes " by " ++ option_map_or instance_text found [])))
      named.answers

  pub place_line : (x : Instance) → x ≡ get_or plan.list (place - 1) x
      → lines_of_group plan.at (members plan) g ≡ as_line (group_text g ++ (codes " by " ++ instance_text (written x)))
  place_line x at = named_line ∙ ap (λ w. as_line (group_text g ++ (codes " by " ++ instance_text w))) (sym (member_is x at))
