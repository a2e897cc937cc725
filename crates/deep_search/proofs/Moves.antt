-- The search at one position: the moves that are left to try, and what they tell and cost together.
use Rattle.std.proofs.Common.{◌≡◌, ℕ, ◌+◌, ◌<◌, ◌≤◌, Bool, true, false, not, cond, None, List, [], ◌∷◌, map, filter, length, drop, get_or, ap, sym, subst, ◌∙◌}
use Rattle.std.proofs.Common.{refl, arith}
use Rattle.std.proofs.lemmas.List.{drop_more, drop_all}
use Rattle.std.specs.List.{list_any}
use mathlib.Core.Bool.{beq}
use Rattle.game_rules.specs.Position.{Position, has_room, after_move, same_side, side_to_move, end_of}
use Rattle.game_rules.specs.Value.{wins, win_of, same_end}
use Rattle.game_rules.specs.Cost.{centre_out, decides, moved_out, count_until, count}
use Rattle.game_rules.specs.declared.Side.{Side}
use Rattle.game_rules.specs.declared.End.{End}
use Rattle.game_rules.specs.contracts.SidePartialEq.TheImpl.{eq-value}
use Rattle.game_rules.specs.contracts.EndPartialEq.TheImpl as end_eq
use Rattle.game_rules.proofs.Costs.{wins_step, count_step}
use Rattle.game_rules.proofs.Ends.{side_same, end_same}

-- the positions after the moves into the columns from place i on
abbrev pub moves_left : Position → List ℕ → ℕ → List Position
moves_left p order i = map (after_move p) (filter (has_room p) (drop i order))

moves_left_room : (p : Position) (order : List ℕ) (i d : ℕ) → i < length order → has_room p (get_or order i d) ≡ true
    → moves_left p order i ≡ after_move p (get_or order i d) ∷ moves_left p order (i + 1)
moves_left_room p order i d low room = rw (drop_more order i d low, room) refl

moves_left_none : (p : Position) (order : List ℕ) (i : ℕ) → length order ≤ i → moves_left p order i ≡ []
moves_left_none p order i all = ap (λ xs. map (after_move p) (filter (has_room p) xs)) (drop_all i order all)

-- ---- what one move tells

pub end_told : (told : Bool) (asked side : Side) (won end : End) → told ≡ end_eq.eq-value.it won end → won ≡ win_of asked → asked ≡ side
    → told ≡ same_end (win_of side) end
end_told told asked side won end is win same = is ∙ end_same won end ∙ ap (λ e. same_end e end) (win ∙ ap win_of same)

pub own_told : (own : Bool) (asked side to_move : Side) (p : Position) → own ≡ eq-value.it asked to_move → asked ≡ side → to_move ≡ side_to_move p
    → own ≡ same_side side (side_to_move p)
own_told own asked side to_move p is same turn = is ∙ side_same asked to_move ∙ ap (λ s. same_side s to_move) same ∙ ap (same_side side) turn

module _ (side : Side) (p : Position) (own : Bool) (is_own : own ≡ same_side side (side_to_move p)) where
  decides_yes : (q : Position) (won : Bool) → won ≡ wins side q → won ≡ own → decides side p q ≡ true
  decides_yes q won told same = rw (← is_own, ← told, same) (own_own own)
    where
      own_own : (b : Bool) → cond b b (not b) ≡ true
      own_own true = refl
      own_own false = refl

  decides_no : (q : Position) (won : Bool) → won ≡ wins side q → (won ≡ own → ⊥) → decides side p q ≡ false
  decides_no q won told other = rw (← is_own, ← told) (apart own won other)
    where
      apart : (b w : Bool) → (w ≡ b → ⊥) → cond b w (not w) ≡ false
      apart true true h = absurd (h refl)
      apart true false h = refl
      apart false true h = refl
      apart false false h = absurd (h refl)

  some_decides : end_of p ≡ None → list_any (decides side p) (moved_out p) ≡ true → own ≡ wins side p
  some_decides going any = sym (wins_step side p going ∙ rw (← is_own, any) (own_only own))
    where
      own_only : (b : Bool) → cond b true false ≡ b
      own_only true = refl
      own_only false = refl

  none_decides : end_of p ≡ None → list_any (decides side p) (moved_out p) ≡ false → not own ≡ wins side p
  none_decides going none = sym (wins_step side p going ∙ rw (← is_own, none) (not_own own))
    where
      not_own : (b : Bool) → cond b false true ≡ not b
      not_own true = refl
      not_own false = refl

-- ---- what was spent

until_first : (test : Position → Bool) (cost : Position → ℕ) (q : Position) (qs : List Position) → test q ≡ true → count_until test cost (q ∷ qs) ≡ cost q
until_first test cost q qs h = rw h (omega arith)

until_more : (test : Position → Bool) (cost : Position → ℕ) (q : Position) (qs : List Position) → test q ≡ false
    → count_until test cost (q ∷ qs) ≡ cost q + count_until test cost qs
until_more test cost q qs h = rw h refl

cost_least : (test : Position → Bool) (cost : Position → ℕ) (q : Position) (qs : List Position) → cost q ≤ count_until test cost (q ∷ qs)
cost_least test cost q qs = omega arith

-- a test of the moves that are left, behind one that fails it or has no room
any_after : (test : Position → Bool) (q : Position) (rest more : List Position) (b : Bool) → rest ≡ q ∷ more → test q ≡ false → list_any test rest ≡ b
    → list_any test more ≡ b
any_after test q rest more b step fails h = sym (ap (list_any test) step ∙ rw fails refl) ∙ h

moves_left_full : (p : Position) (order : List ℕ) (i d : ℕ) → i < length order → has_room p (get_or order i d) ≡ false
    → moves_left p order (i + 1) ≡ moves_left p order i
moves_left_full p order i d low full = sym (rw (drop_more order i d low, full) refl)

-- Of the moves before place i none decides, and no more was spent on them than they count.
pub record Tried (closed : Side → Position → Bool) (side : Side) (p : Position) (order : List ℕ) (before budget i : ℕ) : Type 0 where
  pub answer : list_any (decides side p) (moves_left p order i) ≡ list_any (decides side p) (moved_out p)
  pub spent : before + count_until (decides side p) (count closed side) (moves_left p order i)
      ≤ 1 + (budget + count_until (decides side p) (count closed side) (moved_out p))

-- the move at place i, into a column that has room
pub record IsNext (p : Position) (order : List ℕ) (i c : ℕ) : Type 0 where
  pub low : i < length order
  pub at : get_or order i 0 ≡ c
  pub room : has_room p c ≡ true

-- no move was tried
pub tried_none : (closed : Side → Position → Bool) (side : Side) (p : Position) (order : List ℕ) (before budget : ℕ) → order ≡ centre_out (length p.columns)
    → before ≤ 1 + budget → Tried closed side p order before budget 0
tried_none closed side p order before budget is_order low = record {
  answer = ap (λ order. list_any (decides side p) (moves order)) is_order;
  spent = omega (arith, low, ap (λ order. count_until (decides side p) (count closed side) (moves order)) is_order);
}
  where
    moves : List ℕ → List Position
    moves order = map (after_move p) (filter (has_room p) order)

-- the column at place i is full
pub tried_full : (closed : Side → Position → Bool) (side : Side) (p : Position) (order : List ℕ) (before budget i c : ℕ) → i < length order
    → get_or order i 0 ≡ c
    → has_room p c ≡ false → Tried closed side p order before budget i → Tried closed side p order before budget (i + 1)
tried_full closed side p order before budget i c low at full tried =
    let same = moves_left_full p order i 0 low (ap (has_room p) at ∙ full) in
    record {
      answer = ap (list_any (decides side p)) same ∙ tried.answer;
      spent = omega (arith, ap (count_until (decides side p) (count closed side)) same, tried.spent);
    }

-- A side is asked about at a position where the game goes on and that isn't closed; `own` says whether it is to move.
pub record IsAsked (closed : Side → Position → Bool) (side : Side) (p : Position) (own : Bool) : Type 0 where
  pub going : end_of p ≡ None
  pub open_here : closed side p ≡ false
  pub is_own : own ≡ same_side side (side_to_move p)

module _ {closed : Side → Position → Bool} {side : Side} {p : Position} {own : Bool} {order : List ℕ} {before budget i : ℕ} (a : IsAsked closed side p own)
    (tried : Tried closed side p order before budget i) where
  whole : count closed side p ≡ 1 + count_until (decides side p) (count closed side) (moved_out p)
  whole = count_step closed side p a.going a.open_here

  module _ {c : ℕ} (next : IsNext p order i c) where
    step : moves_left p order i ≡ after_move p c ∷ moves_left p order (i + 1)
    step = subst (λ c. has_room p c ≡ true → moves_left p order i ≡ after_move p c ∷ moves_left p order (i + 1)) next.at
        (moves_left_room p order i 0 next.low) next.room

    -- the budget ran out below the move
    pub spent_below : budget < count closed side (after_move p c) → before < count closed side p
    spent_below short = omega (
      arith,
      whole,
      tried.spent,
      ap (count_until (decides side p) (count closed side)) step,
      cost_least (decides side p) (count closed side) (after_move p c) (moves_left p order (i + 1)),
    )

    module _ {won : Bool} (answer : won ≡ wins side (after_move p c)) where
      -- the move decides
      pub own_wins : won ≡ own → own ≡ wins side p
      own_wins same =
          some_decides side p own a.is_own a.going
          (sym tried.answer ∙ ap (list_any (decides side p)) step ∙ rw (decides_yes side p own a.is_own (after_move p c) won answer same) refl)

      pub left_decided : (after : ℕ) → won ≡ own → budget ≤ after + count closed side (after_move p c) → before ≤ after + count closed side p
      left_decided after same fell = omega (
        arith,
        whole,
        tried.spent,
        ap (count_until (decides side p) (count closed side)) step,
        until_first (decides side p) (count closed side) (after_move p c) (moves_left p order (i + 1))
            (decides_yes side p own a.is_own (after_move p c) won answer same),
        fell,
      )

      -- it doesn't
      pub tried_more : (after : ℕ) → (won ≡ own → ⊥) → budget ≤ after + count closed side (after_move p c) → Tried closed side p order before after (i + 1)
      tried_more after apart fell =
          let no' : decides side p (after_move p c) ≡ false = decides_no side p own a.is_own (after_move p c) won answer apart in
          record {
            answer = any_after (decides side p) (after_move p c) (moves_left p order i) (moves_left p order (i + 1)) (list_any (decides side p) (moved_out p))
                step no' tried.answer;
            spent = omega (
              arith,
              tried.spent,
              ap (count_until (decides side p) (count closed side)) step,
              until_more (decides side p) (count closed side) (after_move p c) (moves_left p order (i + 1)) no',
              fell,
            );
          }

  -- no move is left
  module _ (none : length order ≤ i) where
    pub other_wins : not own ≡ wins side p
    other_wins = none_decides side p own a.is_own a.going (sym tried.answer ∙ ap (list_any (decides side p)) (moves_left_none p order i none))

    pub left_tried : before ≤ budget + count closed side p
    left_tried = omega (arith, whole, tried.spent, ap (count_until (decides side p) (count closed side)) (moves_left_none p order i none))

pub same_from_beq : (a b : Bool) → beq a b ≡ true → a ≡ b
same_from_beq true true h = refl
same_from_beq true false h = cc
same_from_beq false true h = cc
same_from_beq false false h = refl

pub apart_from_beq : (a b : Bool) → beq a b ≡ false → a ≡ b → ⊥
apart_from_beq true true h e = cc
apart_from_beq true false h e = cc
apart_from_beq false true h e = cc
apart_from_beq false false h e = cc

pub other_from_apart : (a b : Bool) → (a ≡ b → ⊥) → a ≡ not b
other_from_apart true true h = absurd (h refl)
other_from_apart true false h = refl
other_from_apart false true h = refl
other_from_apart false false h = absurd (h refl)
