-- Marks of moves, one after the other.
use Rattle.std.proofs.Common.{◌≡◌, ◌≢◌, ℕ, ◌≤◌, Bool, true, false, ◌||◌, List, [], ◌∷◌, ◌++◌, Option, Some, None, refl, sym, ap, ◌∙◌, subst, inl, inr, arith}
use Rattle.std.proofs.lemmas.Bool.{cases_Bool}
use Rattle.game_rules.specs.Position.{Position, side_to_move, other, after_move, is_legal, played}
use Rattle.game_rules.specs.Value.{win_of, same_end, value}
use Rattle.game_rules.specs.declared.Side.{Side}
use Rattle.game_rules.specs.declared.Side.TheVariants as sides
use Rattle.game_rules.specs.declared.End.{End}
use Rattle.game_rules.specs.declared.End.TheVariants.{White, Black, Draw}
use Rattle.game_rules.proofs.Lists.{chosen}
use Rattle.tool_text.specs.Marks.{worth, Says, AreMarks}
use Rattle.tool_text.specs.declared.Mark.{Mark}
use Rattle.tool_text.specs.declared.Mark.TheVariants.{Fine, Bad, Open}
use Rattle.tool_text.proofs.Marking.{move_no_better, move_worse}
use Rattle.proof_tools.specs.Marked.{IsTold, mark_by}

-- what is told is told of the same meaning
pub told_kept : (some other : Position → Bool → Type 0) (p : Position) (told : Option End) → ((q : Position) (found : Bool) → other q found → some q found)
    → IsTold other p told → IsTold some p told
told_kept some other p None same h = same p false h
told_kept some other p (Some end) same h = (same p true h.0, h.1)

pub marks_kept : (some other : Position → Bool → Type 0) → ((q : Position) (found : Bool) → other q found → some q found) → (p : Position) (columns : List ℕ) (marks : List Mark)
    → AreMarks other p columns marks → AreMarks some p columns marks
marks_kept some other same p [] [] h = h
marks_kept some other same p [] (mark ∷ marks) h = absurd h
marks_kept some other same p (column ∷ columns) [] h = absurd h
marks_kept some other same p (column ∷ columns) (mark ∷ marks) h =
    (of mark h.0, marks_kept some other same (after_move p column) columns marks h.1)
  where
    of : (mark : Mark) → Says other p (after_move p column) mark → Says some p (after_move p column) mark
    of Fine h = (same p true h.0, same (after_move p column) true h.1, h.2)
    of Bad h = (same p true h.0, same (after_move p column) true h.1, h.2)
    of Open (inl here) = inl (same p false here)
    of Open (inr there) = inr (same (after_move p column) false there)

ends_same : (e f : End) → same_end e f ≡ true → e ≡ f
ends_same White White h = refl
ends_same White Black h = cc
ends_same White Draw h = cc
ends_same Black White h = cc
ends_same Black Black h = refl
ends_same Black Draw h = cc
ends_same Draw White h = cc
ends_same Draw Black h = cc
ends_same Draw Draw h = refl

ends_apart : (e f : End) → same_end e f ≡ false → f ≢ e
ends_apart White White h same = cc
ends_apart Black Black h same = cc
ends_apart Draw Draw h same = cc
ends_apart White Black h same = cc
ends_apart White Draw h same = cc
ends_apart Black White h same = cc
ends_apart Black Draw h same = cc
ends_apart Draw White h same = cc
ends_apart Draw Black h same = cc

-- the mark that is made says what it has to
module _ (Holds : Position → Bool → Type 0) (p : Position) (column : ℕ) (legal : is_legal p column ≡ true) where
  q : Position
  q = after_move p column

  pub mark_says : (before after : Option End) → IsTold Holds p before → IsTold Holds (after_move p column) after
      → Says Holds p (after_move p column) (mark_by before after)
  mark_says (Some before) (Some after) told later = elim (cases_Bool (same_end before after)) [
    | inl same ↦ rw same (told.0, later.0, later.1 ∙ sym (ends_same before after same) ∙ sym told.1)
    | inr apart ↦ rw apart (told.0, later.0, move_worse p column legal (λ e. ends_apart before after apart (sym later.1 ∙ e ∙ told.1)))
  ]
  mark_says (Some before) None told later = inr later
  mark_says None after told later = inl told

-- one more move with its mark
pub marks_push : (Holds : Position → Bool → Type 0) (p q : Position) (columns : List ℕ) (marks : List Mark) (column : ℕ) (mark : Mark) → played p columns ≡ Some q
    → AreMarks Holds p columns marks → Says Holds q (after_move q column) mark → AreMarks Holds p (columns ++ column ∷ []) (marks ++ mark ∷ [])
marks_push Holds p q [] [] column mark along marked says =
    let same : p ≡ q = cc in (subst (λ p. Says Holds p (after_move p column) mark) (sym same) says, tt)
marks_push Holds p q [] (first ∷ marks) column mark along marked says = absurd marked
marks_push Holds p q (c ∷ columns) [] column mark along marked says = absurd marked
marks_push Holds p q (c ∷ columns) (first ∷ marks) column mark along marked says =
    (marked.0, marks_push Holds (after_move p c) q columns marks column mark (later along) marked.1 says)
  where
    later : played p (c ∷ columns) ≡ Some q → played (after_move p c) columns ≡ Some q
    later h = elim (chosen (is_legal p c) (played (after_move p c) columns) None (Some q) h) [
      | inl going ↦ going.1
      | inr ended ↦ cc
    ]
