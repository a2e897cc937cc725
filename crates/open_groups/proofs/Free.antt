-- The groups that a side can still fill: those whose squares are on the board and hold no man of the other side, found
-- by their anchors.
use Rattle.std.proofs.Common.{◌≡◌, ◌⊎◌, Bool, true, false, not, ◌&&◌, ◌||◌, List, [], ◌∷◌, Option, Some, None, is_none, refl, sym, ap, ◌∙◌, inl, inr}
use Rattle.std.specs.List.{list_any, list_all}
use Rattle.std.proofs.lemmas.Bool.{cases_Bool, both_ways, false_from_ne_true, and_parts}
use Rattle.game_rules.specs.Board.{Square, on_board, line_at}
use Rattle.game_rules.specs.Position.{Position, board_of, other, man_at, is_man, has_man, IsStacked}
use Rattle.game_rules.specs.Squares.{has_square, is_empty, IsSetOf}
use Rattle.game_rules.specs.Groups.{Group, lies_on, group_on, is_free_for}
use Rattle.game_rules.proofs.Moves.{same_length_refl}
use Rattle.game_rules.proofs.Squares.{man_on_board, set_same}
use Rattle.game_rules.specs.declared.Side.{Side}
use Rattle.game_rules.specs.declared.Side.TheVariants.{White, Black}
use Rattle.game_rules.specs.declared.Way.{Way}
use Rattle.game_rules.specs.declared.Way.TheVariants.{H, V, U, D}
use Rattle.open_groups.specs.AnchorFields.{anchors_along}

and_shared : (a b c d : Bool) → ((a && not b) && (c && not d)) ≡ ((a && c) && not (b || d))
and_shared false b c d = refl
and_shared true true true d = refl
and_shared true true false d = refl
and_shared true false c d = refl

all_apart : {X : Type 0} (f g h : X → Bool) → ((x : X) → f x ≡ (g x && not (h x))) → (xs : List X) → list_all f xs ≡ (list_all g xs && not (list_any h xs))
all_apart f g h each [] = refl
all_apart f g h each (x ∷ xs) = ap (λ b. b && list_all f xs) (each x) ∙ ap (λ b. (g x && not (h x)) && b) (all_apart f g h each xs)
    ∙ and_shared (g x) (h x) (list_all g xs) (list_any h xs)

abbrev pub is_open : Position → Side → Group → Bool
is_open p side g = lies_on (board_of p) g && is_free_for side p g

pub open_lies : (p : Position) (side : Side) (g : Group) → is_open p side g ≡ true → lies_on (board_of p) g ≡ true
open_lies p side g h = (and_parts (lies_on (board_of p) g) (is_free_for side p g) h).0

-- the squares without a man of the other side
module _ (p : Position) (side : Side) (stacked : IsStacked p) (clear : List Square) (is_clear : (u : Square)
    → has_square clear u ≡ (is_empty p u || has_man p side u)) where
  clear_square : (u : Square) → has_square clear u ≡ (on_board (board_of p) u && not (has_man p (other side) u))
  clear_square u = is_clear u ∙ at (cases_Bool (on_board (board_of p) u))
    where
      whose : (side : Side) (m : Option Side) → (is_none m || is_man side m) ≡ not (is_man (other side) m)
      whose White None = refl
      whose White (Some White) = refl
      whose White (Some Black) = refl
      whose Black None = refl
      whose Black (Some White) = refl
      whose Black (Some Black) = refl

      at : (on_board (board_of p) u ≡ true) ⊎ (on_board (board_of p) u ≡ false)
          → (is_empty p u || has_man p side u) ≡ (on_board (board_of p) u && not (has_man p (other side) u))
      at (inl on) = rw on (whose side (man_at p u))
      at (inr off) = rw off (false_from_ne_true (has_man p side u) (λ man. both_ways (on_board (board_of p) u) off (man_on_board p side u stacked man)))

  open_anchors : (way : Way) (starts : List Square) → IsSetOf (λ s. list_all (has_square clear) (line_at p.len way s)) starts
      → IsSetOf (λ s. is_open p side (group_on (board_of p) way s)) starts
  open_anchors way starts set = set_same (λ s. list_all (has_square clear) (line_at p.len way s)) (λ s. is_open p side (group_on (board_of p) way s)) starts set
      (λ s.
      all_apart (has_square clear) (on_board (board_of p)) (has_man p (other side)) clear_square (line_at p.len way s)
      ∙ ap (λ b. (b && list_all (on_board (board_of p)) (line_at p.len way s)) && not (list_any (has_man p (other side)) (line_at p.len way s)))
      (sym (same_length_refl p.len)))

  pub each_open : (h v u d : List Square) → IsSetOf (λ s. list_all (has_square clear) (line_at p.len H s)) h
      → IsSetOf (λ s. list_all (has_square clear) (line_at p.len V s)) v
      → IsSetOf (λ s. list_all (has_square clear) (line_at p.len U s)) u → IsSetOf (λ s. list_all (has_square clear) (line_at p.len D s)) d
      → (way : Way) → IsSetOf (λ s. is_open p side (group_on (board_of p) way s)) (anchors_along (h ∷ v ∷ u ∷ d ∷ []) way)
  each_open h v u d level upright rising falling H = open_anchors H h level
  each_open h v u d level upright rising falling V = open_anchors V v upright
  each_open h v u d level upright rising falling U = open_anchors U u rising
  each_open h v u d level upright rising falling D = open_anchors D d falling
