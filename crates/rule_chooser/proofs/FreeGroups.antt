-- The groups that a side can still fill, one after another.
use Rattle.std.proofs.Common.{◌≡◌, ℕ, ◌+◌, ◌<◌, ◌≤◌, true, false, not, ◌&&◌, if◌then◌else◌, List, [], ◌∷◌, ◌++◌, length, map, filter, take, get_or, refl, sym}
use Rattle.std.proofs.Common.{ap, ◌∙◌, inl, inr, arith, append-nil}
use Rattle.std.specs.List.{list_any}
use Rattle.std.proofs.Math.Path.{fun_ext}
use Rattle.std.proofs.lemmas.Bool.{cases_Bool}
use Rattle.std.proofs.lemmas.List.{length-map, length-take}
use Rattle.std.proofs.lemmas.List.Filters.{length-filter_both}
use Rattle.game_rules.specs.Board.{Square}
use Rattle.game_rules.specs.Position.{Position, has_man, other}
use Rattle.game_rules.specs.Squares.{has_square, squares_where, is_empty, IsSetOf}
use Rattle.game_rules.specs.Groups.{Group, squares_of, is_free_for}
use Rattle.game_rules.specs.declared.Side.{Side}
use Rattle.game_rules.proofs.Filtered.{filtered_more, filtered_none}
use Rattle.game_rules.proofs.Squares.{any_in_same}
use Rattle.rule_chooser.specs.declared.groups.OpenGroup.{OpenGroup}
use Rattle.rule_chooser.specs.OpenGroups.{open_group_at, open_part}

-- a group that is put behind others, and one that isn't
pub open_added : (men empties squares both : List Square) (g : Group) → IsSetOf (has_square (squares_of g)) squares
    → IsSetOf (λ u. has_square empties u && has_square squares u) both
    → list_any (has_square men) squares ≡ false → (groups : List OpenGroup) → groups ++ record { id = g; empty = both } ∷ [] ≡ groups ++ open_part men empties g
open_added men empties squares both g own is clear groups = rw (none, same) refl
  where
    none : list_any (has_square men) (squares_of g) ≡ false
    none = any_in_same (has_square men) (squares_of g) squares (λ u. sym (own.has u)) ∙ clear

    same : both ≡ squares_where (λ u. has_square empties u && has_square (squares_of g) u)
    same = is.in_order ∙ ap squares_where (fun_ext (λ u. ap (λ b. has_square empties u && b) (own.has u)))

pub open_left : (men empties squares : List Square) (g : Group) → IsSetOf (has_square (squares_of g)) squares → list_any (has_square men) squares ≡ true
    → (groups : List OpenGroup) → groups ≡ groups ++ open_part men empties g
open_left men empties squares g own met groups = rw some (sym (append-nil groups))
  where
    some : list_any (has_square men) (squares_of g) ≡ true
    some = any_in_same (has_square men) (squares_of g) squares (λ u. sym (own.has u)) ∙ met

-- one group of the board more
pub open_more : (p : Position) (side : Side) (men empties : List Square) (gs : List Group) (i : ℕ) (g : Group) → i < length gs → g ≡ get_or gs i g
    → IsSetOf (has_man p (other side)) men → IsSetOf (is_empty p) empties
    → map (open_group_at p) (filter (is_free_for side p) (take i gs)) ++ open_part men empties g
    ≡ map (open_group_at p) (filter (is_free_for side p) (take (i + 1) gs))
open_more p side men empties gs i g within at held bare =
    ap (λ test. map (open_group_at p) (filter (is_free_for side p) (take i gs))
    ++ (if list_any test (squares_of g) then [] else record { id = g; empty = squares_where (λ u. has_square empties u && has_square (squares_of g) u) }
    ∷ [])) (fun_ext held.has)
    ∙ ap (λ test. map (open_group_at p) (filter (is_free_for side p) (take i gs))
    ++ (if list_any (has_man p (other side)) (squares_of g) then []
    else record { id = g; empty = squares_where (λ u. test u && has_square (squares_of g) u) } ∷ [])) (fun_ext bare.has)
    ∙ elim (cases_Bool (list_any (has_man p (other side)) (squares_of g))) [
      | inl some ↦ rw some (append-nil (map (open_group_at p) (filter (is_free_for side p) (take i gs)))
          ∙ sym (filtered_none (is_free_for side p) (open_group_at p) gs i g within at (rw some refl)))
      | inr none ↦ rw none (sym (filtered_more (is_free_for side p) (open_group_at p) gs i g within at (open_group_at p g) (rw none refl)))
    ]

-- no more groups than were gone through
pub open_few : (p : Position) (side : Side) (gs : List Group) (i : ℕ) → length (map (open_group_at p) (filter (is_free_for side p) (take i gs))) ≤ i
open_few p side gs i =
    omega (
      arith,
      length-map {B = OpenGroup} (filter (is_free_for side p) (take i gs)) (open_group_at p),
      length-filter_both (is_free_for side p) (λ g. not (is_free_for side p g)) (λ g. refl) (take i gs),
      length-take i gs,
    )
