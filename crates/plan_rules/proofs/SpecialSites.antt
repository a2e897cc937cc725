-- The sites of Specialbefores: each low line with the playable squares outside it and those of its own.
use Rattle.std.proofs.Common.{◌≡◌, ◌≢◌, ◌+◌, Bool, true, false, not, ◌&&◌, ◌==◌, List, [], ◌∷◌, filter, refl, sym, ap, ◌∙◌, subst}
use Rattle.std.specs.List.{list_all}
use Rattle.std.proofs.lemmas.Bool.{both_ways, and_parts, and_from, false_from_ne_true, not-true, ne_eqb}
use Rattle.game_rules.specs.Board.{Board, Square, on_board, is_line, is_board}
use Rattle.game_rules.specs.Position.{Position, board_of, height}
use Rattle.game_rules.specs.Squares.{has_square, is_playable, widest_with, IsSetOf}
use Rattle.game_rules.specs.Groups.{Group, squares_of, groups_of, groups_where}
use Rattle.game_rules.proofs.Filtered.{filter_all}
use Rattle.game_rules.proofs.Lists.{all_gives, all_from}
use Rattle.game_rules.proofs.Narrowed.{on_widest}
use Rattle.game_rules.proofs.Groups.{lies_parts, line_widest}
use Rattle.game_rules.proofs.Moves.{same_length_refl}
use Rattle.game_rules.proofs.Squares.{set_same}
use Rattle.plan_rules.specs.Rules.{RuleInstance, specialbefore, is_shaped, is_low_line, fits}
use Rattle.plan_rules.specs.Listing.{playable_squares, each_with, fitting, listed}
use Rattle.plan_rules.specs.declared.Kind.TheVariants as kinds
use Rattle.plan_rules.proofs.Before.{low_open}
use Rattle.plan_rules.proofs.Grounds.{fits_shape, fits_more}
use Rattle.plan_rules.proofs.Lines.{open_lies}
use Rattle.plan_rules.proofs.Turns.{playable_parts}
use Rattle.plan_rules.proofs.LineSites.{is_open_for_black, open_is, special_parts}
use Rattle.plan_rules.proofs.Sites.{fitting_pairs_within, kept_playable, all_filtered, some_playables}

-- an instance of the group, with both squares
abbrev pub special_of : Group → Square × Square → RuleInstance
special_of g two = specialbefore g two.0 two.1

abbrev pub outside : Group → Square → Bool
outside g u = not (has_square (squares_of g) u)

abbrev pub inside : Group → Square → Bool
inside g u = has_square (squares_of g) u

-- a shape on a board is one on the widest with lines of the group's length
pub special_widest : (g : Group) (f e0 : Square) (board : Board) → is_board board ≡ true → is_shaped (specialbefore g f e0) board ≡ true
    → is_shaped (specialbefore g f e0) (widest_with g.len) ≡ true
special_widest g f e0 board h shaped =
    let parts = special_parts g f e0 board shaped in
    let lies = lies_parts board g parts.0 in
    let line : is_line (widest_with g.len) g.way g.anchor ≡ true = subst (λ len. is_line (widest_with len) g.way g.anchor ≡ true) (sym lies.0)
    (line_widest board h g.way g.anchor lies.1) in
    and_from _ _ refl (and_from _ _
    (and_from _ _ (and_from _ _ (and_from _ _ (and_from _ _ (same_length_refl g.len) line) (on_widest board h f parts.1)) parts.2) parts.3) parts.4)

-- what fits has the one square outside the group and the other in it
pub special_within : (p : Position) (g : Group) (f e0 : Square) → fits (special_of g (f, e0)) p ≡ true → (outside g f ≡ true) × (inside g e0 ≡ true)
special_within p g f e0 good = let parts = special_parts g f e0 (board_of p) (and_from _ _ refl (fits_shape (specialbefore g f e0) p good)) in
    (parts.2, parts.3)

-- and such a pair of playable squares fits where the line is a low one
special_fits : (p : Position) (g : Group) (f e0 : Square) → is_low_line p g ≡ true → is_playable p f ≡ true → is_playable p e0 ≡ true → outside g f ≡ true
    → inside g e0 ≡ true → fits (special_of g (f, e0)) p ≡ true
special_fits p g f e0 low play_f play_e out in_group =
    let lies = open_lies p g (low_open p g low) in
    let on = (and_parts (on_board (board_of p) f) _ play_f).0 in
    let apart : not (f.0 == e0.0) ≡ true = ap not (ne_eqb f.0 e0.0 other) in
    and_from _ _ (and_from _ _ (and_from _ _ refl (and_from _ _ (and_from _ _ (and_from _ _ (and_from _ _ lies on) out) in_group) apart)) refl)
    (and_from _ _ (and_from _ _ low play_f) play_e)
  where
    -- of one column there is one playable square
    other : f.0 ≢ e0.0
    other same = both_ways (has_square (squares_of g) f) (not-true _ out)
        (subst (λ u. has_square (squares_of g) u ≡ true) (one same (rows f play_f) (rows e0 play_e)) in_group)
      where
        rows : (u : Square) → is_playable p u ≡ true → u.1 ≡ height p u.0 + 1
        rows u h = (playable_parts p u h).1

        one : f.0 ≡ e0.0 → f.1 ≡ height p f.0 + 1 → e0.1 ≡ height p e0.0 + 1 → e0 ≡ f
        one same row_f row_e = ap (λ c. (c, e0.1)) (sym same) ∙ ap (λ r. (f.0, r)) (row_e ∙ ap (λ c. height p c + 1) (sym same) ∙ sym row_f)

-- each pair of them is a site
pub special_sites : (p : Position) (g : Group) (fs es : List Square) → is_low_line p g ≡ true → fs ≡ filter (outside g) (playable_squares p)
    → es ≡ filter (inside g) (playable_squares p)
    → list_all (λ f. list_all (λ e0. fits (special_of g (f, e0)) p) es) fs ≡ true
special_sites p g fs es low first second =
    let play_f = kept_playable p (outside g) fs first in let play_e = kept_playable p (inside g) es second in
    let out = ap (list_all (outside g)) first ∙ all_filtered (outside g) (playable_squares p) in
    let own = ap (list_all (inside g)) second ∙ all_filtered (inside g) (playable_squares p) in
    all_from _ fs (λ f at_f. all_from _ es (λ e0 at_e.
    special_fits p g f e0 low (all_gives (is_playable p) fs f play_f at_f) (all_gives (is_playable p) es e0 play_e at_e) (all_gives (outside g) fs f out at_f)
    (all_gives (inside g) es e0 own at_e)))

pub special_pairs : (p : Position) (g : Group) (fs es : List Square) → fs ≡ filter (outside g) (playable_squares p)
    → es ≡ filter (inside g) (playable_squares p)
    → fitting (special_of g) p (each_with fs es) ≡ fitting (special_of g) p (each_with (playable_squares p) (playable_squares p))
special_pairs p g fs es first second =
    ap (λ us. fitting (special_of g) p (each_with us es)) first
    ∙ ap (λ us. fitting (special_of g) p (each_with (filter (outside g) (playable_squares p)) us)) second
    ∙ fitting_pairs_within (special_of g) p (outside g) (inside g) (playable_squares p) (playable_squares p) (special_within p g)

-- nothing fits at another line
pub special_none : (p : Position) (g : Group) (twos : List (Square × Square)) → is_low_line p g ≡ false → fitting (special_of g) p twos ≡ []
special_none p g [] high = refl
special_none p g (two ∷ twos) high =
    rw (false_from_ne_true (fits (special_of g two) p)
    (λ good. both_ways (is_low_line p g) high
    (and_parts (is_low_line p g) _ (and_parts (is_low_line p g && is_playable p two.0) (is_playable p two.1) (fits_more (special_of g two) p good)).0).0))
    (special_none p g twos high)

-- the groups that Black can still fill are enough
pub special_groups : (p : Position) (gs : List Group) → gs ≡ groups_where (board_of p) (is_open_for_black p)
    → fitting (λ three. special_of three.0 three.1) p (each_with gs (each_with (playable_squares p) (playable_squares p))) ≡ listed kinds.Specialbefore p
unfolding groups_where
special_groups p gs same =
    let pairs = each_with (playable_squares p) (playable_squares p) in
    let special : Group × (Square × Square) → RuleInstance = λ three. special_of three.0 three.1 in
    ap (λ gs. fitting special p (each_with gs pairs)) same
    ∙ ap (λ twos. fitting special p (each_with (filter (is_open_for_black p) (groups_of (board_of p))) twos)) (sym (filter_all pairs))
    ∙ fitting_pairs_within special p (is_open_for_black p) (λ two. true) (groups_of (board_of p)) pairs (λ g two good. (opened g two good, refl))
  where
    opened : (g : Group) (two : Square × Square) → fits (special_of g two) p ≡ true → is_open_for_black p g ≡ true
    opened g two good =
        let low = (and_parts (is_low_line p g) _
        (and_parts (is_low_line p g && is_playable p two.0) (is_playable p two.1) (fits_more (special_of g two) p good)).0).0 in
        (and_parts (is_open_for_black p g) _ (sym (open_is p g) ∙ low_open p g low)).0

-- the playable squares outside a group and those in it, from sets
pub outside_are : (p : Position) (g : Group) (all own us : List Square) → is_board (board_of p) ≡ true → IsSetOf (has_square (playable_squares p)) all
    → IsSetOf (has_square (squares_of g)) own
    → IsSetOf (λ u. has_square all u && not (has_square own u)) us → us ≡ filter (outside g) (playable_squares p)
outside_are p g all own us h playable group set = some_playables p (outside g) us h (set_same _ _ us set (λ u.
    ap (λ b. b && not (has_square own u)) (playable.has u) ∙ ap (λ b. has_square (playable_squares p) u && not b) (group.has u)))

pub inside_are : (p : Position) (g : Group) (all own us : List Square) → is_board (board_of p) ≡ true → IsSetOf (has_square (playable_squares p)) all
    → IsSetOf (has_square (squares_of g)) own
    → IsSetOf (λ u. has_square all u && has_square own u) us → us ≡ filter (inside g) (playable_squares p)
inside_are p g all own us h playable group set = some_playables p (inside g) us h (set_same _ _ us set (λ u.
    ap (λ b. b && has_square own u) (playable.has u) ∙ ap (λ b. has_square (playable_squares p) u && b) (group.has u)))
