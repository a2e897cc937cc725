-- The groups of Black's that Aftereven and Before rest on, as a search finds them: by their empty squares, and a set that
-- has to have those.
use Rattle.std.proofs.Common.{◌≡◌, ◌+◌, Bool, true, false, not, ◌&&◌, ◌||◌, ◌==◌, nat_le, nat_lt, List, [], ◌∷◌, length, map, Option, Some, None, refl, sym, ap}
use Rattle.std.proofs.Common.{◌∙◌, inl, inr, arith}
use Rattle.std.specs.List.{list_all, list_any, find}
use Rattle.std.specs.Option.{option_map}
use Rattle.std.proofs.Math.Path.{fun_ext}
use Rattle.std.proofs.Math.Bool.{and_comm, and-false}
use Rattle.std.proofs.lemmas.Bool.{cases_Bool, and_parts, and_from, le-leb, lt-ltb, eqb-true, ne_eqb}
use Rattle.game_rules.specs.Board.{Square, on_board, is_board}
use Rattle.game_rules.specs.Position.{Position, board_of}
use Rattle.game_rules.specs.Squares.{has_square, squares_where, is_empty, IsSetOf}
use Rattle.game_rules.specs.Groups.{Group, squares_of, lies_on, groups_of, is_free_for}
use Rattle.game_rules.specs.declared.Side.TheVariants.{Black}
use Rattle.game_rules.proofs.Ends.{on_board_parts}
use Rattle.game_rules.proofs.Lists.{Among, any_gives, any_from}
use Rattle.game_rules.proofs.Groups.{Among-groups_gives}
use Rattle.game_rules.proofs.Narrowed.{on_widest}
use Rattle.game_rules.proofs.Squares.{agree, set_same, set_where, has_from, has_gives}
use Rattle.plan_rules.specs.Squares.{above, each_of}
use Rattle.plan_rules.specs.Rules.{aftereven, before, is_open_line, is_low_line, some_above}
use Rattle.plan_rules.specs.Plan.{empty_part}
use Rattle.plan_rules.proofs.LineSites.{chosen_within, each_of_same, open_is}
use Rattle.plan_rules.proofs.Places.{find_map}
use Rattle.walk_rules.proofs.Fast.{find_filter}
use Rattle.rule_law.specs.declared.kept.Kept.{Kept}
use Rattle.rule_law.specs.KeptFacts.{facts_in}
use Rattle.rule_chooser.specs.declared.groups.OpenGroup.{OpenGroup}
use Rattle.rule_chooser.specs.OpenGroups.{open_group_at, groups_for}
use Rattle.rule_chooser.specs.Standing.{does_answer, is_open_within}

-- ---- lists

-- tests that agree on the elements find the same
pub find_agree : {X : Type 0} (f g : X → Bool) (xs : List X) → ((x : X) → Among x xs → f x ≡ g x) → find f xs ≡ find g xs
find_agree f g [] same = refl
find_agree f g (x ∷ xs) same = elim (cases_Bool (g x)) [
  | inl passes ↦ rw (same x (inl refl) ∙ passes, passes) refl
  | inr fails ↦ rw (same x (inl refl) ∙ fails, fails) (find_agree f g xs (λ y among. same y (inr among)))
]

some_of : (us : List Square) → not (length us == 0) ≡ list_any (λ u. true) us
some_of [] = refl
some_of (u ∷ us) = ap not (ne_eqb (length (u ∷ us)) 0 (λ none. omega (arith, none)))

-- two tests of the chosen ones
each_both : (chosen f g : Square → Bool) (us : List Square) → each_of chosen (λ u. f u && g u) us ≡ (each_of chosen f us && each_of chosen g us)
each_both chosen f g [] = refl
each_both chosen f g (u ∷ us) =
    ap (λ b. (not (chosen u) || (f u && g u)) && b) (each_both chosen f g us)
    ∙ four (chosen u) (f u) (g u) (each_of chosen f us) (each_of chosen g us)
  where
    four : (c a b d e : Bool) → ((not c || (a && b)) && (d && e)) ≡ (((not c || a) && d) && ((not c || b) && e))
    four false a b d e = refl
    four true false b d e = refl
    four true true true d e = refl
    four true true false false e = refl
    four true true false true e = refl

-- no group with an empty square is within no squares
pub none_within : (set : List Square) (groups : List OpenGroup) → (length set == 0) ≡ true → find (is_open_within set) groups ≡ None
none_within [] groups none = nothing groups
  where
    open_nowhere : (us : List Square) → (not (length us == 0) && list_all (has_square []) us) ≡ false
    open_nowhere [] = refl
    open_nowhere (u ∷ us) = and-false (not (length (u ∷ us) == 0))

    nothing : (ls : List OpenGroup) → find (is_open_within []) ls ≡ None
    nothing [] = refl
    nothing (l ∷ ls) = rw (open_nowhere l.empty) (nothing ls)
none_within (u ∷ us) groups none = absurd (omega (arith, eqb-true (length (u ∷ us)) 0 none))

-- ---- a group's empty squares

module _ (p : Position) (g : Group) (board : is_board (board_of p) ≡ true) where
  pub part_set : IsSetOf (empty_part p g) (squares_where (empty_part p g))
  part_set = set_where (empty_part p g) (λ u h. on_widest (board_of p) board u (and_parts (on_board (board_of p) u) _ (and_parts (is_empty p u) _ h).0).0)

  pub part_all : (set : List Square) → list_all (has_square set) (squares_where (empty_part p g)) ≡ each_of (is_empty p) (has_square set) (squares_of g)
  part_all set =
      chosen_within (squares_of g) (squares_where (empty_part p g)) (is_empty p) (has_square set)
      (set_same _ _ (squares_where (empty_part p g)) part_set (λ u. and_comm (is_empty p u) (has_square (squares_of g) u)))

  pub part_some : not (length (squares_where (empty_part p g)) == 0) ≡ list_any (is_empty p) (squares_of g)
  part_some = some_of (squares_where (empty_part p g)) ∙ agree _ _
      (λ h.
      let found = any_gives (λ u. true) (squares_where (empty_part p g)) h in
      let both = and_parts (is_empty p found.0) _ (sym (part_set.has found.0) ∙ has_from (squares_where (empty_part p g)) found.0 found.1) in
      any_from (is_empty p) (squares_of g) found.0 (has_gives (squares_of g) found.0 both.1) both.0)
      (λ h.
      let found = any_gives (is_empty p) (squares_of g) h in
      any_from (λ u. true) (squares_where (empty_part p g)) found.0
      (has_gives (squares_where (empty_part p g)) found.0 (part_set.has found.0 ∙ and_from _ _ found.2 (has_from (squares_of g) found.0 found.1))) refl)

  -- a group of Black's that is open, and whose empty squares are all in a set
  pub within_is : (set : List Square) → (is_free_for Black p g && is_open_within set (open_group_at p g))
      ≡ (is_free_for Black p g && (list_any (is_empty p) (squares_of g) && each_of (is_empty p) (has_square set) (squares_of g)))
  within_is set = ap (λ b. is_free_for Black p g && b) (ap (λ b. b && list_all (has_square set) (squares_where (empty_part p g))) part_some
      ∙ ap (λ b. list_any (is_empty p) (squares_of g) && b) (part_all set))

-- ---- the first group

-- the first of Black's groups that passes, found by a test of its empty squares
first_along : (p : Position) (groups : List OpenGroup) (set : List Square) (test : Group → Bool) → groups ≡ map (open_group_at p) (groups_for Black p)
    → ((g : Group) → lies_on (board_of p) g ≡ true → (is_free_for Black p g && is_open_within set (open_group_at p g)) ≡ test g)
    → option_map (λ (group : OpenGroup). group.id) (find (is_open_within set) groups) ≡ find test (groups_of (board_of p))
first_along p groups set test same agrees =
    ap (λ ls. option_map (λ (group : OpenGroup). group.id) (find (is_open_within set) ls)) same
    ∙ ap (option_map (λ (group : OpenGroup). group.id)) (find_map (is_open_within set) (open_group_at p) (groups_for Black p))
    ∙ back (find (λ g. is_open_within set (open_group_at p g)) (groups_for Black p))
    ∙ find_filter (λ g. is_open_within set (open_group_at p g)) (is_free_for Black p) (groups_of (board_of p))
    ∙ find_agree _ test (groups_of (board_of p)) (λ g among. agrees g (Among-groups_gives (board_of p) g among))
  where
    back : (o : Option Group) → option_map (λ (group : OpenGroup). group.id) (option_map (open_group_at p) o) ≡ o
    back None = refl
    back (Some g) = refl

module _ (p : Position) (kept : Kept) (part : List Square) (board : is_board (board_of p) ≡ true) (empty : (u : Square)
    → has_square kept.empty u ≡ is_empty p u) where
  pub has_empty : has_square kept.empty ≡ is_empty p
  has_empty = fun_ext empty

  -- an empty square's row is counted from 1
  rows_from : (u : Square) → is_empty p u ≡ true → nat_le 1 u.1 ≡ true
  rows_from (c, r) h = le-leb 1 r (on_board_parts (board_of p) c r (and_parts (on_board (board_of p) (c, r)) _ h).0).1

  pub each_low : (test : Square → Bool) (us : List Square) → each_of (is_empty p) (λ u. nat_le 1 u.1 && test u) us ≡ each_of (is_empty p) test us
  each_low test us = each_of_same (is_empty p) (is_empty p) (λ u. nat_le 1 u.1 && test u) test us (λ u among. refl)
      (λ u among h. ap (λ b. b && test u) (rows_from u h))

  -- the empty squares are in the one set, and pass the other's test
  both_sets : (g : Group) (first second set : List Square) (test : Square → Bool) → IsSetOf (λ u. nat_le 1 u.1 && test u) second
      → IsSetOf (λ u. has_square first u && has_square second u) set
      → each_of (is_empty p) (has_square set) (squares_of g)
      ≡ (each_of (is_empty p) (has_square first) (squares_of g) && each_of (is_empty p) test (squares_of g))
  both_sets g first second set test is both =
      ap (λ t. each_of (is_empty p) t (squares_of g)) (fun_ext (λ u. both.has u ∙ ap (λ b. has_square first u && b) (is.has u)))
      ∙ each_both (is_empty p) (has_square first) (λ u. nat_le 1 u.1 && test u) (squares_of g)
      ∙ ap (λ b. each_of (is_empty p) (has_square first) (squares_of g) && b) (each_low test (squares_of g))

  pub first_aftereven : (groups : List OpenGroup) (below set : List Square) → groups ≡ map (open_group_at p) (groups_for Black p)
      → IsSetOf (λ u. nat_le 1 u.1 && some_above (has_square part) u) below → IsSetOf (λ u. has_square kept.upper u && has_square below u) set
      → option_map (λ (group : OpenGroup). group.id) (find (is_open_within set) groups)
      ≡ find (λ g. does_answer p (facts_in kept) (has_square part) (aftereven g)) (groups_of (board_of p))
  first_aftereven groups below set same is both = first_along p groups set _ same (λ g lies.
      within_is p g board set
      ∙ ap (λ b. is_free_for Black p g && (list_any (is_empty p) (squares_of g) && b)) (both_sets g kept.upper below set (some_above (has_square part)) is both)
      ∙ grouped (lies_on (board_of p) g) (is_free_for Black p g) (list_any (is_empty p) (squares_of g)) _ lies
      ∙ sym (ap (λ b. b && (each_of (is_empty p) (has_square kept.upper) (squares_of g) && each_of (is_empty p) (some_above (has_square part)) (squares_of g)))
      (open_is p g))
      ∙ ap (λ e. is_open_line p g && (each_of e (has_square kept.upper) (squares_of g) && each_of e (some_above (has_square part)) (squares_of g)))
      (sym has_empty))
    where
      grouped : (l f a b : Bool) → l ≡ true → (f && (a && b)) ≡ (((l && f) && a) && b)
      grouped l true true b h = rw h refl
      grouped l true false b h = rw h refl
      grouped l false a b h = rw h refl

  pub first_before : (groups : List OpenGroup) (held lowered set : List Square) → groups ≡ map (open_group_at p) (groups_for Black p)
      → ((u : Square) → has_square part u ≡ true → is_empty p u ≡ true)
      → IsSetOf (λ u. has_square kept.upper u || has_square kept.pair u) held → IsSetOf (λ u. nat_le 1 u.1 && has_square part (u.0, u.1 + 1)) lowered
      → IsSetOf (λ u. has_square held u && has_square lowered u) set
      → option_map (λ (group : OpenGroup). group.id) (find (is_open_within set) groups) ≡ find (λ g. does_answer p (facts_in kept) (has_square part) (before g))
      (groups_of (board_of p))
  first_before groups held lowered set same inside union low both = first_along p groups set _ same (λ g lies.
      within_is p g board set
      ∙ ap (λ b. is_free_for Black p g && (list_any (is_empty p) (squares_of g) && b)) (both_sets g held lowered set (λ u. has_square part (above u)) low both)
      ∙ ap (λ t. is_free_for Black p g
      && (list_any (is_empty p) (squares_of g)
      && (each_of (is_empty p) t (squares_of g) && each_of (is_empty p) (λ u. has_square part (above u)) (squares_of g)))) (fun_ext union.has)
      ∙ grouped (lies_on (board_of p) g) (is_free_for Black p g) (list_any (is_empty p) (squares_of g)) _ _ _ lies (below_rows g)
      ∙ sym (ap (λ b. (b && each_of (is_empty p) (λ u. nat_lt u.1 p.rows) (squares_of g))
      && (each_of (is_empty p) (λ u. has_square kept.upper u || has_square kept.pair u) (squares_of g)
      && each_of (is_empty p) (λ u. has_square part (above u)) (squares_of g))) (open_is p g))
      ∙ ap (λ e. is_low_line p g && (each_of e (λ u. has_square kept.upper u || has_square kept.pair u) (squares_of g)
      && each_of e (λ u. has_square part (above u)) (squares_of g))) (sym has_empty))
    where
      -- where the squares above are empty ones, none of them is a top square
      row_under : (u : Square) → has_square part (above u) ≡ true → nat_lt u.1 p.rows ≡ true
      row_under (c, r) h = let row = (on_board_parts (board_of p) c (r + 1) (and_parts (on_board (board_of p) (c, r + 1)) _ (inside (c, r + 1) h)).0).2 in
          lt-ltb r p.rows (omega (arith, row))

      below_rows : (g : Group) → each_of (is_empty p) (λ u. has_square part (above u)) (squares_of g) ≡ true
          → each_of (is_empty p) (λ u. nat_lt u.1 p.rows) (squares_of g) ≡ true
      below_rows g h = each_more (squares_of g) h
        where
          one : (e a b : Bool) → (a ≡ true → b ≡ true) → (not e || a) ≡ true → (not e || b) ≡ true
          one false a b more h = refl
          one true a b more h = more h

          each_more : (us : List Square) → each_of (is_empty p) (λ u. has_square part (above u)) us ≡ true
              → each_of (is_empty p) (λ u. nat_lt u.1 p.rows) us ≡ true
          each_more [] h = refl
          each_more (u ∷ us) h =
              let both = and_parts (not (is_empty p u) || has_square part (above u)) (each_of (is_empty p) (λ u. has_square part (above u)) us) h in
              and_from _ _ (one (is_empty p u) (has_square part (above u)) (nat_lt u.1 p.rows) (row_under u) both.0) (each_more us both.1)

      grouped : (l f a b c d : Bool) → l ≡ true → (c ≡ true → d ≡ true) → (f && (a && (b && c))) ≡ ((((l && f) && a) && d) && (b && c))
      grouped l false a b c d h more = rw h refl
      grouped l true false b c d h more = rw h refl
      grouped l true true false c true h more = rw h refl
      grouped l true true false c false h more = rw h refl
      grouped l true true true true d h more = rw (h, more refl) refl
      grouped l true true true false true h more = rw h refl
      grouped l true true true false false h more = rw h refl
