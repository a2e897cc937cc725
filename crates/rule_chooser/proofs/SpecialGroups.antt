-- Where a Specialbefore can answer a group: which squares and which groups of Black's are enough to look at.
use Rattle.std.proofs.Common.{◌≡◌, ℕ, ◌+◌, ◌<◌, Bool, true, false, ◌&&◌, ◌||◌, ◌==◌, nat_le, List, [], ◌∷◌, length, map, filter, get_or, None, refl, sym, ap}
use Rattle.std.proofs.Common.{◌∙◌, subst, inl, inr, arith}
use Rattle.std.specs.List.{list_all}
use Rattle.std.specs.Option.{option_or}
use Rattle.std.proofs.lemmas.Bool.{and_parts, and_from, or_cases, or_right, both_ways, false_from_ne_true, eqb-true}
use Rattle.std.proofs.Math.Path.{fun_ext}
use Rattle.game_rules.specs.Board.{Square, on_board, is_board}
use Rattle.game_rules.specs.Position.{Position, board_of}
use Rattle.game_rules.specs.Squares.{same_square, has_square, squares_where, squares_of_board, is_empty, is_playable, IsSetOf}
use Rattle.game_rules.specs.Groups.{Group, squares_of, groups_of, is_free_for}
use Rattle.game_rules.specs.declared.Side.TheVariants.{Black}
use Rattle.game_rules.proofs.Filtered.{filter_all}
use Rattle.game_rules.proofs.Lists.{Among, Among-at, Among-filter, Among-map_gives, any_gives, any_from}
use Rattle.game_rules.proofs.Squares.{set_same, has_from, Among-board}
use Rattle.plan_rules.specs.Squares.{above, each_of}
use Rattle.plan_rules.specs.Rules.{Facts, specialbefore, is_low_line, is_twin, fits, is_supported}
use Rattle.plan_rules.specs.Listing.{playable_squares, each_with}
use Rattle.plan_rules.specs.Plan.{empty_part}
use Rattle.plan_rules.proofs.Before.{low_open}
use Rattle.plan_rules.proofs.Grounds.{fits_shape, fits_more}
use Rattle.plan_rules.proofs.LineSites.{special_parts, open_is}
use Rattle.plan_rules.proofs.Sites.{some_playables}
use Rattle.plan_rules.proofs.Turns.{playable_empty}
use Rattle.rule_law.specs.declared.kept.Kept.{Kept}
use Rattle.rule_law.specs.KeptFacts.{facts_in}
use Rattle.rule_chooser.specs.declared.groups.OpenGroup.{OpenGroup}
use Rattle.rule_chooser.specs.OpenGroups.{open_group_at, groups_for}
use Rattle.rule_chooser.specs.Standing.{does_answer, first_of, first_special, is_of_twin, is_outside, special_along}
use Rattle.rule_chooser.proofs.BlackGroups.{part_set, part_all, each_low, has_empty}
use Rattle.rule_chooser.proofs.Specials.{first_each, first_narrowed, first_none}

-- the one of two twins is a twin's
twin_of_two : (twins : List (Square × Square)) (f e : Square) → is_twin twins f e ≡ true → is_of_twin twins f ≡ true
twin_of_two twins f e h =
    let found = any_gives (λ (t : Square × Square). (same_square f t.0 && same_square e t.1) || (same_square f t.1 && same_square e t.0)) twins h in
    any_from (λ (t : Square × Square). same_square f t.0 || same_square f t.1) twins found.0 found.1
    (elim (or_cases (same_square f found.0.0 && same_square e found.0.1) (same_square f found.0.1 && same_square e found.0.0) found.2) [
      | inl first ↦ ap (λ b. b || same_square f found.0.1) (and_parts (same_square f found.0.0) _ first).0
      | inr second ↦ or_right (same_square f found.0.0) (same_square f found.0.1) (and_parts (same_square f found.0.1) _ second).0
    ])

playable_one : (p : Position) (u : Square) → is_playable p u ≡ true → has_square (playable_squares p) u ≡ true
playable_one p u h = has_from (playable_squares p) u
    (Among-filter (is_playable p) (squares_of_board (board_of p)) u (Among-board (board_of p) u (and_parts (on_board (board_of p) u) _ h).0) h)

module _ (p : Position) (kept : Kept) (part : List Square) (board : is_board (board_of p) ≡ true) (empty : (u : Square)
    → has_square kept.empty u ≡ is_empty p u) where
  -- what answers the group
  record Answers (g : Group) (f e : Square) : Type 0 where
    pub low : is_low_line p g ≡ true
    pub outer : is_playable p f ≡ true
    pub inner : is_playable p e ≡ true
    pub in_group : has_square (squares_of g) e ≡ true
    pub of_twin : is_of_twin kept.twin.items f ≡ true
    pub in_part : has_square part f ≡ true
    pub all_above : each_of (is_empty p) (λ u. has_square part (above u)) (squares_of g) ≡ true

  answers : (g : Group) (f e : Square) → does_answer p (facts_in kept) (has_square part) (specialbefore g f e) ≡ true → Answers g f e
  answers g f e h =
      let all = and_parts (fits (specialbefore g f e) p) _ h in
      let two = and_parts (is_supported (specialbefore g f e) (facts_in kept)) _ all.1 in
      let more = and_parts (is_low_line p g && is_playable p f) (is_playable p e) (fits_more (specialbefore g f e) p all.0) in
      let outer = and_parts (is_low_line p g) (is_playable p f) more.0 in
      let shape = special_parts g f e (board_of p) (and_from _ _ refl (fits_shape (specialbefore g f e) p all.0)) in
      let bars = and_parts (has_square part f) _ two.1 in
      record {
        low = outer.0;
        outer = outer.1;
        inner = more.1;
        in_group = shape.3;
        of_twin = twin_of_two kept.twin.items f e (and_parts (is_twin kept.twin.items f e) _ two.0).0;
        in_part = bars.0;
        all_above = subst (λ chosen. each_of chosen (λ u. has_square part (above u)) (squares_of g) ≡ true) (has_empty p kept part board empty) bars.1;
      }

  -- ---- one group

  -- the playable squares that are looked at are enough
  pub group_narrowed : (g : Group) (playable outside inside group : List Square) → group ≡ squares_where (empty_part p g)
      → IsSetOf (has_square (playable_squares p)) playable
      → IsSetOf (is_outside p (facts_in kept) (has_square part)) outside → IsSetOf (λ u. has_square playable u && has_square group u) inside
      → first_of p (facts_in kept) (has_square part) (λ two. specialbefore g two.0 two.1) (each_with outside inside)
      ≡ first_of p (facts_in kept) (has_square part) (λ two. specialbefore g two.0 two.1) (each_with (playable_squares p) (playable_squares p))
  group_narrowed g playable outside inside group same all outer inner =
      ap (λ fs. first_of p (facts_in kept) (has_square part) (λ two. specialbefore g two.0 two.1) (each_with fs inside))
      (some_playables p (λ u. is_of_twin kept.twin.items u && has_square part u) outside board outer)
      ∙ ap (λ es. first_of p (facts_in kept) (has_square part) (λ two. specialbefore g two.0 two.1)
      (each_with (filter (λ u. is_of_twin kept.twin.items u && has_square part u) (playable_squares p)) es))
      (some_playables p (empty_part p g) inside board
      (set_same _ _ inside inner (λ u. ap (λ b. b && has_square group u) (all.has u)
      ∙ ap (λ b. has_square (playable_squares p) u && b) (ap (λ us. has_square us u) same ∙ (part_set p g board).has u))))
      ∙ first_narrowed p (facts_in kept) (has_square part) (λ two. specialbefore g two.0 two.1) (λ u. is_of_twin kept.twin.items u && has_square part u)
      (empty_part p g) (playable_squares p) (playable_squares p)
      (λ f e h. let is = answers g f e h in (and_from _ _ is.of_twin is.in_part, and_from _ _ (playable_empty p e is.inner) is.in_group))

  -- a group of which some empty square lies under none of the group that is to be answered
  pub group_none : (g : Group) (group lowered : List Square) → group ≡ squares_where (empty_part p g)
      → IsSetOf (λ u. nat_le 1 u.1 && has_square part (u.0, u.1 + 1)) lowered
      → list_all (has_square lowered) group ≡ false
      → None ≡ first_of p (facts_in kept) (has_square part) (λ two. specialbefore g two.0 two.1) (each_with (playable_squares p) (playable_squares p))
  group_none g group lowered same low fails =
      first_none p (facts_in kept) (has_square part) (λ two. specialbefore g two.0 two.1) (playable_squares p) (playable_squares p)
      (λ f e. false_from_ne_true _ (λ h. both_ways (list_all (has_square lowered) group) fails (all_low (answers g f e h).all_above)))
    where
      all_low : each_of (is_empty p) (λ u. has_square part (above u)) (squares_of g) ≡ true → list_all (has_square lowered) group ≡ true
      all_low h =
          ap (list_all (has_square lowered)) same
          ∙ part_all p g board lowered
          ∙ ap (λ t. each_of (is_empty p) t (squares_of g)) (fun_ext low.has)
          ∙ each_low p kept part board empty (λ u. has_square part (above u)) (squares_of g)
          ∙ h

  -- ---- all groups

  -- without a square of a twin in the group there is none
  pub none_outside : (outside : List Square) → IsSetOf (is_outside p (facts_in kept) (has_square part)) outside → (length outside == 0) ≡ true
      → None ≡ first_special p (facts_in kept) (has_square part)
  none_outside outside is none =
      first_none p (facts_in kept) (has_square part) (λ three. specialbefore three.0 three.1.0 three.1.1) (groups_of (board_of p))
      (each_with (playable_squares p) (playable_squares p))
      (λ g two. false_from_ne_true _ (λ h.
      let at = answers g two.0 two.1 h in
      no_square outside (eqb-true (length outside) 0 none) two.0
      (is.has two.0 ∙ and_from _ _ (playable_one p two.0 at.outer) (and_from _ _ at.of_twin at.in_part))))
    where
      no_square : (us : List Square) → length us ≡ 0 → (u : Square) → has_square us u ≡ true → ⊥
      no_square [] none u h = cc h
      no_square (v ∷ us) none u h = absurd (omega arith)

  -- Black's groups are enough
  pub along_groups : (groups : List OpenGroup) → groups ≡ map (open_group_at p) (groups_for Black p)
      → special_along p (facts_in kept) (has_square part) groups ≡ first_special p (facts_in kept) (has_square part)
  along_groups groups same =
      ap (λ gs. first_of p (facts_in kept) (has_square part) (λ three. specialbefore three.0 three.1.0 three.1.1)
      (each_with gs (each_with (playable_squares p) (playable_squares p))))
      (ap (map (λ (group : OpenGroup). group.id)) same ∙ back (groups_for Black p))
      ∙ ap (λ ys. first_of p (facts_in kept) (has_square part) (λ three. specialbefore three.0 three.1.0 three.1.1) (each_with (groups_for Black p) ys))
      (sym (filter_all (each_with (playable_squares p) (playable_squares p))))
      ∙ first_narrowed p (facts_in kept) (has_square part) (λ three. specialbefore three.0 three.1.0 three.1.1) (is_free_for Black p) (λ two. true)
      (groups_of (board_of p)) (each_with (playable_squares p) (playable_squares p))
      (λ g two h. (free g (answers g two.0 two.1 h).low, refl))
    where
      back : (gs : List Group) → map (λ (group : OpenGroup). group.id) (map (open_group_at p) gs) ≡ gs
      back [] = refl
      back (g ∷ gs) = ap (λ hs. g ∷ hs) (back gs)

      free : (g : Group) → is_low_line p g ≡ true → is_free_for Black p g ≡ true
      free g low = (and_parts _ (is_free_for Black p g) (and_parts _ _ (sym (open_is p g) ∙ low_open p g low)).0).1

-- one group more
pub along_more : (p : Position) (facts : Facts) (part : Square → Bool) (group : OpenGroup) (groups : List OpenGroup)
    → special_along p facts part (group ∷ groups)
    ≡ option_or (first_of p facts part (λ two. specialbefore group.id two.0 two.1) (each_with (playable_squares p) (playable_squares p)))
    (special_along p facts part groups)
along_more p facts part group groups = first_each p facts part (λ three. specialbefore three.0 three.1.0 three.1.1)
    (each_with (playable_squares p) (playable_squares p)) group.id (map (λ (group : OpenGroup). group.id) groups)

-- a group of the list is one of its group
pub group_is : (p : Position) (gs : List Group) (groups : List OpenGroup) (i : ℕ) (group : OpenGroup) → groups ≡ map (open_group_at p) gs → i < length groups
    → group ≡ get_or groups i group → group ≡ open_group_at p group.id
group_is p gs groups i group same within at =
    let among = subst (λ ls. Among group ls) same (subst (λ x. Among x groups) (sym at) (Among-at groups i group within)) in
    let found = Among-map_gives (open_group_at p) gs group among in
    subst (λ (l : OpenGroup). l ≡ open_group_at p l.id) found.2 refl

-- the squares that are looked at
pub outside_is : (p : Position) (twins : List (Square × Square)) (part playable of_twins both outside : List Square)
    → IsSetOf (has_square (playable_squares p)) playable → IsSetOf (is_of_twin twins) of_twins
    → IsSetOf (λ u. has_square playable u && has_square of_twins u) both
    → IsSetOf (λ u. has_square both u && has_square part u) outside
    → IsSetOf (λ u. has_square (playable_squares p) u && (is_of_twin twins u && has_square part u)) outside
outside_is p twins part playable of_twins both outside all twin two is =
    set_same _ _ outside is (λ u.
    ap (λ b. b && has_square part u) (two.has u ∙ ap (λ b. b && has_square of_twins u) (all.has u)
    ∙ ap (λ b. has_square (playable_squares p) u && b) (twin.has u))
    ∙ grouped (has_square (playable_squares p) u) (is_of_twin twins u) (has_square part u))
  where
    grouped : (a b c : Bool) → ((a && b) && c) ≡ (a && (b && c))
    grouped true b c = refl
    grouped false b c = refl
