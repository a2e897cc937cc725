-- What the anchors of each direction say of a set of groups.
use Rattle.std.proofs.Common.{◌≡◌, ◌≢◌, ◌<◌, Bool, true, false, ◌&&◌, ◌||◌, List, [], ◌∷◌, length, set, get_or, refl, sym, ap, ◌∙◌, subst, inl, inr, arith}
use Rattle.std.proofs.Common.{lit<}
use Rattle.std.proofs.lemmas.Bool.{cases_eq, or_cases, and_parts, and_from, eq-eqb, ne_eqb}
use Rattle.std.proofs.lemmas.List.{get_or-set_same, get_or-set_other, get_or_default}
use Rattle.game_rules.specs.Board.{Board, Square, same_length}
use Rattle.game_rules.specs.Squares.{same_square, has_square, squares_where, widest_with, IsSetOf}
use Rattle.game_rules.specs.Groups.{Group, lies_on, rank, same_group, has_group, group_on, IsGroupSetOf}
use Rattle.game_rules.proofs.Moves.{same_length_refl, same_length_is}
use Rattle.game_rules.proofs.Squares.{agree, set_where, set_same, where_same}
use Rattle.game_rules.proofs.Groups.{anchor_on, lies_parts, group_as, line_widest, rank_is, same_group_is, group_where_on, groups_where_same, group_set_where}
use Rattle.game_rules.specs.declared.Way.{Way}
use Rattle.game_rules.specs.declared.Way.TheVariants.{H, V, U, D}
use Rattle.open_groups.specs.AnchorFields.{anchors_along, is_anchored, groups_anchored, set_anchored, anchors_of, IsSound}
use Rattle.open_groups.specs.declared.group_set.GroupSet.TheInside.{Inside}

parted : {X : Type 0} (d : X) (xs : List X) → length xs ≡ 4 → xs ≡ get_or xs 0 d ∷ get_or xs 1 d ∷ get_or xs 2 d ∷ get_or xs 3 d ∷ []
parted d [] size = absurd (omega arith)
parted d (a ∷ []) size = absurd (omega arith)
parted d (a ∷ b ∷ []) size = absurd (omega arith)
parted d (a ∷ b ∷ e ∷ []) size = absurd (omega arith)
parted d (a ∷ b ∷ e ∷ f ∷ []) size = refl
parted d (a ∷ b ∷ e ∷ f ∷ g ∷ xs) size = absurd (omega arith)

-- Anchors that are, direction by direction, those of the groups that pass a test.
module _ (board : Board) (anchors : List (List Square)) (size : length anchors ≡ 4) (test : Group → Bool) (within : (g : Group) → test g ≡ true
    → lies_on board g ≡ true)
    (each : (way : Way) → IsSetOf (λ s. test (group_on board way s)) (anchors_along anchors way)) where
  pub anchored_set : IsGroupSetOf board test (set_anchored board anchors)
  unfolding groups_anchored
  anchored_set =
      subst (λ gs. IsGroupSetOf board test (record { board = board; groups = gs }))
      (sym (groups_where_same board (is_anchored anchors) test (λ h on. (each h.way).has h.anchor ∙ ap test (group_as board h (lies_parts board h on).0))))
      (group_set_where board test within)

  kept : (way : Way) → squares_where (λ s. has_group (groups_anchored board anchors) (group_on board way s)) ≡ anchors_along anchors way
  kept way =
      where_same (λ s. has_group (groups_anchored board anchors) (group_on board way s)) (λ s. test (group_on board way s))
      (λ s on. anchored_set.has (group_on board way s))
      ∙ sym (each way).in_order

  pub determined_anchors : anchors_of (set_anchored board anchors) ≡ anchors
  unfolding anchors_of
  determined_anchors = rw (kept H, kept V, kept U, kept D) (sym (parted [] anchors size))

pub size_determined : (a : Inside) → IsSound a → length a.anchors ≡ 4
unfolding anchors_of
size_determined a sound = ap (λ (anchors : List (List Square)). length anchors) (sym sound.determined)

pub each_empty : (m : List Square) → IsSetOf (λ _. false) m → (way : Way) → IsSetOf (λ _. false) (anchors_along (m ∷ m ∷ m ∷ m ∷ []) way)
each_empty m none H = none
each_empty m none V = none
each_empty m none U = none
each_empty m none D = none

in_range : (way : Way) → rank way < 4
in_range H = lit< tt
in_range V = lit< tt
in_range U = lit< tt
in_range D = lit< tt

-- the anchors of a direction, whatever stands for a missing place
pub at_rank : (anchors : List (List Square)) (way : Way) (d : List Square) → length anchors ≡ 4 → get_or anchors (rank way) d ≡ anchors_along anchors way
at_rank anchors way d size = get_or_default anchors (rank way) d [] (subst (λ n. rank way < n) (sym size) (in_range way))

-- the groups of a set that is kept
module _ (a : Inside) (sound : IsSound a) where
  pub anchored_on : (g : Group) → has_group (groups_anchored a.size a.anchors) g ≡ true → lies_on a.size g ≡ true
  unfolding groups_anchored
  anchored_on g h = group_where_on a.size (is_anchored a.anchors) g h

  -- the anchors of a direction are those of the groups
  pub old_along : (way : Way) → IsSetOf (λ s. has_group (groups_anchored a.size a.anchors) (group_on a.size way s)) (anchors_along a.anchors way)
  unfolding anchors_of
  old_along way =
      subst (IsSetOf (λ s. has_group (groups_anchored a.size a.anchors) (group_on a.size way s))) (at way ∙ ap (λ xs. anchors_along xs way) sound.determined)
      (set_where (λ s. has_group (groups_anchored a.size a.anchors) (group_on a.size way s))
      (λ s h. anchor_on (widest_with a.size.len) way s
      (line_widest a.size sound.board way s (lies_parts a.size (group_on a.size way s) (anchored_on (group_on a.size way s) h)).1)))
    where
      at : (way : Way) → squares_where (λ s. has_group (groups_anchored a.size a.anchors) (group_on a.size way s))
          ≡ anchors_along (anchors_of (set_anchored a.size a.anchors)) way
      at H = refl
      at V = refl
      at U = refl
      at D = refl

  -- a group is in the set exactly where it has the board's length and its anchor is kept
  pub has_anchored : (g : Group) → has_group (groups_anchored a.size a.anchors) g ≡ (same_length g.len a.size.len && is_anchored a.anchors g)
  has_anchored g = agree _ _ (λ h. to h (lies_parts a.size g (anchored_on g h)).0)
      (λ h. let both = and_parts (same_length g.len a.size.len) (is_anchored a.anchors g) h in from (same_length_is g.len a.size.len both.0) both.1)
    where
      to : has_group (groups_anchored a.size a.anchors) g ≡ true → g.len ≡ a.size.len → (same_length g.len a.size.len && is_anchored a.anchors g) ≡ true
      to h same = and_from _ _ (ap (λ len. same_length len a.size.len) same ∙ same_length_refl a.size.len)
          ((old_along g.way).has g.anchor ∙ ap (has_group (groups_anchored a.size a.anchors)) (group_as a.size g same) ∙ h)

      from : g.len ≡ a.size.len → is_anchored a.anchors g ≡ true → has_group (groups_anchored a.size a.anchors) g ≡ true
      from same h = ap (has_group (groups_anchored a.size a.anchors)) (sym (group_as a.size g same)) ∙ sym ((old_along g.way).has g.anchor) ∙ h

  -- one more group of the board
  module _ (g : Group) (on : lies_on a.size g ≡ true) where
    abbrev pub with_group : Group → Bool
    with_group h = same_group h g || has_group (groups_anchored a.size a.anchors) h

    pub with_within : (h : Group) → with_group h ≡ true → lies_on a.size h ≡ true
    with_within h passes = elim (or_cases (same_group h g) (has_group (groups_anchored a.size a.anchors) h) passes) [
      | inl same ↦ subst (λ k. lies_on a.size k ≡ true) (sym (same_group_is h g same)) on
      | inr old ↦ anchored_on h old
    ]

    pub each_with : (along next : List Square) → along ≡ get_or a.anchors (rank g.way) along → IsSetOf (λ u. same_square u g.anchor || has_square along u) next
        → (way : Way) → IsSetOf (λ s. with_group (group_on a.size way s)) (anchors_along (set a.anchors (rank g.way) next) way)
    each_with along next is one way = elim (cases_eq (rank way) (rank g.way)) [
      | inl same ↦ rw (rank_is way g.way same)
          (subst (IsSetOf (λ s. with_group (group_on a.size g.way s))) (sym (get_or-set_same a.anchors (rank g.way) next [] low))
          (set_same _ (λ s. with_group (group_on a.size g.way s)) next one (λ s.
          ap (λ b. b || has_square along s) (sym (same_there s))
          ∙ ap (λ b. same_group (group_on a.size g.way s) g || b) (ap (λ m. has_square m s) old ∙ (old_along g.way).has s))))
      | inr apart ↦ subst (IsSetOf (λ s. with_group (group_on a.size way s))) (sym (get_or-set_other a.anchors (rank g.way) (rank way) next [] apart))
          (set_same (λ s. has_group (groups_anchored a.size a.anchors) (group_on a.size way s)) (λ s. with_group (group_on a.size way s))
          (anchors_along a.anchors way) (old_along way) (λ s.
          ap (λ b. b || has_group (groups_anchored a.size a.anchors) (group_on a.size way s)) (sym (other_way s way apart))))
    ]
      where
        size : length a.anchors ≡ 4
        size = size_determined a sound

        low : rank g.way < length a.anchors
        low = subst (λ n. rank g.way < n) (sym size) (in_range g.way)

        old : along ≡ anchors_along a.anchors g.way
        old = is ∙ at_rank a.anchors g.way along size

        and_true : (a : Bool) → (a && true && true) ≡ a
        and_true true = refl
        and_true false = refl

        and_false : (a b : Bool) → (a && false && b) ≡ false
        and_false true b = refl
        and_false false b = refl

        same_there : (s : Square) → same_group (group_on a.size g.way s) g ≡ same_square s g.anchor
        same_there s = rw (eq-eqb (rank g.way) (rank g.way) refl, (lies_parts a.size g on).0, same_length_refl a.size.len) (and_true (same_square s g.anchor))

        other_way : (s : Square) (way : Way) → rank way ≢ rank g.way → same_group (group_on a.size way s) g ≡ false
        other_way s way apart = rw (ne_eqb (rank way) (rank g.way) apart) (and_false (same_square s g.anchor) (same_length a.size.len g.len))
