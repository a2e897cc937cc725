-- The groups of a set, direction by direction.
use Rattle.std.proofs.Common.{◌≡◌, ◌+◌, ◌≤◌, Bool, true, List, ◌++◌, length, map, filter, sym, ap, ◌∙◌, arith, length-append}
use Rattle.std.proofs.lemmas.List.Elements.{filter-append}
use Rattle.std.proofs.lemmas.List.Sums.{length-filter, count_by-le-length}
use Rattle.game_rules.specs.Board.{Square, is_line}
use Rattle.game_rules.specs.Squares.{has_square, squares_of_board, widest_with}
use Rattle.game_rules.specs.Groups.{Group, has_group, group_on, groups_along, groups_of, groups_where}
use Rattle.game_rules.specs.declared.Way.{Way}
use Rattle.game_rules.specs.declared.Way.TheVariants.{H, V, U, D}
use Rattle.game_rules.proofs.Lists.{Among}
use Rattle.game_rules.proofs.Squares.{has_from, where_same}
use Rattle.game_rules.proofs.Groups.{anchor_on, lies_parts, line_widest, groups_fit}
use Rattle.game_rules.proofs.Narrowed.{filter_within, filter_map_by, where_on_board}
use Rattle.open_groups.specs.AnchorFields.{anchors_along, is_anchored, groups_anchored, set_anchored, IsSound}
use Rattle.open_groups.specs.GroupBits.{those_along}
use Rattle.open_groups.specs.declared.group_set.GroupSet.TheInside.{Inside}
use Rattle.open_groups.proofs.Along.{groups_by_way}
use Rattle.open_groups.proofs.Anchors.{old_along, anchored_on}
use Rattle.game_rules.specs.declared.TheConstants.{MOST_GROUPS}

module _ (a : Inside) (sound : IsSound a) where
  abbrev kept : Way → List Group
  kept way = those_along (set_anchored a.size a.anchors) way

  -- the groups of a direction by the anchors that are kept
  pub by_anchors : (way : Way) → kept way ≡ map (group_on a.size way) (anchors_along a.anchors way)
  by_anchors way = ap (map (group_on a.size way)) (sym (old_along a sound way).in_order)

  -- a kept anchor is one of a line of the board
  anchor_line : (way : Way) (s : Square) → has_square (anchors_along a.anchors way) s ≡ true → is_line a.size way s ≡ true
  anchor_line way s h = (lies_parts a.size (group_on a.size way s) (anchored_on a sound (group_on a.size way s) (sym ((old_along a sound way).has s) ∙ h))).1

  pub widest_line : (way : Way) (s : Square) → Among s (anchors_along a.anchors way) → is_line (widest_with a.size.len) way s ≡ true
  widest_line way s among = line_widest a.size sound.board way s (anchor_line way s (has_from (anchors_along a.anchors way) s among))

  -- of all groups of a direction, those that are kept
  along : (way : Way) → filter (is_anchored a.anchors) (groups_along a.size way) ≡ kept way
  along way =
      let passes : Square → Bool = λ s. has_square (anchors_along a.anchors way) s in
      filter_map_by (group_on a.size way) (is_anchored a.anchors) (filter (is_line a.size way) (squares_of_board a.size))
      ∙ ap (map (group_on a.size way)) (
      filter_within passes (is_line a.size way) (squares_of_board a.size) (anchor_line way)
      ∙ sym (where_on_board a.size passes sound.board (λ s h. anchor_on a.size way s (anchor_line way s h)))
      ∙ where_same passes (λ s. has_group (groups_anchored a.size a.anchors) (group_on a.size way s)) (λ s on. (old_along a sound way).has s))

  -- the groups of the four directions are all of them
  pub by_ways : groups_anchored a.size a.anchors ≡ kept H ++ (kept V ++ (kept U ++ kept D))
  unfolding groups_anchored groups_where
  by_ways =
      let test = is_anchored a.anchors in let b = a.size in
      ap (filter test) (groups_by_way b)
      ∙ filter-append test (groups_along b H) (groups_along b V ++ (groups_along b U ++ groups_along b D))
      ∙ ap (λ gs. filter test (groups_along b H) ++ gs) (
      filter-append test (groups_along b V) (groups_along b U ++ groups_along b D)
      ∙ ap (λ gs. filter test (groups_along b V) ++ gs) (filter-append test (groups_along b U) (groups_along b D)))
      ∙ ap (λ gs. gs ++ (filter test (groups_along b V) ++ (filter test (groups_along b U) ++ filter test (groups_along b D)))) (along H)
      ∙ ap (λ gs. kept H ++ (gs ++ (filter test (groups_along b U) ++ filter test (groups_along b D)))) (along V)
      ∙ ap (λ gs. kept H ++ (kept V ++ (gs ++ filter test (groups_along b D)))) (along U)
      ∙ ap (λ gs. kept H ++ (kept V ++ (kept U ++ gs))) (along D)

  -- no set has more groups than a board
  pub kept_fit : length (kept H) + (length (kept V) + (length (kept U) + length (kept D))) ≤ MOST_GROUPS
  unfolding groups_anchored groups_where
  kept_fit =
      let most = groups_fit a.size sound.board in
      let fewer = count_by-le-length (is_anchored a.anchors) (groups_of a.size) in
      omega (
        arith,
        most,
        fewer,
        length-filter (is_anchored a.anchors) (groups_of a.size),
        ap length by_ways,
        length-append (kept H) (kept V ++ (kept U ++ kept D)),
        length-append (kept V) (kept U ++ kept D),
        length-append (kept U) (kept D),
      )
