-- The list that a set gives, one of White's groups after another.
use Rattle.std.proofs.Common.{◌≡◌, ℕ, ◌+◌, ◌<◌, ◌≤◌, Bool, true, false, not, ◌||◌, if◌then◌else◌, List, [], ◌∷◌, ◌++◌, length, map, filter, take, drop, get_or}
use Rattle.std.proofs.Common.{Some, refl, sym, ap, ◌∙◌, subst, inl, inr, arith}
use Rattle.std.specs.List.{list_any, slice_get}
use Rattle.std.specs.Option.{option_map}
use Rattle.std.proofs.lemmas.Bool.{cases_Bool}
use Rattle.std.proofs.lemmas.List.{get_or_default, drop_more, drop_all, map-append, take-append-drop, length-map}
use Rattle.std.proofs.lemmas.Option.{slice_get-map, slice_get_read}
use Rattle.game_rules.specs.Board.{is_board}
use Rattle.game_rules.specs.Position.{Position, board_of, has_man}
use Rattle.game_rules.specs.Squares.{has_square, squares_where}
use Rattle.game_rules.specs.Groups.{Group, squares_of, groups_of, is_free_for}
use Rattle.game_rules.specs.declared.Side.TheVariants.{White, Black}
use Rattle.game_rules.proofs.Lists.{Among, Among-append_right, Among-filter_gives}
use Rattle.plan_rules.specs.Rules.{RuleInstance, Facts, facts_of}
use Rattle.plan_rules.specs.Plan.{empty_part, is_barred}
use Rattle.rule_compat.specs.declared.instance.Instance.{Instance}
use Rattle.rule_compat.specs.Written.{written, written_list}
use Rattle.walk_rules.specs.Walk.{is_left, answer_to, with_one, answers, given}
use Rattle.rule_chooser.specs.declared.groups.OpenGroup.{OpenGroup}
use Rattle.rule_chooser.specs.OpenGroups.{open_group_at, groups_for}
use Rattle.rule_chooser.specs.Standing.{first_standing, some_bars}
use Rattle.rule_chooser.proofs.GroupAnswers.{bars_is, answer_is}
use Rattle.rule_chooser.proofs.SpecialGroups.{group_is}

-- a group with its own squares, at its place in the list of the groups
pub group_at : (p : Position) (gs : List Group) (groups : List OpenGroup) (i : ℕ) (group : OpenGroup) → groups ≡ map (open_group_at p) gs → i < length groups
    → group ≡ get_or groups i group
    → drop i gs ≡ group.id ∷ drop (i + 1) gs
group_at p gs groups i group same within at =
    drop_more gs i group.id (omega (arith, within, ap length same, length-map gs (open_group_at p)))
    ∙ ap (λ g. g ∷ drop (i + 1) gs) (is_group (get_or gs i group.id) (at_place gs i within_gs))
  where
    within_gs : i < length gs
    within_gs = omega (arith, within, ap length same, length-map gs (open_group_at p))

    at_place : (gs : List Group) (i : ℕ) → i < length gs → slice_get gs i ≡ Some (get_or gs i group.id)
    at_place gs i h = slice_get_read gs (length gs) i (get_or gs i group.id) refl h (default gs i h)
      where
        default : (gs : List Group) (i : ℕ) → i < length gs → get_or gs i group.id ≡ get_or gs i (get_or gs i group.id)
        default gs i h = get_or_default gs i group.id (get_or gs i group.id) h

    found : option_map (open_group_at p) (slice_get gs i) ≡ Some group
    found = sym (slice_get-map (open_group_at p) gs i) ∙ ap (λ ls. slice_get ls i) (sym same) ∙ slice_get_read groups (length groups) i group refl within at

    is_group : (g : Group) → slice_get gs i ≡ Some g → g ≡ group.id
    is_group g is = let both : Some (open_group_at p g) ≡ Some group = ap (option_map (open_group_at p)) (sym is) ∙ found in let same : open_group_at p g
        ≡ group = cc both in ap (λ (l : OpenGroup). l.id) same

module _ (p : Position) (set : List RuleInstance) where
  -- groups with a man of Black's need no answer
  pub answers_free : (gs : List Group) (ws : List RuleInstance) → answers p set (filter (is_free_for White p) gs) ws ≡ answers p set gs ws
  answers_free [] ws = refl
  answers_free (g ∷ gs) ws = elim (cases_Bool (is_free_for White p g)) [
    | inl free ↦ rw free (answers_free gs (if is_left p set g then with_one ws (answer_to p set g) else ws))
    | inr other ↦ rw other (answers_free gs ws
        ∙ ap (answers p set gs) (sym (ap (λ b. if b then with_one ws (answer_to p set g) else ws)
        (none_left (list_any (has_man p Black) (squares_of g)) (is_barred p set g) other))))
  ]
    where
      none_left : (b d : Bool) → not b ≡ false → not (b || d) ≡ false
      none_left true d h = refl
      none_left false d h = absurd (cc h)

  -- one group more
  pub answers_one : (board : is_board (board_of p) ≡ true) (facts : Facts) (g : Group) (gs : List Group) (ws : List RuleInstance) → facts ≡ facts_of p set
      → is_free_for White p g ≡ true
      → answers p set (g ∷ gs) ws ≡ answers p set gs (
      if some_bars facts (has_square (squares_where (empty_part p g))) set then ws
      else with_one ws (first_standing p facts (has_square (squares_where (empty_part p g))))
      )
  answers_one board facts g gs ws same free = ap (answers p set gs) (
      turned (list_any (has_man p Black) (squares_of g)) (is_barred p set g) (with_one ws (answer_to p set g)) ws free
      ∙ ap (λ b. if b then ws else with_one ws (answer_to p set g)) (sym (bars_is p set board facts g same))
      ∙ ap (λ o. if some_bars facts (has_square (squares_where (empty_part p g))) set then ws else with_one ws o) (sym (answer_is p set board facts g same))
      )
    where
      turned : (b d : Bool) (xs ys : List RuleInstance) → not b ≡ true → (if not (b || d) then xs else ys) ≡ (if d then ys else xs)
      turned true d xs ys h = absurd (cc h)
      turned false true xs ys h = refl
      turned false false xs ys h = refl

  -- the list with the answers to all groups
  pub given_all : (zones : ℕ) (items old : List Instance) (i : ℕ) → set ≡ written_list old → take zones items ≡ old → length (groups_for White p) ≤ i
      → answers p set (drop i (groups_for White p)) (written_list (drop zones items)) ≡ answers p set (groups_for White p) [] → written_list items ≡ given p set
  given_all zones items old i is first past answered =
      ap written_list (sym (take-append-drop zones items))
      ∙ map-append written (take zones items) (drop zones items)
      ∙ ap (λ ws. ws ++ written_list (drop zones items)) (ap written_list first ∙ sym is)
      ∙ ap (λ ws. set ++ ws) (ap (λ gs. answers p set gs (written_list (drop zones items))) (sym (drop_all i (groups_for White p) past)) ∙ answered
      ∙ answers_free (groups_of (board_of p)) [])

-- a group of the list is free for White
pub group_free : (p : Position) (groups : List OpenGroup) (i : ℕ) (group : OpenGroup)
    → drop i (groups_for White p) ≡ group.id ∷ drop (i + 1) (groups_for White p) → is_free_for White p group.id ≡ true
group_free p groups i group is =
    (Among-filter_gives (is_free_for White p) (groups_of (board_of p)) group.id
    (dropped (groups_for White p) i (subst (λ gs. Among group.id gs) (sym is) (inl refl)))).1
  where
    dropped : (gs : List Group) (i : ℕ) → Among group.id (drop i gs) → Among group.id gs
    dropped gs i among = subst (λ hs. Among group.id hs) (take-append-drop i gs) (Among-append_right group.id (take i gs) (drop i gs) among)

-- the answers with that to a group of the list, and those to the groups behind it
pub answers_more : (p : Position) (set ws : List RuleInstance) {facts : Facts} {groups : List OpenGroup} {i : ℕ} {group : OpenGroup}
    {lent new : List RuleInstance}
    → is_board (board_of p) ≡ true → groups ≡ map (open_group_at p) (groups_for White p) → i < length groups → group ≡ get_or groups i group
    → facts ≡ facts_of p set → lent ≡ set
    → new ≡ (if some_bars facts (has_square group.empty) lent then ws else with_one ws (first_standing p facts (has_square group.empty)))
    → answers p set (drop (i + 1) (groups_for White p)) new ≡ answers p set (drop i (groups_for White p)) ws
answers_more p set ws {facts} {groups} {i} {group} {lent} board same within at known lend made =
    let gs = groups_for White p in
    let next = group_at p gs groups i group same within at in
    let empty = ap (λ (group : OpenGroup). group.empty) (group_is p gs groups i group same within at) in
    ap (answers p set (drop (i + 1) gs)) (made
    ∙ ap (λ zs. if some_bars facts (has_square group.empty) zs then ws else with_one ws (first_standing p facts (has_square group.empty))) lend
    ∙ ap (λ us. if some_bars facts (has_square us) set then ws else with_one ws (first_standing p facts (has_square us))) empty)
    ∙ sym (answers_one p set board facts group.id (drop (i + 1) gs) ws known (group_free p groups i group next))
    ∙ ap (λ hs. answers p set hs ws) (sym next)
