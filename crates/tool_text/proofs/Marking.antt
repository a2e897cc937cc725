-- No move betters the value for the side that makes it; so one that changes it is a mistake.
use Rattle.std.proofs.Common.{◌≡◌, ◌≢◌, ℕ, ◌<◌, ◌≤◌, true, false, List, map, length, None, is_none, refl, sym, subst, inl, inr, arith}
use Rattle.std.specs.List.{list_any}
use Rattle.std.proofs.lemmas.Bool.{cases_Bool, both_ways, and_parts}
use Rattle.game_rules.specs.Board.{below}
use Rattle.game_rules.specs.Position.{Position, side_to_move, other, has_room, end_of, after_move, moved, open_columns, is_legal}
use Rattle.game_rules.specs.Value.{win_of, same_end, best_of, value}
use Rattle.game_rules.specs.declared.Side.{Side}
use Rattle.game_rules.specs.declared.Side.TheVariants as sides
use Rattle.game_rules.specs.declared.End.{End}
use Rattle.game_rules.specs.declared.End.TheVariants.{White, Black, Draw}
use Rattle.game_rules.proofs.Lists.{Among, Among-map, Among-filter, Among-below, any_from}
use Rattle.game_rules.proofs.Moves.{room_column}
use Rattle.game_rules.proofs.Values.{value_step}
use Rattle.plan_rules.proofs.Plans.{none_is}
use Rattle.tool_text.specs.Marks.{worth}

-- what passes among some ends is found there
found_end : (e : End) (found : List End) → Among e found → list_any (same_end e) found ≡ true
found_end e found among = any_from (same_end e) found e among (same e)
  where
    same : (e : End) → same_end e e ≡ true
    same White = refl
    same Black = refl
    same Draw = refl

best_is_best : (side : Side) (found : List End) (e : End) → Among e found → worth side e ≤ worth side (best_of side found)
best_is_best side found e among = elim (cases_Bool (list_any (same_end (win_of side)) found)) [
  | inl wins ↦ subst (λ best. worth side e ≤ worth side best) (sym (best_wins wins)) (win_is_best side e)
  | inr not ↦ elim (cases_Bool (list_any (same_end Draw) found)) [
    | inl draws ↦ subst (λ best. worth side e ≤ worth side best) (sym (best_draws not draws)) (next_is_draw side e (no_win not))
    | inr none ↦ subst (λ best. worth side e ≤ worth side best) (sym (best_loses not none)) (last_is_loss side e (no_win not) (no_draw none))
  ]
]
  where
    best_wins : list_any (same_end (win_of side)) found ≡ true → best_of side found ≡ win_of side
    best_wins h = rw h refl

    best_draws : list_any (same_end (win_of side)) found ≡ false → list_any (same_end Draw) found ≡ true → best_of side found ≡ Draw
    best_draws h g = rw h (rw g refl)

    best_loses : list_any (same_end (win_of side)) found ≡ false → list_any (same_end Draw) found ≡ false → best_of side found ≡ win_of (other side)
    best_loses h g = rw h (rw g refl)

    no_win : list_any (same_end (win_of side)) found ≡ false → e ≡ win_of side → ⊥
    no_win h same = both_ways _ h (subst (λ e. list_any (same_end e) found ≡ true) same (found_end e found among))

    no_draw : list_any (same_end Draw) found ≡ false → e ≡ Draw → ⊥
    no_draw h same = both_ways _ h (subst (λ e. list_any (same_end e) found ≡ true) same (found_end e found among))

    win_is_best : (side : Side) (e : End) → worth side e ≤ worth side (win_of side)
    win_is_best sides.White White = omega arith
    win_is_best sides.White Black = omega arith
    win_is_best sides.White Draw = omega arith
    win_is_best sides.Black White = omega arith
    win_is_best sides.Black Black = omega arith
    win_is_best sides.Black Draw = omega arith

    next_is_draw : (side : Side) (e : End) → (e ≡ win_of side → ⊥) → worth side e ≤ worth side Draw
    next_is_draw sides.White White not = absurd (not refl)
    next_is_draw sides.White Black not = omega arith
    next_is_draw sides.White Draw not = omega arith
    next_is_draw sides.Black White not = omega arith
    next_is_draw sides.Black Black not = absurd (not refl)
    next_is_draw sides.Black Draw not = omega arith

    last_is_loss : (side : Side) (e : End) → (e ≡ win_of side → ⊥) → (e ≡ Draw → ⊥) → worth side e ≤ worth side (win_of (other side))
    last_is_loss sides.White White not nor = absurd (not refl)
    last_is_loss sides.White Black not nor = omega arith
    last_is_loss sides.White Draw not nor = absurd (nor refl)
    last_is_loss sides.Black White not nor = omega arith
    last_is_loss sides.Black Black not nor = absurd (not refl)
    last_is_loss sides.Black Draw not nor = absurd (nor refl)

pub no_better : (p q : Position) → end_of p ≡ None → Among q (moved p) → worth (side_to_move p) (value q) ≤ worth (side_to_move p) (value p)
no_better p q going among =
    subst (λ best. worth (side_to_move p) (value q) ≤ worth (side_to_move p) best) (sym (value_step p going))
    (best_is_best (side_to_move p) (map value (moved p)) (value q) (Among-map value (moved p) q among))

-- ends of the same worth to a side are the same
same_worth : (side : Side) (e f : End) → worth side e ≡ worth side f → e ≡ f
same_worth sides.White White White h = refl
same_worth sides.White White Black h = cc
same_worth sides.White White Draw h = cc
same_worth sides.White Black White h = cc
same_worth sides.White Black Black h = refl
same_worth sides.White Black Draw h = cc
same_worth sides.White Draw White h = cc
same_worth sides.White Draw Black h = cc
same_worth sides.White Draw Draw h = refl
same_worth sides.Black White White h = refl
same_worth sides.Black White Black h = cc
same_worth sides.Black White Draw h = cc
same_worth sides.Black Black White h = cc
same_worth sides.Black Black Black h = refl
same_worth sides.Black Black Draw h = cc
same_worth sides.Black Draw White h = cc
same_worth sides.Black Draw Black h = cc
same_worth sides.Black Draw Draw h = refl

pub changed_is_worse : (p q : Position) → end_of p ≡ None → Among q (moved p) → value q ≢ value p
    → worth (side_to_move p) (value q) < worth (side_to_move p) (value p)
changed_is_worse p q going among changed =
    let most = no_better p q going among in
    let apart : worth (side_to_move p) (value q) ≢ worth (side_to_move p) (value p) = λ same. changed (same_worth (side_to_move p) (value q) (value p) same) in
    omega (arith, most, apart)

-- ---- legal moves

module _ (p : Position) (column : ℕ) (legal : is_legal p column ≡ true) where
  going : end_of p ≡ None
  going = none_is (end_of p) (and_parts (is_none (end_of p)) (has_room p column) legal).0

  room : has_room p column ≡ true
  room = (and_parts (is_none (end_of p)) (has_room p column) legal).1

  among : Among (after_move p column) (moved p)
  among = Among-map (after_move p) (open_columns p) column
      (Among-filter (has_room p) (below (length p.columns)) column (Among-below (length p.columns) column (room_column p column room)) room)

  pub move_no_better : worth (side_to_move p) (value (after_move p column)) ≤ worth (side_to_move p) (value p)
  move_no_better = no_better p (after_move p column) going among

  pub move_worse : value (after_move p column) ≢ value p → worth (side_to_move p) (value (after_move p column)) < worth (side_to_move p) (value p)
  move_worse changed = changed_is_worse p (after_move p column) going among changed
