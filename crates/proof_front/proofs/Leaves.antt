-- The leaves of a position's moves, placed side by side from the last to the first.
use Rattle.std.specs.List.{filter}
use Rattle.std.proofs.Common.{◌≡◌, ℕ, ◌+◌, ◌-◌, ◌<◌, ◌≤◌, Bool, true, false, List, [], ◌∷◌, ◌++◌, length, map, set, take, drop, get_or, Option, None, Some}
use Rattle.std.proofs.Common.{IfSome, refl, sym, ap, subst, ◌∙◌, arith, inl, inr}
use Rattle.std.proofs.Math.Seq.{take-length}
use Rattle.std.proofs.lemmas.Bool.{cases_Bool}
use Rattle.game_rules.specs.Position.{Position, has_room, is_legal, after_move, end_of}
use Rattle.game_rules.specs.Cost.{centre_out}
use Rattle.game_rules.specs.declared.Side.{Side}
use Rattle.front_rules.specs.Front.{moves_out, verdict_at, leaves}
use Rattle.node_pool.specs.Slots.{held, live_slots}
use Rattle.proof_front.specs.Cells.{Cell, Owns}
use Rattle.proof_front.specs.Numbers.{leaf_numbers}
use Rattle.proof_front.specs.Rows.{Placed, end, leaf_at, row_of, first_of, cells_of, AreGoing}
use Rattle.proof_front.specs.Steps.{LeavesLie}
use Rattle.proof_front.specs.declared.node.Node.{Node}
use Rattle.proof_front.proofs.Cells.{placed_to}
use Rattle.proof_front.proofs.Going.{going_leaves}

-- a slice is its first element and the slice behind it
pub first_and_rest : (order : List ℕ) (c : ℕ) → 1 ≤ length order → c ≡ get_or order 0 c → order ≡ c ∷ take (length order - 1) (drop 1 order)
first_and_rest [] c some is = absurd (omega (arith, some))
first_and_rest (x ∷ xs) c some is =
    let short : length (x ∷ xs) - 1 ≡ length xs = omega arith in
    rw (is, short) (ap (λ ys. x ∷ ys) (sym (take-length xs)))

module _ (p : Position) where
  pub more_open : (order rest : List ℕ) (column : ℕ) → order ≡ column ∷ rest → has_room p column ≡ true
      → filter (has_room p) order ≡ column ∷ filter (has_room p) rest
  more_open order rest column e room = rw (e, room) refl

  -- at a position at which the game goes on the legal moves are the columns with room
  going_legal : (columns : List ℕ) → end_of p ≡ None → filter (is_legal p) columns ≡ filter (has_room p) columns
  going_legal [] going = refl
  going_legal (c ∷ columns) going = elim (cases_Bool (has_room p c)) [
    | inl room ↦ rw (going, room) (ap (λ cs. c ∷ cs) (going_legal columns going))
    | inr full ↦ rw (going, full) (going_legal columns going)
  ]

  pub going_moves : end_of p ≡ None → map (after_move p) (filter (has_room p) (centre_out (length p.columns))) ≡ moves_out p
  going_moves going = ap (map (after_move p)) (sym (going_legal (centre_out (length p.columns)) going))

  module _ (side : Side) (closed : Side → Position → Bool) where
    pub leaf_before : {mid new : List (Option Node)} (order rest : List ℕ) (column : ℕ) (beside result : Option ℕ) (made : Node) (others : List (Cell Node))
        → order ≡ column ∷ rest → has_room p column ≡ true
        → made ≡ record { position = after_move p column; first = None; next = beside; numbers = leaf_numbers (verdict_at side closed (after_move p column)) }
        → (result ≡ None → live_slots mid ≡ length mid) → live_slots mid < length mid
        → IfSome result (λ at. at < length mid) → IfSome result (λ at. held mid at ≡ None) → IfSome result (λ at. new ≡ set mid at (Some made))
        → IfSome result (λ at. live_slots new ≡ live_slots mid + 1)
        → LeavesLie p side closed mid rest beside others → LeavesLie p side closed new order result others
    leaf_before order rest column beside None made others e room m full some inside free put count l = absurd (omega (arith, some, full refl))
    leaf_before {mid} {new} order rest column beside (Some at) made others e room m full some inside free put count l =
        let q = after_move p column in
        let v = verdict_at side closed q in
        let row : Placed = leaf_at at q v l.row in
        let node : Node = record { position = q; first = None; next = first_of l.row; numbers = leaf_numbers v } in
        let is_node : made ≡ node = m ∙ ap (λ next. record { position = q; first = None; next = next; numbers = leaf_numbers v }) (sym l.begins) in
        let is : row_of row ≡ leaves side closed (map (after_move p) (filter (has_room p) order)) = rw (more_open order rest column e room, l.is) refl in
        let there : new ≡ set mid at (Some node) = put ∙ ap (λ n. set mid at (Some n)) is_node in
        record {
          row = row;
          is = is;
          going = subst AreGoing (sym is) (going_leaves side closed (map (after_move p) (filter (has_room p) order)));
          begins = refl;
          owns = subst (λ s. Owns s (cells_of side row ++ others)) (sym there)
              (placed_to at node (cells_of side l.row ++ others) inside free l.owns (sym (ap live_slots there) ∙ count));
        }

    -- no columns, and a column without room
    pub no_leaf : {slots : List (Option Node)} (order : List ℕ) (others : List (Cell Node)) → length order ≤ 0 → Owns slots others
        → LeavesLie p side closed slots order None others
    no_leaf [] others none owns = record { row = end; is = refl; going = tt; begins = refl; owns = owns }
    no_leaf (c ∷ order) others none owns = absurd (omega (arith, none))

    pub leaf_skipped : {slots : List (Option Node)} (order rest : List ℕ) (column : ℕ) (beside : Option ℕ) (others : List (Cell Node)) → order ≡ column ∷ rest
        → has_room p column ≡ false → LeavesLie p side closed slots rest beside others → LeavesLie p side closed slots order beside others
    leaf_skipped order rest column beside others e full l =
        record {
          row = l.row;
          is = l.is ∙ ap (λ cs. leaves side closed (map (after_move p) cs)) (sym (rw (e, full) refl));
          going = l.going;
          begins =
              l.begins;
          owns = l.owns;
        }
