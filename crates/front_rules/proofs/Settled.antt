-- What a settled root tells: in a front each settled leaf is judged by the value, each inner node has all of its moves, and
-- so a number that is 0 tells whether the side wins.
use mathlib.Core.Bool.{true≢false}
use Rattle.std.proofs.Common.{◌≡◌, ℕ, zero, suc, ◌<◌, Bool, true, false, not, ◌||◌, ◌&&◌, if◌then◌else◌, is_none, List, [], ◌∷◌, map, filter, length, Option}
use Rattle.std.proofs.Common.{Some, None, refl, sym, ap, ◌∙◌, subst, inl, inr, arith}
use Rattle.std.specs.List.{list_any, list_all}
use Rattle.std.proofs.lemmas.Bool.{cases_Bool, or_cases, or_right, and_parts}
use Rattle.game_rules.specs.Position.{Position, has_room, after_move, end_of}
use Rattle.game_rules.specs.Value.{wins, win_of, same_end}
use Rattle.game_rules.specs.Cost.{centre_out, decides, moved_out}
use Rattle.game_rules.specs.declared.End.{End}
use Rattle.game_rules.specs.declared.Side.{Side}
use Rattle.game_rules.specs.declared.Side.TheVariants.{White, Black}
use Rattle.game_rules.proofs.Values.{value_at_end}
use Rattle.game_rules.proofs.Costs.{wins_step}
use Rattle.game_rules.proofs.Lists.{all_any, any_same}
use Rattle.walk_rules.proofs.Choices.{solved_not_won}
use Rattle.front_rules.specs.Counts.{plus, least, same_count, is_zero, is_infinite}
use Rattle.front_rules.specs.Front.{Row, nothing, leaf, inner, moves_out, leaf_number, joined, is_own, takes_least, row_number, node_number, root_number}
use Rattle.front_rules.specs.Front.{verdict_by_numbers, verdict_on, node_as, collapsed, end_verdict, verdict_at, leaves, expanded, front_within, is_settled}
use Rattle.front_rules.specs.Front.{planned}
use Rattle.front_rules.specs.Front.{front, IsGrowing}
use Rattle.front_rules.proofs.Numbers.{zero_least, zero_plus, row_dual, node_dual}
use Rattle.front_rules.specs.declared.Count.{Count}
use Rattle.front_rules.specs.declared.Count.TheVariants.{Finite, Infinite}
use Rattle.front_rules.specs.declared.LeafVerdict.{LeafVerdict}
use Rattle.front_rules.specs.declared.LeafVerdict.TheVariants.{Unsettled, Yes, No}

-- ---- rows

-- the positions of the nodes side by side
abbrev positions : Row → List Position
positions nothing = []
positions (leaf p v rest) = p ∷ positions rest
positions (inner p kids rest) = p ∷ positions rest

positions_as : (v : LeafVerdict) (p : Position) (kids rest : Row) → positions (node_as v p kids rest) ≡ p ∷ positions rest
positions_as Unsettled p kids rest = refl
positions_as Yes p kids rest = refl
positions_as No p kids rest = refl

not_not : (b : Bool) → not (not b) ≡ b
not_not true = refl
not_not false = refl

module _ (side : Side) where
  -- what a leaf tells of its position
  abbrev IsTold : Position → LeafVerdict → Type 0
  IsTold p Unsettled = end_of p ≡ None
  IsTold p Yes = wins side p ≡ true
  IsTold p No = wins side p ≡ false

  -- each leaf tells what is so, and each inner node has all of its moves
  abbrev IsTrue : Row → Type 0
  IsTrue nothing = Unit {0}
  IsTrue (leaf p v rest) = IsTold p v × IsTrue rest
  IsTrue (inner p kids rest) = (end_of p ≡ None) × (positions kids ≡ moves_out p) × IsTrue kids × IsTrue rest

  -- the position is as a proof number 0 says, or as a disproof number 0 does
  abbrev answers : Bool → Position → Bool
  answers proof p = if proof then wins side p else not (wins side p)

  -- one of the positions is, or all are
  abbrev answered : (proof smallest : Bool) → List Position → Bool
  answered proof smallest ps = if smallest then list_any (answers proof) ps else list_all (answers proof) ps

  -- ---- a node and its moves

  leaf_tells : (proof : Bool) (p : Position) (v : LeafVerdict) → IsTold p v → is_zero (leaf_number proof v) ≡ true → answers proof p ≡ true
  leaf_tells true p Unsettled told none = absurd (true≢false (sym none))
  leaf_tells false p Unsettled told none = absurd (true≢false (sym none))
  leaf_tells true p Yes told none = told
  leaf_tells false p Yes told none = absurd (true≢false (sym none))
  leaf_tells true p No told none = absurd (true≢false (sym none))
  leaf_tells false p No told none = ap not told

  moves_same : (p : Position) → end_of p ≡ None → moves_out p ≡ moved_out p
  moves_same p going = ap (λ end. map (after_move p) (filter (λ c. is_none end && has_room p c) (centre_out (length p.columns)))) going

  -- all that don't decide, or one that does
  none_as_any : (ps : List Position) → list_all (λ q. not (wins side q)) ps ≡ not (list_any (wins side) ps)
  none_as_any ps = all_any (λ q. not (wins side q)) ps ∙ ap not (any_same (λ q. not (not (wins side q))) (wins side) ps (λ q among. not_not (wins side q)))

  any_decides : (p : Position) (own : Bool) → is_own side p ≡ own → (ps : List Position)
      → list_any (decides side p) ps ≡ list_any (λ q. if own then wins side q else not (wins side q)) ps
  any_decides p own e ps = ap (λ b. list_any (λ q. if b then wins side q else not (wins side q)) ps) e

  node_step : (p : Position) → end_of p ≡ None → (proof : Bool) → answered proof (takes_least side proof p) (moved_out p) ≡ true → answers proof p ≡ true
  node_step p going proof h = by_turn (is_own side p) refl proof h
    where
      by_turn : (own : Bool) → is_own side p ≡ own → (proof : Bool) → answered proof (takes_least side proof p) (moved_out p) ≡ true → answers proof p ≡ true
      by_turn true own true h = wins_step side p going ∙ rw own (any_decides p true own (moved_out p) ∙ (rw own at h))
      by_turn true own false h =
          let here : wins side p ≡ list_any (wins side) (moved_out p) = wins_step side p going ∙ rw own (any_decides p true own (moved_out p)) in
          ap not here ∙ sym (none_as_any (moved_out p)) ∙ (rw own at h)
      by_turn false own true h =
          let here : wins side p ≡ not (list_any (λ q. not (wins side q)) (moved_out p)) =
          wins_step side p going ∙ rw own (ap not (any_decides p false own (moved_out p))) in
          here ∙ sym (all_any (wins side) (moved_out p)) ∙ (rw own at h)
      by_turn false own false h =
          let here : wins side p ≡ not (list_any (λ q. not (wins side q)) (moved_out p)) =
          wins_step side p going ∙ rw own (ap not (any_decides p false own (moved_out p))) in
          ap not here ∙ not_not (list_any (λ q. not (wins side q)) (moved_out p)) ∙ (rw own at h)

  moves_tell : (p : Position) (kids : Row) → end_of p ≡ None → positions kids ≡ moves_out p → (proof : Bool)
      → answered proof (takes_least side proof p) (positions kids) ≡ true → answers proof p ≡ true
  moves_tell p kids going moves proof told =
      node_step p going proof (ap (answered proof (takes_least side proof p)) (sym (moves_same p going) ∙ sym moves) ∙ told)

  -- ---- what a number that is 0 tells

  first_tells : (proof smallest : Bool) (p : Position) (rest : Row) (n : Count) → (is_zero n ≡ true → answers proof p ≡ true)
      → (is_zero (row_number side proof smallest rest) ≡ true → answered proof smallest (positions rest) ≡ true)
      → is_zero (joined smallest n (row_number side proof smallest rest)) ≡ true → answered proof smallest (p ∷ positions rest) ≡ true
  first_tells proof true p rest n here later none =
      let some : (is_zero n || is_zero (row_number side proof true rest)) ≡ true = sym (zero_least n (row_number side proof true rest)) ∙ none in
      elim (or_cases (is_zero n) (is_zero (row_number side proof true rest)) some) [
        | inl first ↦ rw (here first) refl
        | inr others ↦ or_right (answers proof p) (list_any (answers proof) (positions rest)) (later others)
      ]
  first_tells proof false p rest n here later none =
      let both = and_parts (is_zero n) (is_zero (row_number side proof false rest)) (sym (zero_plus n (row_number side proof false rest)) ∙ none) in
      rw (here both.0) (later both.1)

  row_tells : (row : Row) → IsTrue row → (proof smallest : Bool) → is_zero (row_number side proof smallest row) ≡ true
      → answered proof smallest (positions row) ≡ true
  row_tells nothing h proof true none = absurd (true≢false (sym none))
  row_tells nothing h proof false none = refl
  row_tells (leaf p v rest) h proof smallest none =
      first_tells proof smallest p rest (leaf_number proof v) (leaf_tells proof p v h.0) (row_tells rest h.1 proof smallest) none
  row_tells (inner p kids rest) h proof smallest none =
      first_tells proof smallest p rest (node_number side proof p kids)
      (λ zero. moves_tell p kids h.0 h.1 proof (row_tells kids h.2 proof (takes_least side proof p) zero)) (row_tells rest h.3 proof smallest) none

  node_tells : (p : Position) (kids : Row) → end_of p ≡ None → positions kids ≡ moves_out p → IsTrue kids → (proof : Bool)
      → is_zero (node_number side proof p kids) ≡ true → answers proof p ≡ true
  node_tells p kids going moves h proof none =
      moves_tell p kids going moves proof (row_tells kids h proof (takes_least side proof p) none)

  -- ---- settled nodes become leaves

  positions_collapsed : (row : Row) → positions (collapsed side row) ≡ positions row
  positions_collapsed nothing = refl
  positions_collapsed (leaf p v rest) = ap (λ ps. p ∷ ps) (positions_collapsed rest)
  positions_collapsed (inner p kids rest) =
      positions_as (verdict_on side p kids) p (collapsed side kids) (collapsed side rest) ∙ ap (λ ps. p ∷ ps) (positions_collapsed rest)

  yes_zero : (a b : Count) → verdict_by_numbers a b ≡ Yes → is_zero a ≡ true
  yes_zero a b h = elim (cases_Bool (is_zero a)) [
    | inl won ↦ won
    | inr first ↦ elim (cases_Bool (is_zero b)) [
      | inl lost ↦ cc (rw (first, lost) at h)
      | inr second ↦ cc (rw (first, second) at h)
    ]
  ]

  no_zero : (a b : Count) → verdict_by_numbers a b ≡ No → is_zero b ≡ true
  no_zero a b h = elim (cases_Bool (is_zero a)) [
    | inl won ↦ cc (rw won at h)
    | inr first ↦ elim (cases_Bool (is_zero b)) [
      | inl lost ↦ lost
      | inr second ↦ cc (rw (first, second) at h)
    ]
  ]

  not_true : (b : Bool) → not b ≡ true → b ≡ false
  not_true true h = absurd (true≢false (sym h))
  not_true false h = refl

  true_collapsed : (row : Row) → IsTrue row → IsTrue (collapsed side row)
  true_collapsed nothing h = tt
  true_collapsed (leaf p v rest) h = (h.0, true_collapsed rest h.1)
  true_collapsed (inner p kids rest) h = by_verdict (verdict_on side p kids) refl (true_collapsed kids h.2) (true_collapsed rest h.3)
    where
      by_verdict : (v : LeafVerdict) → verdict_on side p kids ≡ v → IsTrue (collapsed side kids) → IsTrue (collapsed side rest)
          → IsTrue (node_as v p (collapsed side kids) (collapsed side rest))
      by_verdict Unsettled e below after = (h.0, positions_collapsed kids ∙ h.1, below, after)
      by_verdict Yes e below after = (node_tells p kids h.0 h.1 h.2 true (yes_zero (node_number side true p kids) (node_number side false p kids) e), after)
      by_verdict No e below after =
          let fails = node_tells p kids h.0 h.1 h.2 false (no_zero (node_number side true p kids) (node_number side false p kids) e) in
          (not_true (wins side p) fails, after)

  -- ---- the path to the most-proving leaf

  -- neither 0 nor infinite
  abbrev IsOpen : Count → Type 0
  IsOpen n = (is_zero n ≡ false) × (is_infinite n ≡ false)

  open_same : (a n : Count) → same_count a n ≡ true → IsOpen n → IsOpen a
  open_same (Finite m) (Finite n) h o = (grind arith, refl)
  open_same (Finite m) Infinite h o = absurd (true≢false (sym h))
  open_same Infinite (Finite n) h o = absurd (true≢false (sym h))
  open_same Infinite Infinite h o = o

  open_unsettled : (proof : Bool) (v : LeafVerdict) → IsOpen (leaf_number proof v) → v ≡ Unsettled
  open_unsettled proof Unsettled o = refl
  open_unsettled true Yes o = absurd (true≢false o.0)
  open_unsettled false Yes o = absurd (true≢false o.1)
  open_unsettled true No o = absurd (true≢false o.1)
  open_unsettled false No o = absurd (true≢false o.0)

  open_both : (p : Position) (kids : Row) (proof which : Bool) → IsOpen (node_number side proof p kids) → IsOpen (node_number side which p kids)
  open_both p kids true true o = o
  open_both p kids false false o = o
  open_both p kids true false o = (node_dual side p kids false ∙ o.1, sym (node_dual side p kids true) ∙ o.0)
  open_both p kids false true o = (node_dual side p kids true ∙ o.1, sym (node_dual side p kids false) ∙ o.0)

  open_below : (p : Position) (kids : Row) (proof : Bool) → IsOpen (node_number side proof p kids) → IsOpen (row_number side (is_own side p) true kids)
  open_below p kids proof o = by_turn (is_own side p) refl
    where
      by_turn : (own : Bool) → is_own side p ≡ own → IsOpen (row_number side own true kids)
      by_turn true e = subst (λ w. IsOpen (row_number side true w kids)) e (open_both p kids proof true o)
      by_turn false e = subst (λ w. IsOpen (row_number side false (not w) kids)) e (open_both p kids proof false o)

  module _ (closed : Side → Position → Bool) (sound : (q : Position) → closed side q ≡ true → wins side q ≡ false) where
    positions_leaves : (ps : List Position) → positions (leaves side closed ps) ≡ ps
    positions_leaves [] = refl
    positions_leaves (p ∷ ps) = ap (λ qs. p ∷ qs) (positions_leaves ps)

    told_at : (p : Position) → IsTold p (verdict_at side closed p)
    told_at p = by_end (end_of p) refl
      where
        by_plan : (known : Bool) → closed side p ≡ known → end_of p ≡ None → IsTold p (if known then No else Unsettled)
        by_plan true e going = sound p e
        by_plan false e going = going

        by_win : (end : End) → end_of p ≡ Some end → (won : Bool) → same_end (win_of side) end ≡ won → IsTold p (if won then Yes else No)
        by_win end ended true e = ap (same_end (win_of side)) (value_at_end p end ended) ∙ e
        by_win end ended false e = ap (same_end (win_of side)) (value_at_end p end ended) ∙ e

        by_end : (end : Option End) → end_of p ≡ end → IsTold p (end_verdict side closed end (closed side p))
        by_end None e = by_plan (closed side p) refl e
        by_end (Some end) e = by_win end e (same_end (win_of side) end) refl

    true_leaves : (ps : List Position) → IsTrue (leaves side closed ps)
    true_leaves [] = tt
    true_leaves (p ∷ ps) = (told_at p, true_leaves ps)

    positions_expanded : (proof : Bool) (n : Count) (row : Row) → positions (expanded side closed proof n row) ≡ positions row
    positions_expanded proof n nothing = refl
    positions_expanded proof n (leaf p v rest) = elim (cases_Bool (same_count (leaf_number proof v) n)) [
      | inl found ↦ rw found refl
      | inr past ↦ rw past (ap (λ ps. p ∷ ps) (positions_expanded proof n rest))
    ]
    positions_expanded proof n (inner p kids rest) = elim (cases_Bool (same_count (node_number side proof p kids) n)) [
      | inl found ↦ rw found refl
      | inr past ↦ rw past (ap (λ ps. p ∷ ps) (positions_expanded proof n rest))
    ]

    true_expanded : (proof : Bool) (n : Count) (row : Row) → IsOpen n → IsTrue row → IsTrue (expanded side closed proof n row)
    true_expanded proof n nothing o h = tt
    true_expanded proof n (leaf p v rest) o h = elim (cases_Bool (same_count (leaf_number proof v) n)) [
      | inl found ↦ rw found (
        subst (IsTold p) (open_unsettled proof v (open_same (leaf_number proof v) n found o)) h.0,
        positions_leaves (moves_out p),
        true_leaves (moves_out p),
        h.1,
      )
      | inr past ↦ rw past (h.0, true_expanded proof n rest o h.1)
    ]
    true_expanded proof n (inner p kids rest) o h = elim (cases_Bool (same_count (node_number side proof p kids) n)) [
      | inl found ↦
          let deeper = row_number side (is_own side p) true kids in
          rw found (
            h.0,
            positions_expanded (is_own side p) deeper kids ∙ h.1,
            true_expanded (is_own side p) deeper kids (open_below p kids proof (open_same (node_number side proof p kids) n found o)) h.2,
            h.3,
          )
      | inr past ↦ rw past (h.0, h.1, h.2, true_expanded proof n rest o h.3)
    ]

    -- ---- the front

    -- of one node the least number is the sum
    one_node : (p : Position) (tree : Row) → positions tree ≡ p ∷ [] → (proof : Bool)
        → is_infinite (row_number side proof true tree) ≡ is_infinite (row_number side proof false tree)
    one_node p nothing e proof = cc
    one_node p (leaf q v nothing) e proof = alone (leaf_number proof v)
      where
        alone : (n : Count) → is_infinite (least n Infinite) ≡ is_infinite (plus n (Finite 0))
        alone (Finite m) = refl
        alone Infinite = refl
    one_node p (leaf q v (leaf r w rest)) e proof = cc
    one_node p (leaf q v (inner r kids rest)) e proof = cc
    one_node p (inner q kids nothing) e proof = alone (node_number side proof q kids)
      where
        alone : (n : Count) → is_infinite (least n Infinite) ≡ is_infinite (plus n (Finite 0))
        alone (Finite m) = refl
        alone Infinite = refl
    one_node p (inner q kids (leaf r w rest)) e proof = cc
    one_node p (inner q kids (inner r more rest)) e proof = cc

    open_root : (p : Position) (tree : Row) → positions tree ≡ p ∷ [] → is_settled side tree ≡ false → IsOpen (root_number side true tree)
    open_root p tree one going = (
      first (is_zero (root_number side true tree)) (is_zero (root_number side false tree)) going,
      one_node p tree one true ∙ sym (row_dual side tree false true)
          ∙ second (is_zero (root_number side true tree)) (is_zero (root_number side false tree)) going,
    )
      where
        first : (a b : Bool) → (a || b) ≡ false → a ≡ false
        first true b h = h
        first false b h = refl

        second : (a b : Bool) → (a || b) ≡ false → b ≡ false
        second true b h = absurd (true≢false h)
        second false b h = h

    front_true : (p : Position) (n : ℕ) → ((m : ℕ) → m < n → is_settled side (front_within side closed p m) ≡ false)
        → IsTrue (front_within side closed p n) × (positions (front_within side closed p n) ≡ p ∷ [])
    unfolding front_within
    front_true p zero growing = ((told_at p, tt), refl)
    front_true p (suc n) growing =
        let tree = front_within side closed p n in
        let before = front_true p n (λ m low. growing m (omega arith)) in
        let number = root_number side true tree in
        let open_now = open_root p tree before.1 (growing n (omega arith)) in (
          true_collapsed (expanded side closed true number tree) (true_expanded true number tree open_now before.0),
          positions_collapsed (expanded side closed true number tree) ∙ positions_expanded true number tree ∙ before.1,
        )

    pub root_tells : (p : Position) (n : ℕ) → ((m : ℕ) → m < n → is_settled side (front_within side closed p m) ≡ false) → (proof : Bool)
        → is_zero (root_number side proof (front_within side closed p n)) ≡ true → wins side p ≡ proof
    root_tells p n growing proof none =
        let tree = front_within side closed p n in
        let is = front_true p n growing in
        told proof (one (answers proof p) (sym (ap (list_any (answers proof)) is.1) ∙ row_tells tree is.0 proof true none))
      where
        one : (b : Bool) → (b || false) ≡ true → b ≡ true
        one true h = refl
        one false h = h

        told : (proof : Bool) → answers proof p ≡ true → wins side p ≡ proof
        told true h = h
        told false h = not_true (wins side p) h

-- ---- with a reach

planned_fails : (k : ℕ) (side : Side) (q : Position) → planned k side q ≡ true → wins side q ≡ false
planned_fails k White q h = solved_not_won q k h
planned_fails k Black q h = absurd (true≢false (sym h))

pub front_tells : (p : Position) (side : Side) (k n : ℕ) → IsGrowing p side k n → (proof : Bool)
    → is_zero (root_number side proof (front p side k n)) ≡ true → wins side p ≡ proof
unfolding front
front_tells p side k n growing proof none = root_tells side (planned k) (planned_fails k side) p n growing proof none
