-- Zones that are linked by their first square: the numbers of the next ones, and that those passed by may not follow.
use Rattle.std.proofs.Common.{◌≡◌, ◌⊎◌, ℕ, zero, suc, ◌+◌, ◌<◌, ◌≤◌, Bool, true, false, ◌==◌, List, [], ◌∷◌, length, take, drop, get_or, set, Option, Some}
use Rattle.std.proofs.Common.{None, slice_get, slice_index_or, refl, sym, ap, ◌∙◌, subst, inl, inr, arith}
use Rattle.std.specs.Option.{option_map_or}
use Rattle.std.proofs.lemmas.Bool.{cases_Bool, cases_eq, and_parts, eq-eqb, eqb-true, ne_eqb, both_ways, false_from_ne_true}
use Rattle.std.proofs.lemmas.List.{drop_more, take-append-drop, get_or-set_same, get_or-set_other}
use Rattle.std.proofs.lemmas.Option.{get_or_from_slice_get}
use Rattle.game_rules.specs.Board.{Square, on_board, is_board}
use Rattle.game_rules.specs.Position.{Position, board_of}
use Rattle.game_rules.specs.Squares.{has_square, squares_where, IsSetOf}
use Rattle.game_rules.proofs.Lists.{Among, Among-map, Among-append_right, all_gives}
use Rattle.game_rules.proofs.Narrowed.{where_on_board}
use Rattle.game_rules.proofs.Squares.{same_square_is, has_gives}
use Rattle.plan_rules.specs.Rules.{RuleInstance, zone_of, fits}
use Rattle.plan_rules.specs.Listing.{squares_at}
use Rattle.plan_rules.proofs.Grounds.{fits_on_board}
use Rattle.board_squares.specs.Words.{place_of}
use Rattle.rule_compat.specs.declared.instance.Instance.{Instance}
use Rattle.rule_compat.specs.Written.{written, written_list}
use Rattle.rule_compat.proofs.Checked.{find_filtered}
use Rattle.walk_rules.specs.Walk.{fitting_zones, open_squares, may_follow}
use Rattle.walk_rules.specs.Steps.{after}
use Rattle.walk_rules.specs.Answers.{least_of, starts_at}
use Rattle.plan_rules.specs.Refusal.{is_uncovered}
use Rattle.walk_rules.proofs.Fast.{follows_by_least}
use Rattle.walk_rules.proofs.Fitting.{zone_fits}
use Rattle.rule_chooser.specs.Links.{least_place, next_at}
use Rattle.rule_chooser.proofs.Visits.{after_other, some_at, open_is}

-- ---- numbers

next_here : (place n : ℕ) (w : Instance) (ws : List Instance) → (least_place w == place) ≡ true → next_at place n (w ∷ ws) ≡ n
unfolding next_at
next_here place n w ws is = rw is refl

next_other : (place n : ℕ) (w : Instance) (ws : List Instance) → (least_place w == place) ≡ false → next_at place n (w ∷ ws) ≡ next_at place (n + 1) ws
unfolding next_at
next_other place n w ws other = rw other refl

pub next_none : (place n : ℕ) → next_at place n [] ≡ n
unfolding next_at
next_none place n = refl

-- it comes no earlier
pub next_least : (place n : ℕ) (ws : List Instance) → n ≤ next_at place n ws
unfolding next_at
next_least place n [] = omega arith
next_least place n (w ∷ ws) = elim (cases_Bool (least_place w == place)) [
  | inl is ↦ rw is (omega arith)
  | inr other ↦ rw other (let rest = next_least place (n + 1) ws in omega (arith, rest))
]

drop_next : (all ws : List Instance) (n : ℕ) (w : Instance) → drop n all ≡ w ∷ ws → drop (n + 1) all ≡ ws
drop_next [] ws zero w h = absurd (cc h)
drop_next (v ∷ all) ws zero w h = cc h
drop_next [] ws (suc n) w h = absurd (cc h)
drop_next (v ∷ all) ws (suc n) w h = ap (λ k. drop k (v ∷ all)) (let same : suc n + 1 ≡ suc (n + 1) = omega arith in same) ∙ drop_next all ws n w h

-- the one with this number begins there
pub next_is : (place n : ℕ) (all ws : List Instance) (w : Instance) → drop n all ≡ ws → slice_get all (next_at place n ws) ≡ Some w → least_place w ≡ place
unfolding next_at
next_is place n all [] w rest at = absurd (no_more all n w rest at)
  where
    no_more : (all : List Instance) (n : ℕ) (w : Instance) → drop n all ≡ [] → slice_get all n ≡ Some w → ⊥
    no_more [] n w rest at = cc at
    no_more (v ∷ all) zero w rest at = cc rest
    no_more (v ∷ all) (suc n) w rest at = no_more all n w rest at
next_is place n all (v ∷ ws) w rest at = elim (cases_Bool (least_place v == place)) [
  | inl is ↦ let same : v ≡ w = first all n w rest (rw is at at) in ap least_place (sym same) ∙ eqb-true (least_place v) place is
  | inr other ↦ next_is place (n + 1) all ws w (drop_next all ws n v rest) (rw other at at)
]
  where
    first : (all : List Instance) (n : ℕ) (w : Instance) → drop n all ≡ v ∷ ws → slice_get all n ≡ Some w → v ≡ w
    first [] n w rest at = absurd (cc at)
    first (u ∷ all) zero w rest at = let a : u ≡ v = cc rest in let b : u ≡ w = cc at in sym a ∙ b
    first (u ∷ all) (suc n) w rest at = first all n w rest at

-- ---- one zone more, in front of those that are linked

pub head_now : (heads : List ℕ) (place n : ℕ) (w : Instance) (ws : List Instance) → place < length heads → place ≡ least_place w
    → slice_index_or (set heads place n) place 0 ≡ next_at place n (w ∷ ws)
head_now heads place n w ws within is = get_or-set_same heads place n 0 within ∙ sym (next_here place n w ws (eq-eqb (least_place w) place (sym is)))

pub head_else : (heads : List ℕ) (place other n : ℕ) (w : Instance) (ws : List Instance) → place ≡ least_place w → (other ≡ place → ⊥)
    → slice_index_or heads other 0 ≡ next_at other (n + 1) ws
    → slice_index_or (set heads place n) other 0 ≡ next_at other n (w ∷ ws)
head_else heads place other n w ws is apart before =
    get_or-set_other heads place other n 0 apart ∙ before ∙ sym (next_other other n w ws (ne_eqb (least_place w) other (λ same. apart (sym same ∙ sym is))))

-- ---- those that are passed by

-- an instance that may follow begins at the first open square
pub begins_there : (p : Position) (set : List RuleInstance) (w : Instance) (first : Square) (rest : List Square) → is_board (board_of p) ≡ true
    → fits (written w) p ≡ true → open_squares p set ≡ first ∷ rest
    → may_follow p set (written w) ≡ true → least_place w ≡ place_of first
begins_there p set w first rest board fitted opens follows =
    ap (λ o. option_map_or place_of o 0) (least ∙ start (least_of (squares_at p) (written w)) (ap (starts_at (least_of (squares_at p) (written w))) (sym opens)
    ∙ (and_parts (starts_at (least_of (squares_at p) (written w)) (open_squares p set)) _ (sym (follows_by_least p set (written w) fitted) ∙ follows)).0))
  where
    owned : Square → Bool
    owned = has_square (zone_of (written w))

    least : slice_get (squares_where (has_square (zone_of (written w)))) 0 ≡ least_of (squares_at p) (written w)
    least =
        ap (λ us. slice_get us 0) (where_on_board (board_of p) (has_square (zone_of (written w))) board
        (λ u h. all_gives (on_board (board_of p)) (zone_of (written w)) u (fits_on_board (written w) p fitted) (has_gives (zone_of (written w)) u h)))
        ∙ find_filtered (has_square (zone_of (written w))) (squares_at p)

    start : (o : Option Square) → starts_at o (first ∷ rest) ≡ true → o ≡ Some first
    start None h = absurd (cc h)
    start (Some u) h = ap Some (same_square_is u first h)

-- those before the next one with the same first square may not follow
pub passed : (p : Position) (set : List RuleInstance) (place n : ℕ) (all ws : List Instance) → drop n all ≡ ws
    → ((w : Instance) → Among w ws → may_follow p set (written w) ≡ true → least_place w ≡ place)
    → after p set (written_list ws) ≡ after p set (written_list (drop (next_at place n ws) all))
passed p set place n all [] rest only = ap (λ zs. after p set (written_list zs)) (sym rest)
    ∙ ap (λ k. after p set (written_list (drop k all))) (sym (next_none place n))
passed p set place n all (w ∷ ws) rest only = elim (cases_Bool (least_place w == place)) [
  | inl is ↦ ap (λ zs. after p set (written_list zs)) (sym rest) ∙ ap (λ k. after p set (written_list (drop k all))) (sym (next_here place n w ws is))
  | inr other ↦
      after_other p set (written w) (written_list ws)
      (false_from_ne_true (may_follow p set (written w))
      (λ follows. both_ways (least_place w == place) other (eq-eqb (least_place w) place (only w (inl refl) follows))))
      ∙ passed p set place (n + 1) all ws (drop_next all ws n w rest) (λ v among. only v (inr among))
      ∙ ap (λ k. after p set (written_list (drop k all))) (sym (next_other place n w ws other))
]

-- ---- the zones linked from one on

-- the heads are those of the zones from this one on
abbrev pub HeadsFrom : List Instance → ℕ → List ℕ → Type 0
HeadsFrom list n heads = (place : ℕ) → place < 110 → slice_index_or heads place 0 ≡ next_at place n (drop n list)

-- and each of these has its link
abbrev pub LinksFrom : List Instance → ℕ → List ℕ → Type 0
LinksFrom list n links = (i : ℕ) (w : Instance) → n ≤ i → slice_get list i ≡ Some w
    → slice_index_or links i 0 ≡ next_at (least_place w) (i + 1) (drop (i + 1) list)

module _ (list : List Instance) (n : ℕ) (zone : Instance) (within : n < length list) (at : zone ≡ get_or list n zone) where
  from_here : drop n list ≡ zone ∷ drop (n + 1) list
  from_here = drop_more list n zone within ∙ ap (λ z. z ∷ drop (n + 1) list) (sym at)

  pub heads_more : (heads new : List ℕ) → least_place zone < length heads → new ≡ set heads (least_place zone) n → HeadsFrom list (n + 1) heads
      → HeadsFrom list n new
  heads_more heads new fits is before place low =
      ap (λ hs. slice_index_or hs place 0) is
      ∙ one (cases_eq place (least_place zone))
      ∙ ap (next_at place n) (sym from_here)
    where
      one : (place ≡ least_place zone) ⊎ (place ≡ least_place zone → ⊥)
          → slice_index_or (set heads (least_place zone) n) place 0 ≡ next_at place n (zone ∷ drop (n + 1) list)
      one (inl same) = ap (λ k. slice_index_or (set heads k n) place 0) (sym same)
          ∙ head_now heads place n zone (drop (n + 1) list) (subst (λ k. k < length heads) (sym same) fits) same
      one (inr apart) = head_else heads (least_place zone) place n zone (drop (n + 1) list) refl apart (before place low)

  pub links_more : (heads links new : List ℕ) → least_place zone < 110 → n < length links → new ≡ set links n (slice_index_or heads (least_place zone) 0)
      → HeadsFrom list (n + 1) heads → LinksFrom list (n + 1) links
      → LinksFrom list n new
  links_more heads links new low fits is before after i w from there = ap (λ ls. slice_index_or ls i 0) is ∙ one (cases_eq i n)
    where
      one : (i ≡ n) ⊎ (i ≡ n → ⊥) → slice_index_or (set links n (slice_index_or heads (least_place zone) 0)) i 0
          ≡ next_at (least_place w) (i + 1) (drop (i + 1) list)
      one (inl same) =
          let mine : zone ≡ w = at ∙ get_or_from_slice_get list n w zone (ap (slice_get list) (sym same) ∙ there) in
          ap (λ k. slice_index_or (set links n (slice_index_or heads (least_place zone) 0)) k 0) same
          ∙ get_or-set_same links n (slice_index_or heads (least_place zone) 0) 0 fits
          ∙ before (least_place zone) low
          ∙ ap (λ z. next_at (least_place z) (n + 1) (drop (n + 1) list)) mine
          ∙ ap (λ k. next_at (least_place w) (k + 1) (drop (k + 1) list)) (sym same)
      one (inr apart) = get_or-set_other links n i (slice_index_or heads (least_place zone) 0) 0 apart ∙ after i w (omega (arith, from, apart)) there

-- ---- in a walk

-- those of the listed zones that come before the next one with the first open square may not follow
pub passed_over : (p : Position) (set : List RuleInstance) → is_board (board_of p) ≡ true → (squares : List Square) (first : Square)
    → IsSetOf (is_uncovered p set) squares → slice_get squares 0 ≡ Some first
    → (zones : List Instance) → written_list zones ≡ fitting_zones p → (n : ℕ)
    → after p set (written_list (drop n zones)) ≡ after p set (written_list (drop (next_at (place_of first) n (drop n zones)) zones))
passed_over p set board squares first is some zones listed n =
    let opens = sym (open_is p set board squares is) ∙ (some_at squares first some).1 in
    passed p set (place_of first) n zones (drop n zones) refl (λ w among follows.
    begins_there p set w first (some_at squares first some).0 board
    (zone_fits p (written w) (subst (Among (written w)) listed (Among-map written zones w (of_drop zones n w among)))).1 opens follows)
  where
    of_drop : (zones : List Instance) (n : ℕ) (w : Instance) → Among w (drop n zones) → Among w zones
    of_drop zones n w among = subst (Among w) (take-append-drop n zones) (Among-append_right w (take n zones) (drop n zones) among)
