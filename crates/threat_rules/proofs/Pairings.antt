-- The pairings of some columns, tried one after the other.
use Rattle.std.proofs.Common.{◌≡◌, ◌↔◌, ℕ, zero, suc, ◌+◌, ◌-◌, ◌<◌, ◌≤◌, Bool, true, false, not, ◌&&◌, ◌==◌, nat_lt, List, [], ◌∷◌, ◌++◌, length}
use Rattle.std.proofs.Common.{map, filter, take, drop, get_or}
use Rattle.std.proofs.Common.{Option, Some, None, is_some, is_none, Result, Ok, Err, refl, sym, ap, ◌∙◌, subst, inl, inr, arith, append_assoc}
use Rattle.std.specs.List.{list_all, slice_get, find, flat_map, remove}
use Rattle.std.specs.Option.{option_map, option_or, option_and_then}
use Rattle.std.specs.Result.{result_ok, IfOk}
use Rattle.std.proofs.lemmas.Bool.{cases_Bool, and_parts, and_from, ltb-true, lt-ltb, cond-true, cond-false}
use Rattle.std.proofs.lemmas.List.{at_drop_more, append-nil, length-append, take_all, map-id}
use Rattle.std.proofs.Math.ListN.{drop_of_length-le}
use Rattle.std.proofs.lemmas.List.Elements.{filter-append}
use Rattle.std.proofs.lemmas.List.FromFn.{length-range_with_len}
use Rattle.std.proofs.lemmas.Option.{slice_get_within, slice_get_read, get_or_from_slice_get, same_Some}
use Rattle.game_rules.specs.Board.{Square, below, is_board}
use Rattle.game_rules.specs.Position.{Position, board_of, height, has_room, IsStacked}
use Rattle.game_rules.specs.Groups.{Group, groups_of}
use Rattle.game_rules.proofs.Filtered.{filter_all}
use Rattle.game_rules.proofs.Lists.{Among, filter_fewer, below_more, Among-filter_gives, Among-below_gives, all_from, all_gives}
use Rattle.game_rules.proofs.Groups.{Ordered, Ordered-filter, Ordered-range}
use Rattle.game_rules.proofs.Moves.{room_from}
use Rattle.plan_rules.specs.Squares.{is_odd}
use Rattle.plan_rules.proofs.Fits.{even_rows}
use Rattle.plan_rules.proofs.Squares.{get-Among}
use Rattle.odd_rules.specs.Threat.{Pair, target, is_threat}
use Rattle.odd_rules.specs.Refusal.{odd_columns, Pick, picks, tops, pairings, threat_by, first_by, first_threat, threat_refusal}
use Rattle.odd_rules.proofs.Pairs.{odd_gives}
use Rattle.odd_rules.proofs.Refusals.{refusal_is}
use Rattle.odd_rules.proofs.Theorems.{first_missing}
use Rattle.threat_rules.specs.declared.fault.ThreatFault.{ThreatFault}
use Rattle.threat_rules.specs.Faults.{refusal_of}
use Rattle.threat_rules.specs.Threatened.{Threatened, threat_with, threat_found}
use Rattle.threat_rules.specs.Ascending.{ascends}

-- ---- lists

find_append : {X : Type 0} (test : X → Bool) (xs ys : List X) → find test (xs ++ ys) ≡ option_or (find test xs) (find test ys)
find_append test [] ys = refl
find_append test (x ∷ xs) ys = elim (cases_Bool (test x)) [
  | inl passes ↦ rw passes refl
  | inr fails ↦ rw fails (find_append test xs ys)
]

map_append : {X Y : Type 0} (f : X → Y) (xs ys : List X) → map f (xs ++ ys) ≡ map f xs ++ map f ys
map_append f [] ys = refl
map_append f (x ∷ xs) ys = ap (λ zs. f x ∷ zs) (map_append f xs ys)

-- ---- columns from the left

pub ascends_parts : (p : Position) (c : ℕ) (cs : List ℕ) → ascends p (c ∷ cs) ≡ true
    → (has_room p c ≡ true) × ((d : ℕ) → Among d cs → c < d) × (ascends p cs ≡ true)
ascends_parts p c cs h =
    let both = and_parts _ (ascends p cs) h in let first = and_parts (has_room p c) (list_all (nat_lt c) cs) both.0 in
    (first.0, (λ d among. ltb-true c d (all_gives (nat_lt c) cs d first.1 among)), both.1)

pub ascends_from : (p : Position) (cs : List ℕ) → Ordered (λ a b. a < b) cs → ((c : ℕ) → Among c cs → has_room p c ≡ true) → ascends p cs ≡ true
ascends_from p [] order room = refl
ascends_from p (c ∷ cs) order room = and_from _ _ (and_from _ _ (room c (inl refl)) (all_from (nat_lt c) cs (λ d among. lt-ltb c d (order.0 d among))))
    (ascends_from p cs order.1 (λ d among. room d (inr among)))

pub ascends_room : (p : Position) (cs : List ℕ) → ascends p cs ≡ true → (c : ℕ) → Among c cs → has_room p c ≡ true
ascends_room p [] h c among = absurd among
ascends_room p (d ∷ cs) h c (inl same) = subst (λ e. has_room p e ≡ true) same (ascends_parts p d cs h).0
ascends_room p (d ∷ cs) h c (inr later) = ascends_room p cs (ascends_parts p d cs h).2 c later

remove_among : (cs : List ℕ) (i d : ℕ) → Among d (remove cs i) → Among d cs
remove_among [] zero d among = among
remove_among [] (suc i) d among = among
remove_among (c ∷ cs) zero d among = inr among
remove_among (c ∷ cs) (suc i) d (inl same) = inl same
remove_among (c ∷ cs) (suc i) d (inr later) = inr (remove_among cs i d later)

pub ascends_remove : (p : Position) (cs : List ℕ) (i : ℕ) → ascends p cs ≡ true → ascends p (remove cs i) ≡ true
ascends_remove p [] zero h = refl
ascends_remove p [] (suc i) h = refl
ascends_remove p (c ∷ cs) zero h = (ascends_parts p c cs h).2
ascends_remove p (c ∷ cs) (suc i) h =
    let parts = ascends_parts p c cs h in
    and_from _ _ (and_from _ _ parts.0 (all_from (nat_lt c) (remove cs i) (λ d among. lt-ltb c d (parts.1 d (remove_among cs i d among)))))
    (ascends_remove p cs i parts.2)

pub remove_length : (cs : List ℕ) (i : ℕ) → i < length cs → length (remove cs i) + 1 ≡ length cs
remove_length [] i within = absurd (omega arith)
remove_length (c ∷ cs) zero within = omega arith
remove_length (c ∷ cs) (suc i) within = let rest = remove_length cs i (omega arith) in omega arith

-- ---- the pairings with one first column

-- the first threat with the given pairs, a pair of the first column and one of the picked ones, and a pairing of the others
abbrev pub tried : Position → Group → List Pair → ℕ → ℕ → List Pick → Option (List Pair)
tried p g pairs n c ps =
    find (is_threat p g) (map (λ rest. pairs ++ rest) (flat_map (λ (pick : Pick). map (λ rest. tops p c pick.0 ∷ rest) (pairings n p pick.1)) ps))

-- the first with more given pairs, and a pairing of some columns
abbrev pub found_with : Position → Group → List Pair → ℕ → List ℕ → Option (List Pair)
found_with p g pairs n cs = find (is_threat p g) (map (λ rest. pairs ++ rest) (pairings n p cs))

-- the pair is the last of the given ones, or the first of the rest
pair_moves : (pairs : List Pair) (x : Pair) (lists : List (List Pair))
    → map (λ rest. pairs ++ rest) (map (λ rest. x ∷ rest) lists) ≡ map (λ rest. (pairs ++ x ∷ []) ++ rest) lists
pair_moves pairs x [] = refl
pair_moves pairs x (list ∷ lists) = cc (append_assoc pairs (x ∷ []) list, pair_moves pairs x lists)

tried_more : (p : Position) (g : Group) (pairs : List Pair) (n c : ℕ) (pick : Pick) (ps : List Pick)
    → tried p g pairs n c (pick ∷ ps) ≡ option_or (found_with p g (pairs ++ tops p c pick.0 ∷ []) n pick.1) (tried p g pairs n c ps)
tried_more p g pairs n c pick ps =
    ap (find (is_threat p g)) (map_append (λ rest. pairs ++ rest) (map (λ rest. tops p c pick.0 ∷ rest) (pairings n p pick.1))
    (flat_map (λ (pick : Pick). map (λ rest. tops p c pick.0 ∷ rest) (pairings n p pick.1)) ps))
    ∙ find_append (is_threat p g) _ _
    ∙ ap (λ lists. option_or (find (is_threat p g) lists) (tried p g pairs n c ps)) (pair_moves pairs (tops p c pick.0) (pairings n p pick.1))

-- the pick at a place
picks_at : (cs : List ℕ) (i d : ℕ) → slice_get cs i ≡ Some d → slice_get {X = Pick} (picks cs) i ≡ Some (d, remove cs i)
picks_at [] i d at = absurd (cc at)
picks_at (c ∷ cs) zero d at = ap (λ e. Some (e, cs)) (same_Some c d at)
picks_at (c ∷ cs) (suc i) d at = mapped (picks cs) i (d, remove cs i) (picks_at cs i d at)
  where
    mapped : (ps : List Pick) (i : ℕ) (pick : Pick) → slice_get ps i ≡ Some pick
        → slice_get {X = Pick} (map (λ (pick : Pick). (pick.0, c ∷ pick.1)) ps) i ≡ Some (pick.0, c ∷ pick.1)
    mapped [] i pick at = absurd (cc at)
    mapped (q ∷ ps) zero pick at = ap (λ (q : Pick). Some (q.0, c ∷ q.1)) (same_Some q pick at)
    mapped (q ∷ ps) (suc i) pick at = mapped ps i pick at

picks_length : (cs : List ℕ) → length (picks cs) ≡ length cs
picks_length [] = refl
picks_length (c ∷ cs) = ap suc (mapped (picks cs) ∙ picks_length cs)
  where
    mapped : (ps : List Pick) → length {A = Pick} (map (λ (pick : Pick). (pick.0, c ∷ pick.1)) ps) ≡ length ps
    mapped [] = refl
    mapped (q ∷ ps) = ap suc (mapped ps)

-- one choice of a partner, and then the others
tried_step : (p : Position) (g : Group) (pairs more : List Pair) (n c i d : ℕ) (cs others : List ℕ) → slice_get cs i ≡ Some d
    → more ≡ pairs ++ tops p c d ∷ [] → others ≡ remove cs i
    → tried p g pairs n c (drop i (picks cs)) ≡ option_or (found_with p g more n others) (tried p g pairs n c (drop (i + 1) (picks cs)))
tried_step p g pairs more n c i d cs others at more_is others_are =
    let pick = picks_at cs i d at in
    at_drop_more (tried p g pairs n c) (picks cs) i (d, remove cs i) (slice_get_within (picks cs) i (d, remove cs i) pick)
    ∙ ap (λ q. tried p g pairs n c (q ∷ drop (i + 1) (picks cs))) (get_or_from_slice_get (picks cs) i (d, remove cs i) (d, remove cs i) pick)
    ∙ tried_more p g pairs n c (d, remove cs i) (drop (i + 1) (picks cs))
    ∙ ap (λ xs. option_or (found_with p g xs n (remove cs i)) (tried p g pairs n c (drop (i + 1) (picks cs)))) (sym more_is)
    ∙ ap (λ ds. option_or (found_with p g more n ds) (tried p g pairs n c (drop (i + 1) (picks cs)))) (sym others_are)

-- a choice with which there is a threat, and one with which there is none
some_mapped : {A B : Type 0} (f : A → B) (o rest : Option A) → is_some (option_map f o) ≡ true → option_map f o ≡ option_map f (option_or o rest)
some_mapped f None rest h = absurd (cc h)
some_mapped f (Some x) rest h = refl

none_mapped : {A B : Type 0} (f : A → B) (o rest : Option A) → is_some (option_map f o) ≡ false → option_or o rest ≡ rest
none_mapped f None rest h = refl
none_mapped f (Some x) rest h = absurd (cc h)

-- the answer with one more pair and the others, for whatever fuel is enough
abbrev Answered : Position → Group → List Pair → List ℕ → Option Threatened → Type 0
Answered p g pairs cs result = (n : ℕ) → length cs ≤ n → result ≡ option_map (threat_with p g) (found_with p g pairs n cs)

-- the partner at a place, with what was answered for it
module _ (p : Position) (g : Group) (pairs more : List Pair) (c i d : ℕ) (cs others : List ℕ) (result : Option Threatened) (within : i < length cs)
    (is : d ≡ get_or cs i d) (more_is : more ≡ pairs ++ tops p c d ∷ []) (others_are : others ≡ remove cs i) (answered : Answered p g more others result) where
  one_step : (n : ℕ) → tried p g pairs n c (drop i (picks cs)) ≡ option_or (found_with p g more n others) (tried p g pairs n c (drop (i + 1) (picks cs)))
  one_step n = tried_step p g pairs more n c i d cs others (slice_get_read cs (length cs) i d refl within is) more_is others_are

  enough : (n : ℕ) → length cs ≤ n → result ≡ option_map (threat_with p g) (found_with p g more n others)
  enough n low = answered n (omega (arith, ap length others_are, remove_length cs i within))

  pub step_found : is_some result ≡ true → (n : ℕ) → length cs ≤ n → result ≡ option_map (threat_with p g) (tried p g pairs n c (drop i (picks cs)))
  step_found some n low =
      enough n low
      ∙ some_mapped (threat_with p g) (found_with p g more n others) (tried p g pairs n c (drop (i + 1) (picks cs))) (ap is_some (sym (enough n low)) ∙ some)
      ∙ ap (option_map (threat_with p g)) (sym (one_step n))

  pub step_none : is_some result ≡ false → (n : ℕ) → length cs ≤ n → tried p g pairs n c (drop (i + 1) (picks cs)) ≡ tried p g pairs n c (drop i (picks cs))
  step_none none n low =
      sym (none_mapped (threat_with p g) (found_with p g more n others) (tried p g pairs n c (drop (i + 1) (picks cs)))
      (ap is_some (sym (enough n low)) ∙ none))
      ∙ sym (one_step n)

-- behind all choices nothing is left
pub tried_all : (p : Position) (g : Group) (pairs : List Pair) (n c i : ℕ) (cs : List ℕ) → length cs ≤ i → tried p g pairs n c (drop i (picks cs)) ≡ None
tried_all p g pairs n c i cs past = ap (tried p g pairs n c) (drop_of_length-le (picks cs) (omega (arith, picks_length cs)))

-- a column and the others, with whatever fuel is enough
pub opened : (p : Position) (g : Group) (pairs : List Pair) (c : ℕ) (cs : List ℕ) (result : Option Threatened)
    → ((n : ℕ) → length cs ≤ n → result ≡ option_map (threat_with p g) (tried p g pairs n c (picks cs)))
    → (n : ℕ) → length (c ∷ cs) ≤ n → result ≡ option_map (threat_with p g) (found_with p g pairs n (c ∷ cs))
unfolding pairings
opened p g pairs c cs result each zero low = absurd (omega arith)
opened p g pairs c cs result each (suc n) low = each n (omega arith)

-- ---- no column left

-- the check of the pairs that are given
pub checked : (p : Position) (g : Group) (pairs : List Pair) (result : Result Threatened ThreatFault) → refusal_of result ≡ threat_refusal p g pairs
    → IfOk result (λ threat. threat ≡ threat_with p g pairs) → (n : ℕ) → result_ok result ≡ option_map (threat_with p g) (found_with p g pairs n [])
unfolding pairings
checked p g pairs (Ok threat) fault is n =
    let passes : is_threat p g pairs ≡ true = sym (refusal_is p g pairs) ∙ ap is_none (sym fault) in
    let whole : is_threat p g (pairs ++ []) ≡ true = ap (is_threat p g) (append-nil pairs) ∙ passes in
    rw whole (ap (λ x. Some x) (is ∙ ap (threat_with p g) (sym (append-nil pairs))))
checked p g pairs (Err f) fault is n =
    let fails : is_threat p g pairs ≡ false = sym (refusal_is p g pairs) ∙ ap is_none (sym fault) in
    let whole : is_threat p g (pairs ++ []) ≡ false = ap (is_threat p g) (append-nil pairs) ∙ fails in
    rw whole refl

-- ---- the columns that are paired

-- those with an odd number of men have room
pub odd_ascends : (p : Position) (t : Square) → is_board (board_of p) ≡ true → IsStacked p → ascends p (odd_columns p t) ≡ true
odd_ascends p t board stacked =
    ascends_from p (odd_columns p t)
    (Ordered-filter (λ a b. a < b) (λ c. not (c == t.0) && is_odd (height p c)) (below (length p.columns)) (Ordered-range 0 (length p.columns)))
    (λ c among.
    let from = Among-filter_gives (λ c. not (c == t.0) && is_odd (height p c)) (below (length p.columns)) c among in
    let within = Among-below_gives (length p.columns) c from.0 in
    let odd = odd_gives (height p c) (and_parts (not (c == t.0)) (is_odd (height p c)) from.1).1 in
    let high : height p c ≤ p.rows = stacked c [] within in
    let rows = even_rows (board_of p) board in
    room_from p c within (omega arith))

-- ---- the first column, and the rest as a slice pattern gives it

abbrev pub rest_of : List ℕ → List ℕ
rest_of cs = take (length cs - 1) (drop 1 cs)

pub columns_are : (cs : List ℕ) (c : ℕ) → 1 ≤ length cs → c ≡ get_or cs 0 c → cs ≡ c ∷ rest_of cs
columns_are [] c some first = absurd (omega arith)
columns_are (d ∷ cs) c some first = ap (λ e. e ∷ cs) (sym first) ∙ ap (λ ds. c ∷ ds) (sym (take_all (length (d ∷ cs) - 1) cs (omega arith)))

pub none_are : (cs : List ℕ) → length cs < 1 → cs ≡ []
none_are [] none = refl
none_are (c ∷ cs) none = absurd (omega arith)

-- what is asked of the columns is so of the first one and the rest
pub rest_parts : (p : Position) (cs : List ℕ) (c : ℕ) → 1 ≤ length cs → c ≡ get_or cs 0 c → ascends p cs ≡ true
    → (has_room p c ≡ true) × ((d : ℕ) → Among d (rest_of cs) → c < d) × (ascends p (rest_of cs) ≡ true)
rest_parts p cs c some first order = ascends_parts p c (rest_of cs) (ap (ascends p) (sym (columns_are cs c some first)) ∙ order)

pub rest_room : (p : Position) (cs : List ℕ) (c i d : ℕ) → 1 ≤ length cs → c ≡ get_or cs 0 c → ascends p cs ≡ true → i < length (rest_of cs)
    → d ≡ get_or (rest_of cs) i d → has_room p d ≡ true
rest_room p cs c i d some first order within is = ascends_room p (rest_of cs) (rest_parts p cs c some first order).2 d
    (get-Among (rest_of cs) i d (slice_get_read (rest_of cs) (length (rest_of cs)) i d refl within is))

-- how many columns and pairs there are with one more pair
pub rest_fewer : (p : Position) (cs others : List ℕ) (pairs more : List Pair) (c i : ℕ) (x : Pair) → 1 ≤ length cs → c ≡ get_or cs 0 c
    → i < length (rest_of cs) → others ≡ remove (rest_of cs) i → more ≡ pairs ++ x ∷ [] → (length others + 2 ≡ length cs) × (length more ≡ length pairs + 1)
rest_fewer p cs others pairs more c i x some first within others_are more_is = (
  omega (arith, ap length (columns_are cs c some first), remove_length (rest_of cs) i within, ap length others_are),
  ap length more_is ∙ length-append pairs (x ∷ []),
)

pub rest_opened : (p : Position) (g : Group) (pairs : List Pair) (cs : List ℕ) (c : ℕ) (result : Option Threatened) → 1 ≤ length cs → c ≡ get_or cs 0 c
    → ((n : ℕ) → length (rest_of cs) ≤ n → result ≡ option_map (threat_with p g) (tried p g pairs n c (picks (rest_of cs))))
    → (n : ℕ) → length cs ≤ n → result ≡ option_map (threat_with p g) (found_with p g pairs n cs)
rest_opened p g pairs cs c result some first each n low =
    let are = columns_are cs c some first in
    subst (λ ds. result ≡ option_map (threat_with p g) (found_with p g pairs n ds)) (sym are)
    (opened p g pairs c (rest_of cs) result each n (omega (arith, ap length are)))

-- ---- the columns with an odd number of men, one after the other

pub odd_few : (p : Position) (t : Square) (i : ℕ) (cs : List ℕ) → cs ≡ filter (λ c. not (c == t.0) && is_odd (height p c)) (below i) → length cs ≤ i
odd_few p t i cs is =
    let fewer = filter_fewer (λ c. not (c == t.0) && is_odd (height p c)) (λ c. true) (below i) (λ c h. refl) in
    omega (arith, ap length is, fewer, ap length (filter_all (below i)), below_length i)
  where
    below_length : (n : ℕ) → length (below n) ≡ n
    below_length n = length-range_with_len 0 n

-- one with an odd number of men is put behind them, and another one isn't
pub odd_joins : (p : Position) (t : Square) (i column : ℕ) (cs more : List ℕ) → cs ≡ filter (λ c. not (c == t.0) && is_odd (height p c)) (below i) → column ≡ i
    → (not (column == t.0) && is_odd (height p column)) ≡ true → more ≡ cs ++ column ∷ []
    → more ≡ filter (λ c. not (c == t.0) && is_odd (height p c)) (below (i + 1))
odd_joins p t i column cs more is same passes joined =
    joined
    ∙ ap (λ k. cs ++ k ∷ []) same
    ∙ ap (λ ds. ds ++ i ∷ []) is
    ∙ ap (λ ds. filter (λ c. not (c == t.0) && is_odd (height p c)) (below i) ++ ds)
    (sym (cond-true (not (i == t.0) && is_odd (height p i)) (i ∷ []) [] (sym (ap (λ k. not (k == t.0) && is_odd (height p k)) same) ∙ passes)))
    ∙ sym (filter-append (λ c. not (c == t.0) && is_odd (height p c)) (below i) (i ∷ []))
    ∙ ap (filter (λ c. not (c == t.0) && is_odd (height p c))) (sym (below_more i))

pub odd_passes : (p : Position) (t : Square) (i column : ℕ) (cs more : List ℕ) → cs ≡ filter (λ c. not (c == t.0) && is_odd (height p c)) (below i) → column ≡ i
    → (not (column == t.0) && is_odd (height p column)) ≡ false → more ≡ cs → more ≡ filter (λ c. not (c == t.0) && is_odd (height p c)) (below (i + 1))
odd_passes p t i column cs more is same fails stays =
    stays
    ∙ is
    ∙ sym (append-nil (filter (λ c. not (c == t.0) && is_odd (height p c)) (below i)))
    ∙ ap (λ ds. filter (λ c. not (c == t.0) && is_odd (height p c)) (below i) ++ ds)
    (sym (cond-false (not (i == t.0) && is_odd (height p i)) (i ∷ []) [] (sym (ap (λ k. not (k == t.0) && is_odd (height p k)) same) ∙ fails)))
    ∙ sym (filter-append (λ c. not (c == t.0) && is_odd (height p c)) (below i) (i ∷ []))
    ∙ ap (filter (λ c. not (c == t.0) && is_odd (height p c))) (sym (below_more i))

-- ---- a group, and all groups

-- the pairings of all columns, with none given before
pub by_group : (p : Position) (g : Group) (t : Square) (cs : List ℕ) (result : Option Threatened) → target p g ≡ Some t → cs ≡ odd_columns p t
    → ((n : ℕ) → length cs ≤ n → result ≡ option_map (threat_with p g) (found_with p g [] n cs)) → result ≡ option_map (threat_with p g) (threat_by p g)
by_group p g t cs result lacks are each =
    each (length (odd_columns p t)) (omega (arith, ap length are))
    ∙ ap (λ lists. option_map (threat_with p g) (find (is_threat p g) lists)) (map-id (pairings (length (odd_columns p t)) p cs))
    ∙ ap (λ ds. option_map (threat_with p g) (find (is_threat p g) (pairings (length (odd_columns p t)) p ds))) are
    ∙ ap (λ o. option_map (threat_with p g) (option_and_then (λ t. find (is_threat p g) (pairings (length (odd_columns p t)) p (odd_columns p t))) o))
    (sym lacks)

-- the first of some groups, where it is one, and else that of the others
group_found : (p : Position) (g : Group) (gs : List Group) (o : Option (List Pair)) → is_some (option_map (threat_with p g) o) ≡ true
    → option_map (threat_with p g) o ≡ option_map (threat_found p) (option_or (option_map {U = Group × List Pair} (λ pairs. (g, pairs)) o) (first_by p gs))
group_found p g gs None some = absurd (cc some)
group_found p g gs (Some xs) some = refl

group_passed : (p : Position) (g : Group) (gs : List Group) (o : Option (List Pair)) → is_some (option_map (threat_with p g) o) ≡ false
    → option_or (option_map {U = Group × List Pair} (λ pairs. (g, pairs)) o) (first_by p gs) ≡ first_by p gs
group_passed p g gs None none = refl
group_passed p g gs (Some xs) none = absurd (cc none)

pub first_here : (p : Position) (gs : List Group) (i : ℕ) (g : Group) (result : Option Threatened) → slice_get gs i ≡ Some g
    → result ≡ option_map (threat_with p g) (threat_by p g) → is_some result ≡ true → result ≡ option_map (threat_found p) (first_by p (drop i gs))
first_here p gs i g result at is some =
    is
    ∙ group_found p g (drop (i + 1) gs) (threat_by p g) (ap is_some (sym is) ∙ some)
    ∙ ap (λ h. option_map (threat_found p) (first_by p (h ∷ drop (i + 1) gs))) (sym (get_or_from_slice_get gs i g g at))
    ∙ ap (option_map (threat_found p)) (sym (at_drop_more (first_by p) gs i g (slice_get_within gs i g at)))

pub first_next : (p : Position) (gs : List Group) (i : ℕ) (g : Group) (result : Option Threatened) → slice_get gs i ≡ Some g
    → result ≡ option_map (threat_with p g) (threat_by p g) → is_some result ≡ false → first_by p (drop (i + 1) gs) ≡ first_by p (drop i gs)
first_next p gs i g result at is none =
    sym (group_passed p g (drop (i + 1) gs) (threat_by p g) (ap is_some (sym is) ∙ none))
    ∙ ap (λ h. first_by p (h ∷ drop (i + 1) gs)) (sym (get_or_from_slice_get gs i g g at))
    ∙ sym (at_drop_more (first_by p) gs i g (slice_get_within gs i g at))

pub first_of_all : (p : Position) (gs : List Group) (result : Option Threatened) → gs ≡ groups_of (board_of p)
    → result ≡ option_map (threat_found p) (first_by p gs)
    → result ≡ option_map (threat_found p) (first_threat p)
unfolding first_threat
first_of_all p gs result are is = is ∙ ap (λ gs. option_map (threat_found p) (first_by p gs)) are

-- there is none exactly where no group is one
pub none_is : (p : Position) (result : Option Threatened) → result ≡ option_map (threat_found p) (first_threat p)
    → (result ≡ None) ↔ ((g : Group) (pairs : List Pair) → is_threat p g pairs ≡ false)
none_is p result is = (
  (λ none. (first_missing p).0 (unmapped (first_threat p) (sym is ∙ none))),
  (λ none. is ∙ ap (option_map (threat_found p)) ((first_missing p).1 none)),
)
  where
    unmapped : (o : Option (Group × List Pair)) → option_map (threat_found p) o ≡ None → o ≡ None
    unmapped None h = refl
    unmapped (Some x) h = absurd (cc h)
