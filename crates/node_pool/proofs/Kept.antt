-- What each change of a pool keeps: the count of live slots, and the numbers of those that were given back.
use Rattle.std.specs.Prelude.{◌≡◌, ◌≢◌, ℕ, suc, Bool, ◌+◌, ◌<◌, ◌≤◌, ◌==◌, true, false, cond, List, [], ◌∷◌, ◌++◌, length, map, set, get_or, Option, Some, None}
use Rattle.std.specs.Prelude.{is_some, replicate}
use Rattle.std.specs.List.{range_with_len, slice_get}
use Rattle.std.proofs.Common.{refl, sym, ap, ◌∙◌, arith, length-set, length-append, inl, inr}
use mathlib.Core.Bool.{true≢false}
use Rattle.std.proofs.lemmas.Bool.{cases_lt, cases_eq, cases_Bool}
use Rattle.std.proofs.lemmas.List.{same_lists, get_or-set_same, get_or-set_other, get_or_past, get_or_push, get_or_append_left, get_or-replicate}
use Rattle.std.proofs.lemmas.List.{length-replicate}
use Rattle.std.proofs.lemmas.List.FromFn.{length-map-range_with_len, get_or-map-range_with_len}
use Rattle.std.proofs.lemmas.List.Sums.{count_by-le-length, sum_by-set}
use Rattle.std.proofs.lemmas.List.Folds.{sum_by-replicate, list_any_at}
use Rattle.std.proofs.lemmas.Option.{slice_get-get_or, slice_get_past}
use Rattle.node_pool.specs.Slots.{held, IsLive, live_slots}
use Rattle.node_pool.specs.Free.{is_free, slot_value, slots_of, KeepsFree}

-- ---- numbers that were given back

same_number : (i : ℕ) → (i == i) ≡ true
same_number i = grind arith

other_number : (i j : ℕ) → i ≢ j → (i == j) ≡ false
other_number i j other = grind arith

-- the number behind the others is free, and of any other it makes no difference
last_is_free : (free : List ℕ) (at : ℕ) → is_free (free ++ at ∷ []) at ≡ true
last_is_free [] at = rw (same_number at) refl
last_is_free (k ∷ free) at =
    elim (cases_Bool (k == at)) [
      | inl here ↦ rw here refl
      | inr past ↦ rw past (last_is_free free at)
    ]

others_as_before : (free : List ℕ) (at k : ℕ) → k ≢ at → is_free (free ++ at ∷ []) k ≡ is_free free k
others_as_before [] at k other = rw (other_number at k (λ e. other (sym e))) refl
others_as_before (j ∷ free) at k other =
    elim (cases_Bool (j == k)) [
      | inl here ↦ rw here refl
      | inr past ↦ rw past (others_as_before free at k other)
    ]

-- a number that stands in no place isn't free
nowhere : (free : List ℕ) (at : ℕ) → ((k : ℕ) → k < length free → get_or free k 0 ≢ at) → is_free free at ≡ false
nowhere [] at none = refl
nowhere (j ∷ free) at none =
    rw (other_number j at (none 0 (omega arith))) (nowhere free at (λ k below. none (suc k) (omega (arith, below))))

-- ---- lists made from a function of the index

-- one is another but for one place
changed : {X : Type 0} (f g : ℕ → X) (n at : ℕ) (y : X) → at < n → g at ≡ y → ((k : ℕ) → k ≢ at → g k ≡ f k)
    → map g (range_with_len 0 n) ≡ set (map f (range_with_len 0 n)) at y
changed {X} f g n at y inside here there =
    same_lists _ _ (length-map-range_with_len g 0 n ∙ sym (length-set (map f (range_with_len 0 n)) at y ∙ length-map-range_with_len f 0 n))
    (λ k d below. each k d (omega (arith, below, length-map-range_with_len g 0 n)))
  where
    old : List X
    old = map f (range_with_len 0 n)

    each : (k : ℕ) (d : X) → k < n → get_or (map g (range_with_len 0 n)) k d ≡ get_or (set old at y) k d
    each k d below =
        elim (cases_eq k at) [
          | inl e ↦ get_or-map-range_with_len g 0 n k k d below (omega arith) ∙ ap g e ∙ here
              ∙ sym (ap (λ i. get_or (set old at y) i d) e ∙ get_or-set_same old at y d (omega (arith, inside, length-map-range_with_len f 0 n)))
          | inr other ↦ get_or-map-range_with_len g 0 n k k d below (omega arith) ∙ there k other
              ∙ sym (get_or-set_other old at k y d other ∙ get_or-map-range_with_len f 0 n k k d below (omega arith))
        ]

module _ {T : Type 0} where
  -- one for a slot that holds a value
  abbrev one : Option T → ℕ
  one x = cond (is_some x) 1 0

  live_set : (slots : List (Option T)) (at : ℕ) (y : Option T) → at < length slots
      → live_slots (set slots at y) + one (held slots at) ≡ live_slots slots + one y
  live_set slots at y inside = sum_by-set one slots at y None inside

  -- a slot that holds nothing isn't live
  not_live : (slots : List (Option T)) (at : ℕ) → IsLive slots at → held slots at ≢ None
  not_live slots at live none = absurd (true≢false (sym live ∙ ap is_some none))

  -- a live slot is one of the pool's
  pub live_within : (slots : List (Option T)) (at : ℕ) → IsLive slots at → at < length slots
  live_within slots at live =
      elim (cases_lt at (length slots)) [
        | inl inside ↦ inside
        | inr past ↦ absurd (not_live slots at live (get_or_past slots at None past))
      ]

  -- a slot that held nothing and holds a value now is one more
  pub one_more : (slots : List (Option T)) (at : ℕ) (v : T) → at < length slots → held slots at ≡ None
      → live_slots (set slots at (Some v)) ≡ live_slots slots + 1
  one_more slots at v inside none = omega (arith, live_set slots at (Some v) inside, ap one none)

  -- a live slot that holds nothing now is one fewer
  pub one_fewer : (slots : List (Option T)) (at : ℕ) → IsLive slots at → live_slots (set slots at None) + 1 ≡ live_slots slots
  one_fewer slots at live = omega (arith, live_set slots at None (live_within slots at live), ap {B = ℕ} (λ b. cond b 1 0) live)

  -- where as many slots are live as there are, each is
  pub each_live : (slots : List (Option T)) (v : T) → live_slots slots ≡ length slots → (at : ℕ) → at < length slots → IsLive slots at
  each_live slots v full at inside = of_slot (held slots at) refl
    where
      of_slot : (o : Option T) → held slots at ≡ o → IsLive slots at
      of_slot None none = absurd (omega (
        arith,
        full,
        one_more slots at v inside none,
        count_by-le-length is_some (set slots at (Some v)),
        length-set slots at (Some v),
      ))
      of_slot (Some x) some = ap is_some some

  -- ---- what a slot holds, by the lists of a pool

  no_value : (b : Bool) (o : Option T) → b ≡ true → cond b None o ≡ None
  no_value b o e = rw e refl

  a_value : (b : Bool) (o : Option T) → b ≡ false → cond b None o ≡ o
  a_value b o e = rw e refl

  set_here : (values : List T) (at : ℕ) (v : T) → at < length values → slice_get (set values at v) at ≡ Some v
  set_here values at v inside = slice_get-get_or (set values at v) at v (omega (arith, inside, length-set values at v))
      ∙ ap Some (get_or-set_same values at v v inside)

  set_there : (values : List T) (at k : ℕ) (v : T) → k ≢ at → slice_get (set values at v) k ≡ slice_get values k
  set_there values at k v other =
      elim (cases_lt k (length values)) [
        | inl inside ↦ slice_get-get_or (set values at v) k v (omega (arith, inside, length-set values at v))
            ∙ ap Some (get_or-set_other values at k v v other) ∙ sym (slice_get-get_or values k v inside)
        | inr past ↦ slice_get_past (set values at v) k (omega (arith, past, length-set values at v)) ∙ sym (slice_get_past values k past)
      ]

  more_here : (values : List T) (v : T) → slice_get (values ++ v ∷ []) (length values) ≡ Some v
  more_here [] v = refl
  more_here (x ∷ values) v = more_here values v

  more_there : (values : List T) (k : ℕ) (v : T) → k ≢ length values → slice_get (values ++ v ∷ []) k ≡ slice_get values k
  more_there values k v other =
      elim (cases_lt k (length values)) [
        | inl inside ↦ slice_get-get_or (values ++ v ∷ []) k v (omega (arith, inside, length-append values (v ∷ [])))
            ∙ ap Some (get_or_append_left values (v ∷ []) v k inside) ∙ sym (slice_get-get_or values k v inside)
        | inr past ↦ slice_get_past (values ++ v ∷ []) k (omega (arith, past, other, length-append values (v ∷ [])))
            ∙ sym (slice_get_past values k past)
      ]

  -- as many slots are live where one that is live gets another value
  pub as_many : (slots : List (Option T)) (at : ℕ) (v : T) → IsLive slots at → live_slots (set slots at (Some v)) ≡ live_slots slots
  as_many slots at v live = omega (arith, live_set slots at (Some v) (live_within slots at live), ap {B = ℕ} (λ b. cond b 1 0) live)

  module _ {values : List T} {free : List ℕ} {slots values_room free_room : ℕ} (kept : KeepsFree values free slots values_room free_room) where
    pub count_is : length (slots_of values free slots) ≡ slots
    count_is = length-map-range_with_len (slot_value values free) 0 slots

    nothing_past : (at : ℕ) → length values ≤ at → slot_value values free at ≡ None
    nothing_past at past = rw (slice_get_past values at past) (either (is_free free at))
      where
        either : (b : Bool) → cond {A = Option T} b None None ≡ None
        either true = refl
        either false = refl

    held_is : (at : ℕ) → held (slots_of values free slots) at ≡ slot_value values free at
    held_is at =
        elim (cases_lt at slots) [
          | inl inside ↦ get_or-map-range_with_len (slot_value values free) 0 slots at at None inside (omega arith)
          | inr past ↦ get_or_past (slots_of values free slots) at None (omega (arith, past, count_is))
              ∙ sym (nothing_past at (omega (arith, past, kept.used)))
        ]

    -- ---- a live slot

    -- a slot that is live in the pool is so by its lists
    pub live_here : {pool : List (Option T)} → slots_of values free slots ≡ pool → (at : ℕ) → IsLive pool at → IsLive (slots_of values free slots) at
    live_here is at live = rw is live

    not_given_back : (at : ℕ) → IsLive (slots_of values free slots) at → is_free free at ≡ false
    not_given_back at live =
        elim (cases_Bool (is_free free at)) [
          | inl e ↦ absurd (not_live (slots_of values free slots) at live (held_is at ∙ no_value (is_free free at) (slice_get values at) e))
          | inr e ↦ e
        ]

    pub live_used : (at : ℕ) → IsLive (slots_of values free slots) at → at < length values
    live_used at live =
        elim (cases_lt at (length values)) [
          | inl inside ↦ inside
          | inr past ↦ absurd (not_live (slots_of values free slots) at live (held_is at ∙ nothing_past at past))
        ]

    pub live_value : (at : ℕ) (d : T) → IsLive (slots_of values free slots) at
        → held (slots_of values free slots) at ≡ Some (get_or values at d)
    live_value at d live = held_is at ∙ a_value (is_free free at) (slice_get values at) (not_given_back at live)
        ∙ slice_get-get_or values at d (live_used at live)

    pub value_set : (at : ℕ) (v : T) → IsLive (slots_of values free slots) at
        → slots_of (set values at v) free slots ≡ set (slots_of values free slots) at (Some v)
    value_set at v live =
        changed (slot_value values free) (slot_value (set values at v) free) slots at (Some v) (omega (arith, kept.used, live_used at live))
        (a_value (is_free free at) (slice_get (set values at v) at) (not_given_back at live) ∙ set_here values at v (live_used at live))
        (λ k other. rw (set_there values at k v other) refl)

    pub as_many_set : (at : ℕ) (v : T) → IsLive (slots_of values free slots) at
        → live_slots (slots_of (set values at v) free slots) ≡ live_slots (slots_of values free slots)
    as_many_set at v live = omega (arith, ap live_slots (value_set at v live), as_many (slots_of values free slots) at v live)

    pub kept_set : (at : ℕ) (v : T) → IsLive (slots_of values free slots) at → KeepsFree (set values at v) free slots values_room free_room
    kept_set at v live =
        let same = length-set values at v in
        record {
          few = kept.few;
          used = omega (arith, same, kept.used);
          counted = omega (arith, same, kept.counted, as_many_set at v live);
          within = λ k below. omega (arith, same, kept.within k below);
          apart = kept.apart;
          room_for_values = kept.room_for_values;
          room_for_free = kept.room_for_free;
        }

    -- ---- a slot is given back

    pub room_to_give : (at : ℕ) → IsLive (slots_of values free slots) at → length free < free_room
    room_to_give at live = omega (arith, kept.counted, kept.used, kept.room_for_free, one_fewer (slots_of values free slots) at live)

    pub value_taken : (at : ℕ) → IsLive (slots_of values free slots) at
        → slots_of values (free ++ at ∷ []) slots ≡ set (slots_of values free slots) at None
    value_taken at live =
        changed (slot_value values free) (slot_value values (free ++ at ∷ [])) slots at None (omega (arith, kept.used, live_used at live))
        (no_value (is_free (free ++ at ∷ []) at) (slice_get values at) (last_is_free free at))
        (λ k other. rw (others_as_before free at k other) refl)

    pub kept_taken : (at : ℕ) → IsLive (slots_of values free slots) at → KeepsFree values (free ++ at ∷ []) slots values_room free_room
    kept_taken at live =
        record {
          few = kept.few;
          used = kept.used;
          counted = omega (arith, more, kept.counted, ap live_slots (value_taken at live), one_fewer (slots_of values free slots) at live);
          within = within;
          apart = apart;
          room_for_values = kept.room_for_values;
          room_for_free = kept.room_for_free;
        }
      where
        more : length (free ++ at ∷ []) ≡ length free + 1
        more = length-append free (at ∷ [])

        last : get_or (free ++ at ∷ []) (length free) 0 ≡ at
        last = get_or_push free at 0 (length free) refl

        there : (k : ℕ) → k < length free → get_or (free ++ at ∷ []) k 0 ≡ get_or free k 0
        there k below = get_or_append_left free (at ∷ []) 0 k below

        other : (k : ℕ) → k < length free → get_or free k 0 ≢ at
        other k below e = absurd (true≢false (sym (list_any_at (λ n. n == at) free k 0 below (rw e (same_number at))) ∙ not_given_back at live))

        within : (k : ℕ) → k < length (free ++ at ∷ []) → get_or (free ++ at ∷ []) k 0 < length values
        within k below =
            elim (cases_lt k (length free)) [
              | inl low ↦ omega (arith, there k low, kept.within k low)
              | inr high ↦ let e : k ≡ length free = omega (arith, more, high, below) in rw (e, last) (live_used at live)
            ]

        apart : (j k : ℕ) → j < k → k < length (free ++ at ∷ []) → get_or (free ++ at ∷ []) j 0 ≢ get_or (free ++ at ∷ []) k 0
        apart j k before below =
            elim (cases_lt k (length free)) [
              | inl low ↦ rw (there j (omega (arith, before, low)), there k low) (kept.apart j k before low)
              | inr high ↦
                  let e : k ≡ length free = omega (arith, more, high, below) in
                  let low : j < length free = omega (arith, before, e) in
                  rw (e, there j low, last) (other j low)
            ]

    pub one_taken : (at : ℕ) → IsLive (slots_of values free slots) at
        → live_slots (slots_of values (free ++ at ∷ []) slots) + 1 ≡ live_slots (slots_of values free slots)
    one_taken at live = omega (arith, ap live_slots (value_taken at live), one_fewer (slots_of values free slots) at live)

    -- ---- how many slots are live

    pub not_full : length values < slots + length free → live_slots (slots_of values free slots) ≢ length (slots_of values free slots)
    not_full some full = absurd (omega (arith, some, full, kept.counted, count_is))

    pub is_full : length values ≡ slots → length free ≡ 0 → live_slots (slots_of values free slots) ≡ length (slots_of values free slots)
    is_full all none = omega (arith, all, none, kept.counted, count_is)

    -- ---- a slot is used for the first time

    pub unused : length values < slots → held (slots_of values free slots) (length values) ≡ None
    unused some = held_is (length values) ∙ nothing_past (length values) (omega arith)

    pub value_pushed : (v : T) → length values < slots
        → slots_of (values ++ v ∷ []) free slots ≡ set (slots_of values free slots) (length values) (Some v)
    value_pushed v some =
        changed (slot_value values free) (slot_value (values ++ v ∷ []) free) slots (length values) (Some v) some
        (a_value (is_free free (length values)) (slice_get (values ++ v ∷ []) (length values)) never ∙ more_here values v)
        (λ k other. rw (more_there values k v other) refl)
      where
        never : is_free free (length values) ≡ false
        never = nowhere free (length values) (λ k below e. absurd (omega (arith, e, kept.within k below)))

    pub one_pushed : (v : T) → length values < slots
        → live_slots (slots_of (values ++ v ∷ []) free slots) ≡ live_slots (slots_of values free slots) + 1
    one_pushed v some = omega (
      arith,
      ap live_slots (value_pushed v some),
      one_more (slots_of values free slots) (length values) v (omega (arith, count_is, some)) (unused some),
    )

    pub kept_pushed : (v : T) → length values < slots → KeepsFree (values ++ v ∷ []) free slots values_room free_room
    kept_pushed v some =
        let more = length-append values (v ∷ []) in
        record {
          few = kept.few;
          used = omega (arith, more, some);
          counted = omega (arith, more, kept.counted, one_pushed v some);
          within = λ k below. omega (arith, more, kept.within k below);
          apart = kept.apart;
          room_for_values = kept.room_for_values;
          room_for_free = kept.room_for_free;
        }

  -- ---- a slot that was given back is used again

  module _ {values : List T} {free : List ℕ} {slots values_room free_room : ℕ} (kept : KeepsFree values free slots values_room free_room)
      (rest : List ℕ) (at : ℕ) (is : free ≡ rest ++ at ∷ []) where
    one_less : length free ≡ length rest + 1
    one_less = ap length is ∙ length-append rest (at ∷ [])

    last_is : get_or free (length rest) 0 ≡ at
    last_is = ap (λ numbers. get_or numbers (length rest) 0) is ∙ get_or_push rest at 0 (length rest) refl

    front_is : (k : ℕ) → k < length rest → get_or free k 0 ≡ get_or rest k 0
    front_is k below = ap (λ numbers. get_or numbers k 0) is ∙ get_or_append_left rest (at ∷ []) 0 k below

    free_as : (k : ℕ) → is_free free k ≡ is_free (rest ++ at ∷ []) k
    free_as k = ap (λ numbers. is_free numbers k) is

    pub again_used : at < length values
    again_used = omega (arith, last_is, kept.within (length rest) (omega (arith, one_less)))

    pub again_empty : held (slots_of values free slots) at ≡ None
    again_empty = held_is kept at ∙ no_value (is_free free at) (slice_get values at) (free_as at ∙ last_is_free rest at)

    pub value_again : (v : T) → slots_of (set values at v) rest slots ≡ set (slots_of values free slots) at (Some v)
    value_again v =
        changed (slot_value values free) (slot_value (set values at v) rest) slots at (Some v) (omega (arith, kept.used, again_used))
        (a_value (is_free rest at) (slice_get (set values at v) at) once ∙ set_here values at v again_used)
        (λ k other. rw (free_as k, others_as_before rest at k other, set_there values at k v other) refl)
      where
        once : is_free rest at ≡ false
        once = nowhere rest at (λ k below e. kept.apart k (length rest) below (omega (arith, one_less)) (front_is k below ∙ e ∙ sym last_is))

    pub one_again : (v : T) → live_slots (slots_of (set values at v) rest slots) ≡ live_slots (slots_of values free slots) + 1
    one_again v = omega (
      arith,
      ap live_slots (value_again v),
      one_more (slots_of values free slots) at v (omega (arith, count_is kept, kept.used, again_used)) again_empty,
    )

    pub kept_again : (v : T) → KeepsFree (set values at v) rest slots values_room free_room
    kept_again v =
        let same = length-set values at v in
        record {
          few = kept.few;
          used = omega (arith, same, kept.used);
          counted = omega (arith, same, one_less, kept.counted, one_again v);
          within = λ k below. omega (arith, same, front_is k below, kept.within k (omega (arith, below, one_less)));
          apart = λ j k before below. rw (← front_is j (omega (arith, before, below)), ← front_is k below)
              (kept.apart j k before (omega (arith, below, one_less)));
          room_for_values = kept.room_for_values;
          room_for_free = kept.room_for_free;
        }

-- ---- a new pool

-- no slot holds anything
pub new_slots : (T : Type 0) (n : ℕ) → slots_of {T = T} [] [] n ≡ replicate n None
new_slots T n =
    let count = length-map-range_with_len (slot_value {T = T} [] []) 0 n in
    same_lists _ _ (count ∙ sym (length-replicate {A = Option T} n None))
    (λ k d below.
    let inside : k < n = omega (arith, below, count) in
    get_or-map-range_with_len (slot_value {T = T} [] []) 0 n k k d inside (omega arith) ∙ sym (get_or-replicate n k None d inside))

pub none_live : (T : Type 0) (n : ℕ) → live_slots (replicate {A = Option T} n None) ≡ 0
none_live T n = omega (arith, sum_by-replicate {X = Option T} (one {T = T}) n None)

pub new_kept : (T : Type 0) (n values_room free_room : ℕ) → n ≤ 1000000 → values_room ≡ n → free_room ≡ n
    → KeepsFree {T = T} [] [] n values_room free_room
new_kept T n values_room free_room few values_fit free_fit =
    record {
      few = few;
      used = omega arith;
      counted = omega (arith, ap live_slots (new_slots T n), none_live T n);
      within = λ k below. absurd (omega (arith, below));
      apart = λ j k before below e. absurd (omega (arith, below));
      room_for_values = values_fit;
      room_for_free = free_fit;
    }
