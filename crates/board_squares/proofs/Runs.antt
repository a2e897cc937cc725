-- A word has a run exactly where its squares do.
use Rattle.std.proofs.Common.{◌≡◌, ◌⊎◌, ℕ, zero, suc, ◌+◌, ◌-◌, ◌*◌, ◌/◌, ◌%◌, ◌^◌, ◌<◌, ◌≤◌, ◌≢◌, min, Bool, true, false, not, ◌==◌, map, refl, sym, ap, ◌∙◌}
use Rattle.std.proofs.Common.{subst, inl, inr, arith, bit_and}
use Rattle.std.specs.Int.{bit_at, trailing_zeros, w128}
use Rattle.std.specs.List.{list_any}
use Rattle.std.proofs.lemmas.Bool.{cases_eq, cases_lt, eq-eqb, ne_eqb}
use Rattle.std.proofs.lemmas.Nat.{shr-shr, and_le_l}
use Rattle.std.proofs.lemmas.Nat.Bits.{bit_at-zero, bit_at_and, bit_at-trailing_zeros}
use Rattle.game_rules.specs.Board.{Square, below, on_board, step_of, ways, line_length}
use Rattle.game_rules.specs.Squares.{has_square, widest, IsSetOf}
use Rattle.game_rules.specs.declared.Length.{Length}
use Rattle.game_rules.specs.declared.Length.TheVariants.{Four, Five}
use Rattle.game_rules.specs.declared.Way.{Way}
use Rattle.game_rules.specs.declared.Way.TheVariants.{H, V, U, D}
use Rattle.game_rules.proofs.Lists.{any_gives, any_from, all_gives, all_from, Among-map, Among-map_gives, Among-below, Among-below_gives}
use Rattle.game_rules.proofs.Ends.{on_board_parts, Among-ways, step_none}
use Rattle.game_rules.proofs.Squares.{agree, has_gives, has_where, where_on}
use Rattle.board_squares.specs.Words.{place_of, square_at, has_bit, squares_of}
use Rattle.board_squares.specs.Runs.{IsLength, runs_from, has_run, shift_of, pairs_in, fours_in, starts_in, word_runs}
use Rattle.board_squares.proofs.Words.{IsWord}
use Rattle.board_squares.proofs.Masks.{bit_cases, word_set, bit_on, bit_has, has_set}

-- ---- bits at one distance

shifted : (n k i : ℕ) → bit_at (n / 2 ^ k) i ≡ bit_at n (k + i)
shifted n k i = ap (λ m. m % 2) (shr-shr n k i)

length_small : (len : ℕ) → IsLength len → (0 < len) × (len ≤ 5)
length_small len (inl four) = (omega arith, omega arith)
length_small len (inr five) = (omega arith, omega arith)

-- so many bits follow one another from this one
abbrev Follow : ℕ → ℕ → ℕ → ℕ → Type 0
Follow n step len i = (j : ℕ) → j < len → bit_at n (i + j * step) ≡ 1

module _ (n step i : ℕ) where
  pair_bit : (k : ℕ) → bit_at (pairs_in n step) k ≡ min (bit_at n k) (bit_at n (step + k))
  pair_bit k = bit_at_and n (n / 2 ^ step) k ∙ ap (min (bit_at n k)) (shifted n step k)

  four_bit : bit_at (fours_in n step) i ≡ min (min (bit_at n i) (bit_at n (step + i))) (min (bit_at n (2 * step + i)) (bit_at n (step + (2 * step + i))))
  four_bit =
      bit_at_and (pairs_in n step) (pairs_in n step / 2 ^ (2 * step)) i
      ∙ ap (λ b. min b (bit_at (pairs_in n step / 2 ^ (2 * step)) i)) (pair_bit i)
      ∙ ap (min (min (bit_at n i) (bit_at n (step + i)))) (shifted (pairs_in n step) (2 * step) i ∙ pair_bit (2 * step + i))

  five_bit : bit_at (bit_and (fours_in n step) (n / 2 ^ (4 * step))) i ≡ min (bit_at (fours_in n step) i) (bit_at n (4 * step + i))
  five_bit = bit_at_and (fours_in n step) (n / 2 ^ (4 * step)) i ∙ ap (min (bit_at (fours_in n step) i)) (shifted n (4 * step) i)

  four_follow : bit_at (fours_in n step) i ≡ 1 → Follow n step 4 i
  four_follow set j low =
      let all = four_bit in
      at j low (λ k. bit_at n k) (let e : bit_at n i ≡ 1 = omega (arith, all, set) in e) (let e : bit_at n (step + i) ≡ 1 = omega (arith, all, set) in e)
      (let e : bit_at n (2 * step + i) ≡ 1 = omega (arith, all, set) in e) (let e : bit_at n (step + (2 * step + i)) ≡ 1 = omega (arith, all, set) in e)
    where
      at : (j : ℕ) → j < 4 → (bit : ℕ → ℕ) → bit i ≡ 1 → bit (step + i) ≡ 1 → bit (2 * step + i) ≡ 1 → bit (step + (2 * step + i)) ≡ 1 → bit (i + j * step) ≡ 1
      at zero low bit a b c d = ap bit (omega arith) ∙ a
      at (suc zero) low bit a b c d = ap bit (omega arith) ∙ b
      at (suc (suc zero)) low bit a b c d = ap bit (omega arith) ∙ c
      at (suc (suc (suc zero))) low bit a b c d = ap bit (omega arith) ∙ d
      at (suc (suc (suc (suc j)))) low bit a b c d = absurd (omega arith)

  four_from : Follow n step 4 i → bit_at (fours_in n step) i ≡ 1
  four_from all =
      let a : bit_at n i ≡ 1 = ap (bit_at n) (omega arith) ∙ all 0 (omega arith) in
      let b : bit_at n (step + i) ≡ 1 = ap (bit_at n) (omega arith) ∙ all 1 (omega arith) in
      let c : bit_at n (2 * step + i) ≡ 1 = ap (bit_at n) (omega arith) ∙ all 2 (omega arith) in
      let d : bit_at n (step + (2 * step + i)) ≡ 1 = ap (bit_at n) (omega arith) ∙ all 3 (omega arith) in
      four_bit ∙ omega (arith, a, b, c, d)

  starts_follow : (len : ℕ) → IsLength len → bit_at (starts_in n step len) i ≡ 1 → Follow n step len i
  starts_follow len (inl four) set = subst (λ m. Follow n step m i) (sym four) (four_follow (sym (ap (λ m. bit_at (starts_in n step m) i) four) ∙ set))
  starts_follow len (inr five) set = subst (λ m. Follow n step m i) (sym five) (λ j low. at j low (cases_eq j 4))
    where
      both : min (bit_at (fours_in n step) i) (bit_at n (4 * step + i)) ≡ 1
      both = sym five_bit ∙ sym (ap (λ m. bit_at (starts_in n step m) i) five) ∙ set

      at : (j : ℕ) → j < 5 → (j ≡ 4) ⊎ (j ≢ 4) → bit_at n (i + j * step) ≡ 1
      at j low (inl last) = let all = both in rw last (ap (bit_at n) (let e : i + 4 * step ≡ 4 * step + i = omega arith in e) ∙ omega (arith, all))
      at j low (inr before) = let all = both in four_follow (omega (arith, all)) j (omega arith)

  starts_from : (len : ℕ) → IsLength len → Follow n step len i → bit_at (starts_in n step len) i ≡ 1
  starts_from len (inl four) all = ap (λ m. bit_at (starts_in n step m) i) four ∙ four_from (subst (λ m. Follow n step m i) four all)
  starts_from len (inr five) all =
      let each = subst (λ m. Follow n step m i) five all in
      let first : bit_at (fours_in n step) i ≡ 1 = four_from (λ j low. each j (omega arith)) in
      let last : bit_at n (4 * step + i) ≡ 1 = ap (bit_at n) (let e : 4 * step + i ≡ i + 4 * step = omega arith in e) ∙ each 4 (omega arith) in
      ap (λ m. bit_at (starts_in n step m) i) five ∙ five_bit ∙ omega (arith, first, last)

starts_below : (n step len : ℕ) → IsLength len → starts_in n step len ≤ n
starts_below n step len (inl four) = rw four (fours_below n step)
  where
    fours_below : (n step : ℕ) → fours_in n step ≤ n
    fours_below n step = let first = and_le_l (pairs_in n step) (pairs_in n step / 2 ^ (2 * step)) in let second = and_le_l n (n / 2 ^ step) in
        omega (arith, first, second)
starts_below n step len (inr five) = rw five (let first = and_le_l (pairs_in n step) (pairs_in n step / 2 ^ (2 * step)) in let second =
    and_le_l n (n / 2 ^ step) in let third = and_le_l (fours_in n step) (n / 2 ^ (4 * step)) in omega (arith, first, second, third))

-- ---- squares

-- the squares from an anchor on pass a test
pub record Run (test : Square → Bool) (len : ℕ) : Type 0 where
  pub way : Way
  pub anchor : Square
  pub each : (i : ℕ) → i < len → test (step_of way anchor i) ≡ true

-- the bits of a number are the squares that pass a test
pub record Shows (test : Square → Bool) (n : ℕ) : Type 0 where
  pub word : IsWord n
  pub within : (u : Square) → test u ≡ true → on_board widest u ≡ true
  pub same : (u : Square) → on_board widest u ≡ true → has_bit n u ≡ test u

-- a step between squares of the board is one shift
step_place : (way : Way) (c r j : ℕ) → on_board widest (c, r) ≡ true → on_board widest (step_of way (c, r) j) ≡ true
    → place_of (step_of way (c, r) j) ≡ place_of (c, r) + j * shift_of way
step_place H c r j first here = let start = on_board_parts widest c r first in omega arith
step_place V c r j first here = let start = on_board_parts widest c r first in omega arith
step_place U c r j first here = let start = on_board_parts widest c r first in omega arith
step_place D c r j first here = let start = on_board_parts widest c r first in let low = on_board_parts widest (c + j) (r - j) here in omega arith

module _ (test : Square → Bool) (n : ℕ) (shows : Shows test n) (len : ℕ) (some : IsLength len) where
  set_where_passes : (u : Square) → test u ≡ true → bit_at n (place_of u) ≡ 1
  set_where_passes u passes = has_set n u (shows.same u (shows.within u passes) ∙ passes)

  passes_where_set : (i : ℕ) → bit_at n i ≡ 1 → test (square_at i) ≡ true
  passes_where_set i set = sym (shows.same (square_at i) (bit_on n i shows.word set)) ∙ bit_has n i set

  follow_from : (way : Way) (s : Square) → ((i : ℕ) → i < len → test (step_of way s i) ≡ true) → Follow n (shift_of way) len (place_of s)
  follow_from way (c, r) each j low =
      let small = length_small len some in
      let first : test (c, r) ≡ true = ap test (sym (step_none way (c, r))) ∙ each 0 small.0 in
      ap (bit_at n) (sym (step_place way c r j (shows.within (c, r) first) (shows.within (step_of way (c, r) j) (each j low))))
      ∙ set_where_passes (step_of way (c, r) j) (each j low)

  -- the highest bit of a column is never set
  no_top : (i : ℕ) → bit_at n i ≡ 1 → i % 11 ≢ 10
  no_top i set top =
      let last : i ≡ 11 * (i / 11) + 10 = omega arith in
      let none : bit_at n i ≡ 0 = ap (bit_at n) last ∙ shows.word.gaps (i / 11) in
      omega (arith, none, set)

  square_along : (way : Way) (i j : ℕ) → j < len → Follow n (shift_of way) len i → square_at (i + j * shift_of way) ≡ step_of way (square_at i) j
  square_along H i j low follow =
      let column : (i + j * 11) / 11 ≡ i / 11 + j = omega arith in let row : (i + j * 11) % 11 + 1 ≡ i % 11 + 1 = omega arith in rw (column, row) refl
  square_along V i j low follow = elim (cases_lt (i % 11 + j) 10) [
    | inl under ↦ let column : (i + j * 1) / 11 ≡ i / 11 = omega arith in let row : (i + j * 1) % 11 + 1 ≡ i % 11 + 1 + j = omega arith in rw (column, row) refl
    | inr over ↦ absurd (no_top (i + (10 - i % 11) * 1) (follow (10 - i % 11) (omega arith)) (omega arith))
  ]
  square_along U i j low follow = elim (cases_lt (i % 11 + j) 10) [
    | inl under ↦ let column : (i + j * 12) / 11 ≡ i / 11 + j = omega arith in let row : (i + j * 12) % 11 + 1 ≡ i % 11 + 1 + j = omega arith in
        rw (column, row) refl
    | inr over ↦ absurd (no_top (i + (10 - i % 11) * 12) (follow (10 - i % 11) (omega arith)) (omega arith))
  ]
  square_along D i j low follow = elim (cases_lt (i % 11) j) [
    | inr above ↦ let column : (i + j * 10) / 11 ≡ i / 11 + j = omega arith in let row : (i + j * 10) % 11 + 1 ≡ i % 11 + 1 - j = omega arith in
        rw (column, row) refl
    | inl beneath ↦ absurd (no_top (i + (i % 11 + 1) * 10) (follow (i % 11 + 1) (omega arith)) (omega arith))
  ]

  pub run_gives : word_runs n len ≡ true → Run test len
  run_gives runs =
      let found = any_gives (λ way. not (starts_in n (shift_of way) len == 0)) ways runs in
      let starts = starts_in n (shift_of found.0) len in
      let positive : 0 < starts = elim (cases_eq starts 0) [
        | inl none ↦ absurd (let gone : not (starts == 0) ≡ false = ap not (eq-eqb starts 0 none) in cc (gone, found.2))
        | inr more ↦ omega arith
      ] in
      let low = shows.word.low in let below_word = starts_below n (shift_of found.0) len some in
      let lowest = bit_at-trailing_zeros w128 starts positive (omega (arith, low, below_word)) in
      let follow = starts_follow n (shift_of found.0) (trailing_zeros w128 starts) len some lowest.1 in
      record {
        way = found.0;
        anchor = square_at (trailing_zeros w128 starts);
        each = λ j within.
            ap test (sym (square_along found.0 (trailing_zeros w128 starts) j within follow))
            ∙ passes_where_set (trailing_zeros w128 starts + j * shift_of found.0) (follow j within);
      }

  pub run_from : Run test len → word_runs n len ≡ true
  run_from run =
      let starts = starts_in n (shift_of run.way) len in
      let set : bit_at starts (place_of run.anchor) ≡ 1 = starts_from n (shift_of run.way) (place_of run.anchor) len some
      (follow_from run.way run.anchor run.each) in
      any_from (λ way. not (starts_in n (shift_of way) len == 0)) ways run.way (Among-ways run.way)
      (ap not (ne_eqb starts 0 (λ none.
      let gone : bit_at starts (place_of run.anchor) ≡ 0 = ap (λ m. bit_at m (place_of run.anchor)) none ∙ bit_at-zero (place_of run.anchor) in
      omega (arith, gone, set))))

-- ---- the run of a set

pub shows_squares : (n : ℕ) → IsWord n → Shows (has_square (squares_of n)) n
shows_squares n word = record { word = word; within = where_on (has_bit n); same = λ u on. sym (has_where (has_bit n) u on) }

pub set_runs : (n len : ℕ) → IsWord n → IsLength len → word_runs n len ≡ has_run (squares_of n) len
set_runs n len word some = agree _ _ (λ runs. from (run_gives (has_square (squares_of n)) n (shows_squares n word) len some runs))
    (λ h. run_from (has_square (squares_of n)) n (shows_squares n word) len some (to h))
  where
    from : Run (has_square (squares_of n)) len → has_run (squares_of n) len ≡ true
    from run =
        let first : has_square (squares_of n) run.anchor ≡ true = ap (has_square (squares_of n)) (sym (step_none run.way run.anchor))
        ∙ run.each 0 (length_small len some).0 in
        any_from (λ way. list_any (runs_from (squares_of n) len way) (squares_of n)) ways run.way (Among-ways run.way)
        (any_from (runs_from (squares_of n) len run.way) (squares_of n) run.anchor (has_gives (squares_of n) run.anchor first)
        (all_from (has_square (squares_of n)) (map (step_of run.way run.anchor) (below len)) (λ u among.
        let place = Among-map_gives (step_of run.way run.anchor) (below len) u among in
        subst (λ v. has_square (squares_of n) v ≡ true) place.2 (run.each place.0 (Among-below_gives len place.0 place.1)))))

    to : has_run (squares_of n) len ≡ true → Run (has_square (squares_of n)) len
    to h =
        let way = any_gives (λ way. list_any (runs_from (squares_of n) len way) (squares_of n)) ways h in
        let anchor = any_gives (runs_from (squares_of n) len way.0) (squares_of n) way.2 in
        record {
          way = way.0;
          anchor = anchor.0;
          each = λ i low. all_gives (has_square (squares_of n)) (map (step_of way.0 anchor.0) (below len)) (step_of way.0 anchor.0 i) anchor.2
              (Among-map (step_of way.0 anchor.0) (below len) i (Among-below len i low));
        }

-- ---- the squares that a run starts from

square_back : (u : Square) → on_board widest u ≡ true → square_at (place_of u) ≡ u
square_back (c, r) on =
    let parts = on_board_parts widest c r on in
    let column : (11 * c + r - 1) / 11 ≡ c = omega arith in let row : (11 * c + r - 1) % 11 + 1 ≡ r = omega arith in rw (column, row) refl

module _ (n : ℕ) (word : IsWord n) (way : Way) (len : ℕ) (some : IsLength len) where
  pub starts_word : IsWord (starts_in n (shift_of way) len)
  starts_word = record {
    low = let low = word.low in let less = starts_below n (shift_of way) len some in omega (arith, low, less);
    gaps = λ c. elim (bit_cases (starts_in n (shift_of way) len) (11 * c + 10)) [
      | inl none ↦ none
      | inr set ↦
          let first : bit_at n (11 * c + 10) ≡ 1 = ap (bit_at n) (omega arith)
          ∙ starts_follow n (shift_of way) (11 * c + 10) len some set 0 (length_small len some).0 in
          let none = word.gaps c in absurd (omega (arith, first, none))
    ];
  }

  starts_bit : (s : Square) → on_board widest s ≡ true → has_bit (starts_in n (shift_of way) len) s ≡ runs_from (squares_of n) len way s
  starts_bit s on = agree _ _
      (λ h.
      let follow = starts_follow n (shift_of way) (place_of s) len some (has_set (starts_in n (shift_of way) len) s h) in
      all_from (has_square (squares_of n)) (map (step_of way s) (below len)) (λ u among.
      let step = Among-map_gives (step_of way s) (below len) u among in
      let low = Among-below_gives len step.0 step.1 in
      ap (has_square (squares_of n))
      (sym step.2 ∙ ap (λ v. step_of way v step.0) (sym (square_back s on))
      ∙ sym (square_along (has_square (squares_of n)) n (shows_squares n word) len some way (place_of s) step.0 low follow))
      ∙ passes_where_set (has_square (squares_of n)) n (shows_squares n word) len some (place_of s + step.0 * shift_of way) (follow step.0 low)))
      (λ all.
      let follow = follow_from (has_square (squares_of n)) n (shows_squares n word) len some way s (λ i low.
      all_gives (has_square (squares_of n)) (map (step_of way s) (below len)) (step_of way s i) all
      (Among-map (step_of way s) (below len) i (Among-below len i low))) in
      eq-eqb (bit_at (starts_in n (shift_of way) len) (place_of s)) 1 (starts_from n (shift_of way) (place_of s) len some follow))

  pub starts_set : IsSetOf (runs_from (squares_of n) len way) (squares_of (starts_in n (shift_of way) len))
  starts_set = word_set (runs_from (squares_of n) len way) (starts_in n (shift_of way) len)
      (λ s all. where_on (has_bit n) s (ap (has_square (squares_of n)) (sym (step_none way s))
      ∙ all_gives (has_square (squares_of n)) (map (step_of way s) (below len)) (step_of way s 0) all
      (Among-map (step_of way s) (below len) 0 (Among-below len 0 (length_small len some).0))))
      starts_bit

pub a_length : (len : Length) → IsLength (line_length len)
a_length Four = inl refl
a_length Five = inr refl
