-- Instances of the board: where their squares and their line stand, that their texts are read, and what bytes and how
-- many those have.
use Rattle.std.proofs.Common.{◌≡◌, ℕ, ◌+◌, ◌<◌, ◌≤◌, true, false, not, ◌&&◌, ◌==◌, nat_lt, nat_le, List, [], ◌∷◌, ◌++◌, length, Some, refl, sym, ap, ◌∙◌, inl}
use Rattle.std.proofs.Common.{inr, arith, lit<, lit≤}
use Rattle.std.specs.List.{AllByRecursion, list_all}
use Rattle.std.specs.Fmt.{decimal}
use Rattle.std.specs.Option.{option_map, option_map_or}
use Rattle.std.proofs.lemmas.Bool.{and_parts, leb-true, ne_eqb}
use Rattle.std.proofs.lemmas.Fmt.{length-decimal-le}
use Rattle.std.proofs.lemmas.List.{length-append}
use Rattle.game_rules.specs.Board.{Board, Square, is_board, on_board}
use Rattle.game_rules.specs.Groups.{Group, squares_of, lies_on}
use Rattle.game_rules.specs.Squares.{has_square}
use Rattle.game_rules.specs.declared.Way.{Way}
use Rattle.game_rules.specs.declared.Way.TheVariants.{H, V, U, D}
use Rattle.game_rules.proofs.Lists.{Among, all_gives}
use Rattle.game_rules.proofs.Squares.{has_gives}
use Rattle.game_rules.proofs.Ends.{on_board_parts}
use Rattle.game_rules.proofs.Groups.{board_most, anchor_on, lies_parts, squares_on}
use Rattle.plan_rules.specs.Rules.{RuleInstance, claimeven, baseinverse, lowinverse, highinverse, baseclaim, vertical, aftereven, before, specialbefore}
use Rattle.plan_rules.specs.Rules.{kind_of, zone_of, is_shaped, has_shape, black_group_of, is_low_column}
use Rattle.plan_rules.specs.Squares.{above, is_even}
use Rattle.plan_rules.specs.declared.Kind.{Kind}
use Rattle.plan_rules.specs.declared.Kind.TheVariants as kinds
use Rattle.plan_rules.proofs.Spans.{lowinverse_shaped}
use Rattle.plan_text.specs.Words.{◌>>=◌}
use Rattle.plan_text.specs.Items.{square_text, way_letter, group_text, column_text, rule_letters, parts_text, instance_text, is_named, square_of, group_of}
use Rattle.plan_text.specs.Items.{column_of_squares, two_squares, rule_of, of_rule, if_named, instance_of}
use Rattle.plan_text.proofs.Spaced.{all_append, all_each, IsPlain, digits_decimal, IsFreeOf, split_once_at}
use Rattle.plan_text.proofs.Items.{row_small, square_spelled, group_spelled, both_spelled, rule_spelled}

-- ---- what stands on the board

module _ (board : Board) where
  abbrev On : Square → Type 0
  On u = on_board board u ≡ true

  abbrev Lies : Group → Type 0
  Lies g = lies_on board g ≡ true

  abbrev IsColumn : Square → Square → Type 0
  IsColumn bottom top = On bottom × On top × (bottom.1 + 2 ≤ top.1)

  -- the squares and the line of an instance
  abbrev Stands : RuleInstance → Type 0
  Stands (claimeven x) = On x
  Stands (baseinverse s t) = On s × On t
  Stands (lowinverse x x_top y y_top) = IsColumn x x_top × IsColumn y y_top
  Stands (highinverse x y) = On x × On y
  Stands (baseclaim a b e) = On a × On b × On e
  Stands (vertical e) = On e
  Stands (aftereven g) = Lies g
  Stands (before g) = Lies g
  Stands (specialbefore g f e0) = Lies g × On f × On e0

  named_parts : (w : RuleInstance) → is_named board w ≡ true → (is_board board ≡ true) × (is_shaped w board ≡ true)
      × (option_map_or (lies_on board) (black_group_of w) true ≡ true)
  named_parts w h =
      let line = and_parts (is_board board && is_shaped w board) (option_map_or (lies_on board) (black_group_of w) true) h in
      let shape = and_parts (is_board board) (is_shaped w board) line.0 in
      (shape.0, shape.1, line.1)

  -- each square of the zone
  zone_on : (w : RuleInstance) → is_named board w ≡ true → (u : Square) → Among u (zone_of w) → On u
  zone_on w h u among = all_gives (on_board board) (zone_of w) u (and_parts (list_all (on_board board) (zone_of w)) (has_shape w board) (named_parts w h).1).0
      among

  stands : (w : RuleInstance) → is_named board w ≡ true → Stands w
  stands (claimeven x) h = zone_on (claimeven x) h x (inl refl)
  stands (baseinverse s t) h = (zone_on (baseinverse s t) h s (inl refl), zone_on (baseinverse s t) h t (inr (inl refl)))
  stands (lowinverse x x_top y y_top) h =
      let both = and_parts _ (on_board board y && on_board board y_top && is_low_column y y_top) (sym (lowinverse_shaped x x_top y y_top board)
      ∙ (named_parts (lowinverse x x_top y y_top) h).1) in
      let left = and_parts _ (is_low_column x x_top) (and_parts (nat_lt x.0 y.0) _ both.0).1 in
      let right = and_parts _ (is_low_column y y_top) both.1 in
      (column_stands x x_top left.0 left.1, column_stands y y_top right.0 right.1)
    where
      column_stands : (bottom top : Square) → (on_board board bottom && on_board board top) ≡ true → is_low_column bottom top ≡ true → IsColumn bottom top
      column_stands bottom top on low = let ends = and_parts (on_board board bottom) (on_board board top) on in
          (ends.0, ends.1, leb-true (bottom.1 + 2) top.1 (and_parts _ (nat_le (bottom.1 + 2) top.1) low).1)
  stands (highinverse x y) h = (zone_on (highinverse x y) h x (inl refl), zone_on (highinverse x y) h y (inr (inr (inr (inl refl)))))
  stands (baseclaim a b e) h = (
    zone_on (baseclaim a b e) h a (inl refl),
    zone_on (baseclaim a b e) h b (inr (inl refl)),
    zone_on (baseclaim a b e) h e (inr (inr (inl refl))),
  )
  stands (vertical e) h = (and_parts (on_board board e) (on_board board (above e)) (and_parts _ (is_even e.1) (named_parts (vertical e) h).1).0).0
  stands (aftereven g) h = (named_parts (aftereven g) h).2
  stands (before g) h = (named_parts (before g) h).2
  stands (specialbefore g f e0) h =
      let apart = and_parts (lies_on board g && on_board board f && not (has_square (squares_of g) f) && has_square (squares_of g) e0) (not (f.0 == e0.0))
      (named_parts (specialbefore g f e0) h).1 in
      let in_line = and_parts _ (has_square (squares_of g) e0) apart.0 in
      let on = and_parts (lies_on board g) (on_board board f) (and_parts _ (not (has_square (squares_of g) f)) in_line.0).0 in
      (on.0, on.1, all_gives (on_board board) (squares_of g) e0 (squares_on board g on.0) (has_gives (squares_of g) e0 in_line.1))

  -- ---- bytes

  abbrev IsHigh : List ℕ → Type 0
  IsHigh word = AllByRecursion (λ byte. 48 ≤ byte) word

  -- a text of which no byte is below a zero has no mark but the colon
  free_of : (mark : ℕ) (word : List ℕ) → mark < 48 → IsHigh word → IsFreeOf mark word
  free_of mark word low high = all_each (λ byte. 48 ≤ byte) (λ byte. (byte == mark) ≡ false) word
      (λ byte h. ne_eqb byte mark (λ (e : byte ≡ mark). omega arith)) high

  plain_of : (word : List ℕ) → IsHigh word → IsPlain word
  plain_of word high = all_each (λ byte. 48 ≤ byte) (λ byte. 43 ≤ byte) word (λ byte h. omega arith) high

  -- two parts and the mark between them
  plain_with : (left : List ℕ) (mark : ℕ) (right : List ℕ) → IsPlain left → 43 ≤ mark → IsPlain right → IsPlain (left ++ mark ∷ right)
  plain_with left mark right first middle last = all_append (λ byte. 43 ≤ byte) left (mark ∷ right) first (middle, last)

  -- the letters of a rule are two capitals
  record AreCapitals (word : List ℕ) : Type 0 where
    free : IsFreeOf 58 word
    plain : IsPlain word
    two : length word ≡ 2

  capitals : (a b : ℕ) → 65 ≤ a → 65 ≤ b → AreCapitals (a ∷ b ∷ [])
  capitals a b first second = record {
    free = (ne_eqb a 58 (λ (e : a ≡ 58). omega arith), (ne_eqb b 58 (λ (e : b ≡ 58). omega arith), tt));
    plain = (omega arith, (omega arith, tt));
    two = refl;
  }

  letters : (rule : Kind) → AreCapitals (rule_letters rule)
  letters kinds.Claimeven = capitals 67 69 (lit≤ tt) (lit≤ tt)
  letters kinds.Baseinverse = capitals 66 73 (lit≤ tt) (lit≤ tt)
  letters kinds.Lowinverse = capitals 76 73 (lit≤ tt) (lit≤ tt)
  letters kinds.Highinverse = capitals 72 73 (lit≤ tt) (lit≤ tt)
  letters kinds.Baseclaim = capitals 66 67 (lit≤ tt) (lit≤ tt)
  letters kinds.Vertical = capitals 86 69 (lit≤ tt) (lit≤ tt)
  letters kinds.Aftereven = capitals 65 69 (lit≤ tt) (lit≤ tt)
  letters kinds.Before = capitals 66 69 (lit≤ tt) (lit≤ tt)
  letters kinds.Specialbefore = capitals 83 66 (lit≤ tt) (lit≤ tt)

  -- ---- texts of a board

  module _ (is : is_board board ≡ true) where
    square_high : (u : Square) → On u → IsHigh (square_text u)
    square_high u on = (
      omega arith,
      all_each (λ byte. (48 ≤ byte) × (byte ≤ 57)) (λ byte. 48 ≤ byte) (decimal u.1) (λ byte digit. digit.0)
          (digits_decimal u.1 (row_small board u is on)),
    )

    group_high : (g : Group) → Lies g → IsHigh (group_text g)
    group_high g lies = all_append (λ byte. 48 ≤ byte) (square_text g.anchor) (way_letter g.way ∷ [])
        (square_high g.anchor (anchor_on board g.way g.anchor (lies_parts board g lies).1)) (letter g.way, tt)
      where
        letter : (way : Way) → 48 ≤ way_letter way
        letter H = lit≤ tt
        letter V = lit≤ tt
        letter U = lit≤ tt
        letter D = lit≤ tt

    square_free : (mark : ℕ) (u : Square) → mark < 48 → On u → IsFreeOf mark (square_text u)
    square_free mark u low on = free_of mark (square_text u) low (square_high u on)

    square_plain : (u : Square) → On u → IsPlain (square_text u)
    square_plain u on = plain_of (square_text u) (square_high u on)

    group_plain : (g : Group) → Lies g → IsPlain (group_text g)
    group_plain g lies = plain_of (group_text g) (group_high g lies)

    pair_plain : (u v : Square) → On u → On v → IsPlain (square_text u ++ 44 ∷ square_text v)
    pair_plain u v on_u on_v = plain_with (square_text u) 44 (square_text v) (square_plain u on_u) (lit≤ tt) (square_plain v on_v)

    column_plain : (u v : Square) → IsColumn u v → IsPlain (column_text u v)
    column_plain u v on = plain_with (square_text u) 45 (square_text v) (square_plain u on.0) (lit≤ tt) (square_plain v on.1)

    parts_plain : (w : RuleInstance) → Stands w → IsPlain (parts_text w)
    parts_plain (claimeven x) h = square_plain x h
    parts_plain (baseinverse s t) h = pair_plain s t h.0 h.1
    parts_plain (lowinverse x x_top y y_top) h = plain_with (column_text x x_top) 44 (column_text y y_top) (column_plain x x_top h.0) (lit≤ tt)
        (column_plain y y_top h.1)
    parts_plain (highinverse x y) h = pair_plain x y h.0 h.1
    parts_plain (baseclaim a b e) h = plain_with (square_text a) 44 (square_text b ++ 44 ∷ square_text e) (square_plain a h.0) (lit≤ tt)
        (pair_plain b e h.1 h.2)
    parts_plain (vertical e) h = square_plain e h
    parts_plain (aftereven g) h = group_plain g h
    parts_plain (before g) h = group_plain g h
    parts_plain (specialbefore g f e0) h = plain_with (group_text g) 44 (square_text f ++ 44 ∷ square_text e0) (group_plain g h.0) (lit≤ tt)
        (pair_plain f e0 h.1 h.2)

    -- ---- what is spelled is read

    pair_spelled : (u v : Square) → On u → On v → two_squares board (square_text u ++ 44 ∷ square_text v) ≡ Some (u, v)
    pair_spelled u v on_u on_v = both_spelled (square_of board) 44 (square_of board) (square_text u) (square_text v) u v (square_free 44 u (lit< tt) on_u)
        (square_spelled board u is on_u) (square_spelled board v is on_v)

    column_spelled : (u v : Square) → IsColumn u v → column_of_squares board (column_text u v) ≡ Some (u, v)
    column_spelled u v on = both_spelled (square_of board) 45 (square_of board) (square_text u) (square_text v) u v (square_free 45 u (lit< tt) on.0)
        (square_spelled board u is on.0) (square_spelled board v is on.1)

    parts_spelled : (w : RuleInstance) → Stands w → of_rule board (kind_of w) (parts_text w) ≡ Some w
    parts_spelled (claimeven x) h = ap (option_map claimeven) (square_spelled board x is h)
    parts_spelled (baseinverse s t) h = ap (option_map (λ us. baseinverse us.0 us.1)) (pair_spelled s t h.0 h.1)
    parts_spelled (lowinverse x x_top y y_top) h =
        let left : IsFreeOf 44 (column_text x x_top) = all_append (λ byte. (byte == 44) ≡ false) (square_text x) (45 ∷ square_text x_top)
        (square_free 44 x (lit< tt) h.0.0) (refl, square_free 44 x_top (lit< tt) h.0.1) in
        ap (option_map (λ us. lowinverse us.0.0 us.0.1 us.1.0 us.1.1))
        (both_spelled (column_of_squares board) 44 (column_of_squares board) (column_text x x_top) (column_text y y_top) (x, x_top) (y, y_top) left
        (column_spelled x x_top h.0) (column_spelled y y_top h.1))
    parts_spelled (highinverse x y) h = ap (option_map (λ us. highinverse us.0 us.1)) (pair_spelled x y h.0 h.1)
    parts_spelled (baseclaim a b e) h = ap (option_map (λ us. baseclaim us.0 us.1.0 us.1.1))
        (both_spelled (square_of board) 44 (two_squares board) (square_text a) (square_text b ++ 44 ∷ square_text e) a (b, e) (square_free 44 a (lit< tt) h.0)
        (square_spelled board a is h.0) (pair_spelled b e h.1 h.2))
    parts_spelled (vertical e) h = ap (option_map vertical) (square_spelled board e is h)
    parts_spelled (aftereven g) h = ap (option_map aftereven) (group_spelled board g is h)
    parts_spelled (before g) h = ap (option_map before) (group_spelled board g is h)
    parts_spelled (specialbefore g f e0) h = ap (option_map (λ us. specialbefore us.0 us.1.0 us.1.1))
        (both_spelled (group_of board) 44 (two_squares board) (group_text g) (square_text f ++ 44 ∷ square_text e0) g (f, e0)
        (free_of 44 (group_text g) (lit< tt) (group_high g h.0)) (group_spelled board g is h.0) (pair_spelled f e0 h.1 h.2))

    -- ---- how long they are

    square_short : (u : Square) → On u → length (square_text u) ≤ 3
    square_short u on =
        let rows = on_board_parts board u.0 u.1 on in let most = board_most board is in
        omega (arith, length-decimal-le 2 u.1 (omega arith) (omega arith) (row_small board u is on))

    column_short : (u v : Square) → IsColumn u v → length (column_text u v) ≤ 6
    column_short u v on =
        let rows = on_board_parts board v.0 v.1 on.1 in let most = board_most board is in
        omega (
          arith,
          square_short v on.1,
          length-append (square_text u) (45 ∷ square_text v),
          length-decimal-le 1 u.1 (omega arith) (omega (arith, on.2))
              (row_small board u is on.0),
        )

    group_short : (g : Group) → Lies g → length (group_text g) ≤ 4
    group_short g lies = omega (
      arith,
      length-append (square_text g.anchor) (way_letter g.way ∷ []),
      square_short g.anchor (anchor_on board g.way g.anchor (lies_parts board g lies).1),
    )

    pair_short : (u v : Square) → On u → On v → length (square_text u ++ 44 ∷ square_text v) ≤ 7
    pair_short u v on_u on_v = omega (arith, length-append (square_text u) (44 ∷ square_text v), square_short u on_u, square_short v on_v)

    parts_short : (w : RuleInstance) → Stands w → length (parts_text w) ≤ 13
    parts_short (claimeven x) h = omega (arith, square_short x h)
    parts_short (baseinverse s t) h = omega (arith, pair_short s t h.0 h.1)
    parts_short (lowinverse x x_top y y_top) h =
        omega (arith, length-append (column_text x x_top) (44 ∷ column_text y y_top), column_short x x_top h.0, column_short y y_top h.1)
    parts_short (highinverse x y) h = omega (arith, pair_short x y h.0 h.1)
    parts_short (baseclaim a b e) h =
        omega (arith, length-append (square_text a) (44 ∷ (square_text b ++ 44 ∷ square_text e)), square_short a h.0, pair_short b e h.1 h.2)
    parts_short (vertical e) h = omega (arith, square_short e h)
    parts_short (aftereven g) h = omega (arith, group_short g h)
    parts_short (before g) h = omega (arith, group_short g h)
    parts_short (specialbefore g f e0) h =
        omega (arith, length-append (group_text g) (44 ∷ (square_text f ++ 44 ∷ square_text e0)), group_short g h.0, pair_short f e0 h.1 h.2)

  -- ---- whole instances

  -- no byte of an instance's text is below `+`
  pub instance_plain : (w : RuleInstance) → is_named board w ≡ true → IsPlain (instance_text w)
  instance_plain w h = plain_with (rule_letters (kind_of w)) 58 (parts_text w) (letters (kind_of w)).plain (lit≤ tt)
      (parts_plain (named_parts w h).0 w (stands w h))

  -- the longest has 16 bytes
  pub instance_short : (w : RuleInstance) → is_named board w ≡ true → length (instance_text w) ≤ 16
  instance_short w h =
      omega (arith, length-append (rule_letters (kind_of w)) (58 ∷ parts_text w), (letters (kind_of w)).two, parts_short (named_parts w h).0 w (stands w h))

  -- what is spelled is read
  pub instance_spelled : (w : RuleInstance) → is_named board w ≡ true → instance_of board (instance_text w) ≡ Some w
  instance_spelled w h =
      ap (λ found. found >>= λ (parts : List ℕ × List ℕ). rule_of parts.0 >>= λ rule. of_rule board rule parts.1 >>= if_named board)
      (split_once_at 58 (rule_letters (kind_of w)) (parts_text w) (letters (kind_of w)).free)
      ∙ ap (λ found. found >>= λ rule. of_rule board rule (parts_text w) >>= if_named board) (rule_spelled (kind_of w))
      ∙ ap (λ found. found >>= if_named board) (parts_spelled (named_parts w h).0 w (stands w h))
      ∙ rw h refl
