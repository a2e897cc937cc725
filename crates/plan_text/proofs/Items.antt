-- Squares, groups and instances: what is read is spelled so and is one of the board, and squares and groups of the board
-- are read from their texts.
use Rattle.std.proofs.Common.{◌≡◌, ℕ, zero, suc, ◌-◌, ◌<◌, ◌^◌, Bool, true, ◌==◌, List, [], ◌∷◌, ◌++◌, length, take, Option, Some, refl, sym, ap, ◌∙◌, subst}
use Rattle.std.proofs.Common.{inl, inr, arith}
use Rattle.std.specs.List.{find, slice_index}
use Rattle.std.specs.Str.{bytes_eq}
use Rattle.std.specs.Fmt.{decimal}
use Rattle.std.specs.Option.{option_map}
use Rattle.std.proofs.lemmas.Bool.{eqb-true}
use Rattle.std.proofs.lemmas.Option.{cond_some}
use Rattle.std.proofs.lemmas.List.{length-append}
use Rattle.std.proofs.Math.Seq.{take-append_seam, get_or-append_seam}
use Rattle.game_rules.specs.Board.{Board, Square, is_board, on_board, is_line, ways}
use Rattle.game_rules.specs.Groups.{Group, group_on, lies_on}
use Rattle.game_rules.specs.Grammar.{letter_of}
use Rattle.game_rules.specs.Letters.{is_letter, column_of}
use Rattle.game_rules.specs.Number.{number_between}
use Rattle.game_rules.specs.declared.Way.{Way}
use Rattle.game_rules.specs.declared.Way.TheVariants.{H, V, U, D}
use Rattle.game_rules.proofs.Lists.{chosen}
use Rattle.game_rules.proofs.Numbers.{number_gives, number_spelled}
use Rattle.game_rules.proofs.Ends.{on_board_parts, on_board_from}
use Rattle.game_rules.proofs.Groups.{board_most, anchor_on, lies_parts, lies_from, group_as}
use Rattle.plan_rules.specs.Rules.{RuleInstance, claimeven, baseinverse, lowinverse, highinverse, baseclaim, vertical, aftereven, before, specialbefore}
use Rattle.plan_rules.specs.Rules.{kind_of}
use Rattle.plan_rules.specs.declared.Kind.{Kind}
use Rattle.plan_rules.specs.declared.Kind.TheVariants as kinds
use Rattle.plan_text.specs.Words.{◌>>=◌, split_once}
use Rattle.plan_text.specs.Items.{square_text, way_letter, group_text, column_text, rule_letters, parts_text, instance_text, is_named, square_of, way_of}
use Rattle.plan_text.specs.Items.{group_at, group_of, both_of, column_of_squares, two_columns, two_squares, three_squares, group_and_squares, all_rules}
use Rattle.plan_text.specs.Items.{rule_of, of_rule, if_named, instance_of}
use Rattle.plan_text.proofs.Spaced.{bind_some, map_some, chosen_some, is_text, letter_read, letter_spelled, IsFreeOf, split_once_gives, split_once_at}

-- what is found passes
find_passes : {X : Type 0} (test : X → Bool) (xs : List X) (x : X) → find test xs ≡ Some x → test x ≡ true
find_passes test [] x h = cc
find_passes test (y ∷ xs) x h = elim (chosen (test y) (Some y) (find test xs) (Some x) h) [
  | inl here ↦ let same : y ≡ x = cc (here.1) in subst (λ x. test x ≡ true) same here.0
  | inr later ↦ find_passes test xs x later.1
]

-- ---- squares

pub square_read : (board : Board) (bytes : List ℕ) (u : Square) → square_of board bytes ≡ Some u → (bytes ≡ square_text u) × (on_board board u ≡ true)
square_read board [] u h = cc
square_read board (letter ∷ digits) u h =
    let found = chosen_some (is_letter board.cols letter) _ u h in
    let named = letter_read board.cols letter found.0 in
    let row = map_some (λ row. (column_of letter, row)) (number_between 1 board.rows digits) u found.1 in
    let told = number_gives 1 board.rows digits row.0 row.1 in
    subst (λ u. (letter ∷ digits ≡ square_text u) × (on_board board u ≡ true)) row.2
    (both letter (letter_of (column_of letter)) digits (decimal row.0) named.0 told.2, on_board_from board (column_of letter) row.0 named.1 told.0 told.1)
  where
    both : (a b : ℕ) (xs ys : List ℕ) → a ≡ b → xs ≡ ys → a ∷ xs ≡ b ∷ ys
    both a b xs ys e f = cc

-- the row of a square of a board is a number that can be written
pub row_small : (board : Board) (u : Square) → is_board board ≡ true → on_board board u ≡ true → u.1 < 2 ^ 64
row_small board u is on = let rows = on_board_parts board u.0 u.1 on in let most = board_most board is in omega arith

pub square_spelled : (board : Board) (u : Square) → is_board board ≡ true → on_board board u ≡ true → square_of board (square_text u) ≡ Some u
square_spelled board u is on =
    let parts = on_board_parts board u.0 u.1 on in
    let letter = letter_spelled board.cols u.0 parts.0 in
    rw (letter.0, letter.1, number_spelled 1 board.rows u.1 (decimal u.1) parts.1 parts.2 (row_small board u is on) refl) refl

-- ---- groups

way_read : (byte : ℕ) (way : Way) → way_of byte ≡ Some way → byte ≡ way_letter way
way_read byte way h = eqb-true byte (way_letter way) (find_passes (λ way. byte == way_letter way) ways way h)

way_spelled : (way : Way) → way_of (way_letter way) ≡ Some way
way_spelled H = refl
way_spelled V = refl
way_spelled U = refl
way_spelled D = refl

-- a word is what stands before its last byte, and that byte
last_apart : (word : List ℕ) (n : ℕ) → length word ≡ suc n → word ≡ take n word ++ slice_index word n ∷ []
last_apart [] n size = absurd (omega arith)
last_apart (byte ∷ []) zero size = refl
last_apart (byte ∷ next ∷ word) zero size = absurd (omega arith)
last_apart (byte ∷ word) (suc n) size = ap (λ rest. byte ∷ rest) (last_apart word n (omega arith))

pub group_read : (board : Board) (word : List ℕ) (g : Group) → group_of board word ≡ Some g → (word ≡ group_text g) × (lies_on board g ≡ true)
group_read board [] g h = cc
group_read board (first ∷ rest) g h =
    let word = first ∷ rest in
    let anchor = bind_some (square_of board (take (length word - 1) word)) _ g h in
    let way = bind_some (way_of (slice_index word (length word - 1))) (λ way. group_at board anchor.0 way) g anchor.2 in
    let found = cond_some (is_line board way.0 anchor.0) (group_on board way.0 anchor.0) g way.2 in
    let letter = way_read (slice_index word (length word - 1)) way.0 way.1 in
    subst (λ g. (word ≡ group_text g) × (lies_on board g ≡ true)) found.1 (
      last_apart word (length word - 1) (omega arith) ∙ ap (λ start. start ++ slice_index word (length word - 1) ∷ []) (square_read board _ anchor.0 anchor.1).0
          ∙ ap (λ letter. square_text anchor.0 ++ letter ∷ []) letter,
      lies_from board way.0 anchor.0 found.0,
    )

pub group_spelled : (board : Board) (g : Group) → is_board board ≡ true → lies_on board g ≡ true → group_of board (group_text g) ≡ Some g
group_spelled board g is lies =
    let parts = lies_parts board g lies in
    let start = square_text g.anchor in
    let last = way_letter g.way in
    let size : length (start ++ last ∷ []) - 1 ≡ length start = omega (arith, length-append start (last ∷ [])) in
    ap (λ n. square_of board (take n (start ++ last ∷ [])) >>= λ anchor. way_of (slice_index (start ++ last ∷ []) n) >>= λ way. group_at board anchor way) size
    ∙ ap (λ word. square_of board word >>= λ anchor. way_of (slice_index (start ++ last ∷ []) (length start)) >>= λ way. group_at board anchor way)
    (take-append_seam start (last ∷ []))
    ∙ ap (λ found. found >>= λ anchor. way_of (slice_index (start ++ last ∷ []) (length start)) >>= λ way. group_at board anchor way)
    (square_spelled board g.anchor is (anchor_on board g.way g.anchor parts.1))
    ∙ ap (λ byte. way_of byte >>= λ way. group_at board g.anchor way) (get_or-append_seam start last [] 0)
    ∙ ap (λ found. found >>= λ way. group_at board g.anchor way) (way_spelled g.way)
    ∙ rw parts.1 (ap Some (group_as board g parts.0))

-- ---- two parts

pub both_read : {X Y : Type 0} (left : List ℕ → Option X) (mark : ℕ) (right : List ℕ → Option Y) (left_text : X → List ℕ) (right_text : Y → List ℕ)
    → ((bytes : List ℕ) (x : X) → left bytes ≡ Some x → bytes ≡ left_text x) → ((bytes : List ℕ) (y : Y) → right bytes ≡ Some y → bytes ≡ right_text y)
    → (bytes : List ℕ) (z : X × Y) → both_of left mark right bytes ≡ Some z → bytes ≡ left_text z.0 ++ mark ∷ right_text z.1
both_read {X} {Y} left mark right left_text right_text left_read right_read bytes z h =
    let parts = bind_some (split_once mark bytes) _ z h in
    let x = bind_some (left parts.0.0) _ z parts.2 in
    let y = bind_some (right parts.0.1) (λ y. Some (x.0, y)) z x.2 in
    let same : ◌≡◌ {A = X × Y} (x.0, y.0) z = cc (y.2) in
    subst (λ (z : X × Y). bytes ≡ left_text z.0 ++ mark ∷ right_text z.1) same
    (split_once_gives mark bytes parts.0 parts.1 ∙ ap (λ start. start ++ mark ∷ parts.0.1) (left_read parts.0.0 x.0 x.1)
    ∙ ap (λ rest. left_text x.0 ++ mark ∷ rest) (right_read parts.0.1 y.0 y.1))

pub both_spelled : {X Y : Type 0} (left : List ℕ → Option X) (mark : ℕ) (right : List ℕ → Option Y) (start rest : List ℕ) (x : X) (y : Y)
    → IsFreeOf mark start → left start ≡ Some x → right rest ≡ Some y → both_of left mark right (start ++ mark ∷ rest) ≡ Some (x, y)
both_spelled left mark right start rest x y free left_is right_is =
    ap (λ found. found >>= λ (parts : List ℕ × List ℕ). left parts.0 >>= λ x. right parts.1 >>= λ y. Some (x, y)) (split_once_at mark start rest free)
    ∙ ap (λ found. found >>= λ x. right rest >>= λ y. Some (x, y)) left_is
    ∙ ap (λ found. found >>= λ y. Some (x, y)) right_is

-- ---- rules

rule_read : (letters : List ℕ) (rule : Kind) → rule_of letters ≡ Some rule → letters ≡ rule_letters rule
rule_read letters rule h = is_text letters (rule_letters rule) (find_passes (λ rule. bytes_eq letters (rule_letters rule)) all_rules rule h)

pub rule_spelled : (rule : Kind) → rule_of (rule_letters rule) ≡ Some rule
rule_spelled kinds.Claimeven = refl
rule_spelled kinds.Baseinverse = refl
rule_spelled kinds.Lowinverse = refl
rule_spelled kinds.Highinverse = refl
rule_spelled kinds.Baseclaim = refl
rule_spelled kinds.Vertical = refl
rule_spelled kinds.Aftereven = refl
rule_spelled kinds.Before = refl
rule_spelled kinds.Specialbefore = refl

-- ---- instances

-- what is read behind the colon is an instance of the rule, and spelled so
record IsOfRule (rule : Kind) (bytes : List ℕ) (w : RuleInstance) : Type 0 where
  kind : kind_of w ≡ rule
  spelled : bytes ≡ parts_text w

module _ (board : Board) where
  square_is : (bytes : List ℕ) (u : Square) → square_of board bytes ≡ Some u → bytes ≡ square_text u
  square_is bytes u h = (square_read board bytes u h).0

  group_is : (bytes : List ℕ) (g : Group) → group_of board bytes ≡ Some g → bytes ≡ group_text g
  group_is bytes g h = (group_read board bytes g h).0

  abbrev pair_text : Square × Square → List ℕ
  pair_text us = square_text us.0 ++ 44 ∷ square_text us.1

  squares_are : (bytes : List ℕ) (us : Square × Square) → two_squares board bytes ≡ Some us → bytes ≡ pair_text us
  squares_are = both_read (square_of board) 44 (square_of board) square_text square_text square_is square_is

  column_is : (bytes : List ℕ) (us : Square × Square) → column_of_squares board bytes ≡ Some us → bytes ≡ column_text us.0 us.1
  column_is = both_read (square_of board) 45 (square_of board) square_text square_text square_is square_is

  -- an instance that is made of what is read
  made_of : {X : Type 0} (rule : Kind) (made : X → RuleInstance) (text : X → List ℕ) → ((x : X) → kind_of (made x) ≡ rule)
      → ((x : X) → text x ≡ parts_text (made x))
      → (read : List ℕ → Option X) → ((bytes : List ℕ) (x : X) → read bytes ≡ Some x → bytes ≡ text x) → (bytes : List ℕ) (w : RuleInstance)
      → option_map made (read bytes) ≡ Some w → IsOfRule rule bytes w
  made_of rule made text kind spelled read is bytes w h =
      let found = map_some made (read bytes) w h in
      subst (IsOfRule rule bytes) found.2 (record { kind = kind found.0; spelled = is bytes found.0 found.1 ∙ spelled found.0 })

  rule_gives : (rule : Kind) (bytes : List ℕ) (w : RuleInstance) → of_rule board rule bytes ≡ Some w → IsOfRule rule bytes w
  rule_gives kinds.Claimeven = made_of kinds.Claimeven claimeven square_text (λ u. refl) (λ u. refl) (square_of board) square_is
  rule_gives kinds.Baseinverse = made_of kinds.Baseinverse (λ us. baseinverse us.0 us.1) pair_text (λ us. refl) (λ us. refl) (two_squares board) squares_are
  rule_gives kinds.Lowinverse = made_of kinds.Lowinverse (λ us. lowinverse us.0.0 us.0.1 us.1.0 us.1.1)
      (λ us. column_text us.0.0 us.0.1 ++ 44 ∷ column_text us.1.0 us.1.1) (λ us. refl) (λ us. refl) (two_columns board)
      (both_read (column_of_squares board) 44 (column_of_squares board) (λ us. column_text us.0 us.1) (λ us. column_text us.0 us.1) column_is column_is)
  rule_gives kinds.Highinverse = made_of kinds.Highinverse (λ us. highinverse us.0 us.1) pair_text (λ us. refl) (λ us. refl) (two_squares board) squares_are
  rule_gives kinds.Baseclaim = made_of kinds.Baseclaim (λ us. baseclaim us.0 us.1.0 us.1.1) (λ us. square_text us.0 ++ 44 ∷ pair_text us.1) (λ us. refl)
      (λ us. refl) (three_squares board)
      (both_read (square_of board) 44 (two_squares board) square_text pair_text square_is squares_are)
  rule_gives kinds.Vertical = made_of kinds.Vertical vertical square_text (λ u. refl) (λ u. refl) (square_of board) square_is
  rule_gives kinds.Aftereven = made_of kinds.Aftereven aftereven group_text (λ g. refl) (λ g. refl) (group_of board) group_is
  rule_gives kinds.Before = made_of kinds.Before before group_text (λ g. refl) (λ g. refl) (group_of board) group_is
  rule_gives kinds.Specialbefore = made_of kinds.Specialbefore (λ us. specialbefore us.0 us.1.0 us.1.1) (λ us. group_text us.0 ++ 44 ∷ pair_text us.1)
      (λ us. refl) (λ us. refl) (group_and_squares board)
      (both_read (group_of board) 44 (two_squares board) group_text pair_text group_is squares_are)

  pub instance_read : (bytes : List ℕ) (w : RuleInstance) → instance_of board bytes ≡ Some w → (is_named board w ≡ true) × (bytes ≡ instance_text w)
  instance_read bytes w h =
      let parts = bind_some (split_once 58 bytes) _ w h in
      let rule = bind_some (rule_of parts.0.0) _ w parts.2 in
      let found = bind_some (of_rule board rule.0 parts.0.1) (if_named board) w rule.2 in
      let named = cond_some (is_named board found.0) found.0 w found.2 in
      let gives = rule_gives rule.0 parts.0.1 found.0 found.1 in
      let letters : parts.0.0 ≡ rule_letters (kind_of found.0) = rule_read parts.0.0 rule.0 rule.1 ∙ ap rule_letters (sym gives.kind) in
      subst (λ w. (is_named board w ≡ true) × (bytes ≡ instance_text w)) named.1 (
        named.0,
        split_once_gives 58 bytes parts.0 parts.1 ∙ ap (λ start. start ++ 58 ∷ parts.0.1) letters
            ∙ ap (λ rest. rule_letters (kind_of found.0) ++ 58 ∷ rest) gives.spelled,
      )
