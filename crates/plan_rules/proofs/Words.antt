-- What stands on the squares of a zone, as one of a list of words; and what each rule needs of its own zone.
use Rattle.std.proofs.Common.{◌≡◌, ◌⊎◌, ℕ, ◌+◌, ◌≤◌, Bool, true, false, not, ◌&&◌, List, [], ◌∷◌, filter, Option, Some, None, is_none, refl, ap, ◌∙◌, subst}
use Rattle.std.proofs.Common.{inl, inr, arith}
use Rattle.std.specs.List.{list_all, slice_index_or}
use Rattle.std.proofs.lemmas.Bool.{and_parts, and_from, and_right, or_cases, false_from_ne_true}
use Rattle.game_rules.specs.Board.{Square, on_board}
use Rattle.game_rules.specs.Position.{Position, board_of, height, man_at, is_man, after_move}
use Rattle.game_rules.specs.Squares.{same_square, has_square, is_empty, is_playable}
use Rattle.game_rules.specs.declared.Side.{Side}
use Rattle.game_rules.specs.declared.Side.TheVariants.{White}
use Rattle.game_rules.proofs.Lists.{Among, any_gives, all_gives}
use Rattle.game_rules.proofs.Moves.{same_side_is, board_moved}
use Rattle.game_rules.proofs.Squares.{has_from}
use Rattle.plan_rules.specs.Squares.{above, word_at}
use Rattle.plan_rules.specs.Rules.{RuleInstance, zone_of, fits}
use Rattle.plan_rules.specs.Calm.{Word, same_man, same_word, is_one_of}
use Rattle.plan_rules.specs.Laws.{LocalLaw, IsFounded, AreTrue}
use Rattle.plan_rules.proofs.Turns.{empty_parts, playable_man, playable_parts, filled_under, beside, stays}
use Rattle.plan_rules.proofs.Grounds.{fits_on_board, fits_empty}

-- ---- words

same_man_is : (m n : Option Side) → same_man m n ≡ true → m ≡ n
same_man_is None None h = refl
same_man_is None (Some n) h = absurd (cc h)
same_man_is (Some m) None h = absurd (cc h)
same_man_is (Some m) (Some n) h = ap (λ side. Some side) (same_side_is m n h)

same_word_is : (ms ns : Word) → same_word ms ns ≡ true → ms ≡ ns
same_word_is [] [] h = refl
same_word_is [] (n ∷ ns) h = absurd (cc h)
same_word_is (m ∷ ms) [] h = absurd (cc h)
same_word_is (m ∷ ms) (n ∷ ns) h = let both = and_parts _ _ h in let first = same_man_is m n both.0 in let rest = same_word_is ms ns both.1 in cc

abbrev pub IsOneOf : List Word → Word → Type 0
IsOneOf [] word = ⊥
IsOneOf (v ∷ vs) word = (word ≡ v) ⊎ IsOneOf vs word

-- a word of the list that passes a test is one of those that pass it
pub narrow : (test : Word → Bool) (words : List Word) (word : Word) → is_one_of words word ≡ true → test word ≡ true → IsOneOf (filter test words) word
narrow test [] word one passes = absurd (cc one)
narrow test (v ∷ vs) word one passes = elim (or_cases (same_word word v) (is_one_of vs word) one) [
  | inl here ↦ first (same_word_is word v here) (test v) refl
  | inr later ↦ more (narrow test vs word later passes) (test v) refl
]
  where
    first : word ≡ v → (b : Bool) → test v ≡ b → IsOneOf (filter test (v ∷ vs)) word
    first same true e = rw e (inl same)
    first same false e = absurd (cc (passes, ap test same, e))

    more : IsOneOf (filter test vs) word → (b : Bool) → test v ≡ b → IsOneOf (filter test (v ∷ vs)) word
    more rest true e = rw e (inr rest)
    more rest false e = rw e rest

-- the letter at a place
abbrev pub letter : Word → ℕ → Option Side
letter word i = slice_index_or word i None

abbrev pub is_white : ℕ → Word → Bool
is_white i word = is_man White (letter word i)

abbrev pub are_white : ℕ → ℕ → Word → Bool
are_white i j word = is_white i word && is_white j word

abbrev pub is_free : ℕ → Word → Bool
is_free i word = is_none (letter word i)

-- the second is empty and the first isn't
abbrev pub is_free_over : ℕ → ℕ → Word → Bool
is_free_over i j word = not (is_none (letter word i)) && is_none (letter word j)

pub word_same : (us : List Square) (p q : Position) → ((u : Square) → has_square us u ≡ true → man_at p u ≡ man_at q u) → word_at p us ≡ word_at q us
word_same us p q same = along us (λ u among. same u (has_from us u among))
  where
    along : (us : List Square) → ((u : Square) → Among u us → man_at p u ≡ man_at q u) → word_at p us ≡ word_at q us
    along [] same = refl
    along (u ∷ us) same = let first = same u (inl refl) in let rest = along us (λ v among. same v (inr among)) in cc

pub words_local : (words : List Word) (zone : List Square) → LocalLaw zone (λ q. is_one_of words (word_at q zone))
words_local words zone p q same calm = subst (λ word. is_one_of words word ≡ true) (word_same zone p q same) calm

-- ---- zones

pub zone_on_board : (w : RuleInstance) (p q : Position) → fits w p ≡ true → board_of p ≡ board_of q → (u : Square) → Among u (zone_of w)
    → on_board (board_of q) u ≡ true
zone_on_board w p q fitted board u among = subst (λ b. on_board b u ≡ true) board
    (all_gives (on_board (board_of p)) (zone_of w) u (fits_on_board w p fitted) among)

pub zone_none : (w : RuleInstance) (p : Position) → fits w p ≡ true → (u : Square) → Among u (zone_of w) → man_at p u ≡ None
zone_none w p fitted u among = (empty_parts p u (all_gives (is_empty p) (zone_of w) u (fits_empty w p fitted) among)).1

-- the lowest square of a zone in its column stands on the column
pub foot_low : (zone : List Square) (q : Position) → IsFounded zone q → (v : Square) → has_square zone v ≡ true
    → ((u : Square) → has_square zone u ≡ true → u.0 ≡ v.0 → v.1 ≤ u.1) → v.1 ≤ height q v.0 + 1
foot_low zone q founded v owned lowest =
    founded v owned (λ r low. false_from_ne_true _ (λ below. let high : v.1 ≤ r = lowest (v.0, r) below refl in omega arith))

-- a playable square is empty, and the square below it in the zone filled
pub free_from : (q : Position) (u : Square) → is_playable q u ≡ true → is_none (man_at q u) ≡ true
free_from q u playable = ap is_none (playable_man q u playable)

pub free_over_from : (q : Position) (u : Square) → 1 ≤ u.1 → is_playable q (above u) ≡ true
    → (not (is_none (man_at q u)) && is_none (man_at q (above u))) ≡ true
free_over_from q u low playable =
    let parts = playable_parts q (above u) playable in
    let some = filled_under q u low (omega (arith, parts.1)) in
    and_from _ _ (ap (λ m. not (is_none m)) some.1) (free_from q (above u) playable)

-- nothing is owed to others
pub no_facts : (q : Position) → AreTrue (has_square []) (has_square []) [] q
no_facts q = record { uppers = λ u h. absurd (cc h); pairs = λ u h white. absurd (cc h); twins = λ i u v h white. absurd (cc h) }

-- ---- after White's move

-- another square that was empty still is
pub empty_now : (q : Position) (s u : Square) → is_playable q s ≡ true → on_board (board_of q) u ≡ true → same_square u s ≡ false → man_at q u ≡ None
    → is_empty (after_move q s.0) u ≡ true
empty_now q s u playable on apart none = and_from _ _ (ap (λ b. on_board b u) (board_moved q s.0) ∙ on) (ap is_none (beside q s u playable apart ∙ none))

pub filled_now : (q : Position) (s u : Square) (m : Side) → is_playable q s ≡ true → man_at q u ≡ Some m → is_empty (after_move q s.0) u ≡ false
filled_now q s u m playable man = and_right _ _ (ap is_none (stays q s u m playable man))

-- what is so of each word of a list
pub one_of_all : (test : Word → Bool) (words : List Word) (word : Word) → is_one_of words word ≡ true → list_all test words ≡ true → test word ≡ true
one_of_all test words word one all =
    let found = any_gives (same_word word) words one in
    ap test (same_word_is word found.0 found.2) ∙ all_gives test words found.0 all found.1

-- words of one list, changed each in the same way, are words of another
pub mapped : (change : Word → Word) (words targets : List Word) (word : Word) → is_one_of words word ≡ true
    → list_all (λ v. is_one_of targets (change v)) words ≡ true → is_one_of targets (change word) ≡ true
mapped change words targets word one all = one_of_all (λ v. is_one_of targets (change v)) words word one all
