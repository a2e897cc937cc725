-- A calm zone holds an even number of men.
use Rattle.std.proofs.Common.{◌≡◌, ℕ, ◌+◌, ◌-◌, ◌%◌, true, List, [], ◌∷◌, length, refl, sym, ap, ◌∙◌, arith}
use Rattle.std.specs.List.{list_all}
use Rattle.std.proofs.lemmas.Bool.{eq-eqb}
use Rattle.std.proofs.lemmas.List.{length-append}
use Rattle.game_rules.specs.Board.{Square}
use Rattle.game_rules.specs.Position.{Position, man_at}
use Rattle.game_rules.specs.declared.Side.{Side}
use Rattle.plan_rules.specs.Squares.{is_even, span, put_first, word_at, men_on}
use Rattle.plan_rules.specs.Rules.{RuleInstance, claimeven, baseinverse, lowinverse, highinverse, baseclaim, vertical, aftereven, before, specialbefore}
use Rattle.plan_rules.specs.Rules.{zone_of}
use Rattle.plan_rules.specs.Calm.{Word, is_one_of, even_words, inverse_words, claim_words, high_words, is_calm}
use Rattle.plan_rules.proofs.Words.{one_of_all}
use Rattle.plan_rules.proofs.Columns.{men_on_append}
use Rattle.plan_rules.proofs.Pairs.{paired_even, shifted_odd, topped_length}
use Rattle.plan_rules.proofs.Lowinverse.{CalmLow, both_paired, left_capped, right_capped, calm_gives}

-- the men of a word
abbrev men_of : Word → List Side
men_of [] = []
men_of (m ∷ word) = put_first m (men_of word)

men_of_word : (q : Position) (us : List Square) → men_of (word_at q us) ≡ men_on q us
men_of_word q [] = refl
men_of_word q (u ∷ us) = ap (λ men. put_first (man_at q u) men) (men_of_word q us)

-- each word of the list has an even number of men
word_even : (q : Position) (words : List Word) (us : List Square) → list_all (λ word. is_even (length (men_of word))) words ≡ true
    → is_one_of words (word_at q us) ≡ true → is_even (length (men_on q us)) ≡ true
word_even q words us all calm = ap (λ men. is_even (length men)) (sym (men_of_word q us))
    ∙ one_of_all (λ word. is_even (length (men_of word))) words (word_at q us) calm all

low_even : (n m : ℕ) (us vs : List Side) → CalmLow n m us vs → (length us + length vs) % 2 ≡ 0
low_even n m us vs (both_paired left right) = omega (arith, paired_even us left, paired_even vs right)
low_even n m us vs (left_capped size topped shifted) = omega (arith, topped_length us topped, shifted_odd vs shifted)
low_even n m us vs (right_capped shifted size topped) = omega (arith, topped_length vs topped, shifted_odd us shifted)

pub calm_even : (w : RuleInstance) (q : Position) → is_calm w q ≡ true → is_even (length (men_on q (zone_of w))) ≡ true
calm_even (claimeven x) q calm = word_even q even_words (zone_of (claimeven x)) refl calm
calm_even (baseinverse s t) q calm = word_even q inverse_words (zone_of (baseinverse s t)) refl calm
calm_even (lowinverse x x_top y y_top) q calm =
    eq-eqb (length (men_on q (zone_of (lowinverse x x_top y y_top))) % 2) 0
    (ap (λ n. n % 2) (ap length (men_on_append q (span x x_top) (span y y_top)) ∙ length-append (men_on q (span x x_top)) (men_on q (span y y_top)))
    ∙ low_even (x_top.1 + 1 - x.1) (y_top.1 + 1 - y.1) (men_on q (span x x_top)) (men_on q (span y y_top))
    (calm_gives q x y (x_top.1 + 1 - x.1) (y_top.1 + 1 - y.1) calm))
calm_even (highinverse x y) q calm = word_even q high_words (zone_of (highinverse x y)) refl calm
calm_even (baseclaim a b e) q calm = word_even q claim_words (zone_of (baseclaim a b e)) refl calm
calm_even (vertical e) q calm = refl
calm_even (aftereven g) q calm = refl
calm_even (before g) q calm = refl
calm_even (specialbefore g f e0) q calm = refl
