-- The groups of a set as bits of words.
use Rattle.std.proofs.Common.{◌≡◌, ℕ, ◌-◌, ◌^◌, ◌<◌, ◌≤◌, min, Bool, List, length, map, take, drop, refl, sym, ap, ◌∙◌, inl, inr, arith, length-drop}
use Rattle.std.specs.Simd.Lanes.{mask_l}
use Rattle.std.proofs.Math.Nat.{pow-le-pow_right}
use Rattle.std.proofs.lemmas.Simd.{mask_l-lt}
use Rattle.std.proofs.lemmas.Bool.{cases_lt}
use Rattle.std.proofs.lemmas.List.{length-map, take_all, drop_all, take-map, drop-map}
use Rattle.game_rules.specs.Groups.{Group, GroupsOn, has_group, groups_of}
use Rattle.open_groups.specs.GroupBits.{marks_of, group_bits}

-- a word that has room for one more bit
pub word_small : (f : Group → Bool) (gs : List Group) (left word : ℕ) → length gs ≤ 128 → 0 < left → word ≡ mask_l (map f (drop left gs)) → word < 2 ^ 127
word_small f gs left word few some so_far =
    let small = mask_l-lt (map f (drop left gs)) in
    let size : length (map f (drop left gs)) ≡ length gs - left = length-map (drop left gs) f ∙ length-drop left gs in
    let short : length (map f (drop left gs)) ≤ 127 = omega (arith, size) in
    let most : 2 ^ length (map f (drop left gs)) ≤ 2 ^ 127 = pow-le-pow_right (omega arith) short in
    omega (arith, small, most, so_far)

-- the groups of the first word
first_groups : (gs : List Group) (n : ℕ) → n ≡ min (length gs) 128 → take n gs ≡ take 128 gs
first_groups gs n least = elim (cases_lt (length gs) 128) [
  | inl short ↦ take_all n gs (omega arith) ∙ sym (take_all 128 gs (omega arith))
  | inr long ↦ ap (λ k. take k gs) (let e : n ≡ 128 = omega arith in e)
]

-- the groups of the second
later_groups : (gs : List Group) (n : ℕ) → n ≡ min (length gs) 128 → take (length gs - n) (drop n gs) ≡ drop 128 gs
later_groups gs n least = elim (cases_lt (length gs) 128) [
  | inl short ↦
      take_all (length gs - n) (drop n gs) (omega (arith, length-drop n gs))
      ∙ drop_all n gs (omega arith)
      ∙ sym (drop_all 128 gs (omega arith))
  | inr long ↦
      take_all (length gs - n) (drop n gs) (omega (arith, length-drop n gs))
      ∙ ap (λ k. drop k gs) (let e : n ≡ 128 = omega arith in e)
]

-- the words of the first groups and of the rest are those of the set
pub both_words : (set : GroupsOn) (gs : List Group) (n low high : ℕ) → gs ≡ groups_of set.board → n ≡ min (length gs) 128
    → low ≡ mask_l (map (has_group set.groups) (take n gs)) → high ≡ mask_l (map (has_group set.groups) (take (length gs - n) (drop n gs)))
    → ◌≡◌ {A = ℕ × ℕ} (low, high) (group_bits set)
both_words set gs n low high all least first second =
    let lower : low ≡ mask_l (take 128 (marks_of set)) =
    first ∙ ap (λ hs. mask_l (map (has_group set.groups) hs)) (first_groups gs n least ∙ ap (take 128) all)
    ∙ ap mask_l (sym (take-map (has_group set.groups) 128 (groups_of set.board))) in
    let upper : high ≡ mask_l (drop 128 (marks_of set)) =
    second ∙ ap (λ hs. mask_l (map (has_group set.groups) hs)) (later_groups gs n least ∙ ap (drop 128) all)
    ∙ ap mask_l (sym (drop-map (has_group set.groups) 128 (groups_of set.board))) in
    rw (lower, upper) refl
