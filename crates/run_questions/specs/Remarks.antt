-- The remark of a question: how far a front grew for it, and the two numbers of its root then.
use Rattle.std.specs.Prelude.{◌≡◌, ◌<◌, ◌≤◌, ◌==◌, ◌||◌, ℕ, Bool, true, false, List, [], ◌∷◌, Option, Some, None, codes, decimal, length}
use Rattle.std.specs.List.{list_all}
use Rattle.game_rules.specs.Position.{Position}
use Rattle.game_rules.specs.declared.Side.{Side}
use Rattle.game_rules.specs.declared.Side.TheVariants.{White, Black}
use Rattle.front_rules.specs.Front.{root_number, is_settled, front}
use Rattle.front_rules.specs.declared.Count.{Count}
use Rattle.front_rules.specs.declared.Count.TheVariants.{Finite, Infinite}
use Rattle.proof_front.specs.Fronts.{is_full}
use Rattle.proof_text.specs.Spelling.{spaced, is_printable}

-- ---- its text

abbrev pub side_word : Side → List ℕ
side_word White = codes "W"
side_word Black = codes "B"

abbrev pub count_word : Count → List ℕ
count_word (Finite n) = decimal n
count_word Infinite = codes "inf"

-- the side that is asked about, the number of expansions, the proof number and the disproof number
abbrev pub remark_of : Side → ℕ → (proof disproof : Count) → List ℕ
remark_of side n proof disproof = spaced (codes "#" ∷ codes "front" ∷ side_word side ∷ decimal n ∷ count_word proof ∷ count_word disproof ∷ [])

-- a word that may stand in a remark: it can be printed, and is no longer than a number
abbrev pub IsRemarkWord : List ℕ → Type 0
IsRemarkWord word = (list_all is_printable word ≡ true) × (length word ≤ 10)

-- ---- where a front ends

-- After n expansions the root is settled, or the most-proving leaf has more moves than slots are free, or there were as
-- many expansions as there are slots.
abbrev pub is_front_end : Position → Side → (reach slots n : ℕ) → Bool
is_front_end root side reach slots n = is_settled side (front root side reach n) || is_full side slots (front root side reach n) || n == slots

-- it is so after n expansions, and after no fewer
pub record EndsAfter (root : Position) (side : Side) (reach slots n : ℕ) : Type 0 where
  pub last : is_front_end root side reach slots n ≡ true
  pub first : (m : ℕ) → m < n → is_front_end root side reach slots m ≡ false

-- ---- the remark

abbrev pub remark_after : Position → Side → (reach n : ℕ) → List ℕ
remark_after root side reach n = remark_of side n (root_number side true (front root side reach n)) (root_number side false (front root side reach n))

-- With a front of so many slots the remark is that of its end for the question whether the side wins; with none there is
-- no remark.
abbrev pub IsFrontRemark : Option ℕ → ℕ → Position → Side → Option (List ℕ) → Type 0
IsFrontRemark None reach root side remark = remark ≡ None
IsFrontRemark (Some slots) reach root side remark = (n : ℕ) × EndsAfter root side reach slots n × (remark ≡ Some (remark_after root side reach n))
