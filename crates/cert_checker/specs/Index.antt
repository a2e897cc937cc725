-- The numbers of lemmas, each by the position at which the lemma stands and by what it claims there.
use Rattle.std.specs.Prelude.{◌≡◌, ℕ, ◌&&◌, if◌then◌else◌, List, Option, Some, None}
use Rattle.std.specs.Map.{lookup}
use Rattle.std.specs.Option.{option_or}
use Rattle.game_rules.specs.Position.{Position, same_position}
use Rattle.game_rules.specs.declared.Question.{Question}
use Rattle.game_rules.specs.declared.Question.TheVariants as questions
use Rattle.position_key.specs.Keys.{Key, same_key, is_for}
use Rattle.proof_text.specs.Lemma.{claims_win, same_claim}
use Rattle.proof_text.specs.Right.{Shown}
use Rattle.proof_text.specs.Upgrade.{first_shown}
use Rattle.proof_text.specs.declared.Claim.{Claim}
use Rattle.proof_text.specs.declared.Claim.TheVariants.{WhiteWins, WhiteFails, BlackWins, BlackFails}

-- the question that a claim answers
abbrev pub question_of : Claim → Question
question_of WhiteWins = questions.WhiteWins
question_of WhiteFails = questions.WhiteWins
question_of BlackWins = questions.BlackWins
question_of BlackFails = questions.BlackWins

-- The numbers of the lemmas that claim that a side wins, and of those that claim that it doesn't, each by its position and
-- by the question that its claim answers.
pub record Numbers : Type 0 where
  pub wins : List (Key × ℕ)
  pub fails : List (Key × ℕ)

abbrev pub numbers_for : Claim → Numbers → List (Key × ℕ)
numbers_for claim numbers = if claims_win claim then numbers.wins else numbers.fails

-- the number that is kept for a position and a claim
abbrev pub kept_for : Position → Claim → Numbers → Option ℕ
kept_for p claim numbers = lookup (is_for p (question_of claim)) (numbers_for claim numbers)

-- what was kept stays, and a number is kept for a key for which there was none
abbrev pub KeepsFirst : Key → ℕ → List (Key × ℕ) → List (Key × ℕ) → Type 0
KeepsFirst key n before after = (other : Key) → lookup (same_key other) after
    ≡ option_or (lookup (same_key other) before) (if same_key key other then Some n else None)

-- what was kept stays, and a number is kept for a position and a claim for which there was none
abbrev pub Keeps : Position → Claim → ℕ → Numbers → Numbers → Type 0
Keeps p claim n before after = (q : Position) (said : Claim) → kept_for q said after
    ≡ option_or (kept_for q said before) (if same_position p q && same_claim claim said then Some n else None)

-- for each position and claim the first lemma that shows it is kept
abbrev pub Follows : List Shown → Numbers → Type 0
Follows known numbers = (p : Position) (claim : Claim) → kept_for p claim numbers ≡ first_shown p claim known
