-- The line of a plan: the word `plan` and 1 to 300 instances, with a single space between each two words.
use Rattle.std.specs.Prelude.{◌≡◌, ◌≤◌, ℕ, true, ◌&&◌, nat_le, if◌then◌else◌, List, [], ◌∷◌, map, length, Option, Some, None, codes, bytes_eq}
use Rattle.std.specs.List.{AllByRecursion}
use Rattle.game_rules.specs.Board.{Board}
use Rattle.plan_rules.specs.Rules.{RuleInstance}
use Rattle.plan_text.specs.Words.{◌>>=◌, spaced, words_of}
use Rattle.plan_text.specs.Items.{instance_text, is_named, instance_of}
use Rattle.plan_rules.specs.declared.TheConstants.{MOST_MEMBERS}

abbrev pub plan_words : List RuleInstance → List (List ℕ)
plan_words ws = codes "plan" ∷ map instance_text ws

-- the text of the line, without a line feed
abbrev pub plan_text : List RuleInstance → List ℕ
plan_text ws = spaced (plan_words ws)

-- the instances can stand in a line: there are 1 to `MOST_MEMBERS`, and each is one of the board
abbrev pub PlanFits : Board → List RuleInstance → Type 0
PlanFits board ws = (1 ≤ length ws) × (length ws ≤ MOST_MEMBERS) × AllByRecursion (λ w. is_named board w ≡ true) ws

-- the bytes are the line of these instances
abbrev pub IsPlanLine : Board → List ℕ → List RuleInstance → Type 0
IsPlanLine board bytes ws = PlanFits board ws × (bytes ≡ plan_text ws)

-- ---- reading

abbrev pub instances_of : Board → List (List ℕ) → Option (List RuleInstance)
instances_of board [] = Some []
instances_of board (word ∷ words) = do
  w ← instance_of board word
  ws ← instances_of board words
  Some (w ∷ ws)

-- the words behind `plan`
abbrev pub members_of : Board → List (List ℕ) → Option (List RuleInstance)
members_of board words = if nat_le 1 (length words) && nat_le (length words) MOST_MEMBERS then instances_of board words else None

abbrev pub plan_of_words : Board → List (List ℕ) → Option (List RuleInstance)
plan_of_words board [] = None
plan_of_words board (word ∷ words) = if bytes_eq word (codes "plan") then members_of board words else None

-- the instances of the plan line that the bytes are
abbrev pub read_plan : Board → List ℕ → Option (List RuleInstance)
read_plan board bytes = plan_of_words board (words_of bytes)
