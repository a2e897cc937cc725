-- What a search is held to in the table of what was found: what it has at a position, and what that is worth.
use Rattle.std.specs.Prelude.{◌≡◌, ℕ, ◌<◌, ◌≤◌, true, List, Option, Some, None, ◌⊎◌}
use Rattle.std.specs.Map.{lookup}
use Rattle.game_rules.specs.Position.{Position, empty_count}
use Rattle.game_rules.specs.Value.{wins}
use Rattle.game_rules.specs.Questions.{side_asked}
use Rattle.game_rules.specs.declared.Question.{Question}
use Rattle.position_key.specs.Keys.{is_for}
use Rattle.position_table.specs.Table.{Entries}
use Rattle.position_table.specs.declared.table.Found.{Found}
use Rattle.proof_text.specs.Lemma.{claim_for}
use Rattle.proof_text.specs.Right.{Shown, Shows}

-- what the table has at a position for a question
unfoldable pub held : Entries → Position → Question → Option Found
held t p question = lookup (is_for p question) t.entries

-- the answer is true, and the lemma is one of so many
pub record IsTrueEntry (count : ℕ) (p : Position) (question : Question) (f : Found) : Type 0 where
  pub answer : f.answer ≡ wins (side_asked question) p
  pub first : 1 ≤ f.lemma
  pub last : f.lemma ≤ count

abbrev pub IsTrueTable : Entries → ℕ → Type 0
IsTrueTable t count = (p : Position) (question : Question) (f : Found) → held t p question ≡ Some f → IsTrueEntry count p question f

-- each entry names a lemma that stands at its position and claims its answer
abbrev pub FitsTable : Entries → List Shown → Type 0
FitsTable t known = (p : Position) (question : Question) (f : Found) → held t p question ≡ Some f → Shows known f.lemma p (claim_for (side_asked question) f.answer)

-- a new entry is of a position with fewer empty squares
abbrev pub OnlyBelow : ℕ → Entries → Entries → Type 0
OnlyBelow n before after = (p : Position) (question : Question) (f : Found) → held after p question ≡ Some f → (held before p question ≡ Some f) ⊎ (empty_count p < n)

-- The tables have the same, and one is whole where the other is.
pub record HasSame (before after : Entries) : Type 0 where
  pub entries : (p : Position) (question : Question) → held after p question ≡ held before p question
  pub whole : after.whole ≡ before.whole

-- where the later table is whole, so was the earlier, and all that it had is still there
pub record StaysWhole (before after : Entries) : Type 0 where
  pub was : after.whole ≡ true → before.whole ≡ true
  pub there : after.whole ≡ true → (p : Position) (question : Question) → held after p question ≡ None → held before p question ≡ None

-- The entry was kept, or was refused memory: nothing else is new, and a table that is whole has it.
pub record KeepsEntry (p : Position) (question : Question) (f : Found) (before after : Entries) : Type 0 where
  pub nothing_else : (q : Position) (s : Question) (g : Found) → held after q s ≡ Some g → (held before q s ≡ Some g) ⊎ ((q ≡ p) × (s ≡ question) × (g ≡ f))
  pub stays : StaysWhole before after
  pub there : after.whole ≡ true → held after p question ≡ Some f
