-- What is written of a lemma as it is taken, and what is kept of those that were.
use Rattle.std.specs.Prelude.{◌≡◌, ℕ, false, List, [], ◌∷◌, ◌++◌, length, Option, Result, Ok, Err}
use Rattle.std.specs.Io.KnownBytes.{Keeps as KeepsBytes, Appends}
use Rattle.device_rules.specs.Devices.{AppendsPrefix}
use Rattle.game_rules.specs.Mirror.{mirror}
use Rattle.game_rules.specs.Position.{Position}
use Rattle.proof_text.specs.Checked.{shown_of}
use Rattle.proof_text.specs.Lemma.{Lemma}
use Rattle.proof_text.specs.Right.{Shown}
use Rattle.proof_text.specs.Spelling.{lemma_line}
use Rattle.proof_text.specs.Upgrade.{upgraded_lemma, resting_on}
use Rattle.run_proof.specs.Index.{Numbers, Follows, Keeps, kept_for}
use Rattle.run_proof.specs.declared.taker.NotTaken.{NotTaken}
use Rattle.run_proof.specs.declared.taker.NotTaken.TheVariants.{Memory, Write}

-- what lemmas of a game show
abbrev pub all_shown : Position → List Lemma → List Shown
all_shown root [] = []
all_shown root (l ∷ ls) = shown_of root l ++ all_shown root ls

-- the line that becomes of a lemma behind others
abbrev pub upgraded_line : Position → List Lemma → Lemma → List ℕ
upgraded_line root ls l = lemma_line (upgraded_lemma root (all_shown root ls) l)

-- These lemmas were written: for each position and claim the number of the first that shows it is kept.
pub record HasPut (numbers : Numbers) (count : ℕ) (root : Position) (ls : List Lemma) : Type 0 where
  pub follows : Follows (all_shown root ls) numbers
  pub counted : count ≡ length ls
  pub all : length (all_shown root ls) ≡ length ls

-- A lemma was written by the first that shows the same at the mirror image, as far as the numbers tell, and its own number
-- was kept; or nothing was written nor kept for want of memory, or a prefix of its line was written.
abbrev pub WritesLemma : Position → Lemma → Numbers → Numbers → Option (List ℕ) → Option (List ℕ) → {X : Type 0} → Result X NotTaken → Type 0
WritesLemma p l before after old new (Ok x) =
    Keeps p l.claim l.number before after × Appends old new (lemma_line (resting_on l (kept_for (mirror p) l.claim before)))
WritesLemma p l before after old new (Err Memory) = (after ≡ before) × KeepsBytes old new
WritesLemma p l before after old new (Err Write) = AppendsPrefix false old new (lemma_line (resting_on l (kept_for (mirror p) l.claim before)))
