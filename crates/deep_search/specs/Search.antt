-- What a search with lemmas does, at any moment at which it may end.
use Rattle.std.specs.Prelude.{◌≡◌, ℕ, ◌+◌, ◌<◌, ◌≤◌, map, slice_index, Bool, true, false, if◌then◌else◌, List, ◌++◌, Option, None, Result, Ok, Err, IfOk, length, take, [], ◌∷◌, ⊤}
use Rattle.std.specs.List.{AllByRecursion}
use Rattle.std.specs.Io.KnownBytes.{Appends}
use Rattle.device_rules.specs.Devices.{Rose}
use Rattle.game_rules.specs.Position.{Position, end_of, empty_count}
use Rattle.game_rules.specs.Questions.{side_asked}
use Rattle.game_rules.specs.declared.Question.{Question}
use Rattle.proof_text.specs.Lemma.{claim_for, Cite, Lemma}
use Rattle.proof_text.specs.Right.{Shown, Shows, AreRight}
use Rattle.proof_text.specs.Spelling.{lemma_line, lines_of}
use Rattle.proof_text.specs.Written.{AreSided}
use Rattle.proof_text.specs.declared.Version.{Version}
use Rattle.proof_text.specs.declared.Version.TheVariants.{One, Two}
use Rattle.position_table.specs.Table.{Entries}
use Rattle.deep_search.specs.Planned.{solved_within, ArePlanned}
use Rattle.deep_search.specs.Tables.{held, HasSame, FitsTable, StaysWhole}
use Rattle.deep_search.specs.declared.solving.Answer.{Answer}
use Rattle.deep_search.specs.declared.solving.SearchStop.{SearchStop}
use Rattle.deep_search.specs.declared.solving.SearchStop.TheVariants.{Spent, WriteFault}

-- the version of the lemmas of a search that looks for mirror images, or doesn't
abbrev pub version_for : Bool → Version
version_for mirror = if mirror then Two else One

-- whether all that the search began to write stands whole
abbrev pub is_whole : Result Answer SearchStop → Bool
is_whole (Ok answer) = true
is_whole (Err Spent) = true
is_whole (Err WriteFault) = false

-- how many lemmas were begun and not counted
abbrev pub uncounted : Result Answer SearchStop → ℕ
uncounted (Ok answer) = 0
uncounted (Err Spent) = 0
uncounted (Err WriteFault) = 1

-- the budget that is left, how many lemmas were put, and how often the sink failed
pub record Stand : Type 0 where
  pub budget : ℕ
  pub lemmas : ℕ
  pub faults : ℕ

abbrev pub stand : ℕ → ℕ → ℕ → Stand
stand budget lemmas faults = record { budget = budget; lemmas = lemmas; faults = faults }

-- Each lemma that was begun has taken 1 from the budget, neither lemmas nor faults are fewer than before, and where the
-- sink is said to have failed there are more faults.
pub record Searched (before after : Stand) (result : Result Answer SearchStop) : Type 0 where
  pub few : after.lemmas + uncounted result + after.budget ≤ before.lemmas + before.budget
  pub more : before.lemmas ≤ after.lemmas
  pub later : before.faults ≤ after.faults
  pub fault : result ≡ Err WriteFault → Rose before.faults after.faults

-- the columns, each with the lemma whose number stands at its place
abbrev pub cites_from : List ℕ → List ℕ → List Cite
cites_from numbers columns = map (λ c. record { column = c; lemma = slice_index numbers c }) columns

-- what stands at a moment: the table, and the bytes that were written
pub record Moment : Type 0 where
  pub table : Entries
  pub bytes : Option (List ℕ)

abbrev pub moment : Entries → Option (List ℕ) → Moment
moment table bytes = record { table = table; bytes = bytes }

-- The lines of the lemmas before the last were put behind the bytes, and of the last one's line a prefix.
pub record LastIsCut (lemmas : List Lemma) (old new : Option (List ℕ)) : Type 0 where
  pub whole : List Lemma
  pub last : Lemma
  pub are : lemmas ≡ whole ++ last ∷ []
  pub n : ℕ
  pub bytes : Appends old new (lines_of whole ++ take n (lemma_line last))

-- The lines of the lemmas were put behind the bytes; where they don't stand whole, only the last one was cut.
abbrev pub AppendsLemmas : Bool → List Lemma → Option (List ℕ) → Option (List ℕ) → Type 0
AppendsLemmas true lemmas old new = Appends old new (lines_of lemmas)
AppendsLemmas false lemmas old new = LastIsCut lemmas old new

-- no two stand at one position
abbrev pub AreApart : List Shown → Type 0
AreApart [] = ⊤
AreApart (s ∷ more) = AllByRecursion (λ t. s.0 ≡ t.0 → ⊥) more × AreApart more

-- While the table is whole, what was shown is new to it, no two of it stand at one position, and where all of it stands
-- whole the table has it.
pub record IsNew (done : Bool) (question : Question) (shown : List Shown) (before after : Entries) : Type 0 where
  pub fresh : after.whole ≡ true → AllByRecursion (λ s. held before s.0 question ≡ None) shown
  pub once : after.whole ≡ true → AreApart shown
  pub kept : done ≡ true → after.whole ≡ true → AllByRecursion (λ s. held after s.0 question ≡ None → ⊥) shown

-- Behind what is known, right lemmas of the question's side were written, of which only the last is cut where they don't
-- stand whole: what they show, and how many lemmas there are with them. The entries of the table name lemmas among them.
pub record Wrote (whole : Bool) (root : Position) (question : Question) (reach : ℕ) (version : Version) (known : List Shown) (old new : Moment) (total : ℕ) : Type 0 where
  pub more : List Lemma
  pub shown : List Shown
  pub text : AppendsLemmas whole more old.bytes new.bytes
  pub right : AreRight root known more (known ++ shown)
  pub counted : length (known ++ shown) ≡ total
  pub sided : AreSided version (side_asked question) more
  pub planned : ArePlanned reach root more
  pub fits : FitsTable new.table (known ++ shown)
  pub stays : StaysWhole old.table new.table
  pub new_ones : IsNew whole question shown old.table new.table

-- each is shown of a position with fewer empty squares than this
abbrev pub AreBelow : ℕ → List Shown → Type 0
AreBelow limit shown = AllByRecursion (λ s. empty_count s.0 < limit) shown

-- What a search of p shows has fewer empty squares than this. Where it is spent, that leaves p itself out.
abbrev pub limit_of : Position → Result Answer SearchStop → ℕ
limit_of p (Ok answer) = empty_count p + 1
limit_of p (Err Spent) = empty_count p
limit_of p (Err WriteFault) = empty_count p + 1

-- The lemmas that a search wrote, of positions with at most as many empty squares as p; and its answer names one that
-- shows at p whether the side wins. Where it is spent they have fewer, so none is of p.
pub record Solves (root p : Position) (question : Question) (reach : ℕ) (version : Version) (known : List Shown) (old new : Moment) (count : ℕ) (result : Result Answer SearchStop) : Type 0 where
  pub wrote : Wrote (is_whole result) root question reach version known old new (count + uncounted result)
  pub below : AreBelow (limit_of p result) wrote.shown
  pub named : IfOk result (λ answer. Shows (known ++ wrote.shown) answer.lemma p (claim_for (side_asked question) answer.yes))

-- The question isn't answered at p without a move: the game goes on, no plan is chosen, and the table has nothing, which
-- still has what it had.
pub record StaysOpen (p : Position) (question : Question) (reach : ℕ) (before after : Entries) : Type 0 where
  pub going : end_of p ≡ None
  pub unsolved : solved_within reach (side_asked question) p ≡ false
  pub absent : held after p question ≡ None
  pub same : HasSame before after
