-- Lists of lemmas and remarks that stand before a search, and after it.
use Rattle.std.specs.Prelude.{◌≡◌, ℕ, ◌+◌, true, map, List, [], ◌++◌, Option, Result, IfOk, IfSome, length}
use Rattle.game_rules.specs.Position.{Position}
use Rattle.game_rules.specs.Questions.{side_asked}
use Rattle.game_rules.specs.declared.Question.{Question}
use Rattle.proof_text.specs.Lemma.{claim_for, Lemma}
use Rattle.proof_text.specs.Right.{Shown, Shows, AreRight}
use Rattle.proof_text.specs.Texts.{Entry, LemmaEntry, entry_lines, lemmas_among}
use Rattle.proof_text.specs.Written.{AreSided}
use Rattle.proof_text.specs.declared.Version.{Version}
use Rattle.deep_search.specs.Planned.{ArePlanned}
use Rattle.deep_search.specs.Tables.{FitsTable}
use Rattle.deep_search.specs.Search.{is_whole, uncounted, Moment, AppendsLemmas, AreApart}
use Rattle.deep_search.specs.declared.solving.Answer.{Answer}
use Rattle.deep_search.specs.declared.solving.SearchStop.{SearchStop}

-- the bytes end in a text of the list
abbrev pub EndsIn : List Entry → Option (List ℕ) → Type 0
EndsIn list now = IfSome now (λ bytes. (before : List ℕ) × (bytes ≡ before ++ entry_lines list))

-- A list of lemmas and remarks fits a moment: its lemmas are right from the root on, so numbered from 1, and so many, and
-- show what is shown; and each entry of the table names one of them, which stands at the entry's position and claims its
-- answer.
pub record FitsMoment (root : Position) (count : ℕ) (list : List Entry) (shown : List Shown) (now : Moment) : Type 0 where
  pub right : AreRight root [] (lemmas_among list) shown
  pub counted : length shown ≡ count
  pub table : FitsTable now.table shown

-- Behind a list that fits the entry a search wrote further lemmas, of which only the last is cut where they don't stand
-- whole; the list with these fits the exit, and where they stand whole the bytes end in a text of it. They are of the
-- question's side, and rest on plans where one is chosen. While the table is whole no two of them stand at one position.
-- The answer names a lemma that shows it at p.
pub record Continues (root p : Position) (question : Question) (reach : ℕ) (version : Version) (list : List Entry) (shown : List Shown) (old new : Moment) (count : ℕ) (result : Result Answer SearchStop) : Type 0 where
  pub more : List Lemma
  pub now_shown : List Shown
  pub text : AppendsLemmas (is_whole result) more old.bytes new.bytes
  pub right : AreRight root shown more (shown ++ now_shown)
  pub ends : is_whole result ≡ true → IfSome old.bytes (λ was. EndsIn (list ++ map LemmaEntry more) new.bytes)
  pub fits : FitsMoment root (count + uncounted result) (list ++ map LemmaEntry more) (shown ++ now_shown) new
  pub sided : AreSided version (side_asked question) more
  pub planned : ArePlanned reach root more
  pub once : new.table.whole ≡ true → AreApart now_shown
  pub named : IfOk result (λ answer. Shows (shown ++ now_shown) answer.lemma p (claim_for (side_asked question) answer.yes))
