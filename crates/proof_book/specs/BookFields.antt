-- The fields of a book: its entries, and the lists that their parts stand in.
use Rattle.std.specs.Prelude.{◌≤◌, ◌*◌, List, length}
use Rattle.std.specs.List.{All}
use Rattle.plan_rules.specs.declared.TheConstants.{MOST_MEMBERS}
use Rattle.proof_text.specs.Lemma.{Lemma as PlainLemma}
use Rattle.proof_text.specs.Spelling.{greatest_number, longest_path, most_cites}
use Rattle.proof_book.specs.Entries.{IsEntry, lemmas_from}
use Rattle.proof_book.specs.declared.book.Book.TheInside.{Inside}

abbrev pub all_kept : Inside → List PlainLemma
all_kept a = lemmas_from a.columns.items a.cites.items a.members.items 1 a.entries.items

-- each entry's parts stand in the lists, which are no longer than so many lemmas can make them
pub record IsBook (a : Inside) : Type 0 where
  pub few : length a.entries.items ≤ greatest_number
  pub entries : All (IsEntry (length a.columns.items) (length a.cites.items) (length a.members.items)) a.entries.items
  pub few_columns : length a.columns.items ≤ longest_path * length a.entries.items
  pub few_cites : length a.cites.items ≤ most_cites * length a.entries.items
  pub few_members : length a.members.items ≤ MOST_MEMBERS * length a.entries.items
