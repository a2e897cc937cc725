-- What an entry of a book keeps: its parts of the book's lists.
use Rattle.std.specs.Prelude.{◌≡◌, ℕ, ◌+◌, ◌≤◌, List, [], ◌∷◌, ◌++◌, map, length, take, drop, ⊤}
use Rattle.std.specs.Borrow.{Bor}
use Rattle.plan_rules.specs.declared.TheConstants.{MOST_MEMBERS}
use Rattle.proof_text.specs.Lemma.{Reason as PlainReason, Lemma as PlainLemma}
use Rattle.proof_text.specs.Spelling.{longest_path, most_cites}
use Rattle.proof_lines.specs.Written.{written_list}
use Rattle.proof_lines.specs.Instance.{Instance}
use Rattle.proof_lines.specs.Shape.{cite_of, reason_by}
use Rattle.proof_lines.specs.declared.lines.Cite.{Cite}
use Rattle.proof_lines.specs.declared.lines.Reason.{Reason}
use Rattle.proof_lines.specs.declared.lines.Reason.TheVariants as reasons
use Rattle.proof_book.specs.declared.book.Span.{Span}
use Rattle.proof_book.specs.declared.book.Entry.{Entry}

-- so many elements of a list, from a place on
abbrev pub part : {X : Type 0} → List X → ℕ → ℕ → List X
part items at count = take count (drop at items)

abbrev pub IsWithin : ℕ → ℕ → Span → Type 0
IsWithin size most span = (span.at + span.count ≤ size) × (span.count ≤ most)

-- the cites and the instances of a reason lie within the lists of all, and are no more than a line can have
abbrev pub IsReasonWithin : ℕ → ℕ → Reason Span Span → Type 0
IsReasonWithin cites members reasons.Ended = ⊤
IsReasonWithin cites members (reasons.One cite) = ⊤
IsReasonWithin cites members (reasons.All span) = IsWithin cites most_cites span
IsReasonWithin cites members (reasons.Plan span) = IsWithin members MOST_MEMBERS span
IsReasonWithin cites members (reasons.Mirror lemma) = ⊤

-- the reason, its cites and instances being parts of these lists
abbrev pub reason_kept : List Cite → List Instance → Reason Span Span → PlainReason
reason_kept cites members reason =
    reason_by (λ (span : Span). map cite_of (part cites span.at span.count)) (λ (span : Span). written_list (part members span.at span.count)) reason

-- the same of a reason whose cites and instances are lent
abbrev pub reason_held : Reason (Bor (List Cite)) (Bor (List Instance)) → PlainReason
reason_held reason = reason_by (λ cites. map cite_of cites.now) (λ members. written_list members.now) reason

-- it cites no more lemmas, and its plan has no more instances, than a line can have
abbrev pub HeldFits : Reason (Bor (List Cite)) (Bor (List Instance)) → Type 0
HeldFits reasons.Ended = ⊤
HeldFits (reasons.One cite) = ⊤
HeldFits (reasons.All cites) = length cites.now ≤ most_cites
HeldFits (reasons.Plan members) = length members.now ≤ MOST_MEMBERS
HeldFits (reasons.Mirror lemma) = ⊤

-- What the lists have behind what they had before are the cites or the instances of this reason.
pub record KeepsReason (cites : List Cite) (members : List Instance) (more_cites : List Cite) (more_members : List Instance) (reason : PlainReason)
    (kept : Reason Span Span) : Type 0 where
  pub new_cites : List Cite
  pub new_members : List Instance
  pub are_cites : more_cites ≡ cites ++ new_cites
  pub are_members : more_members ≡ members ++ new_members
  pub few_cites : length new_cites ≤ most_cites
  pub few_members : length new_members ≤ MOST_MEMBERS
  pub within : IsReasonWithin (length more_cites) (length more_members) kept
  pub is : reason_kept more_cites more_members kept ≡ reason

-- an entry's path too lies within the list of all columns, and is no longer than a line can have
pub record IsEntry (columns cites members : ℕ) (entry : Entry) : Type 0 where
  pub path : entry.path_at + entry.path_len ≤ columns
  pub short : entry.path_len ≤ longest_path
  pub reason : IsReasonWithin cites members entry.reason

-- the lemma that an entry keeps, which has this number
abbrev pub lemma_in_entry : List ℕ → List Cite → List Instance → ℕ → Entry → PlainLemma
lemma_in_entry columns cites members n entry =
    record { number = n; path = part columns entry.path_at entry.path_len; claim = entry.claim; reason = reason_kept cites members entry.reason }

-- the lemmas that entries keep, the first of which has this number
abbrev pub lemmas_from : List ℕ → List Cite → List Instance → ℕ → List Entry → List PlainLemma
lemmas_from columns cites members n [] = []
lemmas_from columns cites members n (entry ∷ entries) = lemma_in_entry columns cites members n entry ∷ lemmas_from columns cites members (n + 1) entries
