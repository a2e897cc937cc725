-- A book's lemmas stay as more are kept.
use Rattle.std.proofs.Common.{◌≡◌, ℕ, zero, suc, ◌+◌, ◌-◌, ◌<◌, ◌≤◌, List, [], ◌∷◌, ◌++◌, take, drop, map, length, get_or, Some, refl, sym, ap, ◌∙◌, subst}
use Rattle.std.proofs.Common.{arith, append-nil}
use Rattle.std.specs.List.{All, AllByRecursion, slice_get}
use Rattle.std.proofs.lemmas.List.{length-append, length-drop, length-take-le, take-append-le, take_all, drop_at, drop-append-le}
use Rattle.std.proofs.lemmas.List.Elements.{All-push, All-weaker, All-get_or, recursion_from_All}
use Rattle.std.proofs.lemmas.Option.{slice_get-get_or, same_Some}
use Rattle.plan_rules.specs.declared.TheConstants.{MOST_MEMBERS}
use Rattle.proof_text.specs.Lemma.{Reason as PlainReason, Lemma, ByAll, ByPlan}
use Rattle.proof_text.specs.Spelling.{longest_path}
use Rattle.proof_lines.specs.Written.{written_list}
use Rattle.proof_lines.specs.Instance.{Instance}
use Rattle.proof_lines.specs.Shape.{cite_of}
use Rattle.proof_book.specs.BookFields.{all_kept, IsBook}
use Rattle.proof_book.specs.Entries.{part, IsReasonWithin, reason_kept, KeepsReason, IsEntry, lemma_in_entry, lemmas_from}
use Rattle.proof_lines.specs.declared.lines.Cite.{Cite}
use Rattle.proof_lines.specs.declared.lines.Reason.{Reason}
use Rattle.proof_lines.specs.declared.lines.Reason.TheVariants as reasons
use Rattle.proof_book.specs.declared.book.Book.TheInside.{Inside}
use Rattle.proof_book.specs.declared.book.Span.{Span}
use Rattle.proof_book.specs.declared.book.Entry.{Entry}

-- ---- parts

-- a part stays where more elements follow
pub part_more : {X : Type 0} (xs more : List X) (at count : ℕ) → at + count ≤ length xs → part (xs ++ more) at count ≡ part xs at count
part_more xs more at count within =
    ap (take count) (drop-append-le at xs more (omega arith)) ∙ take-append-le count (drop at xs) more (omega (arith, length-drop at xs))

-- a part within a list has as many elements as it is to have
pub part_length : {X : Type 0} (xs : List X) (at count : ℕ) → at + count ≤ length xs → length (part xs at count) ≡ count
part_length xs at count within = length-take-le count (drop at xs) (omega (arith, within, length-drop at xs))

-- what was appended is a part
pub part_new : {X : Type 0} (xs new : List X) → part (xs ++ new) (length xs) (length new) ≡ new
part_new xs new = ap (take (length new)) (drop_at xs new (length xs) refl) ∙ take_all (length new) new (omega arith)

-- ---- entries

pub within_more : (cites members more_cites more_members : ℕ) (reason : Reason Span Span) → cites ≤ more_cites → members ≤ more_members
    → IsReasonWithin cites members reason → IsReasonWithin more_cites more_members reason
within_more cites members more_cites more_members reasons.Ended c m within = tt
within_more cites members more_cites more_members (reasons.One cite) c m within = tt
within_more cites members more_cites more_members (reasons.All span) c m within = (omega (arith, within.0), within.1)
within_more cites members more_cites more_members (reasons.Plan span) c m within = (omega (arith, within.0), within.1)
within_more cites members more_cites more_members (reasons.Mirror lemma) c m within = tt

pub entry_more : (columns cites members more_columns more_cites more_members : ℕ) (entry : Entry) → columns ≤ more_columns → cites ≤ more_cites
    → members ≤ more_members → IsEntry columns cites members entry → IsEntry more_columns more_cites more_members entry
entry_more columns cites members more_columns more_cites more_members entry p c m is =
    record { path = omega (arith, is.path); short = is.short; reason = within_more cites members more_cites more_members entry.reason c m is.reason }

reason_more : (cites more_cites : List Cite) (members more_members : List Instance) (reason : Reason Span Span)
    → IsReasonWithin (length cites) (length members) reason
    → reason_kept (cites ++ more_cites) (members ++ more_members) reason ≡ reason_kept cites members reason
reason_more cites more_cites members more_members reasons.Ended within = refl
reason_more cites more_cites members more_members (reasons.One cite) within = refl
reason_more cites more_cites members more_members (reasons.All span) within =
    ap (λ (found : List Cite). ByAll (map cite_of found)) (part_more cites more_cites span.at span.count within.0)
reason_more cites more_cites members more_members (reasons.Plan span) within =
    ap (λ (found : List Instance). ByPlan (written_list found)) (part_more members more_members span.at span.count within.0)
reason_more cites more_cites members more_members (reasons.Mirror lemma) within = refl

lemma_more : (columns more_columns : List ℕ) (cites more_cites : List Cite) (members more_members : List Instance) (n : ℕ) (entry : Entry)
    → IsEntry (length columns) (length cites) (length members) entry
    → lemma_in_entry (columns ++ more_columns) (cites ++ more_cites) (members ++ more_members) n entry ≡ lemma_in_entry columns cites members n entry
lemma_more columns more_columns cites more_cites members more_members n entry is =
    ap (λ path. record {
      number = n;
      path = path;
      claim = entry.claim;
      reason = reason_kept (cites ++ more_cites) (members ++ more_members) entry.reason;
    }) (part_more columns more_columns entry.path_at entry.path_len is.path)
    ∙ ap (λ reason. record { number = n; path = part columns entry.path_at entry.path_len; claim = entry.claim; reason = reason })
    (reason_more cites more_cites members more_members entry.reason is.reason)

-- ---- all lemmas

-- what is kept stays where the lists get longer
lemmas_more : (columns more_columns : List ℕ) (cites more_cites : List Cite) (members more_members : List Instance) (n : ℕ) (entries : List Entry)
    → AllByRecursion (IsEntry (length columns) (length cites) (length members)) entries
    → lemmas_from (columns ++ more_columns) (cites ++ more_cites) (members ++ more_members) n entries ≡ lemmas_from columns cites members n entries
lemmas_more columns more_columns cites more_cites members more_members n [] are = refl
lemmas_more columns more_columns cites more_cites members more_members n (entry ∷ entries) (is, are) =
    ap (λ l. l ∷ lemmas_from (columns ++ more_columns) (cites ++ more_cites) (members ++ more_members) (n + 1) entries)
    (lemma_more columns more_columns cites more_cites members more_members n entry is)
    ∙ ap (λ ls. lemma_in_entry columns cites members n entry ∷ ls)
    (lemmas_more columns more_columns cites more_cites members more_members (n + 1) entries are)

lemmas_push : (columns : List ℕ) (cites : List Cite) (members : List Instance) (n : ℕ) (entries : List Entry) (entry : Entry)
    → lemmas_from columns cites members n (entries ++ entry ∷ [])
    ≡ lemmas_from columns cites members n entries ++ lemma_in_entry columns cites members (n + length entries) entry ∷ []
lemmas_push columns cites members n [] entry =
    ap (λ n. lemma_in_entry columns cites members n entry ∷ []) (let same : n ≡ n + 0 = omega arith in same)
lemmas_push columns cites members n (first ∷ entries) entry =
    ap (λ ls. lemma_in_entry columns cites members n first ∷ ls)
    (lemmas_push columns cites members (n + 1) entries entry
    ∙ ap (λ m. lemmas_from columns cites members (n + 1) entries ++ lemma_in_entry columns cites members m entry ∷ [])
    (let same : n + 1 + length entries ≡ n + suc (length entries) = omega arith in same))

pub lemma_count : (columns : List ℕ) (cites : List Cite) (members : List Instance) (n : ℕ) (entries : List Entry)
    → length (lemmas_from columns cites members n entries) ≡ length entries
lemma_count columns cites members n [] = refl
lemma_count columns cites members n (entry ∷ entries) = ap suc (lemma_count columns cites members (n + 1) entries)

-- the lemma at a place
pub lemma_there : (columns : List ℕ) (cites : List Cite) (members : List Instance) (n : ℕ) (entries : List Entry) (i : ℕ) (entry : Entry)
    → slice_get entries i ≡ Some entry → slice_get (lemmas_from columns cites members n entries) i ≡ Some (lemma_in_entry columns cites members (n + i) entry)
lemma_there columns cites members n [] i entry at = absurd (cc at)
lemma_there columns cites members n (first ∷ entries) zero entry at =
    ap (λ (e : Entry). Some (lemma_in_entry columns cites members n e)) (same_Some first entry at)
    ∙ ap (λ n. Some (lemma_in_entry columns cites members n entry)) (let same : n ≡ n + 0 = omega arith in same)
lemma_there columns cites members n (first ∷ entries) (suc i) entry at =
    lemma_there columns cites members (n + 1) entries i entry at
    ∙ ap (λ m. Some (lemma_in_entry columns cites members m entry)) (let same : n + 1 + i ≡ n + suc i = omega arith in same)

-- ---- a book's lemmas

-- What a book keeps of these lemmas, and the entry of the one with a number.
module _ (a : Inside) (lemmas : List Lemma) (kept : all_kept a ≡ lemmas) where
  -- a book has as many lemmas as entries
  pub counted : length lemmas ≡ length a.entries.items
  counted = ap length (sym kept) ∙ lemma_count a.columns.items a.cites.items a.members.items 1 a.entries.items

  module _ (n : ℕ) (from : 1 ≤ n) (to : n ≤ length lemmas) where
    pub has_entry : n - 1 < length a.entries.items
    has_entry = omega (arith, counted, from, to)

    module _ (entry : Entry) (there : entry ≡ get_or a.entries.items (n - 1) entry) where
      -- the entry is the lemma's
      pub entry_found : slice_get lemmas (n - 1) ≡ Some (lemma_in_entry a.columns.items a.cites.items a.members.items n entry)
      entry_found =
          ap (λ all. slice_get all (n - 1)) (sym kept)
          ∙ lemma_there a.columns.items a.cites.items a.members.items 1 a.entries.items (n - 1) entry
          (slice_get-get_or a.entries.items (n - 1) entry has_entry ∙ ap Some (sym there))
          ∙ ap (λ n. Some (lemma_in_entry a.columns.items a.cites.items a.members.items n entry)) (let same : 1 + (n - 1) ≡ n = omega (arith, from) in same)

      -- and its parts lie within the book's lists
      pub entry_fits : IsBook a → IsEntry (length a.columns.items) (length a.cites.items) (length a.members.items) entry
      entry_fits book =
          subst (IsEntry (length a.columns.items) (length a.cites.items) (length a.members.items)) (sym there)
          (All-get_or (IsEntry (length a.columns.items) (length a.cites.items) (length a.members.items)) a.entries.items (n - 1) entry has_entry book.entries)

-- ---- what a reason adds

-- a reason without cites or instances adds nothing
pub keeps_none : (cites : List Cite) (members : List Instance) (reason : PlainReason) (kept : Reason Span Span)
    → IsReasonWithin (length cites) (length members) kept → reason_kept cites members kept ≡ reason → KeepsReason cites members cites members reason kept
keeps_none cites members reason kept within is =
    record {
      new_cites = [];
      new_members = [];
      are_cites = sym (append-nil cites);
      are_members = sym (append-nil members);
      few_cites = omega arith;
      few_members = omega arith;
      within = within;
      is = is;
    }

-- the instances of a plan are appended to all
pub keeps_members : (cites : List Cite) (members more list : List Instance) (span : Span) (reason : PlainReason) → more ≡ members ++ list
    → length list ≤ MOST_MEMBERS → span.at ≡ length members → span.count ≡ length list → ByPlan (written_list list) ≡ reason
    → KeepsReason cites members cites more reason (reasons.Plan span)
keeps_members cites members more list span reason appended few at count same =
    let long : length more ≡ length members + length list = ap length appended ∙ length-append members list in
    let found : part more span.at span.count ≡ list =
    ap (λ all. part all span.at span.count) appended ∙ ap (λ n. part (members ++ list) n span.count) at
    ∙ ap (part (members ++ list) (length members)) count ∙ part_new members list in
    record {
      new_cites = [];
      new_members = list;
      are_cites = sym (append-nil cites);
      are_members = appended;
      few_cites = omega arith;
      few_members = few;
      within = (omega (arith, long), omega (arith, few));
      is = ap (λ (found : List Instance). ByPlan (written_list found)) found ∙ same;
    }

-- ---- one lemma more

-- the parts of a lemma that was put, in lists that were longer or as they were
module _ (columns more_columns path : List ℕ) (cites more_cites : List Cite) (members more_members : List Instance) (entries more_entries : List Entry)
    (entry : Entry) (reason : PlainReason) where
  -- every entry's parts lie in the lists
  pub entries_more : more_entries ≡ entries ++ entry ∷ [] → ((new : List ℕ) × (more_columns ≡ columns ++ new) × (length new ≤ length path))
      → KeepsReason cites members more_cites more_members reason entry.reason → entry.path_at + length path ≤ length more_columns
      → entry.path_len ≡ length path → length path ≤ longest_path → All (IsEntry (length columns) (length cites) (length members)) entries
      → All (IsEntry (length more_columns) (length more_cites) (length more_members)) more_entries
  entries_more pushed (new, longer, few) keeps within count short are =
      let p = ap length longer ∙ length-append columns new in
      let c = ap length keeps.are_cites ∙ length-append cites keeps.new_cites in
      let m = ap length keeps.are_members ∙ length-append members keeps.new_members in
      subst (All (IsEntry (length more_columns) (length more_cites) (length more_members))) (sym pushed)
      (All-push (IsEntry (length more_columns) (length more_cites) (length more_members)) entries entry
      (All-weaker (IsEntry (length columns) (length cites) (length members)) (IsEntry (length more_columns) (length more_cites) (length more_members))
      (λ e is. entry_more (length columns) (length cites) (length members) (length more_columns) (length more_cites) (length more_members) e
      (omega (arith, p)) (omega (arith, c)) (omega (arith, m)) is) entries are)
      (record { path = omega (arith, within, count); short = omega (arith, short, count); reason = keeps.within }))

  -- and the lemma stands behind those before
  pub lemma_put : more_entries ≡ entries ++ entry ∷ [] → ((new : List ℕ) × (more_columns ≡ columns ++ new) × (length new ≤ length path))
      → KeepsReason cites members more_cites more_members reason entry.reason → part more_columns entry.path_at (length path) ≡ path
      → entry.path_len ≡ length path → All (IsEntry (length columns) (length cites) (length members)) entries
      → lemmas_from more_columns more_cites more_members 1 more_entries
      ≡ lemmas_from columns cites members 1 entries
      ++ record { number = 1 + length entries; path = path; claim = entry.claim; reason = reason } ∷ []
  lemma_put pushed (new, longer, few) keeps put count are =
      let path_is : part more_columns entry.path_at entry.path_len ≡ path = ap (part more_columns entry.path_at) count ∙ put in
      ap (lemmas_from more_columns more_cites more_members 1) pushed
      ∙ lemmas_push more_columns more_cites more_members 1 entries entry
      ∙ ap (λ ls. ls ++ lemma_in_entry more_columns more_cites more_members (1 + length entries) entry ∷ [])
      (ap (λ all. lemmas_from all more_cites more_members 1 entries) longer
      ∙ ap (λ all. lemmas_from (columns ++ new) all more_members 1 entries) keeps.are_cites
      ∙ ap (λ all. lemmas_from (columns ++ new) (cites ++ keeps.new_cites) all 1 entries) keeps.are_members
      ∙ lemmas_more columns new cites keeps.new_cites members keeps.new_members 1 entries
      (recursion_from_All (IsEntry (length columns) (length cites) (length members)) entries are))
      ∙ ap (λ path. lemmas_from columns cites members 1 entries ++ record {
        number = 1 + length entries;
        path = path;
        claim = entry.claim;
        reason = reason_kept more_cites more_members entry.reason;
      } ∷ []) path_is
      ∙ ap (λ reason. lemmas_from columns cites members 1 entries ++ record {
        number = 1 + length entries;
        path = path;
        claim = entry.claim;
        reason = reason;
      } ∷ []) keeps.is
