use Rattle.std.proofs.Common.{◌≡◌, ℕ, ◌+◌, List, [], ◌∷◌, ◌++◌, length, refl, ap, ◌∙◌, arith, length-append}
use Rattle.proof_text.specs.Lemma.{Lemma}
use Rattle.proof_lines.specs.Shape.{reason_viewed}
use Rattle.proof_book.specs.declared.book.Entry.{Entry}
use Rattle.proof_book.proofs.Kept.{counted, entries_more, lemma_put}
use Rattle.proof_book.proofs.book.Book.keep_parts.Goals as goal

pub invariant_of-self-2 : goal.invariant_of-self-2
invariant_of-self-2 c =
    let a = c.self.inside in
    let path = c.args.path.now in
    let entry : Entry = record { path_at = c.put_path-path_at.result; path_len = length path; claim = c.args.claim; reason = c.in_ok-kept.kept } in
    let keeps = c.in_ok-kept.ensures.put in
    let more = c.put_path-path_at.ensures.more in
    let pushed : c.push_reserved.new.self.items ≡ a.entries.items ++ entry ∷ [] =
    c.push_reserved.ensures.items ∙ ap (λ (all : List Entry). all ++ entry ∷ []) c.in_ok-try_reserve.ensures.items in
    let one : length c.push_reserved.new.self.items ≡ length a.entries.items + 1 = ap length pushed ∙ length-append a.entries.items (entry ∷ []) in
    let longer : c.put_path-path_at.new.columns.items ≡ a.columns.items ++ more.0 =
    more.1 ∙ ap (λ (all : List ℕ). all ++ more.0) c.in_ok-try_reserve-2.ensures.items in
    let count = counted a c.args.self.now c.self.view_is in
    record {
      few = omega (arith, one, count, c.requires.few);
      entries = entries_more a.columns.items c.put_path-path_at.new.columns.items path a.cites.items c.put_reason.new.cites.items a.members.items
          c.put_reason.new.members.items a.entries.items c.push_reserved.new.self.items entry (reason_viewed c.args.reason.now) pushed
          (more.0, longer, more.2) keeps c.put_path-path_at.ensures.within refl c.requires.short c.self.invariant.entries;
      few_columns = omega (arith, one, ap length longer ∙ length-append a.columns.items more.0, more.2, c.requires.short, c.self.invariant.few_columns);
      few_cites = omega (arith, one, ap length keeps.are_cites ∙ length-append a.cites.items keeps.new_cites, keeps.few_cites, c.self.invariant.few_cites);
      few_members =
          omega (arith, one, ap length keeps.are_members ∙ length-append a.members.items keeps.new_members, keeps.few_members, c.self.invariant.few_members);
    }

pub returns-clause-kept : goal.returns-clause-kept
returns-clause-kept c =
    let a = c.self.inside in
    let path = c.args.path.now in
    let reason = reason_viewed c.args.reason.now in
    let entry : Entry = record { path_at = c.put_path-path_at.result; path_len = length path; claim = c.args.claim; reason = c.in_ok-kept.kept } in
    let more = c.put_path-path_at.ensures.more in
    let pushed : c.push_reserved.new.self.items ≡ a.entries.items ++ entry ∷ [] =
    c.push_reserved.ensures.items ∙ ap (λ (all : List Entry). all ++ entry ∷ []) c.in_ok-try_reserve.ensures.items in
    let longer : c.put_path-path_at.new.columns.items ≡ a.columns.items ++ more.0 =
    more.1 ∙ ap (λ (all : List ℕ). all ++ more.0) c.in_ok-try_reserve-2.ensures.items in
    let count = counted a c.args.self.now c.self.view_is in
    let behind : ℕ → List Lemma → List Lemma =
    λ number before. before ++ record { number = number; path = path; claim = c.args.claim; reason = reason } ∷ [] in
    let number : 1 + length a.entries.items ≡ length c.args.self.now + 1 = omega (arith, count) in
    lemma_put a.columns.items c.put_path-path_at.new.columns.items path a.cites.items c.put_reason.new.cites.items a.members.items
    c.put_reason.new.members.items a.entries.items c.push_reserved.new.self.items entry reason pushed
    (more.0, longer, more.2) c.in_ok-kept.ensures.put c.put_path-path_at.ensures.put refl c.self.invariant.entries
    ∙ ap (behind (1 + length a.entries.items)) c.self.view_is
    ∙ ap (λ n. behind n c.args.self.now) number
