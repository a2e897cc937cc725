use Rattle.std.proofs.Common.{◌≡◌, List, length, Some, sym, ap, ◌∙◌, subst, arith}
use Rattle.std.specs.Option.{option_map}
use Rattle.proof_text.specs.Lemma.{Lemma}
use Rattle.proof_lines.specs.Instance.{Instance}
use Rattle.proof_lines.specs.declared.lines.Cite.{Cite}
use Rattle.proof_book.specs.Entries.{IsReasonWithin, reason_kept}
use Rattle.proof_book.proofs.Kept.{has_entry, entry_found, entry_fits}
use Rattle.proof_book.proofs.book.Book.reason.Goals as goal

pub index-requires : goal.index-requires
index-requires c = omega (arith, has_entry c.self.inside c.args.self.now c.self.view_is c.args.n c.requires.from c.requires.to)

pub lend_reason-requires : goal.lend_reason-requires
lend_reason-requires c =
    let a = c.self.inside in
    let reason = c.index.result.now.reason in
    let fits = entry_fits a c.args.self.now c.self.view_is c.args.n c.requires.from c.requires.to c.index.result.now c.index.ensures c.self.invariant in
    let cites : length a.cites.items ≡ length c.deref.result.now = sym (ap length c.deref.ensures.value) in
    let members : length a.members.items ≡ length c.deref-2.result.now = sym (ap length c.deref-2.ensures.value) in
    subst (λ m. IsReasonWithin (length c.deref.result.now) m reason) members
    (subst (λ k. IsReasonWithin k (length a.members.items) reason) cites fits.reason)

pub returns-clause-value : goal.returns-clause-value
returns-clause-value c =
    let a = c.self.inside in
    let entry = c.index.result.now in
    ap (option_map (λ (l : Lemma). l.reason)) (entry_found a c.args.self.now c.self.view_is c.args.n c.requires.from c.requires.to entry c.index.ensures)
    ∙ ap (λ (cites : List Cite). Some (reason_kept cites a.members.items entry.reason)) (sym c.deref.ensures.value)
    ∙ ap (λ (members : List Instance). Some (reason_kept c.deref.result.now members entry.reason)) (sym c.deref-2.ensures.value)
    ∙ ap Some (sym c.lend_reason.ensures.value)
