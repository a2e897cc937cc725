use Rattle.std.proofs.Common.{refl, sym, ap, ◌∙◌, subst, arith}
use Rattle.proof_text.specs.Lemma.{claim_for}
use Rattle.proof_lines.specs.Shape.{reason_viewed}
use Rattle.deep_search.specs.Search.{version_for}
use Rattle.deep_search.specs.Tables.{IsTrueTable, KeepsEntry}
use Rattle.deep_search.proofs.Tables.{true_kept, below_kept}
use Rattle.deep_search.proofs.Proving.{right_lemma}
use Rattle.deep_search.proofs.solving.put_lemma.Goals as goal

pub returns-in-Ok-clause-entries : goal.returns-in-Ok-clause-entries
returns-in-Ok-clause-entries g c =
    subst (IsTrueTable c.keep.new.table) (sym c.in-Ok.ensures.counted)
    (true_kept c.args.position.now c.args.aim.now.question _ c.args.table.now c.keep.new.table (g.L.LemmaWriter.count c.args.lemmas.now) c.keep.ensures c.requires.entries
    c.requires.true_now c.in-Ok.ensures.number)

pub returns-in-Ok-clause-below : goal.returns-in-Ok-clause-below
returns-in-Ok-clause-below g c = below_kept c.args.position.now c.args.aim.now.question _ c.args.table.now c.keep.new.table c.keep.ensures

pub returns-in-Ok-clause-wrote : goal.returns-in-Ok-clause-wrote
returns-in-Ok-clause-wrote g c root known along many fits right =
    right_lemma root c.args.position.now c.args.aim.now.question c.args.aim.now.reach
    (version_for c.args.aim.now.mirror) c.args.yes c.of.result known c.args.path.now
    (reason_viewed c.args.reason.now) _
    _ (g.L.LemmaWriter.count c.args.lemmas.now) (g.L.LemmaWriter.count c.put.new.self) _ (c.of.ensures ∙ ap (λ side. claim_for side c.args.yes) c.side.ensures) along many fits c.requires.absent right
    c.requires.planned
    c.requires.short c.requires.had c.in-Ok.ensures.written (omega (arith, c.in-Ok.ensures.counted)) (c.in-Ok.ensures.number, refl)
    (subst (λ n. KeepsEntry c.args.position.now c.args.aim.now.question (record { lemma = n; answer = c.args.yes }) c.args.table.now c.keep.new.table)
    c.in-Ok.ensures.number c.keep.ensures)

pub returns-in-Err-clause-wrote : goal.returns-in-Err-clause-wrote
returns-in-Err-clause-wrote g c root known along many fits right =
    right_lemma root c.args.position.now c.args.aim.now.question c.args.aim.now.reach
    (version_for c.args.aim.now.mirror) c.args.yes c.of.result known c.args.path.now
    (reason_viewed c.args.reason.now) _
    _ (g.L.LemmaWriter.count c.args.lemmas.now) (g.L.LemmaWriter.count c.put.new.self) _ (c.of.ensures ∙ ap (λ side. claim_for side c.args.yes) c.side.ensures) along many fits c.requires.absent right
    c.requires.planned
    c.requires.short c.requires.had c.in-Err.ensures.written (omega (arith, c.in-Err.ensures.kept)) tt (refl, refl)
