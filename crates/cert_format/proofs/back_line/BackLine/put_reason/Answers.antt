use Rattle.std.proofs.Common.{[], ◌∷◌, ◌++◌, codes, sym, ap, ◌∙◌, append-nil}
use Rattle.proof_text.specs.Spelling.{reason_words}
use Rattle.plan_lines.specs.Written.{written_list}
use Rattle.plan_lines.specs.Items.{members_text}
use Rattle.proof_lines.specs.Shape.{reason_viewed}
use Rattle.cert_format.specs.Printed.{behind_spaces, behind_word, cite_words}
use Rattle.cert_format.proofs.Spaced.{cites_behind, members_behind}
use Rattle.cert_format.proofs.back_line.BackLine.put_reason.Goals as goal

pub returns-in-All-clause-line : goal.returns-in-All-clause-line
returns-in-All-clause-line c =
    ap (λ reason. c.put_all.new.self ++ behind_word (reason_viewed reason)) c.in-All.is
    ∙ append-nil c.put_all.new.self
    ∙ c.put_all.ensures.line
    ∙ ap (λ rest. codes " all" ++ (rest ++ 10 ∷ [])) (ap cite_words c.as_slice.ensures.value ∙ cites_behind c.in-All.cites.now.items)
    ∙ ap (λ reason. behind_spaces (reason_words (reason_viewed reason)) ++ 10 ∷ []) (sym c.in-All.is)

pub returns-in-Plan-clause-line : goal.returns-in-Plan-clause-line
returns-in-Plan-clause-line c =
    let ws = written_list c.in-Plan.field-0.now.items in
    ap (λ reason. c.put_text-in-Plan.new.self ++ behind_word (reason_viewed reason)) c.in-Plan.is
    ∙ ap (λ text. text ++ (members_text ws ++ 10 ∷ [])) (c.put_text-in-Plan.ensures.line ∙ ap (λ rest. codes " plan" ++ rest) c.requires)
    ∙ ap (λ rest. codes " plan" ++ (rest ++ 10 ∷ [])) (members_behind ws)
    ∙ ap (λ reason. behind_spaces (reason_words (reason_viewed reason)) ++ 10 ∷ []) (sym c.in-Plan.is)
