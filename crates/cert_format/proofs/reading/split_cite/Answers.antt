use Rattle.std.proofs.Common.{sym, subst, MatchOption, rules}
use Rattle.proof_lines.specs.Shape.{cite_of}
use Rattle.cert_format.specs.Words.{HasCite, HasNoCite}
use Rattle.cert_format.proofs.Words.{no_colon, no_cited_number}
use Rattle.cert_format.proofs.reading.split_cite.Goals as goal
use Rattle.cert_format.proofs.reading.split_cite.Goals.{in_default-via-then-bytes-lt2, in_default-via-else-bytes-lt2+in_default-1}

pub returns-in_default-clause-cite : goal.returns-in_default-clause-cite
returns-in_default-clause-cite c = no_colon c.args.size.cols c.args.bytes.now (λ long mark. elim c.in_default.branch [
  | in_default-via-then-bytes-lt2 w ↦ search rules
  | in_default-via-else-bytes-lt2+in_default-1 w ↦ search rules
])

pub returns-in_err-lemma-clause-cite : goal.returns-in_err-lemma-clause-cite
returns-in_err-lemma-clause-cite c =
    subst (λ result. MatchOption result (HasNoCite c.args.size.cols c.args.bytes.now) (λ read. HasCite c.args.size.cols c.args.bytes.now (cite_of read.0) read.1))
    (sym c.from_residual-in_err-lemma.ensures) (no_cited_number c.args.size.cols c.args.bytes.now c.in-58.len_at_least (search rules) c.in_err-lemma.ensures.number)
