-- The lines of the code as the plain data of the definitions.
use Rattle.std.specs.Prelude.{ℕ, List, map}
use Rattle.std.specs.Borrow.{Bor}
use Rattle.arrayvec.specs.ArrayVec.{ArrayVec}
use Rattle.plan_rules.specs.Rules.{RuleInstance}
use Rattle.proof_text.specs.Lemma.{Cite as PlainCite, Reason as PlainReason, ByEnd, ByOne, ByAll, ByPlan, ByMirror, Lemma as PlainLemma, Line as PlainLine, ALemma, ARemark, AVerdict}
use Rattle.rule_compat.specs.Written.{written_list}
use Rattle.rule_compat.specs.declared.instance.Instance.{Instance}
use Rattle.proof_lines.specs.declared.lines.Cite.{Cite}
use Rattle.proof_lines.specs.declared.lines.Reason.{Reason}
use Rattle.proof_lines.specs.declared.lines.Reason.TheVariants as reasons
use Rattle.proof_lines.specs.declared.lines.LemmaView.{LemmaView}
use Rattle.proof_lines.specs.declared.lines.Lemma.{Lemma}
use Rattle.proof_lines.specs.declared.lines.Line.{Line}
use Rattle.proof_lines.specs.declared.lines.Line.TheVariants as lines
use Rattle.proof_lines.specs.declared.lines.LineView.{LineView}
use Rattle.proof_lines.specs.declared.lines.LineView.TheVariants as views

abbrev pub cite_of : Cite → PlainCite
cite_of cite = record { column = cite.column; lemma = cite.lemma }

-- a reason, by what its cites and its instances are as plain data
abbrev pub reason_by : {C P : Type 0} → (C → List PlainCite) → (P → List RuleInstance) → Reason C P → PlainReason
reason_by cites_in members_in reasons.Ended = ByEnd
reason_by cites_in members_in (reasons.One cite) = ByOne (cite_of cite)
reason_by cites_in members_in (reasons.All cites) = ByAll (cites_in cites)
reason_by cites_in members_in (reasons.Plan members) = ByPlan (members_in members)
reason_by cites_in members_in (reasons.Mirror lemma) = ByMirror lemma

abbrev pub reason_of : Reason (ArrayVec Cite) (ArrayVec Instance) → PlainReason
reason_of reason = reason_by (λ cites. map cite_of cites.items) (λ members. written_list members.items) reason

-- the same of a reason that is lent
abbrev pub reason_viewed : Reason (Bor (ArrayVec Cite)) (Bor (ArrayVec Instance)) → PlainReason
reason_viewed reason = reason_by (λ cites. map cite_of cites.now.items) (λ members. written_list members.now.items) reason

abbrev pub lemma_of : Lemma → PlainLemma
lemma_of l = record { number = l.number; path = l.path.items; claim = l.claim; reason = reason_of l.reason }

abbrev pub lemma_viewed : LemmaView → PlainLemma
lemma_viewed l = record { number = l.number; path = l.path.now.items; claim = l.claim; reason = reason_viewed l.reason }

abbrev pub line_of : Line → PlainLine
line_of (lines.Lemma l) = ALemma (lemma_of l)
line_of lines.Remark = ARemark
line_of (lines.Verdict v) = AVerdict v

-- the same of a line whose lemma is lent
abbrev pub viewed : LineView → PlainLine
viewed (views.Lemma l) = ALemma (lemma_viewed l)
viewed views.Remark = ARemark
viewed (views.Verdict v) = AVerdict v
