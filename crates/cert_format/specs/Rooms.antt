-- What is in the room that a line is read into.
use Rattle.std.specs.Prelude.{◌≡◌, [], map, Option, Some, None, Result, Ok, Err}
use Rattle.proof_text.specs.Lemma.{Reason as PlainReason, Lemma as PlainLemma, Line as PlainLine, ByEnd, ALemma, ARemark, AVerdict}
use Rattle.proof_text.specs.declared.Claim.TheVariants.{WhiteWins}
use Rattle.proof_lines.specs.Written.{written_list}
use Rattle.proof_lines.specs.Shape.{cite_of, reason_by, line_of, viewed}
use Rattle.proof_lines.specs.declared.lines.Line.{Line}
use Rattle.proof_lines.specs.declared.lines.LineView.{LineView}
use Rattle.plan_lines.specs.declared.plan_line.LineFault.{LineFault}
use Rattle.cert_format.specs.declared.room.Kind.{Kind}
use Rattle.cert_format.specs.declared.room.Kind.TheVariants as kinds
use Rattle.cert_format.specs.declared.room.ReasonRoom.{ReasonRoom}
use Rattle.cert_format.specs.declared.room.LemmaRoom.{LemmaRoom}

abbrev pub reason_in : ReasonRoom → PlainReason
reason_in room = reason_by (λ _. map cite_of room.cites.items) (λ _. written_list room.members.items) room.kind

abbrev pub lemma_in : LemmaRoom → PlainLemma
lemma_in room = record { number = room.number; path = room.path; claim = room.claim; reason = reason_in room.reason }

-- what is in a room before a line was read into it
abbrev pub unread_lemma : PlainLemma
unread_lemma = record { number = 0; path = []; claim = WhiteWins; reason = ByEnd }

abbrev pub kept_in : LemmaRoom → Kind → PlainLine
kept_in room kinds.Lemma = ALemma (lemma_in room)
kept_in room kinds.Remark = ARemark
kept_in room (kinds.Verdict v) = AVerdict v

-- What a reader gives, beside what the definition reads: the same line, or a fault where there is none.
abbrev pub Reads : Result Line LineFault → Option PlainLine → Type 0
Reads (Ok line) read = read ≡ Some (line_of line)
Reads (Err fault) read = read ≡ None

-- the same of a line that is lent
abbrev pub Views : Result LineView LineFault → Option PlainLine → Type 0
Views (Ok line) read = read ≡ Some (viewed line)
Views (Err fault) read = read ≡ None

abbrev pub ReadsInto : LemmaRoom → Result Kind LineFault → Option PlainLine → Type 0
ReadsInto room (Ok kind) read = read ≡ Some (kept_in room kind)
ReadsInto room (Err fault) read = read ≡ None
