use Rattle.std.proofs.Common.{◌≡◌, Bool, take, drop, length, Some, IsSome}
use Rattle.game_rules.specs.Position.{Position as Men}
use Rattle.game_rules.specs.Position.{played}
use Rattle.tool_text.specs.Marks.{AreMarks}
use Rattle.proof_tools.specs.Marked.{IsTold}
use Rattle.proof_tools.proofs.marks.marks_from.Given as goal

-- the moves so far are marked, and the others are legal where they lead to
abbrev pub invariant-loop-column : goal.invariant-loop-column
invariant-loop-column g l =
    let holds = g.V.Valuer.holds in
    record {
      along : played l.fn.first (take l.column-index l.moves) ≡ Some l.position;
      going : IsSome (played l.position (drop l.column-index l.moves));
      marked : AreMarks (holds l.fn.valuer) l.fn.first (take l.column-index l.moves) l.marks.items;
      told : IsTold (holds l.fn.valuer) l.position l.before;
      kept : (q : Men) (found : Bool) → holds l.valuer q found → holds l.fn.valuer q found;
      counted : length l.marks.items ≡ l.column-index;
    }
