use Rattle.std.proofs.Common.{◌∙◌, sym, ap, subst, take, drop, IsSome}
use Rattle.std.proofs.lemmas.List.{take-append-drop}
use Rattle.game_rules.specs.Position.{empty_position, played}
use Rattle.tool_text.proofs.Legal.{played_parts}
use Rattle.proof_tools.proofs.marks.annotate.Goals as goal

pub position_after-requires : goal.position_after-requires
position_after-requires g c =
    let start = empty_position c.args.size in
    subst (λ columns. IsSome (played start columns)) (sym c.split_at.ensures.front)
    (played_parts start (take c.saturating_sub.result c.args.moves.now) (drop c.saturating_sub.result c.args.moves.now)
    (subst (λ columns. IsSome (played start columns)) (sym (take-append-drop c.saturating_sub.result c.args.moves.now)) c.requires.legal)).0

pub marks_from-requires-clause-legal : goal.marks_from-requires-clause-legal
marks_from-requires-clause-legal g c =
    let start = empty_position c.args.size in
    subst (λ columns. IsSome (played c.position_after.result columns)) (sym c.split_at.ensures.back)
    ((played_parts start (take c.saturating_sub.result c.args.moves.now) (drop c.saturating_sub.result c.args.moves.now)
    (subst (λ columns. IsSome (played start columns)) (sym (take-append-drop c.saturating_sub.result c.args.moves.now)) c.requires.legal)).1
    c.position_after.result (ap (played start) (sym c.split_at.ensures.front) ∙ c.position_after.ensures))
