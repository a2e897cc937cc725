-- How a run of `explain` ends.
use Rattle.std.proofs.Common.{◌≡◌, ℕ, Bool, if◌then◌else◌, true, false, List, Result, Ok, Err, IfOk, IsErr, is_ok, refl, sym, ap, ◌∙◌}
use Rattle.std.specs.Io.KnownBytes.{IsAtEnd}
use Rattle.std.proofs.KnownBytes.{Consumes-whole}
use Rattle.device_rules.specs.Devices.{AppendsPrefix}
use Rattle.game_rules.specs.Position.{Position}
use Rattle.game_rules.specs.Text.{game_at}
use Rattle.walk_rules.specs.Walk.{solved}
use Rattle.explain_text.specs.Explanation.{explanation}
use Rattle.io_ports.specs.declared.ports.Failed.{Failed}
use Rattle.run_frame.specs.Streams.{Streams, StillHolds}
use Rattle.run_frame.specs.declared.game_input.InputStop.TheVariants as stops
use Rattle.run_frame.specs.declared.run_stop.RunStop.TheVariants.{Own, Write}
use Rattle.run_frame.specs.declared.run_stop.Sought.TheVariants.{Found, Missing}
use Rattle.run_frame.proofs.Owed.{owed}
use Rattle.run_frame.proofs.Inputs.{IfSome_more, same_position, appended_still, cut_still, unread_still}
use Rattle.run_explain.specs.Explains.{Explained, explained_status, explained_of, ExplainsFrom, Explains, ExplainCompletes, ExplainOwes}

-- what was written of the game is what `explain` promises
pub explains_game : (reach : ℕ) (s : Streams) (taken : List ℕ) (p : Position) → IsAtEnd s.left → game_at taken ≡ Ok p → (r : Result Bool Failed)
    → IfOk r (λ found. found ≡ solved p reach)
    → AppendsPrefix (is_ok r) s.old s.new (explanation p reach) → ExplainsFrom reach taken s (explained_of r)
explains_game reach s taken p ended game (Ok true) found written = (record { position = p; game = game; decided = sym found; written = written }, ended)
explains_game reach s taken p ended game (Ok false) found written = (record { position = p; game = game; decided = sym found; written = written }, ended)
explains_game reach s taken p ended game (Err failed) found written = (record { position = p; game = game; written = written }, ended)

pub explain_completes : (reach : ℕ) (s : Streams) (end : Explained) → Explains reach s end → (explained_status end ≡ 6 → ⊥) → (explained_status end ≡ 7 → ⊥)
    → ExplainCompletes reach s.input (explained_status end)
explain_completes reach s (Ok Found) o unread unwritten found =
    IfSome_more s.input (λ bytes. game_at bytes ≡ Ok o.holds.0.position) _
    (Consumes-whole s.input s.left o.taken (λ bytes. game_at bytes ≡ Ok o.holds.0.position) o.gave o.holds.1 o.holds.0.game)
    (λ bytes at p game is. ap (λ found. if found then 0 else 5)
    (sym o.holds.0.decided ∙ ap (λ p. solved p reach) (same_position bytes o.holds.0.position p at game) ∙ is))
explain_completes reach s (Ok Missing) o unread unwritten found =
    IfSome_more s.input (λ bytes. game_at bytes ≡ Ok o.holds.0.position) _
    (Consumes-whole s.input s.left o.taken (λ bytes. game_at bytes ≡ Ok o.holds.0.position) o.gave o.holds.1 o.holds.0.game)
    (λ bytes at p game is. ap (λ found. if found then 0 else 5)
    (sym o.holds.0.decided ∙ ap (λ p. solved p reach) (same_position bytes o.holds.0.position p at game) ∙ is))
explain_completes reach s (Err (Own (stops.NoGame fault))) o unread unwritten found =
    IfSome_more s.input (λ bytes. game_at bytes ≡ Err fault) _ o.holds.1 (λ bytes at p game is. absurd (let never : Ok p ≡ Err fault = sym game ∙ at in cc))
explain_completes reach s (Err (Own stops.Read)) o unread unwritten found = absurd (unread refl)
explain_completes reach s (Err Write) o unread unwritten found = absurd (unwritten refl)

-- however it ends, what the sink held stands there still
pub explain_held : (reach : ℕ) (s : Streams) (end : Explained) → Explains reach s end → StillHolds s.old s.new
explain_held reach s (Ok Found) o = appended_still s.old s.new _ o.holds.0.written
explain_held reach s (Ok Missing) o = appended_still s.old s.new _ o.holds.0.written
explain_held reach s (Err Write) o = cut_still s.old s.new _ o.holds.0.written
explain_held reach s (Err (Own stop)) o = unread_still s o.taken stop o.holds

pub explain_owes : (reach : ℕ) (s : Streams) (unread unwritten : Type 0) (end : Explained) → Explains reach s end → (explained_status end ≡ 6 → unread)
    → (explained_status end ≡ 7 → unwritten) → ExplainOwes reach s unread unwritten end
explain_owes reach s unread unwritten end =
    owed explained_status (Explains reach) (ExplainCompletes reach) s unread unwritten end (explain_held reach s end) (explain_completes reach s end)

-- what was written ends with the sink's failure only where that failed, and never with the source's
pub written_never : (r : Result Bool Failed) → explained_status (explained_of r) ≡ 6 → ⊥
written_never (Ok true) is = cc is
written_never (Ok false) is = cc is
written_never (Err failed) is = cc is

pub written_failed : (r : Result Bool Failed) → explained_status (explained_of r) ≡ 7 → IsErr r
written_failed (Ok true) is = absurd (cc is)
written_failed (Ok false) is = absurd (cc is)
written_failed (Err failed) is = refl
