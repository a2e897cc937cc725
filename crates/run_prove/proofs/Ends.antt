-- How a run of `prove` ends.
use Rattle.std.proofs.Common.{◌≡◌, ℕ, ◌<◌, List, Option, Result, Ok, Err, refl, sym, ap, ◌∙◌, inl, inr, arith}
use Rattle.std.specs.Io.KnownBytes.{IsAtEnd}
use Rattle.std.proofs.KnownBytes.{Consumes-whole}
use Rattle.game_rules.specs.Position.{Position}
use Rattle.game_rules.specs.Cost.{cost}
use Rattle.game_rules.specs.Text.{game_at}
use Rattle.proof_text.specs.declared.Verdict.{Verdict}
use Rattle.proof_text.specs.declared.Verdict.TheVariants as verdicts
use Rattle.proof_text.specs.declared.Version.{Version}
use Rattle.run_questions.specs.Planned.{solved_within}
use Rattle.io_ports.specs.declared.ports.Failed.{Failed}
use Rattle.run_frame.specs.Streams.{Streams, StillHolds}
use Rattle.run_frame.specs.declared.game_input.InputStop.TheVariants as stops
use Rattle.run_frame.specs.declared.run_stop.MemoryStop.TheVariants.{Input, Memory}
use Rattle.run_frame.specs.declared.run_stop.RunStop.TheVariants.{Own, Write}
use Rattle.run_frame.specs.declared.run_stop.Sought.TheVariants.{Found, Missing}
use Rattle.run_frame.proofs.Owed.{owed}
use Rattle.run_frame.proofs.Inputs.{IfSome_more, of_each, same_position, kept_still, appended_still, cut_still, unread_still}
use Rattle.run_prove.specs.Proof.{Writes}
use Rattle.run_prove.specs.Proves.{Proved, proved_of, proved_status, ProvesFrom, Proves, ProveCompletes, ProveOwes}

-- what was written for the game is what `prove` promises
pub proves_game : (version : Version) (nodes reach : ℕ) (slots : Option ℕ) (s : Streams) (p : Position) (heard : List ℕ) → IsAtEnd s.left → game_at heard ≡ Ok p
    → (r : Result Verdict Failed) → Writes version nodes reach slots heard p s.old s.new r
    → (r ≡ Ok verdicts.Unknown → nodes < cost (solved_within reach) p) → ProvesFrom version nodes reach slots heard s (proved_of r)
proves_game version nodes reach slots s p heard ended game (Ok (verdicts.Win lemma)) h short =
    (record { position = p; game = game; verdict = verdicts.Win lemma; known = λ e. cc; text = h.0; proof = h.1; written = h.2 }, ended)
proves_game version nodes reach slots s p heard ended game (Ok (verdicts.Loss lemma)) h short =
    (record { position = p; game = game; verdict = verdicts.Loss lemma; known = λ e. cc; text = h.0; proof = h.1; written = h.2 }, ended)
proves_game version nodes reach slots s p heard ended game (Ok (verdicts.Draw white black)) h short =
    (record { position = p; game = game; verdict = verdicts.Draw white black; known = λ e. cc; text = h.0; proof = h.1; written = h.2 }, ended)
proves_game version nodes reach slots s p heard ended game (Ok verdicts.Unknown) h short =
    (record { position = p; game = game; short = short refl; text = h.0; proof = h.1; written = h.2 }, ended)
proves_game version nodes reach slots s p heard ended game
    (Err failed) h short = (record { position = p; game = game; text = h.0; stands = h.1; written = h.2 }, ended)

pub prove_completes : (version : Version) (nodes reach : ℕ) (slots : Option ℕ) (s : Streams) (end : Proved) → Proves version nodes reach slots s end
    → (proved_status end ≡ 6 → ⊥) → (proved_status end ≡ 7 → ⊥) → ProveCompletes nodes reach s.input (proved_status end)
prove_completes version nodes reach slots s (Ok Found) o unread unwritten = of_each s.input _ (λ bytes p game cheap. inl refl)
prove_completes version nodes reach slots s (Ok Missing) o unread unwritten =
    let left = o.holds.0 in
    IfSome_more s.input (λ bytes. game_at bytes ≡ Ok left.position) _
    (Consumes-whole s.input s.left o.taken (λ bytes. game_at bytes ≡ Ok left.position) o.gave o.holds.1 left.game)
    (λ bytes at p game cheap. absurd (let same : left.position ≡ p = same_position bytes left.position p at game in
    omega (arith, left.short, cheap, ap (cost (solved_within reach)) same)))
prove_completes version nodes reach slots s (Err (Own (Input (stops.NoGame fault)))) o unread unwritten =
    IfSome_more s.input (λ bytes. game_at bytes ≡ Err fault) _ o.holds.1
    (λ bytes at p game cheap. absurd (let never : Ok p ≡ Err fault = sym game ∙ at in cc))
prove_completes version nodes reach slots s (Err (Own (Input stops.Read))) o unread unwritten = absurd (unread refl)
prove_completes version nodes reach slots s (Err Write) o unread unwritten = absurd (unwritten refl)
prove_completes version nodes reach slots s (Err (Own Memory)) o unread unwritten = of_each s.input _ (λ bytes p game cheap. inr refl)

-- however it ends, what the sink held stands there still
pub prove_held : (version : Version) (nodes reach : ℕ) (slots : Option ℕ) (s : Streams) (end : Proved) → Proves version nodes reach slots s end
    → StillHolds s.old s.new
prove_held version nodes reach slots s (Ok Found) o = appended_still s.old s.new _ o.holds.0.written
prove_held version nodes reach slots s (Ok Missing) o = appended_still s.old s.new _ o.holds.0.written
prove_held version nodes reach slots s (Err Write) o = cut_still s.old s.new _ o.holds.0.written
prove_held version nodes reach slots s (Err (Own (Input stop))) o = unread_still s o.taken stop o.holds
prove_held version nodes reach slots s (Err (Own Memory)) o = kept_still s.old s.new o.holds.2

pub prove_owes : (version : Version) (nodes reach : ℕ) (slots : Option ℕ) (s : Streams) (unread unwritten : Type 0) (end : Proved)
    → Proves version nodes reach slots s end → (proved_status end ≡ 6 → unread) → (proved_status end ≡ 7 → unwritten)
    → ProveOwes version nodes reach slots s unread unwritten end
prove_owes version nodes reach slots s unread unwritten end =
    owed proved_status (Proves version nodes reach slots) (ProveCompletes nodes reach) s unread unwritten end
    (prove_held version nodes reach slots s end) (prove_completes version nodes reach slots s end)
