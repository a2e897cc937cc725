-- The game and the plan, one after another, and the player who begins there.
use Rattle.std.proofs.Common.{◌≡◌, ◌≤◌, Ok, sym, ap, ◌∙◌, subst, arith}
use Rattle.game_rules.specs.Position.{Position, empty_count}
use Rattle.game_rules.specs.Text.{game_at}
use Rattle.io_ports.specs.Reading.{Pending, Reads, PassesLines}
use Rattle.io_ports.proofs.Reading.{Reads_more, Reads_then, passes_then, passes_most}
use Rattle.proof_text.specs.Texts.{pieces, lines_in, game_of, behind_game}
use Rattle.plan_lines.specs.Planned.{Planned}
use Rattle.reply_player.specs.Playing.{Playing}
use Rattle.play_text.specs.Play.{play_of, first_move}
use Rattle.run_turns.specs.Inputs.{StopsPlay, lines_until}
use Rattle.run_turns.specs.Steps.{turns_by}
use Rattle.run_turns.specs.declared.game_end.GameStop.{GameStop}
use Rattle.run_play.specs.Plays.{play_form}
use Rattle.run_play.specs.Steps.{played_at, played_from}
use Rattle.run_play.specs.Turns.{plan_stands, plan_turn, turns_left}
use Rattle.run_play.specs.declared.no_plan.NoPlan.{NoPlan}
use Rattle.run_play.specs.declared.plan_player.PlanPlayer.{PlanPlayer}
use Rattle.run_play.proofs.Read.{game_goes, turns_by_plan}

module _ (a b c : Pending) (root : Position)
    (game : Reads a b (λ bytes rest. PassesLines 2 bytes rest
    × ((game_at (game_of (pieces bytes)) ≡ Ok root) × (behind_game (pieces bytes) ≡ lines_in (pieces rest))))) where
  pub plan_stops : (stop : GameStop NoPlan) → 3 ≤ lines_until play_form stop
      → Reads b c (λ bytes rest. PassesLines 1 bytes rest × StopsPlay play_form (played_at root bytes) stop)
      → Reads a c (λ bytes rest. PassesLines (lines_until play_form stop) bytes rest × StopsPlay play_form (play_of bytes) stop)
  plan_stops stop until plan =
      Reads_then a b c _ _ _ game plan
      (λ bytes mid rest p q. (
        passes_most 3 (lines_until play_form stop) bytes rest until (passes_then 2 1 bytes mid rest p.0 q.0),
        subst (λ played. StopsPlay play_form played stop) (sym (game_goes bytes mid root p.1.0 p.1.1)) q.1,
      ))

  pub plan_goes : (s : Playing) → Reads b c (λ bytes rest. PassesLines 1 bytes rest × (played_at root bytes ≡ played_from s first_move rest))
      → Reads a c (λ bytes rest. PassesLines 3 bytes rest × (play_of bytes ≡ played_from s first_move rest))
  plan_goes s plan = Reads_then a b c _ _ _ game plan
      (λ bytes mid rest p q. (passes_then 2 1 bytes mid rest p.0 q.0, game_goes bytes mid root p.1.0 p.1.1 ∙ q.1))

-- a player begins at the plan's position
module _ (root : Position) (plan : Planned) (player : PlanPlayer) (new : player ≡ record { session = record { plan = plan; stands = plan.at } })
    (at : (plan.at ≡ root) × (empty_count root ≤ 100)) where
  starts : player ≡ record { session = record { plan = plan; stands = root } }
  starts = new ∙ ap (λ stands. record { session = record { plan = plan; stands = stands } }) at.0

  pub few_turns : turns_left player ≤ 50
  few_turns = omega (arith, ap (λ (player : PlanPlayer). empty_count player.session.stands) starts, at.1)

  pub player_begins : (a b : Pending)
      → Reads a b (λ bytes rest. PassesLines 3 bytes rest × (play_of bytes ≡ played_from (record { plan = plan; stands = root }) first_move rest))
      → Reads a b (λ bytes rest. PassesLines 3 bytes rest × (play_of bytes ≡ turns_by plan_stands plan_turn player first_move rest))
  player_begins a b reads =
      Reads_more a b _ _ reads (λ bytes rest h. (
        h.0,
        h.1 ∙ ap (λ (player : PlanPlayer). played_from player.session first_move rest) (sym starts) ∙ sym (turns_by_plan player first_move rest),
      ))
