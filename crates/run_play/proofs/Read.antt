-- What each step of `play` says of the bytes: what is played goes on, or how it ends.
use Rattle.std.proofs.Common.{◌≡◌, ℕ, ◌+◌, ◌/◌, ◌<◌, Bool, true, List, [], ◌∷◌, ◌++◌, length, Option, Some, None, option_map, Ok, Err, refl}
use Rattle.std.proofs.Common.{sym, ap, ◌∙◌, subst, arith}
use Rattle.std.proofs.lemmas.Bool.{lt-leb}
use Rattle.io_ports.specs.Lines.{Gives}
use Rattle.io_ports.specs.declared.line_reader.LineGot.TheVariants.{Line, Long, Done, Failed}
use Rattle.game_rules.specs.Board.{Square}
use Rattle.game_rules.specs.Position.{Position, board_of, height, has_room, end_of, empty_count, after_move}
use Rattle.game_rules.specs.Text.{game_at}
use Rattle.game_rules.specs.declared.End.{End}
use Rattle.game_rules.specs.declared.End.TheVariants as game_ends
use Rattle.game_rules.specs.declared.InputFault.{InputFault}
use Rattle.game_rules.proofs.Ends.{legal_parts}
use Rattle.game_rules.proofs.Moves.{empty_count_moved}
use Rattle.plan_rules.proofs.Turns.{playable_parts, playable_room}
use Rattle.plan_text.specs.Items.{square_text}
use Rattle.proof_text.specs.Spelling.{as_line, longest_line}
use Rattle.proof_text.specs.Texts.{pieces, lines_in, game_of, behind_game}
use Rattle.plan_lines.specs.Planned.{Planned, members}
use Rattle.reply_player.specs.Playing.{Playing, reply_for, HasAnswered}
use Rattle.reply_player.specs.declared.session.Reply.{Reply}
use Rattle.play_text.specs.Play as told
use Rattle.play_text.specs.Play.{PlayEnd, NoGame, NoPlanLine, Played, ended, behind, end_text, turn_text, column_in, move_refusal, answer_to}
use Rattle.play_text.specs.Play.{play_from, play_list, play_lines, play_game, plan_in, play_of, first_move}
use Rattle.play_text.specs.declared.PlayKind.{PlayKind}
use Rattle.play_text.proofs.Turns.{answer_is}
use Rattle.play_text.specs.Play.{with_turn, with_move, turns_from}
use Rattle.run_turns.specs.Steps.{turns_by}
use Rattle.run_play.specs.Turns.{plan_stands, turn_with, plan_turn}
use Rattle.run_play.specs.declared.plan_player.PlanPlayer.{PlanPlayer}
use Rattle.io_ports.specs.Reading.{Pending, Reads, PassesLines}
use Rattle.run_turns.specs.Turns.{end_words, turn_line, falls_to, turn_from}
use Rattle.run_turns.specs.declared.turn.Turn.{Turn}
use Rattle.run_play.specs.Steps.{man_of, played_at, played_from}
use Rattle.run_turns.specs.Inputs.{EndsSo}
use Rattle.run_frame.proofs.Cuts.{line_first, long_first, none_left}
use Rattle.run_frame.proofs.GameRead.{by_line}

-- ---- the game

pub game_goes : (bytes rest : List ℕ) (root : Position) → game_at (game_of (pieces bytes)) ≡ Ok root → behind_game (pieces bytes) ≡ lines_in (pieces rest)
    → play_of bytes ≡ played_at root rest
unfolding play_of played_at
game_goes bytes rest root game lines = ap (λ game. play_game game (behind_game (pieces bytes))) game ∙ ap (play_lines root) lines

pub game_none : (bytes : List ℕ) (fault : InputFault) → game_at (game_of (pieces bytes)) ≡ Err fault → play_of bytes ≡ ended (NoGame fault)
unfolding play_of
game_none bytes fault game = ap (λ game. play_game game (behind_game (pieces bytes))) game

-- ---- the line of the plan

module _ (a b : Pending) (text : List ℕ) (fed : Bool) (root : Position) where
  -- a line that was got is the first that is looked at
  pub plan_got : (P : Played → List ℕ → Type 0) → Reads a b (λ bytes rest. Gives bytes rest Line text fed)
      → ((rest : List ℕ) → P (play_lines root (text ∷ lines_in (pieces rest))) rest)
      → Reads a b (λ bytes rest. PassesLines 1 bytes rest × P (played_at root bytes) rest)
  unfolding played_at
  plan_got P gives answer =
      by_line a b Line text fed gives _ (λ bytes rest is.
      let lines = line_first bytes (record { got = Line; text = text; fed = fed; rest = rest }) is refl in
      subst (λ lines. P (play_lines root lines) rest) (sym lines) (answer rest))

  pub plan_named : (plan : Planned) → Reads a b (λ bytes rest. Gives bytes rest Line text fed)
      → ((more : List (List ℕ)) → play_lines root (text ∷ more) ≡ play_from (members plan) root first_move more)
      → Reads a b (λ bytes rest. PassesLines 1 bytes rest × (played_at root bytes ≡ played_from (record { plan = plan; stands = root }) first_move rest))
  unfolding played_from
  plan_named plan gives answer =
      plan_got (λ played rest. played ≡ played_from (record { plan = plan; stands = root }) first_move rest) gives (λ rest. answer (lines_in (pieces rest)))

  pub plan_refused : (end : Option PlayEnd) → Reads a b (λ bytes rest. Gives bytes rest Line text fed)
      → ((more : List (List ℕ)) → EndsSo (play_lines root (text ∷ more)) [] end)
      → Reads a b (λ bytes rest. PassesLines 1 bytes rest × EndsSo (played_at root bytes) [] end)
  plan_refused end gives answer = plan_got (λ played rest. EndsSo played [] end) gives (λ rest. answer (lines_in (pieces rest)))

  pub plan_long : Reads a b (λ bytes rest. Gives bytes rest Long text fed)
      → Reads a b (λ bytes rest. PassesLines 1 bytes rest × (played_at root bytes ≡ ended NoPlanLine))
  unfolding played_at
  plan_long gives =
      by_line a b Long text fed gives _ (λ bytes rest is.
      let some = long_first bytes (record { got = Long; text = text; fed = fed; rest = rest }) is refl in
      let none : plan_in (board_of root) some.0 ≡ None = rw (lt-leb (length some.0) longest_line some.3) refl in
      ap (play_lines root) some.2 ∙ ap (λ list. play_list root list some.1) none)

  pub plan_none : Reads a b (λ bytes rest. Gives bytes rest Done text fed)
      → Reads a b (λ bytes rest. PassesLines 1 bytes rest × (played_at root bytes ≡ ended NoPlanLine))
  unfolding played_at
  plan_none gives =
      by_line a b Done text fed gives _
      (λ bytes rest is. ap (play_lines root) (none_left bytes (record { got = Done; text = text; fed = fed; rest = rest }) is refl).0)

  -- the source failed
  pub plan_unread : Reads a b (λ bytes rest. Gives bytes rest Failed text fed)
      → Reads a b (λ bytes rest. PassesLines 1 bytes rest × ((later : Played) × (played_at root bytes ≡ behind [] later)))
  plan_unread gives = by_line a b Failed text fed gives _ (λ bytes rest is. (played_at root bytes, refl))

-- ---- a turn

-- how Black's man is told
told_man : (end : Option End) (column : ℕ) → ((man_of (reply_for end column)).0 ≡ column) × (end_words (man_of (reply_for end column)).1 ≡ end_text end)
told_man None column = (refl, refl)
told_man (Some game_ends.White) column = (refl, refl)
told_man (Some game_ends.Black) column = (refl, refl)
told_man (Some game_ends.Draw) column = (refl, refl)

module _ (old new : Playing) (column : ℕ) (reply : Reply) (has : HasAnswered old new column reply) where
  abbrev mid : Position
  mid = after_move old.stands column

  column_is : (man_of reply).0 ≡ has.answered.reply.0
  column_is = ap (λ reply. (man_of reply).0) has.reply_is ∙ (told_man (end_of new.stands) has.answered.reply.0).0

  pub white_room : has_room old.stands column ≡ true
  white_room = (legal_parts old.stands column has.legal).1

  pub black_room : has_room mid (man_of reply).0 ≡ true
  black_room = ap (has_room mid) column_is ∙ playable_room mid has.answered.reply has.answered.playable

  line_is : turn_line (turn_from old.stands (Some column) (Some (man_of reply).0) (man_of reply).1) ≡ turn_text old.stands column has.answered.reply
  line_is =
      let white = square_text (column, height old.stands column + 1) in
      let square : falls_to mid (man_of reply).0 ≡ has.answered.reply =
      ap (falls_to mid) column_is ∙ ap (λ r. (has.answered.reply.0, r)) (sym (playable_parts mid has.answered.reply has.answered.playable).1) in
      let end : end_words (man_of reply).1 ≡ end_text (end_of (after_move mid has.answered.reply.0)) =
      ap (λ reply. end_words (man_of reply).1) has.reply_is ∙ (told_man (end_of new.stands) has.answered.reply.0).1
      ∙ ap (λ q. end_text (end_of q)) has.next in
      ap (λ u. as_line (white ++ (32 ∷ (square_text u ++ end_words (man_of reply).1)))) square
      ∙ ap (λ end. as_line (white ++ (32 ∷ (square_text has.answered.reply ++ end)))) end

  -- two squares are filled
  pub two_fewer : empty_count new.stands + 2 ≡ empty_count old.stands
  two_fewer =
      let first = empty_count_moved old.stands column (legal_parts old.stands column has.legal).1 in
      let second = empty_count_moved mid has.answered.reply.0 (playable_room mid has.answered.reply has.answered.playable) in
      omega (arith, first, second, ap empty_count has.next)

  -- the line is that of the plan's turn
  pub turn_is : (made : Turn) → made ≡ turn_from old.stands (Some column) (Some (man_of reply).0) (man_of reply).1
      → plan_turn (record { session = old }) column ≡ Some (turn_line made, record { session = new })
  turn_is made told =
      let line = turn_line made in
      let player : PlanPlayer = record { session = old } in
      let next : new ≡ record { plan = old.plan; stands = after_move mid has.answered.reply.0 } =
      ap (λ plan. record { plan = plan; stands = new.stands }) has.same_plan ∙ ap (λ q. record { plan = old.plan; stands = q }) has.next in
      ap (option_map (turn_with player column)) (answer_is (members old.plan) old.stands column has.answered)
      ∙ ap (λ text. Some (text, record { session = record { plan = old.plan; stands = after_move mid has.answered.reply.0 } })) (sym line_is ∙ sym (ap turn_line told))
      ∙ ap (λ session. Some (line, record { session = session })) (sym next)

  -- and there is one less
  pub fewer_left : empty_count new.stands / 2 < empty_count old.stands / 2
  fewer_left = omega (arith, two_fewer)

-- ---- White's lines

-- what is played by the turns of a player by a plan is what is played by the plan
turns_played : (player : PlanPlayer) (at : ℕ) (lines : List (List ℕ))
    → turns_from plan_stands plan_turn player at lines ≡ play_from (members player.session.plan) player.session.stands at lines
turns_played player at [] = refl
turns_played player at (line ∷ lines) =
    of_column (column_in (board_of player.session.stands) line) (move_refusal player.session.stands (column_in (board_of player.session.stands) line))
    (λ next. turns_played next (at + 1) lines)
  where
    of_answer : (column : ℕ) (answer : Option Square)
        → ((next : PlanPlayer) → turns_from plan_stands plan_turn next (at + 1) lines
        ≡ play_from (members next.session.plan) next.session.stands (at + 1) lines)
        → with_turn (option_map (turn_with player column) answer) (λ next. turns_from plan_stands plan_turn next (at + 1) lines)
        ≡ with_turn (option_map (told.turn_with player.session.stands column) answer) (λ next. play_from (members player.session.plan) next (at + 1) lines)
    of_answer column None later = refl
    of_answer column (Some reply) later =
        let turn = turn_with player column reply in
        ap (behind (turn.0 ∷ [])) (later turn.1)

    of_column : (column : Option ℕ) (refusal : Option PlayKind)
        → ((next : PlanPlayer) → turns_from plan_stands plan_turn next (at + 1) lines
        ≡ play_from (members next.session.plan) next.session.stands (at + 1) lines)
        → with_move (plan_turn player) at column refusal (λ next. turns_from plan_stands plan_turn next (at + 1) lines)
        ≡ with_move (told.plan_turn (members player.session.plan) player.session.stands) at column refusal
        (λ next. play_from (members player.session.plan) next (at + 1) lines)
    of_column column (Some kind) later = refl
    of_column None None later = refl
    of_column (Some column) None later = of_answer column (answer_to (members player.session.plan) player.session.stands column) later

pub turns_by_plan : (player : PlanPlayer) (at : ℕ) (bytes : List ℕ) → turns_by plan_stands plan_turn player at bytes ≡ played_from player.session at bytes
unfolding turns_by played_from
turns_by_plan player at bytes = turns_played player at (lines_in (pieces bytes))
