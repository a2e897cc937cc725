-- What is read by one line, and the game that two lines are.
use Rattle.std.proofs.Common.{◌≡◌, ℕ, Bool, List, [], ◌++◌, length, take, min, append_assoc, Result, Err, refl, sym, ap, ◌∙◌, subst, ◌≤◌, arith}
use Rattle.std.proofs.lemmas.List.{take_min}
use Rattle.device_rules.specs.Devices.{Rose}
use Rattle.device_rules.proofs.DeviceLaws.{Rose_before}
use Rattle.io_ports.specs.Lines.{next_line, feed, Gives}
use Rattle.io_ports.specs.declared.line_reader.LineGot.{LineGot}
use Rattle.io_ports.specs.declared.line_reader.LineGot.TheVariants.{Line, Long, Done, Failed}
use Rattle.game_rules.specs.Position.{Position}
use Rattle.game_rules.specs.Game.{Game, IsTextOf}
use Rattle.game_rules.specs.Text.{game_at}
use Rattle.game_rules.proofs.Games.{game_is_read}
use Rattle.game_rules.specs.declared.InputFault.{InputFault}
use Rattle.proof_text.specs.Texts.{pieces, lines_in, game_prefix, game_of, behind_game}
use Rattle.io_ports.specs.Reading.{Pending, Reads, PassesLines}
use Rattle.run_frame.specs.Reading.{kept_of, KeepsLine, StopsGame}
use Rattle.run_frame.specs.declared.game_input.InputStop.{InputStop}
use Rattle.run_frame.specs.declared.game_input.InputStop.TheVariants as stops
use Rattle.run_frame.proofs.Cuts.{game_kept, game_left, game_same}
use Rattle.io_ports.proofs.Reading.{Reads_more, Reads_then, passes_then, passes_most, passes_line}

-- what a reader of lines gives, unless its source failed
pub given : (bytes rest text : List ℕ) (got : LineGot) (fed : Bool) → Gives bytes rest got text fed → (got ≡ Failed → ⊥)
    → record { got = got; text = text; fed = fed; rest = rest } ≡ next_line bytes
given bytes rest text Line fed h other = h
given bytes rest text Long fed h other = h
given bytes rest text Done fed h other = h
given bytes rest text Failed fed h other = absurd (other refl)

-- the prefix of a line, and its line feed
pub prefix_put : (before mid after text given : List ℕ) (n : ℕ) (fed : Bool) → given ≡ text → n ≡ min (length given) game_prefix → mid ≡ before ++ take n given
    → after ≡ mid ++ feed fed
    → after ≡ before ++ (take game_prefix text ++ feed fed)
prefix_put before mid after text given n fed same size put more =
    let least : n ≡ min game_prefix (length given) = omega arith in
    let prefix : take n given ≡ take game_prefix text = ap (λ n. take n given) least ∙ take_min game_prefix given ∙ ap (take game_prefix) same in
    more ∙ ap (λ mid. mid ++ feed fed) (put ∙ ap (λ prefix. before ++ prefix) prefix) ∙ append_assoc before (take game_prefix text) (feed fed)

module _ (a b : Pending) (got : LineGot) (text : List ℕ) (fed : Bool) (gives : Reads a b (λ bytes rest. Gives bytes rest got text fed)) where
  -- a step by one line
  pub by_line : (P : List ℕ → List ℕ → Type 0) → ((bytes rest : List ℕ) → Gives bytes rest got text fed → P bytes rest)
      → Reads a b (λ bytes rest. PassesLines 1 bytes rest × P bytes rest)
  by_line P more = Reads_more a b _ _ gives (λ bytes rest h. (passes_line bytes rest text got fed h, more bytes rest h))

  pub kept_known : (got ≡ Failed → ⊥) → (before after : List ℕ) → after ≡ before ++ (take game_prefix text ++ feed fed)
      → Reads a b (λ bytes rest. PassesLines 1 bytes rest × KeepsLine before after bytes rest)
  kept_known other before after put =
      by_line _ (λ bytes rest h. let is = given bytes rest text got fed h other in (put ∙ ap (λ line. before ++ kept_of line) is, ap (λ line. line.rest) is))

-- the source failed
pub game_unread : (a b : Pending) (m n : ℕ) (X : List ℕ → List ℕ → Type 0) (before mid after : ℕ) (stop : InputStop) → m ≤ n → before ≤ mid
    → (stop ≡ stops.Read) × Rose mid after → Reads a b (λ bytes rest. PassesLines m bytes rest × X bytes rest)
    → Reads a b (λ bytes rest. PassesLines n bytes rest × StopsGame (game_at (game_of (pieces bytes))) before after stop)
game_unread a b m n X before mid after stop few later (is, rose) reads =
    let S : Result Position InputFault → InputStop → Type 0 = λ game stop. StopsGame game before after stop in
    Reads_more a b _ _ reads (λ bytes rest p. (
      passes_most m n bytes rest few p.0,
      subst (S (game_at (game_of (pieces bytes)))) (sym is) (Rose_before before mid after later rose),
    ))

-- ---- the game

module _ (a b c : Pending) (one two : List ℕ) (first : Reads a b (λ bytes rest. PassesLines 1 bytes rest × KeepsLine [] one bytes rest))
    (second : Reads b c (λ bytes rest. PassesLines 1 bytes rest × KeepsLine one two bytes rest)) where
  both : (bytes mid : List ℕ) → one ≡ [] ++ kept_of (next_line bytes) → mid ≡ (next_line bytes).rest → two ≡ one ++ kept_of (next_line mid)
      → two ≡ kept_of (next_line bytes) ++ kept_of (next_line mid)
  both bytes mid put after more = more ∙ ap (λ text. text ++ kept_of (next_line mid)) put

  pub game_known : (game : Game) → IsTextOf two game
      → Reads a c (λ bytes rest. PassesLines 2 bytes rest
      × (IsTextOf (game_of (pieces bytes)) game × (behind_game (pieces bytes) ≡ lines_in (pieces rest))))
  game_known game text =
      Reads_then a b c _ _ _ first second (λ bytes mid rest p q.
      let is = both bytes mid p.1.0 p.1.1 q.1.0 in
      let kept = sym (ap game_at is) ∙ game_is_read two game text in (
        passes_then 1 1 bytes mid rest p.0 q.0,
        (
          subst (λ text. IsTextOf text game) (is ∙ game_same bytes (next_line bytes) (next_line mid) game.position refl (ap next_line p.1.1) kept) text,
          game_left bytes (next_line bytes) (next_line mid) game.position refl (ap next_line p.1.1) kept ∙ ap (λ rest. lines_in (pieces rest)) (sym q.1.1),
        ),
      ))

  pub game_stops : (fault : InputFault) → game_at two ≡ Err fault
      → Reads a c (λ bytes rest. PassesLines 2 bytes rest × (game_at (game_of (pieces bytes)) ≡ Err fault))
  game_stops fault game =
      Reads_then a b c _ _ _ first second (λ bytes mid rest p q. (
        passes_then 1 1 bytes mid rest p.0 q.0,
        sym (game_kept bytes (next_line bytes) (next_line mid) refl (ap next_line p.1.1)) ∙ sym (ap game_at (both bytes mid p.1.0 p.1.1 q.1.0)) ∙ game,
      ))
