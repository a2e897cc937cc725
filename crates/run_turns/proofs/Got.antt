-- What each line that was got says of the bytes: the game goes on, or how it ends.
use Rattle.std.proofs.Common.{◌≡◌, ℕ, ◌<◌, Bool, List, [], ◌∷◌, length, refl, sym, ap, ◌∙◌, subst, arith}
use Rattle.io_ports.specs.Lines.{Gives, longest_line}
use Rattle.io_ports.specs.Reading.{Pending, Reads, PassesLines}
use Rattle.io_ports.specs.declared.line_reader.LineGot.TheVariants.{Line, Long, Done, Failed}
use Rattle.io_ports.proofs.Reading.{Reads_more}
use Rattle.game_rules.specs.Position.{Position}
use Rattle.proof_text.specs.Texts.{pieces, lines_in}
use Rattle.play_text.specs.Play.{NoMove, AllPlayed, Played, ended}
use Rattle.play_text.specs.declared.PlayKind.TheVariants.{BadMove}
use Rattle.run_frame.proofs.Cuts.{line_first, long_first, none_left}
use Rattle.run_frame.proofs.GameRead.{by_line}
use Rattle.play_text.specs.Play.{Turn, turns_from}
use Rattle.run_turns.specs.Steps.{GoesOn, turns_by}

-- a line that was given is the text that is asked for
pub line_given : (a b : Pending) (text asked : List ℕ) (fed : Bool) → asked ≡ text → Reads a b (λ bytes rest. Gives bytes rest Line text fed)
    → Reads a b (λ bytes rest. Gives bytes rest Line asked fed)
line_given a b text asked fed is gives =
    let P : List ℕ → Type 0 = λ text. Reads a b (λ bytes rest. Gives bytes rest Line text fed) in
    subst P (sym is) gives

module _ {X : Type 0} (stands : X → Position) (turn : X → ℕ → Turn X) (a b : Pending) (text : List ℕ) (fed : Bool) (x : X) (at : ℕ) where
  pub line_got : (P : Played → List ℕ → Type 0) → Reads a b (λ bytes rest. Gives bytes rest Line text fed)
      → ((rest : List ℕ) → P (turns_from stands turn x at (text ∷ lines_in (pieces rest))) rest)
      → Reads a b (λ bytes rest. PassesLines 1 bytes rest × P (turns_by stands turn x at bytes) rest)
  unfolding turns_by
  line_got P gives answer =
      by_line a b Line text fed gives _ (λ bytes rest is.
      let lines = line_first bytes (record { got = Line; text = text; fed = fed; rest = rest }) is refl in
      subst (λ lines. P (turns_from stands turn x at lines) rest) (sym lines) (answer rest))

  -- one that is too long is no move
  pub long_got : Reads a b (λ bytes rest. Gives bytes rest Long text fed)
      → Reads a b (λ bytes rest. PassesLines 1 bytes rest × (turns_by stands turn x at bytes ≡ ended (NoMove (record { kind = BadMove; at = at }))))
  unfolding turns_by
  long_got gives =
      by_line a b Long text fed gives _ (λ bytes rest is.
      let some = long_first bytes (record { got = Long; text = text; fed = fed; rest = rest }) is refl in
      ap (turns_from stands turn x at) some.2 ∙ long_line some.0 some.1 some.3)
    where
      long_line : (first : List ℕ) (more : List (List ℕ)) → longest_line < length first
          → turns_from stands turn x at (first ∷ more) ≡ ended (NoMove (record { kind = BadMove; at = at }))
      long_line [] more long = absurd (omega arith)
      long_line (byte ∷ []) more long = absurd (omega arith)
      long_line (byte ∷ next ∷ first) more long = refl

  pub none_got : Reads a b (λ bytes rest. Gives bytes rest Done text fed)
      → Reads a b (λ bytes rest. PassesLines 1 bytes rest × (turns_by stands turn x at bytes ≡ ended AllPlayed))
  unfolding turns_by
  none_got gives =
      by_line a b Done text fed gives _
      (λ bytes rest is. ap (turns_from stands turn x at)
      (none_left bytes (record { got = Done; text = text; fed = fed; rest = rest }) is refl).0)

  -- the source failed, and no line was passed
  pub unread : Reads a b (λ bytes rest. Gives bytes rest Failed text fed)
      → Reads a b (λ bytes rest. PassesLines 0 bytes rest × GoesOn (turns_by stands turn x at bytes) [])
  unread gives = Reads_more a b _ _ gives (λ bytes rest is. ((0, omega arith, is), (turns_by stands turn x at bytes, refl)))
