-- Steps of a game, one after another.
use Rattle.std.proofs.Common.{◌≡◌, ℕ, ◌+◌, ◌<◌, ◌≤◌, Bool, true, List, [], ◌∷◌, ◌++◌, length, Option, refl}
use Rattle.std.proofs.Common.{sym, ap, ◌∙◌, subst, arith, append-nil, length-append}
use Rattle.std.proofs.KnownBytes.{Appends-nil}
use Rattle.std.proofs.lemmas.Grind.{flat_map-append}
use Rattle.device_rules.specs.Devices.{AppendsPrefix}
use Rattle.device_rules.proofs.DeviceLaws.{AppendsPrefix_all, AppendsPrefix_more}
use Rattle.io_ports.specs.Lines.{Gives}
use Rattle.io_ports.specs.Reading.{Pending, Reads, PassesLines}
use Rattle.io_ports.specs.declared.line_reader.LineGot.TheVariants.{Line}
use Rattle.io_ports.proofs.Reading.{Reads_more, Reads_start, Reads_then, passes_none, passes_then, passes_most}
use Rattle.game_rules.specs.Position.{Position}
use Rattle.proof_text.specs.Texts.{pieces, lines_in}
use Rattle.play_text.specs.Play as ends
use Rattle.play_text.specs.Play.{PlayEnd, Played, ended, behind, text_of}
use Rattle.play_text.specs.declared.PlayFault.{PlayFault}
use Rattle.play_text.proofs.Steps.{behind_more}
use Rattle.play_text.specs.Play.{Turn, turns_from}
use Rattle.run_frame.specs.declared.game_input.InputStop.TheVariants as inputs
use Rattle.run_frame.specs.declared.run_stop.RunStop.{RunStop}
use Rattle.run_frame.specs.declared.run_stop.RunStop.TheVariants.{Own, Write}
use Rattle.run_turns.specs.Steps.{turns_by, GoesOn, StopsTurns, TurnStep}
use Rattle.run_turns.specs.declared.game_end.GameStop.{GameStop}
use Rattle.run_turns.specs.declared.game_end.GameStop.TheVariants as stops
use Rattle.run_turns.proofs.Got.{line_got}

-- ---- one line

-- a line was written, and there is a turn less
pub step_line : (a b : Pending) (old new : Option (List ℕ)) (whole : Bool) (before after : ℕ) (Fact : List (List ℕ) → List ℕ → List ℕ → Type 0) (line : List ℕ)
    → AppendsPrefix whole old new line → after < before → Reads a b (Fact (line ∷ [])) → TurnStep a b old new whole before after Fact
step_line a b old new whole before after Fact line put fewer reads = record {
  lines = line ∷ [];
  written = subst (AppendsPrefix whole old new) (sym (append-nil line)) put;
  few = omega arith;
  reads = reads;
}

-- nothing was written
pub step_none : (a b : Pending) (out : Option (List ℕ)) (whole : Bool) (before after : ℕ) (Fact : List (List ℕ) → List ℕ → List ℕ → Type 0)
    → after ≤ before → Reads a b (Fact []) → TurnStep a b out out whole before after Fact
step_none a b out whole before after Fact few reads = record {
  lines = [];
  written = AppendsPrefix_all whole out out [] (Appends-nil out);
  few = omega arith;
  reads = reads;
}

module _ {X : Type 0} (stands : X → Position) (turn : X → ℕ → Turn X) where
  module _ (a b : Pending) (text : List ℕ) (fed : Bool) (x y : X) (at : ℕ) (gives : Reads a b (λ bytes rest. Gives bytes rest Line text fed)) where
    pub next_played : (line : List ℕ)
        → ((more : List (List ℕ)) → turns_from stands turn x at (text ∷ more) ≡ behind (line ∷ []) (turns_from stands turn y (at + 1) more))
        → Reads a b (λ bytes rest. PassesLines 1 bytes rest × (turns_by stands turn x at bytes ≡ behind (line ∷ []) (turns_by stands turn y (at + 1) rest)))
    unfolding turns_by
    next_played line answer = line_got stands turn a b text fed x at (λ played rest. played ≡ behind (line ∷ []) (turns_by stands turn y (at + 1) rest)) gives
        (λ rest. answer (lines_in (pieces rest)))

    -- the line wasn't written whole
    pub next_cut : (line : List ℕ)
        → ((more : List (List ℕ)) → turns_from stands turn x at (text ∷ more) ≡ behind (line ∷ []) (turns_from stands turn y (at + 1) more))
        → Reads a b (λ bytes rest. PassesLines 1 bytes rest × GoesOn (turns_by stands turn x at bytes) (line ∷ []))
    next_cut line answer = Reads_more a b _ _ (next_played line answer) (λ bytes rest h. (h.0, (turns_by stands turn y (at + 1) rest, h.1)))

    pub next_stopped : (fault : PlayFault) → ((more : List (List ℕ)) → turns_from stands turn x at (text ∷ more) ≡ ended (ends.NoMove fault))
        → Reads a b (λ bytes rest. PassesLines 1 bytes rest × (turns_by stands turn x at bytes ≡ ended (ends.NoMove fault)))
    next_stopped fault answer = line_got stands turn a b text fed x at (λ played rest. played ≡ ended (ends.NoMove fault)) gives
        (λ rest. answer (lines_in (pieces rest)))

-- ---- several

pub step_then : (a b c : Pending) (o p q : Option (List ℕ)) (whole : Bool) (i j k : ℕ) (F G H : List (List ℕ) → List ℕ → List ℕ → Type 0)
    → TurnStep a b o p true i j F → TurnStep b c p q whole j k G
    → ((xs ys : List (List ℕ)) (bytes mid rest : List ℕ) → F xs bytes mid → G ys mid rest → H (xs ++ ys) bytes rest) → TurnStep a c o q whole i k H
step_then a b c o p q whole i j k F G H first next more = record {
  lines = first.lines ++ next.lines;
  written = subst (AppendsPrefix whole o q) (sym (flat_map-append (λ line. line) first.lines next.lines))
      (AppendsPrefix_more whole o p q (text_of first.lines) (text_of next.lines) first.written next.written);
  few = omega (arith, length-append first.lines next.lines, first.few, next.few);
  reads = Reads_then a b c _ _ _ first.reads next.reads (λ bytes mid rest. more first.lines next.lines bytes mid rest);
}

-- lines are passed, and then some more
passes_both : (m n most : ℕ) (bytes mid rest : List ℕ) → m + n ≤ most → PassesLines m bytes mid → PassesLines n mid rest → PassesLines most bytes rest
passes_both m n most bytes mid rest few p q = passes_most (m + n) most bytes rest few (passes_then m n bytes mid rest p q)

-- what goes on behind some lines
pub goes_behind : (played later : Played) (xs ys : List (List ℕ)) → played ≡ behind xs later → GoesOn later ys → GoesOn played (xs ++ ys)
goes_behind played later xs ys goes (rest, is) = (rest, goes ∙ ap (behind xs) is ∙ behind_more xs ys rest)

module _ {X : Type 0} (stands : X → Position) (turn : X → ℕ → Turn X) (x : X) (first : ℕ) where
  -- some lines were played
  abbrev pub Goes : X → ℕ → List (List ℕ) → List ℕ → List ℕ → Type 0
  Goes y at lines bytes rest = PassesLines (length lines) bytes rest × (turns_by stands turn x first bytes ≡ behind lines (turns_by stands turn y at rest))

  pub goes_none : (a : Pending) (out : Option (List ℕ)) (left : ℕ) → TurnStep a a out out true left left (Goes x first)
  goes_none a out left = step_none a a out true left left (Goes x first) (omega arith)
      (Reads_start a (Goes x first []) (λ bytes. (passes_none bytes, refl)))

  module _ (y : X) (at : ℕ) (xs ys : List (List ℕ)) (bytes mid rest : List ℕ) (goes : Goes y at xs bytes mid) where
    pub goes_next : (z : X) → PassesLines (length ys) mid rest × (turns_by stands turn y at mid ≡ behind ys (turns_by stands turn z (at + 1) rest))
        → Goes z (at + 1) (xs ++ ys) bytes rest
    goes_next z q = (
      passes_both (length xs) (length ys) (length (xs ++ ys)) bytes mid rest (omega (arith, length-append xs ys)) goes.0 q.0,
      goes.1 ∙ ap (behind xs) q.1 ∙ behind_more xs ys (turns_by stands turn z (at + 1) rest),
    )

    pub goes_end : (end : PlayEnd) → PassesLines (length ys + 1) mid rest × (turns_by stands turn y at mid ≡ record { lines = ys; end = end })
        → PassesLines (length (xs ++ ys) + 1) bytes rest × (turns_by stands turn x first bytes ≡ record { lines = xs ++ ys; end = end })
    goes_end end q = (
      passes_both (length xs) (length ys + 1) (length (xs ++ ys) + 1) bytes mid rest (omega (arith, length-append xs ys)) goes.0 q.0,
      goes.1 ∙ ap (behind xs) q.1,
    )

    goes_cut : PassesLines (length ys) mid rest × GoesOn (turns_by stands turn y at mid) ys
        → PassesLines (length (xs ++ ys)) bytes rest × GoesOn (turns_by stands turn x first bytes) (xs ++ ys)
    goes_cut q = (
      passes_both (length xs) (length ys) (length (xs ++ ys)) bytes mid rest (omega (arith, length-append xs ys)) goes.0 q.0,
      goes_behind _ _ xs ys goes.1 q.1,
    )

    pub goes_stop : {H : Type 0} (stop : RunStop (GameStop H)) → StopsTurns (turns_by stands turn y at mid) ys mid rest stop
        → StopsTurns (turns_by stands turn x first bytes) (xs ++ ys) bytes rest stop
    goes_stop (Own (stops.NoMove fault)) q = goes_end (ends.NoMove fault) q
    goes_stop (Own (stops.Input inputs.Read)) q = goes_cut q
    goes_stop Write q = goes_cut q
    goes_stop (Own (stops.Input (inputs.NoGame fault))) q = q
    goes_stop (Own (stops.Head h)) q = q
