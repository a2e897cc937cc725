-- What an input that was read to its end, or to 256 bytes, says of the whole.
use Rattle.std.proofs.Common.{[], false, append-nil, ◌≡◌, ℕ, ◌<◌, ◌≤◌, List, Option, Some, None, Ok, Err, IfSome, length, take, refl, sym}
use Rattle.std.proofs.Common.{ap, ◌∙◌, inl, inr, arith}
use Rattle.std.specs.Io.KnownBytes.{Keeps, Appends, Consumes, IsAtEnd}
use Rattle.std.proofs.KnownBytes.{Keeps-refl, Consumes-whole}
use Rattle.std.proofs.lemmas.Bool.{cases_lt}
use Rattle.std.proofs.lemmas.List.{length-take-le}
use Rattle.device_rules.specs.Devices.{AppendsPrefix}
use Rattle.game_rules.specs.Game.{Game, IsTextOf}
use Rattle.game_rules.specs.Position.{Position}
use Rattle.game_rules.specs.Text.{game_at}
use Rattle.game_rules.proofs.Prefix.{same_prefix, game_short}
use Rattle.run_frame.specs.declared.game_input.InputStop.{InputStop}
use Rattle.run_frame.specs.declared.game_input.InputStop.TheVariants.{NoGame, Read}
use Rattle.run_frame.specs.GameInput.{most_input, TookText, TakesGame, ReadsNoGame}
use Rattle.run_frame.specs.Streams.{Streams, Took, StillHolds}

-- what stands in the buffer after a read of all that it has room for
pub heard_text : (old new : Option (List ℕ)) (n : ℕ) (buffer : List ℕ) → length buffer ≡ 256 → n ≤ length buffer
    → Consumes old new (take n buffer) × (n < length buffer → IsAtEnd new)
    → TookText old new (take n buffer) × (length (take n buffer) < 256 → IsAtEnd new)
heard_text old new n buffer room within bytes =
    let size : length (take n buffer) ≡ n = length-take-le n buffer within in
    (record { gave = bytes.0; few = omega (arith, size, within, room) }, (λ short. bytes.1 (omega (arith, size, room))))

-- the bytes that were read determine the game of the whole input
module _ (old new : Option (List ℕ)) (heard : List ℕ) (taken : Consumes old new heard) where
  pub same_game : (length heard < 256 → IsAtEnd new) → IfSome old (λ bytes. game_at bytes ≡ game_at heard)
  same_game ended = elim (cases_lt (length heard) 122) [
    | inl short ↦ Consumes-whole old new heard (λ bytes. game_at bytes ≡ game_at heard) taken (ended (omega arith)) refl
    | inr long ↦ behind old new taken long
  ]
    where
      behind : (old new : Option (List ℕ)) → Consumes old new heard → 122 ≤ length heard → IfSome old (λ bytes. game_at bytes ≡ game_at heard)
      behind None new h long = tt
      behind (Some xs) None h long = absurd h
      behind (Some xs) (Some ys) h long = ap game_at h ∙ same_prefix heard ys long

  -- a game was read to the end of the input
  pub game_ended : (length heard < 256 → IsAtEnd new) → (p : Position) → game_at heard ≡ Ok p → IsAtEnd new
  game_ended ended p h = ended (omega (arith, game_short heard p h))

pub IfSome_more : (input : Option (List ℕ)) (P Q : List ℕ → Type 0) → IfSome input P → ((bytes : List ℕ) → P bytes → Q bytes) → IfSome input Q
IfSome_more None P Q h more = tt
IfSome_more (Some bytes) P Q h more = more bytes h

pub of_each : (input : Option (List ℕ)) (Q : List ℕ → Type 0) → ((bytes : List ℕ) → Q bytes) → IfSome input Q
of_each None Q each = tt
of_each (Some bytes) Q each = each bytes

pub same_position : (bytes : List ℕ) (p q : Position) → game_at bytes ≡ Ok p → game_at bytes ≡ Ok q → p ≡ q
same_position bytes p q one another = let same : Ok p ≡ Ok q = sym one ∙ another in cc

-- the streams of a run that wrote nothing
abbrev pub unwritten : (input left : Option (List ℕ)) → ℕ → Option (List ℕ) → Streams
unwritten input left last_read out = record { input = input; left = left; last_read = last_read; old = out; new = out }

-- where no game was read, and nothing was written
pub no_game : (input left : Option (List ℕ)) (last_read : ℕ) (out : Option (List ℕ)) (stop : InputStop) → TakesGame input left (Err stop)
    → Took (unwritten input left last_read out) most_input (λ taken. ReadsNoGame taken (unwritten input left last_read out) stop)
no_game input left last_read out (NoGame fault) takes =
    record { taken = takes.0; gave = takes.1.gave; few = takes.1.few; holds = (takes.2, takes.3, Keeps-refl out) }
no_game input left last_read out Read takes = record { taken = takes.0; gave = takes.1.gave; few = takes.1.few; holds = Keeps-refl out }

-- where a game was read, what holds of its text holds of the bytes that were taken
pub of_game : (s : Streams) (Holds : List ℕ → Type 0) (game : Game) → TakesGame s.input s.left (Ok game)
    → ((taken : List ℕ) → IsTextOf taken game → IsAtEnd s.left → Holds taken) → Took s most_input Holds
of_game s Holds game takes holds = record { taken = takes.0; gave = takes.1.gave; few = takes.1.few; holds = holds takes.0 takes.2 takes.3 }

-- what was kept, or written behind what was there, or begun to be, stands behind what was there
pub kept_still : (before after : Option (List ℕ)) → Keeps before after → StillHolds before after
kept_still None after kept = tt
kept_still (Some old) None kept = tt
kept_still (Some old) (Some new) kept = ([], kept ∙ sym (append-nil old))

pub appended_still : (before after : Option (List ℕ)) (text : List ℕ) → Appends before after text → StillHolds before after
appended_still None after text written = tt
appended_still (Some old) None text written = tt
appended_still (Some old) (Some new) text written = (text, written)

pub cut_still : (before after : Option (List ℕ)) (text : List ℕ) → AppendsPrefix false before after text → StillHolds before after
cut_still None after text written = tt
cut_still (Some old) None text written = tt
cut_still (Some old) (Some new) text written = (take written.0 text, written.1)

pub unread_still : (s : Streams) (taken : List ℕ) (stop : InputStop) → ReadsNoGame taken s stop → StillHolds s.old s.new
unread_still s taken (NoGame fault) left = kept_still s.old s.new left.2
unread_still s taken Read left = kept_still s.old s.new left
