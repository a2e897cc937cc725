-- What the whole text gives where its reading ended or stopped.
use Rattle.std.proofs.Common.{◌≡◌, ℕ, ◌-◌, ◌<◌, List, [], ◌∷◌, length, drop, Ok, Err, refl, ap, arith}
use Rattle.game_rules.specs.Position.{Position}
use Rattle.game_rules.specs.Text.{game_at, read_game, placed, after_text}
use Rattle.game_rules.specs.declared.InputKind.TheVariants.{BadHeader}
use Rattle.std.proofs.lemmas.List.{drop_more}
use Rattle.game_rules.specs.declared.Stop.{Stop}
use Rattle.game_rules.proofs.Prefix.{fault_near}

pub game_read : (bytes : List ℕ) (p : Position) → read_game bytes ≡ Ok p → game_at bytes ≡ Ok p
unfolding game_at
game_read bytes p h = ap (placed (length bytes)) h

pub fault_read : (bytes : List ℕ) (s : Stop) → read_game bytes ≡ Err s → game_at bytes ≡ Err (record { kind = s.kind; at = length bytes - s.left })
unfolding game_at
fault_read bytes s h = ap (placed (length bytes)) h

pub place_near : (bytes : List ℕ) (s : Stop) → read_game bytes ≡ Err s → length bytes - s.left < 122
place_near bytes s h = (fault_near bytes (record { kind = s.kind; at = length bytes - s.left }) (fault_read bytes s h)).1

-- a fixed text that is not yet at its end stops where no byte is left
pub text_missing : (text bytes : List ℕ) (i : ℕ) → i < length text → length bytes < 1
    → after_text (drop i text) bytes ≡ Err (record { kind = BadHeader; left = length bytes })
text_missing text [] i more none = rw (drop_more text i 0 more) refl
text_missing text (byte ∷ bytes) i more none = absurd (omega arith)
