-- A path and the position that it starts from.
use Rattle.std.specs.Prelude.{◌≡◌, ℕ, List}
use Rattle.std.proofs.Common.{ap, sym}
use Rattle.game_rules.specs.Position.{Position, end_of}
use Rattle.cert_checker.specs.declared.trail.Reached.TheInside.{Inside}

pub record Trail : Type 0 where
  pub root : Position
  pub path : List ℕ

pub position_determines_the_end : (a : Inside) → a.ended ≡ end_of a.position → record { position = a.position; ended = end_of a.position } ≡ a
position_determines_the_end a h = ap (λ ended. record a { ended = ended }) (sym h)
