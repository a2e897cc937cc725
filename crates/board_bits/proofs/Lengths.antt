-- `==` of two lengths answers whether they are the same.
use Rattle.std.proofs.Common.{◌≡◌, refl}
use Rattle.std.specs.Prelude.{Decides}
use Rattle.game_rules.specs.declared.Length.{Length}
use Rattle.game_rules.specs.declared.Length.TheVariants.{Four, Five}
use Rattle.game_rules.specs.contracts.LengthPartialEq.TheImpl.{eq-value}

pub lengths : (a b : Length) → Decides (eq-value.it a b) (a ≡ b)
lengths Four Four = ((λ h. refl), (λ e. refl))
lengths Four Five = ((λ h. cc), (λ e. cc))
lengths Five Four = ((λ h. cc), (λ e. cc))
lengths Five Five = ((λ h. refl), (λ e. refl))
