-- What a search that writes no proof has found of a position where it tells a value.
use Rattle.std.specs.Prelude.{◌≢◌, ◌≤◌, ℕ, List, [], length}
use Rattle.game_rules.specs.Position.{Position}
use Rattle.game_rules.specs.declared.Side.TheVariants.{White, Black}
use Rattle.proof_text.specs.Lemma.{Lemma}
use Rattle.proof_text.specs.Right.{Shown, AreRight, IsVerdict}
use Rattle.proof_text.specs.Written.{AreSided}
use Rattle.proof_text.specs.declared.Verdict.{Verdict}
use Rattle.proof_text.specs.declared.Verdict.TheVariants.{Unknown}
use Rattle.proof_text.specs.declared.Version.TheVariants.{One}
use Rattle.deep_search.specs.Planned.{ArePlanned}

-- There are right lemmas that show this verdict of the position, those on White first, as a proof of the first version has them, so
-- none rests on an image. They are at most as many as the budget has nodes, and rest on plans exactly where they are chosen.
pub record HasFound (nodes reach : ℕ) (root : Position) (v : Verdict) : Type 0 where
  pub white : List Lemma
  pub mid : List Shown
  pub black : List Lemma
  pub after : List Shown
  pub white_right : AreRight root [] white mid
  pub black_right : AreRight root mid black after
  pub white_sided : AreSided One White white
  pub black_sided : AreSided One Black black
  pub white_planned : ArePlanned reach root white
  pub black_planned : ArePlanned reach root black
  pub verdict : IsVerdict root after v
  pub known : v ≢ Unknown
  pub few : length after ≤ nodes
