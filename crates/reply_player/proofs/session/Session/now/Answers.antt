use Rattle.std.proofs.Common.{ℕ, List, subst}
use Rattle.reply_player.specs.Playing.{Playing, EndsDuel}
use Rattle.reply_player.proofs.Duels.{reached_ends}
use Rattle.reply_player.proofs.session.Session.now.Goals as goal

pub returns-clause-reached : goal.returns-clause-reached
returns-clause-reached c =
    let Reached : Playing → Type 0 = λ session. (columns : List ℕ) × EndsDuel session.plan columns session.stands in
    subst Reached c.self.view_is (reached_ends c.self.inside.plan c.self.inside.stands c.self.invariant.reached)
