use Rattle.std.proofs.Common.{◌≡◌, ◌+◌, ◌*◌, sym, ap, ◌∙◌}
use Rattle.game_rules.specs.Position.{height}
use Rattle.board_bits.proofs.MoveWords.{white_sound, white_men, black_sound, black_men}
use Rattle.board_bits.proofs.position.Position.after.Goals as goal
use Rattle.board_bits.proofs.position.Position.after.Goals.{in-White, in-Black}

pub invariant_of-result : goal.invariant_of-result
invariant_of-result c =
    let place : 11 * c.from.result + c.from-2.result ≡ 11 * c.args.c + height c.args.self.now c.args.c
    = ap (λ i. 11 * i + c.from-2.result) (c.from.ensures ∙ c.index.ensures.value) ∙ ap (λ h. 11 * c.args.c + h) (c.from-2.ensures ∙ c.height.ensures.value) in
    elim c.match-to_move.branch [
      | in-White w ↦ rw w.white-is (white_sound c.self.inside c.args.self.now c.self.view_is c.self.invariant c.args.c _ c.requires place
          (sym c.to_move.ensures ∙ w.in-White.is))
      | in-Black w ↦ rw w.white-is (black_sound c.self.inside c.args.self.now c.self.view_is c.self.invariant c.args.c _ c.requires place
          (sym c.to_move.ensures ∙ w.in-Black.is))
    ]

pub returns : goal.returns
returns c =
    let place : 11 * c.from.result + c.from-2.result ≡ 11 * c.args.c + height c.args.self.now c.args.c
    = ap (λ i. 11 * i + c.from-2.result) (c.from.ensures ∙ c.index.ensures.value) ∙ ap (λ h. 11 * c.args.c + h) (c.from-2.ensures ∙ c.height.ensures.value) in
    elim c.match-to_move.branch [
      | in-White w ↦ rw w.white-is (white_men c.self.inside c.args.self.now c.self.view_is c.self.invariant c.args.c _ c.requires place
          (sym c.to_move.ensures ∙ w.in-White.is))
      | in-Black w ↦ rw w.white-is (black_men c.self.inside c.args.self.now c.self.view_is c.self.invariant c.args.c _ c.requires place
          (sym c.to_move.ensures ∙ w.in-Black.is))
    ]
