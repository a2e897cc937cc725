use Rattle.std.proofs.Common.{◌≡◌, ℕ, ◌≤◌, List, [], ◌∷◌, ◌++◌, length, sym, ap, ◌∙◌, subst, arith, length-append}
use Rattle.std.specs.List.{All}
use Rattle.std.proofs.lemmas.List.Elements.{All-push}
use Rattle.game_rules.specs.Position.{board_of}
use Rattle.proof_text.specs.Right.{Shown}
use Rattle.board_bits.specs.MenNumber.{position_read, AreMen}
use Rattle.cert_checker.specs.Shown.{shown_in, AllShown}
use Rattle.cert_checker.proofs.Shown.{shown_count, shown_more}
use Rattle.cert_checker.proofs.known.Known.push.Goals as goal

pub invariant_of-self : goal.invariant_of-self
invariant_of-self c =
    let a = c.self.inside in let p = c.args.position.now in let men = c.of.result in let all = a.men.items in let claims = a.claims.items in
    let same = c.self.view_is ∙ c.in_ok-reserve.ensures.same in
    let board : board_of p ≡ a.size = c.requires.board ∙ ap (λ (s : AllShown). s.board) (sym same) in
    let count : length c.args.self.now.shown ≡ length claims = ap (λ (s : AllShown). length s.shown) (sym same)
    ∙ shown_count a.size all claims c.self.invariant.same_length in
    let some : 1 ≤ a.spare = omega (arith, c.in_ok-reserve.ensures.room, ap (λ (s : AllShown). s.spare) c.self.view_is) in
    record {
      same_length = omega (
        arith,
        ap length c.push_reserved.ensures.items,
        ap length c.push_reserved-2.ensures.items,
        length-append all (men ∷ []),
        length-append claims (c.args.claim ∷ []),
        c.self.invariant.same_length,
      );
      few = omega (arith, count, ap length c.push_reserved-2.ensures.items, length-append claims (c.args.claim ∷ []), c.requires.few);
      are_men = subst (All (AreMen a.size)) (sym {A = List ℕ} c.push_reserved.ensures.items)
          (All-push (AreMen a.size) all men c.self.invariant.are_men (subst (λ b. AreMen b men) board c.of.ensures.men));
      room_for_men = omega (arith, some, c.push_reserved.ensures.len, c.push_reserved.ensures.capacity, c.self.invariant.room_for_men);
      room_for_claims = omega (arith, some, c.push_reserved-2.ensures.len, c.push_reserved-2.ensures.capacity, c.self.invariant.room_for_claims);
    }

pub returns-clause-kept : goal.returns-clause-kept
returns-clause-kept c =
    let a = c.self.inside in let p = c.args.position.now in let men = c.of.result in let all = a.men.items in let claims = a.claims.items in
    let same = c.self.view_is ∙ c.in_ok-reserve.ensures.same in
    let board : board_of p ≡ a.size = c.requires.board ∙ ap (λ (s : AllShown). s.board) (sym same) in
    let read : position_read a.size men ≡ p = ap (λ b. position_read b men) (sym board) ∙ c.of.ensures.back in
    let shown : shown_in a.size c.push_reserved.new.self.items c.push_reserved-2.new.self.items ≡ shown_in a.size all claims ++ (p, c.args.claim) ∷ [] =
    ap (λ xs. shown_in a.size xs c.push_reserved-2.new.self.items) c.push_reserved.ensures.items
    ∙ ap (shown_in a.size (all ++ men ∷ [])) c.push_reserved-2.ensures.items
    ∙ shown_more a.size all claims men c.args.claim c.self.invariant.same_length
    ∙ ap (λ q. shown_in a.size all claims ++ (q, c.args.claim) ∷ []) read in
    let of : ℕ → ℕ × ℕ → List Shown → AllShown = λ left memory shown. record { board = a.size; shown = shown; spare = left; memory = memory } in
    let more : ℕ → ℕ × ℕ → AllShown → AllShown =
    λ left memory s. record { board = s.board; shown = s.shown ++ (p, c.args.claim) ∷ []; spare = left; memory = memory } in
    ap (of _ _) shown ∙ ap (more _ _) same
