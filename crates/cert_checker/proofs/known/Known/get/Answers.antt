use Rattle.std.proofs.Common.{◌≡◌, ◌<◌, ◌≤◌, length, Some, sym, ap, ◌∙◌, subst, arith}
use Rattle.std.proofs.lemmas.List.Elements.{All-get_or}
use Rattle.proof_text.specs.Right.{lemma_at}
use Rattle.board_bits.specs.MenNumber.{AreMen, position_read}
use Rattle.cert_checker.specs.Shown.{AllShown}
use Rattle.cert_checker.proofs.Shown.{found_at, none_at}
use Rattle.cert_checker.proofs.known.Known.get.Goals as goal

pub returns-then-index-len-clause-found : goal.returns-then-index-len-clause-found
returns-then-index-len-clause-found c =
    let a = c.self.inside in let i = c.in_ok-index.field-0 in let told = c.in_ok-index.ensures in
    let within : i < length a.men.items = omega (arith, c.if-index-len.true, c.len.ensures) in
    let men = c.index.result.now in let claim = c.index-then-index-len.result.now in
    let board : c.args.self.now.board ≡ a.size = ap (λ (s : AllShown). s.board) (sym c.self.view_is) in
    ap (λ b. Some (position_read b men, claim)) board
    ∙ found_at a.size a.men.items a.claims.items c.args.lemma i men claim told.0 told.1 c.self.invariant.same_length within c.index.ensures
    c.index-then-index-len.ensures
    ∙ ap (λ (s : AllShown). lemma_at s.shown c.args.lemma) c.self.view_is

pub returns-then-index-len-clause-men : goal.returns-then-index-len-clause-men
returns-then-index-len-clause-men c =
    let a = c.self.inside in let i = c.in_ok-index.field-0 in let men = c.index.result.now in
    let within : i < length a.men.items = omega (arith, c.if-index-len.true, c.len.ensures) in
    let board : a.size ≡ c.args.self.now.board = ap (λ (s : AllShown). s.board) c.self.view_is in
    subst (λ b. AreMen b men) board
    (subst (AreMen a.size) (sym c.index.ensures) (All-get_or (AreMen a.size) a.men.items i men within c.self.invariant.are_men))

pub returns-else-index-len-clause-found : goal.returns-else-index-len-clause-found
returns-else-index-len-clause-found c =
    let a = c.self.inside in let i = c.in_ok-index.field-0 in let told = c.in_ok-index.ensures in
    let past : length a.men.items ≤ i = omega (arith, c.if-index-len.false, c.len.ensures) in
    none_at a.size a.men.items a.claims.items c.args.lemma i told.0 told.1 c.self.invariant.same_length past
    ∙ ap (λ (s : AllShown). lemma_at s.shown c.args.lemma) c.self.view_is
