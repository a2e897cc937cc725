use Rattle.std.proofs.Common.{◌≡◌, true, false, ap, subst, inl, inr}
use Rattle.std.proofs.lemmas.Result.{on_ok_weaker}
use Rattle.proof_text.specs.Lemma.{claims_win}
use Rattle.cert_checker.specs.Index.{Numbers, Keeps}
use Rattle.cert_checker.proofs.Follows.{wins_kept, fails_kept}
use Rattle.cert_checker.proofs.index.MirrorIndex.keep.Goals as goal

pub returns-in-WhiteWins-clause-kept : goal.returns-in-WhiteWins-clause-kept
returns-in-WhiteWins-clause-kept c =
    let win : claims_win c.args.claim ≡ true = elim c.in-WhiteWins.is [ inl white ↦ ap claims_win white | inr black ↦ ap claims_win black ] in
    let before : Numbers = record { wins = c.self.inside.wins.entries; fails = c.self.inside.fails.entries } in
    let after : Numbers = record before { wins = c.keep_first.new.numbers.entries } in
    on_ok_weaker _ (λ first. subst (λ before. Keeps c.args.position.now c.args.claim c.args.lemma before after) c.self.view_is
    (wins_kept c.args.position.now c.args.claim c.args.lemma before c.of-key.result c.question_of.result c.keep_first.new.numbers.entries win
    c.of-key.ensures c.question_of.ensures first)) c.keep_first.ensures.kept

pub returns-in-WhiteFails-clause-kept : goal.returns-in-WhiteFails-clause-kept
returns-in-WhiteFails-clause-kept c =
    let fail : claims_win c.args.claim ≡ false = elim c.in-WhiteFails.is [ inl white ↦ ap claims_win white | inr black ↦ ap claims_win black ] in
    let before : Numbers = record { wins = c.self.inside.wins.entries; fails = c.self.inside.fails.entries } in
    let after : Numbers = record before { fails = c.keep_first-in-WhiteFails.new.numbers.entries } in
    on_ok_weaker _ (λ first. subst (λ before. Keeps c.args.position.now c.args.claim c.args.lemma before after) c.self.view_is
    (fails_kept c.args.position.now c.args.claim c.args.lemma before c.of-key.result c.question_of.result c.keep_first-in-WhiteFails.new.numbers.entries fail
    c.of-key.ensures c.question_of.ensures first)) c.keep_first-in-WhiteFails.ensures.kept
