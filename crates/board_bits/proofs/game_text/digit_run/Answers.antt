use Rattle.std.proofs.Common.{◌≡◌, take, drop, ap, sym, ◌∙◌, arith}
use Rattle.std.specs.List.{prefix_len}
use Rattle.std.proofs.lemmas.List.Sums.{prefix_len_is}
use Rattle.std.proofs.lemmas.List.Folds.{length-prefix_len}
use Rattle.game_rules.specs.Text.{is_digit}
use Rattle.board_bits.proofs.game_text.digit_run.Goals as goal
use Rattle.board_bits.proofs.game_text.digit_run.Goals.{then-loop-digits-test+else-is_digit, else-loop-digits-test, After-split_at}

run_length : (c : After-split_at) → prefix_len is_digit c.args.bytes.now ≡ c.loop-digits.digits
run_length c = prefix_len_is is_digit c.args.bytes.now c.loop-digits.digits 0 c.loop-digits.invariant.within c.loop-digits.invariant.all_digits
    (λ more. elim c.loop-digits-test.branch [
      | then-loop-digits-test+else-is_digit w ↦ sym w.is_digit.ensures ∙ w.if-is_digit.false
      | else-loop-digits-test w ↦ absurd (omega arith)
    ])

pub returns-clause-run : goal.returns-clause-run
returns-clause-run c = c.split_at.ensures.front ∙ ap (λ n. take n c.args.bytes.now) (sym (run_length c))

pub returns-clause-rest : goal.returns-clause-rest
returns-clause-rest c = c.split_at.ensures.back ∙ ap (λ n. drop n c.args.bytes.now) (sym (length-prefix_len is_digit c.args.bytes.now ∙ run_length c))
