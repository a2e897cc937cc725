use Rattle.std.proofs.Common.{◌≡◌, ◌+◌, ◌≤◌, ◌++◌, length, Some}
use Rattle.plan_text.specs.Words.{◌>>=◌, words_of}
use Rattle.plan_text.specs.PlanLine.{instances_of}
use Rattle.rule_compat.specs.Written.{written_list}
use Rattle.text_words.proofs.Words.{words_left, bytes_left}
use Rattle.plan_lines.proofs.plan_line.members_of.Given as goal
use Rattle.plan_rules.specs.declared.TheConstants.{MOST_MEMBERS}

-- the instances of the words so far were read, and as many words are left as were not
abbrev pub invariant-loop-left : goal.invariant-loop-left
invariant-loop-left l = record {
  members : instances_of l.size (words_of l.bytes) ≡ instances_of l.size (words_left l.left) >>= (λ more. Some (written_list l.list.items ++ more));
  counted : length (words_of l.bytes) ≡ length l.list.items + length (words_left l.left);
  few : length l.list.items ≤ MOST_MEMBERS;
}

abbrev pub decreases-loop-left : goal.decreases-loop-left
decreases-loop-left l = bytes_left l.left
