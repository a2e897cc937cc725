-- The list of all zones that fit has room for those of each kind behind the others.
use Rattle.std.proofs.Common.{◌≡◌, ℕ, ◌+◌, ◌≤◌, true, List, [], ◌++◌, length, ap, arith}
use Rattle.std.proofs.lemmas.List.{length-append}
use Rattle.game_rules.specs.Position.{Position, board_of}
use Rattle.game_rules.specs.Board.{is_board}
use Rattle.plan_rules.specs.Listing.{listed, most_listed}
use Rattle.plan_rules.specs.Rules.{RuleInstance}
use Rattle.plan_rules.specs.declared.Kind.{Kind}
use Rattle.plan_rules.proofs.Room.{lists_fit}
use Rattle.rule_compat.specs.declared.instance.Instance.{Instance}
use Rattle.rule_compat.specs.Written.{written_list}

pub none_listed : {zones : List Instance} → zones ≡ [] → length (written_list zones) ≤ 0
none_listed none = omega (arith, ap (λ zs. length (written_list zs)) none)

-- so many once those of a kind have come too
pub more_listed : (kind : Kind) (p : Position) {most : ℕ} (before : List RuleInstance) {now : List RuleInstance} → is_board (board_of p) ≡ true
    → length before ≤ most → now ≡ before ++ listed kind p → length now ≤ most + most_listed kind
more_listed kind p before board few more = omega (arith, lists_fit kind p board, few, ap length more, length-append before (listed kind p))
