use Rattle.game_rules.specs.declared.InputKind.TheVariants as kinds
use Rattle.game_rules.proofs.Faults.{fault_gives, fault_from}
use Rattle.game_rules.proofs.text_laws.a_text_that_is_no_game_has_its_fault.Goals as goal

pub returns-clause-bad_header : goal.returns-clause-bad_header
returns-clause-bad_header c = λ bytes at. (fault_gives kinds.BadHeader bytes at, fault_from kinds.BadHeader bytes at)

pub returns-clause-bad_size : goal.returns-clause-bad_size
returns-clause-bad_size c = λ bytes at. (fault_gives kinds.BadSize bytes at, fault_from kinds.BadSize bytes at)

pub returns-clause-bad_column : goal.returns-clause-bad_column
returns-clause-bad_column c = λ bytes at. (fault_gives kinds.BadColumn bytes at, fault_from kinds.BadColumn bytes at)

pub returns-clause-game_over : goal.returns-clause-game_over
returns-clause-game_over c = λ bytes at. (fault_gives kinds.GameOver bytes at, fault_from kinds.GameOver bytes at)

pub returns-clause-column_full : goal.returns-clause-column_full
returns-clause-column_full c = λ bytes at. (fault_gives kinds.ColumnFull bytes at, fault_from kinds.ColumnFull bytes at)

pub returns-clause-trailing : goal.returns-clause-trailing
returns-clause-trailing c = λ bytes at. (fault_gives kinds.Trailing bytes at, fault_from kinds.Trailing bytes at)
