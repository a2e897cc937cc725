-- The fault of the definitions that a fault is.
use Rattle.std.specs.Prelude.{Option, Some, None, Result, Ok, Err}
use Rattle.odd_rules.specs.Refusal.{ThreatFault as Fault, not_black_to_move, ended, bad_group, bad_member, unpaired, unanswered}
use Rattle.threat_rules.specs.declared.fault.ThreatFault.{ThreatFault}
use Rattle.threat_rules.specs.declared.fault.ThreatFault.TheVariants as faults

abbrev pub fault_of : ThreatFault → Fault
fault_of faults.NotBlackToMove = not_black_to_move
fault_of faults.Ended = ended
fault_of faults.BadGroup = bad_group
fault_of (faults.BadPair i) = bad_member i
fault_of (faults.Unpaired c) = unpaired c
fault_of (faults.Unanswered g) = unanswered g

-- what a check refuses for, if anything
abbrev pub refusal_of : {X : Type 0} → Result X ThreatFault → Option Fault
refusal_of (Ok x) = None
refusal_of (Err fault) = Some (fault_of fault)
