pub mod Shape
pub use Rattle.rule_compat.specs.Faults
pub use Rattle.rule_compat.specs.Planned
pub use Rattle.rule_compat.specs.Written
pub use Rattle.rule_compat.specs.declared.fault.PlanFault
pub use Rattle.rule_compat.specs.declared.instance.Instance
