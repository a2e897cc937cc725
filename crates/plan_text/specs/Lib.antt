pub mod Words
pub mod Items
pub mod PlanLine
pub mod Faults
