mod Vectors
pub mod Spaced
pub mod Items
pub mod Instances
pub mod PlanLines
