pub mod Refute
pub mod Totals
pub mod Steps
pub mod Loops
pub mod Tracing
pub mod Trails
pub mod Fronts
pub mod Outcomes
