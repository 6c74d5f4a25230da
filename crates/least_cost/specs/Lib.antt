pub mod Sides
pub mod Outcome
