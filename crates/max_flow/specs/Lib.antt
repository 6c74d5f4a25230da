pub mod Raised
pub mod Layout
pub mod Stages
pub mod Outcome
