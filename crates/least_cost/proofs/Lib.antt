pub mod Slots
pub mod Planning
