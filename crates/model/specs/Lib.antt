pub mod Meaning
pub mod Openings
pub mod Refusals
pub mod Starts
pub mod Chosen
