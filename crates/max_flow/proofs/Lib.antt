pub mod Keeping
pub mod Passing
pub mod Growth
pub mod Walks
pub mod Laying
pub mod Deepening
pub mod Marking
