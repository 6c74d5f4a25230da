pub mod Rows
pub mod Floors
pub mod Thresholds
pub mod Crossings
pub mod Plans
