pub mod Sums
pub mod Cuts
pub mod Duals
pub mod Pushes
pub mod Turning
pub mod Ways
pub mod Searches
pub mod Sames
