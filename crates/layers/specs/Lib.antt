pub mod Layers
pub mod Kept
pub mod Terms
pub mod Examples
