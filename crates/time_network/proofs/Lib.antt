pub mod Steps
pub mod Chains
pub mod Fills
pub mod Made
pub mod Agreeing
