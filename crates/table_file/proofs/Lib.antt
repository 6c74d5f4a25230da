pub mod Chains
pub mod Single
pub mod Places
pub mod Record
