pub mod Chain
pub mod Outcome
pub mod Nodes
pub mod Pushing
pub mod Examples
