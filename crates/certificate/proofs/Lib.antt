pub mod Totals
pub mod Chains
pub mod Points
pub mod Balances
pub mod Accepts
