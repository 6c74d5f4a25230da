pub mod Letters
pub mod Lags
pub mod Sayings
