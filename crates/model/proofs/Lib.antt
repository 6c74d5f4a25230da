pub mod Counting
pub mod Meeting
pub mod Firsts
pub mod Lasts
pub mod Search
