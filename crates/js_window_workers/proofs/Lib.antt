pub mod Collected
pub mod Takes
