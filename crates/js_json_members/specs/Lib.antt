pub mod Key
pub mod Error
pub mod Member
pub mod Value
pub mod Percent
pub mod Instant
pub mod Rows
pub mod Object
