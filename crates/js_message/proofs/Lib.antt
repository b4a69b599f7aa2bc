pub mod ReadNumbers
pub mod HeldInstants
pub mod Cuts
pub mod Digits
pub mod Forms
pub mod Refusals
pub mod DecimalTokens
mod Worked
