pub mod Callers
pub mod Histories
pub mod Moves
pub mod Prefixes
pub mod Rules
pub mod Seats
pub mod Totals
pub mod Tries
