pub mod Causes
pub mod Memory
pub mod Pieces
pub mod Lines
