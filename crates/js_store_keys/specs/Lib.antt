pub mod Answer
pub mod Get
pub mod Key
pub mod Operation
pub mod Refusal
pub mod Writes
