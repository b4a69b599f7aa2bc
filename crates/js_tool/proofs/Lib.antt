pub mod RunText
pub mod Called
pub mod LinesPassed
pub mod Reruns
pub mod LineErrors
pub mod RunsTold
