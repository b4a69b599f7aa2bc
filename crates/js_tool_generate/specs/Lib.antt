pub mod Episode
pub mod Transcript
pub mod Server
pub mod Summary
