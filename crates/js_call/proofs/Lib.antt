pub mod Sleeps
pub mod RefusedRequest
